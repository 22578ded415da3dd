use Rattle.std.specs.Prelude.{◌≡◌, ◌-◌, List, ◌++◌, ◌∷◌, length, take, drop}
use Rattle.std.proofs.Common.{arith, ap, ◌∙◌, sym, append-nil}
use Rattle.std.proofs.lemmas.Grind.{common_steps}
use Rattle.dom_core.specs.declared.Quant.TheVariants.{Exists}
use Rattle.game_tree.specs.declared.Branch.{Branch}
use Rattle.grown_tree.proofs.Showing.{visible_past, copied_mine}
use Rattle.grown_tree.proofs.reading.+copy.Goals as goal

pub copy_all-returns-then-i-below : goal.copy_all-returns-then-i-below
copy_all-returns-then-i-below t c =
    sym (append-nil c.loop-i.all) ∙ ap (λ (bs : List Branch). c.loop-i.all ++ bs) (sym (visible_past c.args.version c.args.marks.now c.args.below.now c.args.rest.now c.loop-i.i c.if-i-below.true))
    ∙ c.loop-i.invariant

pub copy_at-returns-in-Mine : goal.copy_at-returns-in-Mine
copy_at-returns-in-Mine t c =
    let qs = c.args.prefix.now in
    let e : qs ≡ Exists ∷ take (length qs - 1) (drop 1 qs) = grind (arith, common_steps) in
    copied_mine c.args.version c.args.node.now qs (take (length qs - 1) (drop 1 qs)) c.in-Mine.marks c.as_slice.result.now c.in-Mine.below c.as_slice-in-Mine.result.now c.in_ok-all-in-Mine.all
    e c.in-Mine.is c.as_slice.ensures c.as_slice-in-Mine.ensures c.in_ok-all-in-Mine.ensures
