use Rattle.std.specs.Prelude.{◌≡◌, ◌+◌, ◌-◌, List, ◌∷◌, length, take, drop}
use Rattle.std.proofs.Common.{arith, ap, ◌∙◌, sym}
use Rattle.std.proofs.lemmas.Grind.{common_steps}
use Rattle.dom_core.specs.declared.Quant.{Quant}
use Rattle.dom_core.specs.declared.Quant.TheVariants.{Exists, Forall}
use Rattle.game_tree.specs.declared.Branch.{Branch}
use Rattle.game_tree.specs.Skeleton.{branch_nodes}
use Rattle.game_tree.specs.View.{branches_of}
use Rattle.grown_tree.specs.Shown.{shown, visible, all_shown}
use Rattle.grown_tree.proofs.Showing.{visible_past, nodes_nil, nodes_forall, nodes_end, nodes_mine, one_node}
use Rattle.grown_tree.proofs.reading.+count.Goals as goal

pub count_all-returns-then-i-below : goal.count_all-returns-then-i-below
count_all-returns-then-i-below t c =
    let v = c.args.version in
    let ms = c.args.marks.now in
    let ns = c.args.below.now in
    let qs = c.args.rest.now in
    let i = c.loop-i.i in
    let e : branch_nodes (branches_of (visible v (drop i ms) (all_shown v (drop i ns) qs))) ≡ 0 = ap (λ (bs : List Branch). branch_nodes (branches_of bs)) (visible_past v ms ns qs i c.if-i-below.true) in
    let h : c.loop-i.count + branch_nodes (branches_of (visible v (drop i ms) (all_shown v (drop i ns) qs))) ≡ branch_nodes (branches_of (visible v ms (all_shown v ns qs))) = c.loop-i.invariant in
    omega (arith, e, h)

pub count_at-returns-in-empty : goal.count_at-returns-in-empty
count_at-returns-in-empty t c = sym (nodes_nil c.args.version c.args.node.now c.args.prefix.now c.in-empty.len_below)

pub count_at-count_at-requires : goal.count_at-count_at-requires
count_at-count_at-requires t c =
    let qs = c.args.prefix.now in
    let e : qs ≡ Forall ∷ take (length qs - 1) (drop 1 qs) = grind (arith, common_steps) in
    let n = ap (λ (ps : List Quant). length ps) e in
    let h = nodes_forall c.args.version c.args.node.now qs (take (length qs - 1) (drop 1 qs)) e in
    (omega (arith, n), omega (arith, h, c.requires))

pub count_at-overflow_add-result : goal.count_at-overflow_add-result
count_at-overflow_add-result t c =
    let qs = c.args.prefix.now in
    let e : qs ≡ Forall ∷ take (length qs - 1) (drop 1 qs) = grind (arith, common_steps) in
    let h = nodes_forall c.args.version c.args.node.now qs (take (length qs - 1) (drop 1 qs)) e in
    omega (arith, h, c.requires, c.count_at.ensures)

pub count_at-returns-in-Forall : goal.count_at-returns-in-Forall
count_at-returns-in-Forall t c =
    let qs = c.args.prefix.now in
    let e : qs ≡ Forall ∷ take (length qs - 1) (drop 1 qs) = grind (arith, common_steps) in
    let h = nodes_forall c.args.version c.args.node.now qs (take (length qs - 1) (drop 1 qs)) e in
    omega (arith, h, c.count_at.ensures)

pub count_at-returns-in-End : goal.count_at-returns-in-End
count_at-returns-in-End t c =
    let qs = c.args.prefix.now in
    let e : qs ≡ Exists ∷ take (length qs - 1) (drop 1 qs) = grind (arith, common_steps) in
    sym (nodes_end c.args.version c.args.node.now qs (take (length qs - 1) (drop 1 qs)) e c.in-End.is)

pub count_at-count_all-requires : goal.count_at-count_all-requires
count_at-count_all-requires t c =
    let qs = c.args.prefix.now in
    let e : qs ≡ Exists ∷ take (length qs - 1) (drop 1 qs) = grind (arith, common_steps) in
    let n = ap (λ (ps : List Quant). length ps) e in
    let h = nodes_mine c.args.version c.args.node.now qs (take (length qs - 1) (drop 1 qs)) c.in-Mine.marks c.as_slice.result.now c.in-Mine.below c.as_slice-in-Mine.result.now e c.in-Mine.is c.as_slice.ensures c.as_slice-in-Mine.ensures in
    (omega (arith, n), omega (arith, h, c.requires))

pub count_at-returns-in-Mine : goal.count_at-returns-in-Mine
count_at-returns-in-Mine t c =
    let qs = c.args.prefix.now in
    let e : qs ≡ Exists ∷ take (length qs - 1) (drop 1 qs) = grind (arith, common_steps) in
    c.count_all.ensures
    ∙ sym (nodes_mine c.args.version c.args.node.now qs (take (length qs - 1) (drop 1 qs)) c.in-Mine.marks c.as_slice.result.now c.in-Mine.below c.as_slice-in-Mine.result.now e c.in-Mine.is c.as_slice.ensures c.as_slice-in-Mine.ensures)

pub count_one-count_at-requires : goal.count_one-count_at-requires
count_one-count_at-requires t c =
    let h = one_node c.args.version c.args.mark.now (shown c.args.version c.args.node.now c.args.rest.now) c.if-mark-version.false in
    (omega arith, omega (arith, h, c.requires))

pub count_one-overflow_add-result : goal.count_one-overflow_add-result
count_one-overflow_add-result t c =
    let h = one_node c.args.version c.args.mark.now (shown c.args.version c.args.node.now c.args.rest.now) c.if-mark-version.false in
    omega (arith, h, c.requires, c.count_at.ensures)

pub count_one-returns : goal.count_one-returns
count_one-returns t c = ap (λ k. 1 + k) c.count_at.ensures ∙ sym (one_node c.args.version c.args.mark.now (shown c.args.version c.args.node.now c.args.rest.now) c.if-mark-version.false)
