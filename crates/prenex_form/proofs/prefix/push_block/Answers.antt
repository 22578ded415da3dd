use Rattle.std.proofs.Common.{List, ◌++◌, ◌∷◌, [], ◌∙◌, ap, append_assoc}
use Rattle.dom_core.specs.declared.Quant.{Quant}
use Rattle.prenex_form.specs.Prenex.{repeat}
use Rattle.prenex_form.proofs.Lengths.{repeat_more}
use Rattle.prenex_form.proofs.prefix.push_block.Goals as goal

pub loop-turn-preserved : goal.loop-turn-preserved
loop-turn-preserved c =
    let q = c.args.quant in
    let n = c.loop-turn._turn in
    c.in_ok-push.ensures.ok
    ∙ ap (λ (qs : List Quant). qs ++ q ∷ []) c.loop-turn.invariant
    ∙ append_assoc c.args.prefix.now (repeat n q []) (q ∷ [])
    ∙ ap (λ (qs : List Quant). c.args.prefix.now ++ qs) (repeat_more n q)
