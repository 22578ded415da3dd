use Rattle.std.proofs.Common.{◌≡◌, ◌∙◌, ◌++◌, ◌∷◌, [], List, ap, arith}
use Rattle.term_table.specs.declared.amount.Weight.{Weight}
use Rattle.term_table.proofs.FormLemmas.{no_weight, zeros, zeros-push, value-parameter}
use Rattle.term_table.proofs.form.Form.parameter.Goals as goal

pub loop-preserved : goal.loop-preserved
loop-preserved c = c.in_ok-push.ensures.items ∙ ap (λ (us : List Weight). us ++ no_weight ∷ []) c.loop.invariant ∙ zeros-push c.loop.counter

pub returns : goal.returns
returns c =
    λ s gs. let e : c.loop.counter ≡ c.args.number = omega (arith, c.loop-test.false, c.loop.auto.counter-end) in
    value-parameter s c.args.number gs c.push-2.new.self.items
    (c.in_ok-push-2.ensures.items ∙ ap (λ (us : List Weight). us ++ record { times = 1; way = 1 } ∷ []) (c.loop.invariant ∙ ap zeros e))
