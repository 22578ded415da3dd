use Rattle.std.specs.Prelude.{[], ◌∷◌}
use Rattle.std.proofs.Common.{ℤ, ◌≡◌, ◌∙◌, ap, ap₂, subst, arith, w64, SFits, to_z-of_z}
use Rattle.std.proofs.lemmas.Int.{ints}
use Rattle.lin_term.specs.Linear.{Value}
use Rattle.lin_truth.specs.Value.{whole_div}
use Rattle.lin_form.specs.Low.{as_lin, lowest}
use Rattle.lin_form.specs.Operating.{value_of}
use Rattle.lin_form.specs.Outcome.{Formed}
use Rattle.lin_form.proofs.step.whole_form.Goals as goal

pub returns : goal.returns
returns c =
    let f1 : SFits w64 c.constant.result = omega (arith, ints, c.constant.ensures.kept) in
    let f2 : SFits w64 c.constant-2.result = omega (arith, ints, c.constant-2.ensures.kept) in
    let f5 : SFits w64 c.whole_quotient-quotient.result = omega (arith, ints, c.whole_quotient-quotient.ensures.small) in
    let g5 : SFits mir.Syntax.w128 c.whole_quotient-quotient.result = omega (arith, ints, c.whole_quotient-quotient.ensures.small) in
    let q : c.whole_quotient-quotient.result ≡ whole_div c.constant.result c.constant-2.result = simp to_z-of_z at c.whole_quotient-quotient.ensures.value in
    let h : Formed (as_lin (lowest (record { num = c.whole_quotient-quotient.result; den = 1 })) ∷ []) (as_lin (lowest (record { num = c.whole_quotient-quotient.result; den = 1 }))) c.lowest_value.result = simp to_z-of_z at c.lowest_value.ensures in
    let n : c.whole_quotient-quotient.result ≡ whole_div (value_of c.args.x.now).num (value_of c.args.y.now).num =
    q ∙ ap₂ (λ (a b : ℤ). whole_div a b) c.constant.ensures.value c.constant-2.ensures.value in
    subst (λ (u : Value). Formed (as_lin (lowest u) ∷ []) (as_lin (lowest u)) c.lowest_value.result) (ap (λ (z : ℤ). record { num = z; den = 1 }) n) h
