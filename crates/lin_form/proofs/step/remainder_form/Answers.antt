use Rattle.std.specs.Prelude.{[], ◌∷◌, ◌*◌, pos}
use Rattle.std.proofs.Common.{ℕ, ℤ, ◌≡◌, ◌∙◌, ◌-ℤ◌, ◌*ℤ◌, ap, ap₂, sym, subst, arith, w64, SFits, to_z, to_z-of_z}
use Rattle.std.proofs.lemmas.Int.{ints, to_z_pos}
use Rattle.lin_term.specs.Linear.{Value}
use Rattle.lin_truth.specs.Value.{whole_div}
use Rattle.lin_form.specs.Low.{as_lin, lowest}
use Rattle.lin_form.specs.Operating.{value_of}
use Rattle.lin_form.specs.Outcome.{Formed}
use Rattle.lin_form.proofs.Rests.{rest_step}
use Rattle.lin_form.proofs.step.remainder_form.Goals as goal

pub returns : goal.returns
returns c =
    let f1 : SFits w64 c.constant.result = omega (arith, ints, c.constant.ensures.kept) in
    let f2 : SFits w64 c.constant-2.result = omega (arith, ints, c.constant-2.ensures.kept) in
    let f3 : SFits w64 c.constant-3.result = omega (arith, ints, c.constant-3.ensures.kept) in
    let fw : SFits w64 c.whole_multiple-whole.result = omega (arith, ints, c.whole_multiple-whole.ensures.small) in
    let tz : to_z w64 c.den.result ≡ pos c.den.result = to_z_pos w64 c.den.result (omega (arith, c.den.ensures.greatest)) in
    let gl : SFits mir.Syntax.w128 c.product-left.result = omega (arith, ints, c.product-left.ensures.size) in
    let gr : SFits mir.Syntax.w128 c.over_den-right.result = omega (arith, ints, c.over_den-right.ensures.size) in
    let gd : SFits mir.Syntax.w128 (c.product-left.result -ℤ c.over_den-right.result) = omega (arith, ints, c.product-left.ensures.size, c.over_den-right.ensures.size) in
    let q : c.whole_multiple-whole.result ≡ c.constant-2.result *ℤ whole_div c.constant.result c.constant-2.result = simp to_z-of_z at c.whole_multiple-whole.ensures.value in
    let l0 : c.product-left.result ≡ c.constant-3.result *ℤ to_z w64 c.den.result = simp to_z-of_z at c.product-left.ensures.value in
    let l : c.product-left.result ≡ c.constant-3.result *ℤ pos c.den.result = l0 ∙ ap (λ (z : ℤ). c.constant-3.result *ℤ z) tz in
    let r : c.over_den-right.result ≡ c.whole_multiple-whole.result *ℤ pos c.den-2.result = simp to_z-of_z at c.over_den-right.ensures.value in
    let h : Formed (as_lin (lowest (record { num = c.product-left.result -ℤ c.over_den-right.result; den = c.den-3.result * c.den-4.result })) ∷ []) (as_lin (lowest (record { num = c.product-left.result -ℤ c.over_den-right.result; den = c.den-3.result * c.den-4.result }))) c.lowest_value.result = simp to_z-of_z at c.lowest_value.ensures in
    let v : Value = value_of c.args.x.now in
    let w : Value = value_of c.args.y.now in
    let n : c.product-left.result -ℤ c.over_den-right.result ≡ v.num *ℤ pos w.den -ℤ (w.num *ℤ whole_div v.num w.num) *ℤ pos v.den =
    ap₂ (λ (a b : ℤ). a -ℤ b) (l ∙ ap₂ (λ (a : ℤ) (m : ℕ). a *ℤ pos m) c.constant-3.ensures.value c.den.ensures.value)
    (r ∙ ap₂ (λ (a : ℤ) (m : ℕ). a *ℤ pos m) (q ∙ ap₂ (λ (a b : ℤ). b *ℤ whole_div a b) c.constant.ensures.value c.constant-2.ensures.value) c.den-2.ensures.value) in
    let d : c.den-3.result * c.den-4.result ≡ v.den * w.den = ap₂ (λ (a b : ℕ). a * b) c.den-3.ensures.value c.den-4.ensures.value in
    subst (λ (u : Value). Formed (as_lin (lowest u) ∷ []) (as_lin (lowest u)) c.lowest_value.result) (ap₂ (λ (z : ℤ) (m : ℕ). record { num = z; den = m }) n d ∙ sym (rest_step v w)) h
