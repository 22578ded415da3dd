use Rattle.std.proofs.Common.{ℤ, ◌≡◌, ◌≤◌, ◌∙◌, ◌*ℤ◌, ◌-ℤ◌, pos, neg_ℤ, nat_abs, arith, ap, sym, subst, w64, SFits, to_z, of_z, to_z-of_z}
use mir.Syntax.{w128}
use Rattle.std.proofs.lemmas.Int.{ints}
use Rattle.lin_term.specs.declared.Sort.{Sort}
use Rattle.lin_term.specs.declared.Sort.TheVariants.{Int}
use Rattle.lin_term.specs.Form.{Form, cap}
use Rattle.lin_term.specs.Linear.{dot, floor_div}
use Rattle.lin_term.specs.PutIn.{coef, rest_of}
use Rattle.lin_term.proofs.Terms.{word_of}
use Rattle.dom_core.specs.Pick.{lower_bound}
use Rattle.dom_core.specs.Bound.{IsScaled}
use Rattle.dom_core.proofs.Bounding.{lower_rat, lower_int, lower_positive, wide_word}
use Rattle.dom_core.proofs.nearest.lower_bound_at.Goals as goal

pub returns-in-Rat-clause-value : goal.returns-in-Rat-clause-value
returns-in-Rat-clause-value c =
    let x = c.args.var in
    let l = c.args.lit.now in
    let p = c.args.point.now in
    let k = c.coefficient_at-a.ensures.size in
    let h = c.rest_value-rest.ensures.size in
    let a : to_z w64 (of_z w64 c.coefficient_at-a.result) ≡ coef c.row.result.now.terms x = word_of c.coefficient_at-a.result k ∙ c.coefficient_at-a.ensures.value in
    let w = wide_word c.rest_value-rest.result (omega (arith, h)) in
    let o : c.opposite.result ≡ neg_ℤ c.rest_value-rest.result = c.opposite.ensures ∙ ap neg_ℤ w in
    let n : to_z w128 (of_z w128 c.opposite.result) ≡ neg_ℤ c.rest_value-rest.result = wide_word c.opposite.result (omega (arith, ints, o, h)) ∙ o in
    subst (λ (s : Sort). IsScaled s (lower_bound s x l) p (to_z w128 (of_z w128 c.opposite.result)) (to_z w64 (of_z w64 c.coefficient_at-a.result))) (sym c.in-Rat.is)
    (lower_rat x l p (to_z w64 (of_z w64 c.coefficient_at-a.result)) c.rest_value-rest.result (to_z w128 (of_z w128 c.opposite.result)) c.requires.lower
    (a ∙ ap (λ (f : Form). coef f.terms x) c.row.ensures)
    (subst (λ (z : ℤ). nat_abs z ≤ cap) (sym (word_of c.coefficient_at-a.result k)) k)
    (c.rest_value-rest.ensures.value ∙ ap (λ (f : Form). dot (rest_of f x) p) c.row-2.ensures) h n)

pub returns-in-Int-clause-value : goal.returns-in-Int-clause-value
returns-in-Int-clause-value c =
    let x = c.args.var in
    let l = c.args.lit.now in
    let p = c.args.point.now in
    let A : ℤ = c.coefficient_at-a.result in
    let R : ℤ = c.rest_value-rest.result in
    let Z : ℤ = c.raised.result in
    let k = c.coefficient_at-a.ensures.size in
    let h = c.rest_value-rest.ensures.size in
    let g = c.raised.ensures.size in
    let a : A ≡ coef c.row.result.now.terms x = c.coefficient_at-a.ensures.value in
    let q = a ∙ ap (λ (f : Form). coef f.terms x) c.row.ensures in
    let one = lower_positive x l A c.requires.lower q in
    let fa : SFits w64 A = omega (arith, ints, k) in
    let fb : SFits w128 A = omega (arith, ints, k) in
    let fl : SFits w64 (A -ℤ pos 1) = omega (arith, ints, k, one) in
    let fr : SFits w128 R = omega (arith, ints, h) in
    let fz : SFits w128 Z = omega (arith, ints, g) in
    let d = c.den.ensures.greatest in
    let fd : SFits w64 c.den.result = omega (arith, ints, d) in
    let z : Z ≡ (A -ℤ pos 1) *ℤ c.den.result -ℤ R = simp to_z-of_z at c.raised.ensures.value in
    let n : c.floor_quotient.result ≡ floor_div Z (nat_abs A) = simp to_z-of_z at c.floor_quotient.ensures in
    let s = lower_int x l p A (A -ℤ pos 1) c.den.result R Z c.floor_quotient.result c.requires.lower q (omega (arith, ints)) c.den.ensures.value (c.rest_value-rest.ensures.value ∙ ap (λ (f : Form). dot (rest_of f x) p) c.row-2.ensures) z g n in
    let w = wide_word c.floor_quotient.result s.4 in
    subst (λ (t : Sort). IsScaled t (lower_bound t x l) p (to_z w128 (of_z w128 c.floor_quotient.result)) (pos 1)) (sym c.in-Int.is)
    (subst (λ (y : ℤ). IsScaled Int (lower_bound Int x l) p y (pos 1)) (sym w) s)
