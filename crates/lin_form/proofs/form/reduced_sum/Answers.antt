use Rattle.std.proofs.Common.{ℕ, ℤ, pos, ◌≡◌, ◌≤◌, ◌∙◌, ◌/◌, ap, sym, subst, arith, nat_abs, List, w64, SFits, to_z, of_z, to_z-of_z}
use Rattle.std.specs.Prelude.{None, Some, Err}
use Rattle.std.proofs.lemmas.Int.{ints, to_z_pos}
use Rattle.lin_term.specs.Form.{AreTerms, cap}
use Rattle.lin_term.specs.Linear.{plus_terms, times_terms, floor_div}
use Rattle.lin_term.specs.Literal.{quotient_terms}
use Rattle.lin_term.specs.Blend.{sum_terms}
use Rattle.lin_term.specs.Wide.{fits, first_past, coefficients}
use Rattle.lin_term.proofs.Capping.{within_from}
use Rattle.lin_term.proofs.Quotients.{abs-floor_div}
use Rattle.lin_term.specs.Items.{CappedTerms}
use Rattle.lin_form.specs.Lin.{Lin, common}
use Rattle.lin_form.proofs.Dividing.{sum_none, sum_is_row, ok_case, constant_case, coefficient_case}
use Rattle.lin_form.proofs.form.reduced_sum.Goals as goal

-- the form before it is brought to lowest terms
abbrev of_parts : ℕ → ℤ → ℤ → List (ℕ × ℤ) → ℤ → List (ℕ × ℤ) → Lin
of_parts den constant p left q right = record { form = record { terms = plus_terms (times_terms p left) (times_terms q right); constant = constant }; den = den }

pub returns-then-not-is_within : goal.returns-then-not-is_within
returns-then-not-is_within c =
    let fp : SFits w64 c.args.p = c.ranges.p in
    let fq : SFits w64 c.args.q = c.ranges.q in
    let fc : SFits mir.Syntax.w128 c.args.constant = c.ranges.constant in
    let g : c.common_of-common.result ≡ common (of_parts c.args.den c.args.constant c.args.p c.args.left.now c.args.q c.args.right.now) = simp to_z-of_z at c.common_of-common.ensures.value in
    let tz : to_z mir.Syntax.w128 c.common_of-common.result ≡ pos c.common_of-common.result = to_z_pos mir.Syntax.w128 c.common_of-common.result (omega (arith, c.common_of-common.ensures.greatest, c.requires.den_greatest)) in
    let k0 : c.floor_quotient-constant.result ≡ floor_div c.args.constant (nat_abs (to_z mir.Syntax.w128 c.common_of-common.result)) = simp to_z-of_z at c.floor_quotient-constant.ensures in
    let k : c.floor_quotient-constant.result ≡ floor_div c.args.constant c.common_of-common.result = k0 ∙ ap (λ (z : ℤ). floor_div c.args.constant (nat_abs z)) tz in
    let fk : SFits mir.Syntax.w128 c.floor_quotient-constant.result = omega (arith, ints, ap nat_abs k, abs-floor_div c.args.constant c.common_of-common.result, c.requires.constant_small) in
    let w : c.is_within.result ≡ fits c.floor_quotient-constant.result = simp to_z-of_z at c.is_within.ensures in
    constant_case (of_parts c.args.den c.args.constant c.args.p c.args.left.now c.args.q c.args.right.now) c.common_of-common.result c.floor_quotient-constant.result g k (sym w ∙ c.if-not-is_within.true)

pub from_parts-requires : goal.from_parts-requires
from_parts-requires c =
    let fp : SFits w64 c.args.p = c.ranges.p in
    let fq : SFits w64 c.args.q = c.ranges.q in
    let fc : SFits mir.Syntax.w128 c.args.constant = c.ranges.constant in
    let g : c.common_of-common.result ≡ common (of_parts c.args.den c.args.constant c.args.p c.args.left.now c.args.q c.args.right.now) = simp to_z-of_z at c.common_of-common.ensures.value in
    let tz : to_z mir.Syntax.w128 c.common_of-common.result ≡ pos c.common_of-common.result = to_z_pos mir.Syntax.w128 c.common_of-common.result (omega (arith, c.common_of-common.ensures.greatest, c.requires.den_greatest)) in
    let k0 : c.floor_quotient-constant.result ≡ floor_div c.args.constant (nat_abs (to_z mir.Syntax.w128 c.common_of-common.result)) = simp to_z-of_z at c.floor_quotient-constant.ensures in
    let k : c.floor_quotient-constant.result ≡ floor_div c.args.constant c.common_of-common.result = k0 ∙ ap (λ (z : ℤ). floor_div c.args.constant (nat_abs z)) tz in
    let fk : SFits mir.Syntax.w128 c.floor_quotient-constant.result = omega (arith, ints, ap nat_abs k, abs-floor_div c.args.constant c.common_of-common.result, c.requires.constant_small) in
    let w : c.is_within.result ≡ fits c.floor_quotient-constant.result = simp to_z-of_z at c.is_within.ensures in
    let s : nat_abs c.floor_quotient-constant.result ≤ cap = within_from c.floor_quotient-constant.result (sym w ∙ c.if-not-is_within.false) in
    let f6 : SFits w64 c.floor_quotient-constant.result = omega (arith, ints, s) in
    let q0 : (first_past (coefficients (quotient_terms (sum_terms c.args.p c.args.left.now c.args.q c.args.right.now 4294967295) (nat_abs (to_z mir.Syntax.w128 c.common_of-common.result)))) ≡ None) × (c.in-Ok.coefs.items ≡ quotient_terms (sum_terms c.args.p c.args.left.now c.args.q c.args.right.now 4294967295) (nat_abs (to_z mir.Syntax.w128 c.common_of-common.result))) = simp to_z-of_z at c.in-Ok.ensures in
    let q : (first_past (coefficients (quotient_terms (sum_terms c.args.p c.args.left.now c.args.q c.args.right.now 4294967295) c.common_of-common.result)) ≡ None) × (c.in-Ok.coefs.items ≡ quotient_terms (sum_terms c.args.p c.args.left.now c.args.q c.args.right.now 4294967295) c.common_of-common.result) = subst (λ (z : ℤ). (first_past (coefficients (quotient_terms (sum_terms c.args.p c.args.left.now c.args.q c.args.right.now 4294967295) (nat_abs z))) ≡ None) × (c.in-Ok.coefs.items ≡ quotient_terms (sum_terms c.args.p c.args.left.now c.args.q c.args.right.now 4294967295) (nat_abs z))) tz q0 in
    let n = sum_none c.args.p c.args.left.now c.args.q c.args.right.now 4294967295 (omega arith) c.requires.right_kept in
    let r = subst (λ (ts : List (ℕ × ℤ)). (first_past (coefficients (quotient_terms ts c.common_of-common.result)) ≡ None) × (c.in-Ok.coefs.items ≡ quotient_terms ts c.common_of-common.result)) n q in (
      subst (λ (ts : List (ℕ × ℤ)). AreTerms 0 ts) (sym r.1)
          (sum_is_row c.args.p c.args.left.now c.args.q c.args.right.now c.args.den (nat_abs c.args.constant) c.common_of-common.result c.requires.den_least c.requires.left_kept c.requires.right_kept g r.0),
      simp to_z-of_z s,
    )

pub returns-in-Ok : goal.returns-in-Ok
returns-in-Ok c =
    let fp : SFits w64 c.args.p = c.ranges.p in
    let fq : SFits w64 c.args.q = c.ranges.q in
    let fc : SFits mir.Syntax.w128 c.args.constant = c.ranges.constant in
    let z : Lin = of_parts c.args.den c.args.constant c.args.p c.args.left.now c.args.q c.args.right.now in
    let g : c.common_of-common.result ≡ common z = simp to_z-of_z at c.common_of-common.ensures.value in
    let tz : to_z mir.Syntax.w128 c.common_of-common.result ≡ pos c.common_of-common.result = to_z_pos mir.Syntax.w128 c.common_of-common.result (omega (arith, c.common_of-common.ensures.greatest, c.requires.den_greatest)) in
    let k0 : c.floor_quotient-constant.result ≡ floor_div c.args.constant (nat_abs (to_z mir.Syntax.w128 c.common_of-common.result)) = simp to_z-of_z at c.floor_quotient-constant.ensures in
    let k : c.floor_quotient-constant.result ≡ floor_div c.args.constant c.common_of-common.result = k0 ∙ ap (λ (z : ℤ). floor_div c.args.constant (nat_abs z)) tz in
    let fk : SFits mir.Syntax.w128 c.floor_quotient-constant.result = omega (arith, ints, ap nat_abs k, abs-floor_div c.args.constant c.common_of-common.result, c.requires.constant_small) in
    let w : c.is_within.result ≡ fits c.floor_quotient-constant.result = simp to_z-of_z at c.is_within.ensures in
    let s : nat_abs c.floor_quotient-constant.result ≤ cap = within_from c.floor_quotient-constant.result (sym w ∙ c.if-not-is_within.false) in
    let f6 : SFits w64 c.floor_quotient-constant.result = omega (arith, ints, s) in
    let q0 : (first_past (coefficients (quotient_terms (sum_terms c.args.p c.args.left.now c.args.q c.args.right.now 4294967295) (nat_abs (to_z mir.Syntax.w128 c.common_of-common.result)))) ≡ None) × (c.in-Ok.coefs.items ≡ quotient_terms (sum_terms c.args.p c.args.left.now c.args.q c.args.right.now 4294967295) (nat_abs (to_z mir.Syntax.w128 c.common_of-common.result))) = simp to_z-of_z at c.in-Ok.ensures in
    let q : (first_past (coefficients (quotient_terms (sum_terms c.args.p c.args.left.now c.args.q c.args.right.now 4294967295) c.common_of-common.result)) ≡ None) × (c.in-Ok.coefs.items ≡ quotient_terms (sum_terms c.args.p c.args.left.now c.args.q c.args.right.now 4294967295) c.common_of-common.result) = subst (λ (z : ℤ). (first_past (coefficients (quotient_terms (sum_terms c.args.p c.args.left.now c.args.q c.args.right.now 4294967295) (nat_abs z))) ≡ None) × (c.in-Ok.coefs.items ≡ quotient_terms (sum_terms c.args.p c.args.left.now c.args.q c.args.right.now 4294967295) (nat_abs z))) tz q0 in
    let n = sum_none c.args.p c.args.left.now c.args.q c.args.right.now 4294967295 (omega arith) c.requires.right_kept in
    let r = subst (λ (ts : List (ℕ × ℤ)). (first_past (coefficients (quotient_terms ts c.common_of-common.result)) ≡ None) × (c.in-Ok.coefs.items ≡ quotient_terms ts c.common_of-common.result)) n q in
    let row : c.from_parts.result ≡ record { terms = c.in-Ok.coefs.items; constant = c.floor_quotient-constant.result } = simp to_z-of_z at c.from_parts.ensures in
    ok_case z c.common_of-common.result (record { form = c.from_parts.result; den = c.args.den / c.common_of-common.result }) g c.if-den.false r.0 (subst (λ (x : ℤ). nat_abs x ≤ cap) k s)
    (ap (λ (f : Rattle.lin_term.specs.Form.Form). record { form = f; den = c.args.den / c.common_of-common.result }) (row ∙ Rattle.std.proofs.Common.ap₂ (λ (ts : List (ℕ × ℤ)) (x : ℤ). record { terms = ts; constant = x }) r.1 k))

pub returns-in-Err-Fault : goal.returns-in-Err-Fault
returns-in-Err-Fault c =
    let fp : SFits w64 c.args.p = c.ranges.p in
    let fq : SFits w64 c.args.q = c.ranges.q in
    let fc : SFits mir.Syntax.w128 c.args.constant = c.ranges.constant in
    let z : Lin = of_parts c.args.den c.args.constant c.args.p c.args.left.now c.args.q c.args.right.now in
    let g : c.common_of-common.result ≡ common z = simp to_z-of_z at c.common_of-common.ensures.value in
    let n = sum_none c.args.p c.args.left.now c.args.q c.args.right.now 4294967295 (omega arith) c.requires.right_kept in
    let tz : to_z mir.Syntax.w128 c.common_of-common.result ≡ pos c.common_of-common.result = to_z_pos mir.Syntax.w128 c.common_of-common.result (omega (arith, c.common_of-common.ensures.greatest, c.requires.den_greatest)) in
    let all : quotient_terms (sum_terms (to_z w64 (of_z w64 c.args.p)) c.args.left.now (to_z w64 (of_z w64 c.args.q)) c.args.right.now 4294967295) (nat_abs (to_z mir.Syntax.w128 c.common_of-common.result)) ≡ quotient_terms (sum_terms c.args.p c.args.left.now c.args.q c.args.right.now 4294967295) (nat_abs (to_z mir.Syntax.w128 c.common_of-common.result)) = simp to_z-of_z in
    let e0 : CappedTerms (quotient_terms (sum_terms c.args.p c.args.left.now c.args.q c.args.right.now 4294967295) (nat_abs (to_z mir.Syntax.w128 c.common_of-common.result))) (Err c.in-Err-Fault.field-0) = subst (λ (ts : List (ℕ × ℤ)). CappedTerms ts (Err c.in-Err-Fault.field-0)) all c.in-Err-Fault.ensures in
    let e : CappedTerms (quotient_terms (sum_terms c.args.p c.args.left.now c.args.q c.args.right.now 4294967295) c.common_of-common.result) (Err c.in-Err-Fault.field-0) = subst (λ (z : ℤ). CappedTerms (quotient_terms (sum_terms c.args.p c.args.left.now c.args.q c.args.right.now 4294967295) (nat_abs z)) (Err c.in-Err-Fault.field-0)) tz e0 in
    let q : first_past (coefficients (quotient_terms (sum_terms c.args.p c.args.left.now c.args.q c.args.right.now 4294967295) c.common_of-common.result)) ≡ Some c.in-Err-Fault.field-0-0.number =
    subst (λ f. CappedTerms (quotient_terms (sum_terms c.args.p c.args.left.now c.args.q c.args.right.now 4294967295) c.common_of-common.result) (Err f)) c.in-Err-Fault.field-0-is e in
    coefficient_case z c.common_of-common.result c.in-Err-Fault.field-0-0.number g (subst (λ (ts : List (ℕ × ℤ)). first_past (coefficients (quotient_terms ts c.common_of-common.result)) ≡ Some c.in-Err-Fault.field-0-0.number) n q)
