-- The negation of each literal of a normal form is within the cap.
use Rattle.std.specs.Prelude.{ℕ, ◌+◌, ◌≡◌, ◌≤◌, ◌⊎◌, ℤ, pos, negsuc, ◌+ℤ◌, ◌*ℤ◌, nat_abs, List, [], ◌∷◌, ◌++◌, Bool, true, false, ◌&&◌, Some, None, if◌then◌else◌, ⊤}
use Rattle.std.proofs.Common.{arith, ap, ap₂, ◌∙◌, sym, subst, refl, inl, inr}
use Rattle.std.proofs.lemmas.Int.{ints}
use Rattle.lin_term.specs.Form.{Form, AreTerms, cap}
use Rattle.lin_term.specs.declared.Sort.{Sort}
use Rattle.lin_term.specs.declared.Sort.TheVariants.{Rat, Int}
use Rattle.lin_term.specs.declared.Lit.{Lit}
use Rattle.lin_term.specs.declared.Lit.TheVariants.{AtLeast, Above, Divides, NotDivides}
use Rattle.lin_term.specs.Linear.{floor_div, times, times_terms, plus_terms}
use Rattle.lin_term.specs.Literal.{form_of, prim, neg, IsOf, quotient_terms, divisor, whole_form, whole_by, minus_one}
use Rattle.lin_term.specs.Wide.{fits, first_past, coefficients, form_numbers, lit_numbers}
use Rattle.lin_term.proofs.Capping.{within_from, past-within, past-head, past-append, coefficients_fit, form_fits}
use Rattle.lin_term.proofs.Quotients.{abs-floor_div}
use Rattle.lin_term.proofs.Negating.{negate_are, plus_none}
use Rattle.lin_term.proofs.Residues.{own_modulus, own_modulus_not}
use Rattle.lin_form.specs.Kept.{within}
use Rattle.norm_form.proofs.Capped.{within_append, false_is_true}

both_true : (a b : Bool) → a && b ≡ true → (a ≡ true) × (b ≡ true)
both_true true b h = (refl, h)
both_true false b h = absurd (false_is_true h)

past_step : (b : Bool) (z : ℤ) (zs : List ℤ) → b ≡ true → first_past zs ≡ None → (if b then first_past zs else Some z) ≡ None
past_step true z zs h k = k
past_step false z zs h k = absurd (false_is_true h)

pub none_past : (zs : List ℤ) → within zs ≡ true → first_past zs ≡ None
none_past [] h = refl
none_past (z ∷ zs) h = let b = both_true (fits z) (within zs) h in past_step (fits z) z zs b.0 (none_past zs b.1)

-- the constant comes last
constant_within : (zs : List ℤ) (z : ℤ) → within (zs ++ z ∷ []) ≡ true → nat_abs z ≤ cap
constant_within zs z h =
    let b = both_true (within zs) (within (z ∷ [])) (sym (within_append zs (z ∷ [])) ∙ h) in
    within_from z (both_true (fits z) true b.1).0

constant_fits : (ts : List (ℕ × ℤ)) (c : ℤ) → AreTerms 0 ts → first_past (coefficients ts ++ c ∷ []) ≡ None → nat_abs c ≤ cap
constant_fits ts c a h = past-head c [] (sym (past-append (coefficients ts) (c ∷ []) (coefficients_fit 0 ts a)) ∙ h)

quotients_fit : (n : ℕ) (ts : List (ℕ × ℤ)) (g : ℕ) → AreTerms n ts → first_past (coefficients (quotient_terms ts g)) ≡ None
quotients_fit n [] g a = refl
quotients_fit n (t ∷ ts) g a =
    let s = abs-floor_div t.1 g in
    let k = a.3 in
    past-within (floor_div t.1 g) (coefficients (quotient_terms ts g)) (omega arith) ∙ quotients_fit (t.0 + 1) ts g a.4

quotient_fits : (ts : List (ℕ × ℤ)) (c : ℤ) (g : ℕ) → AreTerms 0 ts → nat_abs c ≤ cap → first_past (form_numbers (record { terms = quotient_terms ts g; constant = floor_div c g })) ≡ None
quotient_fits ts c g a h =
    let s = abs-floor_div c g in form_fits (quotient_terms ts g) (floor_div c g) (quotients_fit 0 ts g a) (omega arith)

sign_fits : (us : List (ℕ × ℤ)) (z : ℤ) → first_past (form_numbers (whole_by [] (record { terms = us; constant = z }))) ≡ None
sign_fits us (pos n) = refl
sign_fits us (negsuc n) = refl

whole_fits : (us ts : List (ℕ × ℤ)) (c : ℤ) → AreTerms 0 ts → nat_abs c ≤ cap → first_past (form_numbers (whole_by us (record { terms = ts; constant = c }))) ≡ None
whole_fits [] ts c a h = sign_fits ts c
whole_fits (u ∷ us) ts c a h = quotient_fits ts c (divisor Int (record { terms = ts; constant = c })) a h

-- ---- one literal

-- over the integers the constant of the negation
abbrev pub opposite_constant : ℤ → ℤ
opposite_constant c = negsuc 0 *ℤ c +ℤ negsuc 0

abbrev pub IsLow : Sort → Lit → Type 0
IsLow Rat l = ⊤
IsLow Int (AtLeast f) = nat_abs (opposite_constant f.constant) ≤ cap
IsLow Int (Above f) = ⊤
IsLow Int (Divides d f) = ⊤
IsLow Int (NotDivides d f) = ⊤

minus_size : (c : ℤ) → nat_abs c ≤ cap → nat_abs (negsuc 0 *ℤ c) ≤ cap
minus_size c h = omega (arith, ints)

neg_rat : (f : Form) → AreTerms 0 f.terms → first_past (form_numbers f) ≡ None → first_past (form_numbers (record { terms = quotient_terms (times_terms (negsuc 0) f.terms) (divisor Rat (times (negsuc 0) f)); constant = floor_div (negsuc 0 *ℤ f.constant) (divisor Rat (times (negsuc 0) f)) })) ≡ None
neg_rat f a h =
    quotient_fits (times_terms (negsuc 0) f.terms) (negsuc 0 *ℤ f.constant) (divisor Rat (times (negsuc 0) f)) (negate_are 0 f.terms a) (minus_size f.constant (constant_fits f.terms f.constant a h))

neg_int : (f : Form) → AreTerms 0 f.terms → nat_abs (opposite_constant f.constant) ≤ cap → first_past (form_numbers (whole_form (minus_one (times (negsuc 0) f)))) ≡ None
neg_int f a h =
    let us : List (ℕ × ℤ) = times_terms (negsuc 0) f.terms in
    let e : plus_terms us [] ≡ us = plus_none 0 us (negate_are 0 f.terms a) in
    subst (λ (vs : List (ℕ × ℤ)). first_past (form_numbers (whole_form (record { terms = vs; constant = opposite_constant f.constant }))) ≡ None) (sym e)
    (whole_fits us us (opposite_constant f.constant) (negate_are 0 f.terms a) h)

pub neg_kept : (s : Sort) (l : Lit) → IsOf s l → prim s l ≡ l → AreTerms 0 (form_of l).terms → first_past (lit_numbers l) ≡ None → IsLow s l → first_past (lit_numbers (neg s l)) ≡ None
neg_kept Rat (AtLeast f) o e a h b = neg_rat f a h
neg_kept Rat (Above f) o e a h b = neg_rat f a h
neg_kept Rat (Divides d f) o e a h b = absurd o
neg_kept Rat (NotDivides d f) o e a h b = absurd o
neg_kept Int (AtLeast f) o e a h b = neg_int f a b
neg_kept Int (Above f) o e a h b = absurd o
neg_kept Int (Divides d f) o e a h b =
    ap₂ (λ (m : ℕ) (g : Form). first_past (pos m ∷ form_numbers g)) (own_modulus Int d f (o, e)) (ap form_of e) ∙ h
neg_kept Int (NotDivides d f) o e a h b =
    ap₂ (λ (m : ℕ) (g : Form). first_past (pos m ∷ form_numbers g)) (own_modulus_not Int d f (o, e)) (ap form_of e) ∙ h

-- ---- a negation is low

floor_low : (z c : ℤ) (g : ℕ) → z ≡ opposite_constant c → nat_abs c ≤ cap → nat_abs (opposite_constant (floor_div z g)) ≤ cap
floor_low (pos a) c g e h = let s = abs-floor_div (pos a) g in omega (arith, ints)
floor_low (negsuc a) c g e h = let s = abs-floor_div (negsuc a) g in omega (arith, ints)

sign_low : (z : ℤ) (us : List (ℕ × ℤ)) → IsLow Int (AtLeast (whole_by [] (record { terms = us; constant = z })))
sign_low (pos n) us = omega (arith, ints)
sign_low (negsuc n) us = omega (arith, ints)

whole_low : (us ts : List (ℕ × ℤ)) (c : ℤ) → nat_abs c ≤ cap → IsLow Int (AtLeast (whole_by us (record { terms = ts; constant = opposite_constant c })))
whole_low [] ts c h = sign_low (opposite_constant c) ts
whole_low (u ∷ us) ts c h = floor_low (opposite_constant c) c (divisor Int (record { terms = ts; constant = opposite_constant c })) refl h

at_least_low : (f : Form) → within (form_numbers f) ≡ true → IsLow Int (neg Int (AtLeast f))
at_least_low f h =
    let t : List (ℕ × ℤ) = plus_terms (times_terms (negsuc 0) f.terms) [] in
    whole_low t t f.constant (constant_within (coefficients f.terms) f.constant h)

pub neg_low : (s : Sort) (l : Lit) → within (lit_numbers (prim s l)) ≡ true → IsLow s (neg s (prim s l))
neg_low Rat l h = tt
neg_low Int (AtLeast f) h = at_least_low (whole_form f) h
neg_low Int (Above f) h = at_least_low (whole_form (minus_one f)) h
neg_low Int (Divides d f) h = tt
neg_low Int (NotDivides d f) h = tt

-- the negation is within the cap, or it is a negation
abbrev pub IsFair : Sort → Lit → Type 0
IsFair s l = (first_past (lit_numbers (neg s l)) ≡ None) ⊎ IsLow s l

pub fair_kept : (s : Sort) (l : Lit) → IsOf s l → prim s l ≡ l → AreTerms 0 (form_of l).terms → within (lit_numbers l) ≡ true → IsFair s l → first_past (lit_numbers (neg s l)) ≡ None
fair_kept s l o e a w (inl h) = h
fair_kept s l o e a w (inr b) = neg_kept s l o e a (none_past (lit_numbers l) w) b
