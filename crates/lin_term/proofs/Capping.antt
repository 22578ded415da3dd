-- The first number past the cap.
use Rattle.std.specs.Prelude.{ℕ, ◌+◌, ◌<◌, ◌≤◌, ◌≡◌, ℤ, nat_abs, true, false, Some, None, List, [], ◌∷◌, ◌++◌}
use Rattle.std.proofs.Common.{refl, sym, ◌∙◌, inl, inr, le-leb}
use Rattle.std.proofs.lemmas.Bool.{cond-true, cond-false, cases_lt, lt-leb, leb-true, leb-false}
use Rattle.lin_term.specs.Form.{Form, AreTerms, IsRow, cap}
use Rattle.lin_term.specs.Wide.{fits, first_past, coefficients, form_numbers}

pub fits_within : (z : ℤ) → nat_abs z ≤ cap → fits z ≡ true
fits_within z h = le-leb (nat_abs z) cap h

pub fits_past : (z : ℤ) → cap < nat_abs z → fits z ≡ false
fits_past z h = lt-leb (nat_abs z) cap h

pub within_from : (z : ℤ) → fits z ≡ true → nat_abs z ≤ cap
within_from z e = leb-true (nat_abs z) cap e

pub past_from : (z : ℤ) → fits z ≡ false → cap < nat_abs z
past_from z e = leb-false (nat_abs z) cap e

-- a number that fits is passed over
pub past-within : (z : ℤ) (zs : List ℤ) → nat_abs z ≤ cap → first_past (z ∷ zs) ≡ first_past zs
past-within z zs h = cond-true (fits z) (first_past zs) (Some z) (fits_within z h)

pub past-past : (z : ℤ) (zs : List ℤ) → cap < nat_abs z → first_past (z ∷ zs) ≡ Some z
past-past z zs h = cond-false (fits z) (first_past zs) (Some z) (fits_past z h)

-- where none is past the cap, the head is not
pub past-head : (z : ℤ) (zs : List ℤ) → first_past (z ∷ zs) ≡ None → nat_abs z ≤ cap
past-head z zs e =
    elim (cases_lt cap (nat_abs z)) [ inl h ↦ let p = past-past z zs h in absurd (cc) | inr h ↦ h ]

pub past-tail : (z : ℤ) (zs : List ℤ) → first_past (z ∷ zs) ≡ None → first_past zs ≡ None
past-tail z zs e = sym (past-within z zs (past-head z zs e)) ∙ e

pub past-append : (xs ys : List ℤ) → first_past xs ≡ None → first_past (xs ++ ys) ≡ first_past ys
past-append [] ys e = refl
past-append (x ∷ xs) ys e = past-within x (xs ++ ys) (past-head x xs e) ∙ past-append xs ys (past-tail x xs e)

pub past-append_some : (xs ys : List ℤ) (z : ℤ) → first_past xs ≡ Some z → first_past (xs ++ ys) ≡ Some z
past-append_some [] ys z e = absurd (cc)
past-append_some (x ∷ xs) ys z e =
    elim (cases_lt cap (nat_abs x)) [
      | inl h ↦ past-past x (xs ++ ys) h ∙ sym (past-past x xs h) ∙ e
      | inr h ↦ past-within x (xs ++ ys) h ∙ past-append_some xs ys z (sym (past-within x xs h) ∙ e)
    ]

pub coefficients_fit : (n : ℕ) (ts : List (ℕ × ℤ)) → AreTerms n ts → first_past (coefficients ts) ≡ None
coefficients_fit n [] a = refl
coefficients_fit n (t ∷ ts) a = past-within t.1 (coefficients ts) a.3 ∙ coefficients_fit (t.0 + 1) ts a.4

-- coefficients within the cap: the constant decides
pub form_fits : (ts : List (ℕ × ℤ)) (c : ℤ) → first_past (coefficients ts) ≡ None → nat_abs c ≤ cap → first_past (form_numbers (record { terms = ts; constant = c })) ≡ None
form_fits ts c a h = past-append (coefficients ts) (c ∷ []) a ∙ past-within c [] h

pub form_past : (ts : List (ℕ × ℤ)) (c : ℤ) → first_past (coefficients ts) ≡ None → cap < nat_abs c → first_past (form_numbers (record { terms = ts; constant = c })) ≡ Some c
form_past ts c a h = past-append (coefficients ts) (c ∷ []) a ∙ past-past c [] h

pub row_fits : (f : Form) → IsRow f → first_past (form_numbers f) ≡ None
row_fits f r = form_fits f.terms f.constant (coefficients_fit 0 f.terms r.0) r.1

-- a row and its numbers: the constant is tested
pub row_kept : (ts : List (ℕ × ℤ)) (c : ℤ) → AreTerms 0 ts → fits c ≡ true → first_past (form_numbers (record { terms = ts; constant = c })) ≡ None
row_kept ts c a e = form_fits ts c (coefficients_fit 0 ts a) (within_from c e)

pub row_past : (ts : List (ℕ × ℤ)) (c : ℤ) → AreTerms 0 ts → fits c ≡ false → first_past (form_numbers (record { terms = ts; constant = c })) ≡ Some c
row_past ts c a e = form_past ts c (coefficients_fit 0 ts a) (past_from c e)

pub past-append_left : (xs ys : List ℤ) → first_past (xs ++ ys) ≡ None → first_past xs ≡ None
past-append_left [] ys e = refl
past-append_left (x ∷ xs) ys e =
    past-within x xs (past-head x (xs ++ ys) e) ∙ past-append_left xs ys (past-tail x (xs ++ ys) e)
