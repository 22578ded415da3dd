-- The primitive form of a sum, from its divided terms.
use Rattle.std.specs.Prelude.{ℕ, max, ◌≤◌, ◌≡◌, ℤ, nat_abs, Bool, false, ◌==◌, None, Result, Err, List, [], ◌∷◌, length}
use Rattle.std.proofs.Common.{arith, refl, subst, sym, ap, ap₂, ◌∙◌}
use Rattle.std.proofs.lemmas.Bool.{ne_eqb}
use Rattle.lin_term.specs.Form.{AreTerms}
use Rattle.lin_term.specs.Linear.{Sort, Rat, Int, Form}
use Rattle.lin_term.specs.Literal.{divisor, quotient_terms, gcd, gcd_terms, or_one, whole_form}
use Rattle.lin_term.specs.Wide.{Capped, coefficients, first_past, form_numbers}
use Rattle.lin_term.specs.Blend.{sum_terms}
use Rattle.lin_term.specs.Items.{CappedTerms}
use Rattle.lin_term.specs.Settle.{sum_form, settled, settled_constant, divisor_start}
use Rattle.lin_term.specs.declared.fault.Short.{Short}
use Rattle.lin_term.specs.declared.fault.Short.TheVariants as short
use Rattle.lin_term.specs.declared.fault.Wide.{Wide}
use Rattle.lin_term.proofs.Divisors.{gcd_zero_left}
use Rattle.lin_term.proofs.PrimitiveLemmas.{DividesTerms, or_one_pos}
use Rattle.lin_term.proofs.Quotients.{rat_divides, divisor_divides, or_one_max}
use Rattle.lin_term.proofs.Capping.{past-append_some}
use Rattle.lin_term.proofs.Ascending.{Ascend, ascend_from, are_from, times_ascend, without_ascend, plus_ascend, quotient_ascend}

pub divisor_by : (s : Sort) (f : Form) (n m : ℕ) → n ≡ gcd (divisor_start s f.constant) (gcd_terms f.terms) → m ≡ max n 1 → m ≡ divisor s f
divisor_by Rat f n m e h = h ∙ or_one_max n ∙ ap or_one e
divisor_by Int f n m e h = h ∙ or_one_max n ∙ ap or_one (e ∙ gcd_zero_left (gcd_terms f.terms))

pub divisor_least : (s : Sort) (f : Form) → 1 ≤ divisor s f
divisor_least Rat f = or_one_pos (gcd (nat_abs f.constant) (gcd_terms f.terms))
divisor_least Int f = or_one_pos (gcd_terms f.terms)

pub divisor_exact : (s : Sort) (f : Form) → DividesTerms (divisor s f) f.terms
divisor_exact Rat f = rat_divides f
divisor_exact Int f = divisor_divides f.terms

pub sum_ascend : (p : ℤ) (ls : List (ℕ × ℤ)) (q : ℤ) (rs : List (ℕ × ℤ)) (x : ℕ) → AreTerms 0 ls → AreTerms 0 rs → Ascend 0 (sum_terms p ls q rs x)
sum_ascend p ls q rs x a b =
    plus_ascend 0 _ _ (times_ascend 0 p ls (ascend_from 0 ls a)) (times_ascend 0 q _ (without_ascend 0 rs x (ascend_from 0 rs b)))

-- the divided terms are a row's where they fit
pub settled_are : (s : Sort) (p : ℤ) (ls : List (ℕ × ℤ)) (q : ℤ) (rs : List (ℕ × ℤ)) (x : ℕ) (c : ℤ) (g : ℕ) → AreTerms 0 ls → AreTerms 0 rs → g ≡ divisor s (sum_form p ls q rs x c) → first_past (coefficients (quotient_terms (sum_terms p ls q rs x) g)) ≡ None → AreTerms 0 (quotient_terms (sum_terms p ls q rs x) g)
settled_are s p ls q rs x c g a b e f =
    are_from 0 _ (subst (λ (n : ℕ). Ascend 0 (quotient_terms (sum_terms p ls q rs x) n)) (sym e) (quotient_ascend 0 (sum_terms p ls q rs x) (divisor s (sum_form p ls q rs x c)) (divisor_least s (sum_form p ls q rs x c)) (divisor_exact s (sum_form p ls q rs x c)) (sum_ascend p ls q rs x a b))) f

whole-terms : (ts : List (ℕ × ℤ)) (c : ℤ) → (whole_form (record { terms = ts; constant = c })).terms ≡ quotient_terms ts (or_one (gcd_terms ts))
whole-terms [] c = refl
whole-terms (t ∷ ts) c = refl

pub settled-terms : (s : Sort) (f : Form) (g : ℕ) → g ≡ divisor s f → (settled s f).terms ≡ quotient_terms f.terms g
settled-terms Rat f g e = ap (quotient_terms f.terms) (sym e)
settled-terms Int f g e = whole-terms f.terms f.constant ∙ ap (quotient_terms f.terms) (sym e)

whole-constant : (ts us : List (ℕ × ℤ)) (c : ℤ) (b : Bool) (g : ℕ) → g ≡ or_one (gcd_terms ts) → us ≡ quotient_terms ts g → b ≡ (length us == 0) → settled_constant Int b c g ≡ (whole_form (record { terms = ts; constant = c })).constant
whole-constant [] us c b g e f h =
    ap (λ (x : Bool). settled_constant Int x c g) (h ∙ ap (λ (vs : List (ℕ × ℤ)). length vs == 0) f)
whole-constant (t ∷ ts) us c b g e f h =
    ap (λ (x : Bool). settled_constant Int x c g) (h ∙ ap (λ (vs : List (ℕ × ℤ)). length vs == 0) f ∙ ne_eqb (length (quotient_terms (t ∷ ts) g)) 0 (λ z. absurd (omega (arith, z)))) ∙ ap (settled_constant Int false c) e

pub settled-constant : (s : Sort) (f : Form) (us : List (ℕ × ℤ)) (b : Bool) (g : ℕ) → g ≡ divisor s f → us ≡ quotient_terms f.terms g → b ≡ (length us == 0) → settled_constant s b f.constant g ≡ (settled s f).constant
settled-constant Rat f us b g e h k = ap (settled_constant Rat b f.constant) e
settled-constant Int f us b g e h k = whole-constant f.terms us f.constant b g e h k

-- the row that is made is the settled form
pub settled_row : (s : Sort) (f : Form) (us : List (ℕ × ℤ)) (b : Bool) (c : ℤ) (g : ℕ) (r : Result Form (Short Wide)) → g ≡ divisor s f → us ≡ quotient_terms f.terms g → b ≡ (length us == 0) → c ≡ settled_constant s b f.constant g → Capped (form_numbers (record { terms = us; constant = c })) (record { terms = us; constant = c }) r → Capped (form_numbers (settled s f)) (settled s f) r
settled_row s f us b c g r e h k l m =
    let same : with us c ≡ settled s f = ap₂ (λ (ts : List (ℕ × ℤ)) (z : ℤ). with ts z) (h ∙ sym (settled-terms s f g e)) (l ∙ settled-constant s f us b g e h k) in
    subst (λ (x : Form). Capped (form_numbers x) x r) same m
  where
    with : List (ℕ × ℤ) → ℤ → Form
    with ts z = record { terms = ts; constant = z }

-- a coefficient that does not fit is named
pub settled_wide : (s : Sort) (f : Form) (g : ℕ) (fault : Short Wide) → g ≡ divisor s f → CappedTerms (quotient_terms f.terms g) (Err fault) → Capped {A = Form} (form_numbers (settled s f)) (settled s f) (Err fault)
settled_wide s f g (short.Fault w) e h =
    past-append_some (coefficients (settled s f).terms) ((settled s f).constant ∷ []) w.number (ap (λ (ts : List (ℕ × ℤ)). first_past (coefficients ts)) (settled-terms s f g e) ∙ h)
settled_wide s f g short.Memory e h = tt

pub form_wide : (ts : List (ℕ × ℤ)) (c : ℤ) (fault : Short Wide) → CappedTerms ts (Err fault) → Capped {A = Form} (form_numbers (record { terms = ts; constant = c })) (record { terms = ts; constant = c }) (Err fault)
form_wide ts c (short.Fault w) h = past-append_some (coefficients ts) (c ∷ []) w.number h
form_wide ts c short.Memory h = tt
