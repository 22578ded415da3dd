-- Divided coefficients.
use Prim.Native.Nat.{◌∣◌}
use Rattle.std.specs.Prelude.{ℕ, zero, suc, ◌+◌, ◌/◌, ◌*ℤ◌, max, ◌<◌, ◌≤◌, ◌≢◌, ◌≡◌, ℤ, pos, negsuc, nat_abs, List, [], ◌∷◌, ◌++◌, length, get_or, drop, take}
use Rattle.std.proofs.Common.{arith, refl, subst, sym, ap, ◌∙◌}
use Rattle.std.proofs.lemmas.Int.{ints}
use Rattle.std.proofs.Math.ListN.{set}
use Rattle.std.proofs.lemmas.Nat.Gcd.{le_of_dvd}
use Rattle.std.proofs.Math.Nat.{eq-zero_of_zero-dvd}
use Rattle.lin_term.specs.Form.{Form, AreTerms, IsRow, cap}
use Rattle.lin_term.specs.Linear.{floor_div, Rat}
use Rattle.lin_term.specs.Literal.{quotient_terms, quotient, gcd, gcd_terms, or_one, divisor, whole_form, whole_by}
use Rattle.lin_term.proofs.PrimitiveLemmas.{DividesTerms, floor_exact, gcd_is, gcd_divides, divides_weaker, or_one_terms}
use Rattle.lin_term.proofs.Divisors.{gcd_zero_left}

pub get_divided : (ts : List (ℕ × ℤ)) (g i : ℕ) (d : ℕ × ℤ) → get_or (quotient_terms (take i ts) g ++ drop i ts) i d ≡ get_or ts i d
get_divided [] g zero d = refl
get_divided [] g (suc i) d = refl
get_divided (t ∷ ts) g zero d = refl
get_divided (t ∷ ts) g (suc i) d = get_divided ts g i d

set_divided : (ts : List (ℕ × ℤ)) (g i : ℕ) (d : ℕ × ℤ) → i < length ts → set (quotient_terms (take i ts) g ++ drop i ts) i ((get_or ts i d).0, floor_div (get_or ts i d).1 g) ≡ quotient_terms (take (suc i) ts) g ++ drop (suc i) ts
set_divided [] g i d h = absurd (omega arith)
set_divided (t ∷ ts) g zero d h = refl
set_divided (t ∷ ts) g (suc i) d h =
    ap (λ (us : List (ℕ × ℤ)). (t.0, floor_div t.1 g) ∷ us) (set_divided ts g i d (omega arith))

floor_less : (a g : ℕ) → a / g ≤ a
floor_less a zero = omega arith
floor_less a (suc g) = omega arith

-- a quotient is no greater
pub abs-floor_div : (z : ℤ) (g : ℕ) → nat_abs (floor_div z g) ≤ nat_abs z
abs-floor_div (pos a) g = floor_less a g
abs-floor_div (negsuc a) g = let h = floor_less a g in omega (arith, ints)

-- one more term is divided in its place
pub divide_more : (ts us : List (ℕ × ℤ)) (g i : ℕ) (d : ℕ × ℤ) (z : ℤ) → i < length ts → us ≡ quotient_terms (take i ts) g ++ drop i ts → z ≡ floor_div (get_or us i d).1 g → set us i ((get_or us i d).0, z) ≡ quotient_terms (take (i + 1) ts) g ++ drop (i + 1) ts
divide_more ts us g i d z h e f =
    let k : get_or us i d ≡ get_or ts i d = ap (λ (xs : List (ℕ × ℤ)). get_or xs i d) e ∙ get_divided ts g i d in
    let z' : z ≡ floor_div (get_or ts i d).1 g = f ∙ ap (λ (t : ℕ × ℤ). floor_div t.1 g) k in
    ap (λ (xs : List (ℕ × ℤ)). set xs i ((get_or us i d).0, z)) e
    ∙ ap (λ (t : ℕ × ℤ). set (quotient_terms (take i ts) g ++ drop i ts) i (t.0, z)) k
    ∙ ap (λ (y : ℤ). set (quotient_terms (take i ts) g ++ drop i ts) i ((get_or ts i d).0, y)) z'
    ∙ set_divided ts g i d h
    ∙ (let s : suc i ≡ i + 1 = omega arith in ap (λ (j : ℕ). quotient_terms (take j ts) g ++ drop j ts) s)

pub quotient_nonzero : (z : ℤ) (g : ℕ) → 1 ≤ g → g ∣ nat_abs z → z ≢ pos 0 → floor_div z g ≢ pos 0
quotient_nonzero z g o d h e =
    h (sym (floor_exact z g o d) ∙ ap (λ (x : ℤ). pos g *ℤ x) e ∙ (let m : pos g *ℤ pos 0 ≡ pos 0 = omega (arith, ints) in m))

-- divided exactly they stay ascending terms
pub quotient_are : (n : ℕ) (ts : List (ℕ × ℤ)) (g : ℕ) → 1 ≤ g → DividesTerms g ts → AreTerms n ts → AreTerms n (quotient_terms ts g)
quotient_are n [] g o d a = tt
quotient_are n (t ∷ ts) g o d a =
    let s = abs-floor_div t.1 g in
    (a.0, a.1, quotient_nonzero t.1 g o d.0 a.2, omega (arith, a.3), quotient_are (t.0 + 1) ts g o d.1 a.4)

-- the divisor is no greater than the numbers
pub gcd_terms_kept : (n : ℕ) (ts : List (ℕ × ℤ)) → AreTerms n ts → gcd_terms ts ≤ cap
gcd_terms_kept n [] a = omega arith
gcd_terms_kept n (t ∷ ts) a =
    let l = le_of_dvd (nonzero_abs t.1 a.2) (gcd_is (nat_abs t.1) (gcd_terms ts)).0 in omega (arith, a.3)
  where
    nonzero_abs : (z : ℤ) → z ≢ pos 0 → 0 < nat_abs z
    nonzero_abs (pos zero) h = absurd (h refl)
    nonzero_abs (pos (suc k)) h = omega arith
    nonzero_abs (negsuc k) h = omega (arith, ints)

-- a divisor of two numbers is 0 or no greater than one of them
pub gcd_bound : (a b m : ℕ) → a ≤ m → b ≤ m → gcd a b ≤ m
gcd_bound zero b m h k = subst (λ (x : ℕ). x ≤ m) (sym (gcd_zero_left b)) k
gcd_bound (suc a) b m h k = let l = le_of_dvd (omega arith) (gcd_is (suc a) b).0 in omega arith

-- nonempty terms have a divisor of 1 or more
pub gcd_terms_least : (n : ℕ) (ts : List (ℕ × ℤ)) → AreTerms n ts → 1 ≤ length ts → 1 ≤ gcd_terms ts
gcd_terms_least n [] a h = absurd (omega arith)
gcd_terms_least n (t ∷ ts) a h = from (gcd_terms (t ∷ ts)) (gcd_is (nat_abs t.1) (gcd_terms ts)).0
  where
    none : (z : ℤ) → z ≢ pos 0 → nat_abs z ≢ 0
    none (pos zero) h e = h refl
    none (pos (suc k)) h e = absurd (omega arith)
    none (negsuc k) h e = absurd (omega (arith, ints))

    from : (g : ℕ) → g ∣ nat_abs t.1 → 1 ≤ g
    from zero d = absurd (none t.1 a.2 (eq-zero_of_zero-dvd d))
    from (suc g) d = omega arith

pub divisor_divides : (ts : List (ℕ × ℤ)) → DividesTerms (or_one (gcd_terms ts)) ts
divisor_divides ts = or_one_terms (gcd_terms ts) ts (gcd_divides ts)

pub rat_divides : (f : Form) → DividesTerms (divisor Rat f) f.terms
rat_divides f =
    let h = gcd_is (nat_abs f.constant) (gcd_terms f.terms) in
    or_one_terms (gcd (nat_abs f.constant) (gcd_terms f.terms)) f.terms (divides_weaker (gcd (nat_abs f.constant) (gcd_terms f.terms)) (gcd_terms f.terms) f.terms h.1 (gcd_divides f.terms))

pub or_one_max : (n : ℕ) → max n 1 ≡ or_one n
or_one_max zero = omega arith
or_one_max (suc n) = omega arith

pub or_one_same : (n : ℕ) → 1 ≤ n → or_one n ≡ n
or_one_same zero h = absurd (omega arith)
or_one_same (suc n) h = refl

pub rat_divisor_kept : (f : Form) → IsRow f → divisor Rat f ≤ cap
rat_divisor_kept f r = from (gcd (nat_abs f.constant) (gcd_terms f.terms)) (gcd_bound (nat_abs f.constant) (gcd_terms f.terms) cap r.1 (gcd_terms_kept 0 f.terms r.0))
  where
    from : (n : ℕ) → n ≤ cap → or_one n ≤ cap
    from zero h = omega arith
    from (suc n) h = h

-- with variables all numbers are divided
pub whole_nonempty : (f : Form) → 1 ≤ length f.terms → quotient f (or_one (gcd_terms f.terms)) ≡ whole_form f
whole_nonempty f h = from f.terms h refl
  where
    from : (ts : List (ℕ × ℤ)) → 1 ≤ length ts → f.terms ≡ ts → quotient f (or_one (gcd_terms f.terms)) ≡ whole_by ts f
    from [] k e = absurd (omega arith)
    from (t ∷ ts) k e = refl
