-- Moves in lowest form.
use Prim.Native.Nat.{◌∣◌}
use Rattle.std.specs.Prelude.{ℕ, zero, suc, ◌*◌, ◌/◌, ◌≤◌, ◌≡◌, ℤ, nat_abs, List}
use Rattle.std.proofs.Common.{arith, ap, ap₂, ◌∙◌, sym}
use Rattle.std.proofs.lemmas.Nat.Gcd.{dvd_trans, le_of_dvd}
use Rattle.std.proofs.Math.Nat.{eq-zero_of_zero-dvd}
use Rattle.lin_term.specs.Form.{Form, cap}
use Rattle.lin_term.specs.Linear.{Sort, Rat, Int, floor_div}
use Rattle.lin_term.specs.Literal.{gcd, gcd_terms, or_one, quotient, quotient_terms}
use Rattle.lin_term.specs.Move.{Move, IsMove, move_divisor, lowest, IsLowest}
use Rattle.lin_term.proofs.PrimitiveLemmas.{DividesTerms, gcd_is, gcd_divides, divides_weaker, or_one_pos, or_one_divides, or_one_terms, whole_div}
use Rattle.lin_term.proofs.Divisors.{gcd_assoc}
use Rattle.lin_term.proofs.Quotients.{quotient_are, abs-floor_div, or_one_same}
use Rattle.lin_term.proofs.Lowest.{scaled_gcd, scaled_terms, abs_floor, rest_one, times_one, quotient_one}

abbrev pub move_with : Form → ℕ → Move
move_with f d = record { numer = f; div = d }

-- the number is 1 or more, and divides the divisor and the coefficients
pub divisor_pos : (s : Sort) (m : Move) → 1 ≤ move_divisor s m
divisor_pos Rat m = or_one_pos (gcd m.div (gcd (nat_abs m.numer.constant) (gcd_terms m.numer.terms)))
divisor_pos Int m = or_one_pos (gcd m.div (gcd_terms m.numer.terms))

pub divisor_of_div : (s : Sort) (m : Move) → move_divisor s m ∣ m.div
divisor_of_div Rat m =
    let r : ℕ = gcd (nat_abs m.numer.constant) (gcd_terms m.numer.terms) in
    or_one_divides (gcd m.div r) m.div (gcd_is m.div r).0
divisor_of_div Int m = or_one_divides (gcd m.div (gcd_terms m.numer.terms)) m.div (gcd_is m.div (gcd_terms m.numer.terms)).0

pub divisor_of_terms : (s : Sort) (m : Move) → DividesTerms (move_divisor s m) m.numer.terms
divisor_of_terms Rat m =
    let t : ℕ = gcd_terms m.numer.terms in
    let k = gcd_is (nat_abs m.numer.constant) t in
    let h = gcd_is m.div (gcd (nat_abs m.numer.constant) t) in
    let c : ℕ = gcd m.div (gcd (nat_abs m.numer.constant) t) in
    or_one_terms c m.numer.terms (divides_weaker c t m.numer.terms (dvd_trans c h.1 k.1) (gcd_divides m.numer.terms))
divisor_of_terms Int m =
    let t : ℕ = gcd_terms m.numer.terms in
    or_one_terms (gcd m.div t) m.numer.terms (divides_weaker (gcd m.div t) t m.numer.terms (gcd_is m.div t).1 (gcd_divides m.numer.terms))

pub divisor_within : (s : Sort) (m : Move) → 1 ≤ m.div → move_divisor s m ≤ m.div
divisor_within s m o = le_of_dvd (omega arith) (divisor_of_div s m)

-- the parts of the lowest form are a move's
pub lowest_terms : (s : Sort) (m : Move) → IsMove m → IsMove (lowest s m)
lowest_terms s m a =
    let g : ℕ = move_divisor s m in
    let o = divisor_pos s m in
    let l = abs-floor_div m.numer.constant g in
    let w = whole_div g m.div o (divisor_of_div s m) in
    ((quotient_are 0 m.numer.terms g o (divisor_of_terms s m) a.0.0, omega (arith, a.0.1)), some (m.div / g) w, less (m.div / g) g o w)
  where
    some : (q : ℕ) → move_divisor s m * q ≡ m.div → 1 ≤ q
    some zero e = let h = a.1 in absurd (omega arith)
    some (suc q) e = omega arith

    less : (q g : ℕ) → 1 ≤ g → g * q ≡ m.div → q ≤ cap
    less q zero h e = absurd (omega arith)
    less q (suc g) h e = let k = a.2 in omega arith

-- what is left has the divisor 1
pub lowest_divisor : (s : Sort) (m : Move) → move_divisor s (lowest s m) ≡ 1
lowest_divisor Rat m =
    let ts = m.numer.terms in
    let c : ℤ = m.numer.constant in
    let r : ℕ = gcd (nat_abs c) (gcd_terms ts) in
    let n : ℕ = gcd m.div r in
    let g : ℕ = or_one n in
    let o = or_one_pos n in
    let h = gcd_is m.div r in
    let k = gcd_is (nat_abs c) (gcd_terms ts) in
    let dc = or_one_divides n (nat_abs c) (dvd_trans n h.1 k.0) in
    rest_one n (gcd (m.div / g) (gcd (nat_abs (floor_div c g)) (gcd_terms (quotient_terms ts g))))
    (sym (scaled_gcd g (m.div / g) (gcd (nat_abs (floor_div c g)) (gcd_terms (quotient_terms ts g))) o)
    ∙ ap₂ (λ (a b : ℕ). gcd a b) (whole_div g m.div o (divisor_of_div Rat m)) (sym (scaled_gcd g (nat_abs (floor_div c g)) (gcd_terms (quotient_terms ts g)) o) ∙ ap₂ (λ (a b : ℕ). gcd a b) (abs_floor c g o dc) (scaled_terms ts g o (divisor_of_terms Rat m))))
lowest_divisor Int m =
    let ts = m.numer.terms in
    let n : ℕ = gcd m.div (gcd_terms ts) in
    let g : ℕ = or_one n in
    let o = or_one_pos n in
    rest_one n (gcd (m.div / g) (gcd_terms (quotient_terms ts g)))
    (sym (scaled_gcd g (m.div / g) (gcd_terms (quotient_terms ts g)) o)
    ∙ ap₂ (λ (a b : ℕ). gcd a b) (whole_div g m.div o (divisor_of_div Int m)) (scaled_terms ts g o (divisor_of_terms Int m)))

-- a move is in lowest form exactly where that divisor is 1
pub lowest_by_one : (s : Sort) (m : Move) → move_divisor s m ≡ 1 → lowest s m ≡ m
lowest_by_one s m e =
    ap₂ move_with (ap (λ (n : ℕ). quotient m.numer n) e ∙ quotient_one m.numer) (ap (λ (n : ℕ). m.div / n) e ∙ (let q : m.div / 1 ≡ m.div = omega arith in q))

pub one_by_lowest : (s : Sort) (m : Move) → 1 ≤ m.div → lowest s m ≡ m → move_divisor s m ≡ 1
one_by_lowest s m o e =
    let g : ℕ = move_divisor s m in
    let d : m.div / g ≡ m.div = ap (λ (x : Move). x.div) e in
    let w = whole_div g m.div (divisor_pos s m) (divisor_of_div s m) in
    times_one m.div g o (same g (m.div / g) d w)
  where
    same : (g q : ℕ) → q ≡ m.div → g * q ≡ m.div → m.div * g ≡ m.div
    same g q d w = (let c : m.div * g ≡ g * m.div = omega arith in c) ∙ ap (λ (n : ℕ). g * n) (sym d) ∙ w

pub lowest_again : (s : Sort) (m : Move) → IsLowest s (lowest s m)
lowest_again s m = lowest_by_one s (lowest s m) (lowest_divisor s m)

-- a divisor of 1 or more is 1 or more
pub some_divisor : (d g : ℕ) → 1 ≤ d → g ∣ d → 1 ≤ g
some_divisor d zero o h = let e = eq-zero_of_zero-dvd h in absurd (omega arith)
some_divisor d (suc g) o h = omega arith

-- the divisor as it is worked out: a start, and then the coefficients
pub divisor_in_rat : (d c n : ℕ) (ts : List (ℕ × ℤ)) → 1 ≤ d → n ≡ gcd (gcd d c) (gcd_terms ts) → n ≡ or_one (gcd d (gcd c (gcd_terms ts)))
divisor_in_rat d c n ts o e =
    e ∙ gcd_assoc d c (gcd_terms ts) ∙ sym (or_one_same (gcd d (gcd c (gcd_terms ts))) (some_divisor d (gcd d (gcd c (gcd_terms ts))) o (gcd_is d (gcd c (gcd_terms ts))).0))

pub divisor_in_int : (d n : ℕ) (ts : List (ℕ × ℤ)) → 1 ≤ d → n ≡ gcd d (gcd_terms ts) → n ≡ or_one (gcd d (gcd_terms ts))
divisor_in_int d n ts o e = e ∙ sym (or_one_same (gcd d (gcd_terms ts)) (some_divisor d (gcd d (gcd_terms ts)) o (gcd_is d (gcd_terms ts)).0))
