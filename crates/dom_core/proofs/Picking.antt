-- Bounds have divisors, and the greatest and the least of some moves are among them.
use Prim.Native.Nat.{◌∣◌}
use Rattle.std.specs.Prelude.{ℕ, zero, suc, ◌*◌, ◌/◌, ◌%◌, ◌≤◌, ◌≡◌, ℤ, pos, negsuc, nat_abs, Bool, true, false, if◌then◌else◌, Option, Some, None, List, [], ◌∷◌, ⊤}
use Rattle.std.specs.List.{AllByRecursion}
use Rattle.std.proofs.Common.{arith}
use Rattle.std.proofs.Math.Nat.{mod-eq-zero_of_dvd}
use Rattle.lin_term.specs.declared.Sort.{Sort}
use Rattle.lin_term.specs.declared.Lit.{Lit}
use Rattle.lin_term.specs.declared.Lit.TheVariants.{AtLeast, Above, Divides, NotDivides}
use Rattle.lin_term.specs.Linear.{Point}
use Rattle.lin_term.specs.Move.{Move, move_value, move_divisor, lowest}
use Rattle.lin_term.specs.PutIn.{coef}
use Rattle.lin_term.proofs.Lowering.{divisor_of_div}
use Rattle.dom_core.specs.Elimination.{size_at, is_lower, is_upper, is_positive, is_negative}
use Rattle.dom_core.specs.Pick.{is_less, greatest_with, greatest, least_with, least}

-- ---- a picked move has a divisor of 1 or more

abbrev pub HasDivisor : Move → Type 0
HasDivisor m = 1 ≤ m.div

pub whole_div : (g d : ℕ) → g ∣ d → g * (d / g) ≡ d
whole_div g d h = let m : d % g ≡ 0 = mod-eq-zero_of_dvd g h in omega arith

pub lowest_divisor : (s : Sort) (m : Move) → HasDivisor m → HasDivisor (lowest s m)
lowest_divisor s m o = by (m.div / move_divisor s m) (move_divisor s m) (whole_div (move_divisor s m) m.div (divisor_of_div s m))
  where
    by : (q g : ℕ) → g * q ≡ m.div → 1 ≤ q
    by zero g e = absurd (omega arith)
    by (suc q) g e = omega arith

positive_size : (z : ℤ) → is_positive z ≡ true → 1 ≤ nat_abs z
positive_size (pos zero) e = absurd (cc)
positive_size (pos (suc n)) e = omega arith
positive_size (negsuc n) e = absurd (cc)

negative_size : (z : ℤ) → is_negative z ≡ true → 1 ≤ nat_abs z
negative_size (pos n) e = absurd (cc)
negative_size (negsuc n) e = omega arith

pub lower_size : (x : ℕ) (l : Lit) → is_lower x l ≡ true → 1 ≤ size_at x l
lower_size x (AtLeast f) e = positive_size (coef f.terms x) e
lower_size x (Above f) e = positive_size (coef f.terms x) e
lower_size x (Divides d f) e = absurd (cc)
lower_size x (NotDivides d f) e = absurd (cc)

pub upper_size : (x : ℕ) (l : Lit) → is_upper x l ≡ true → 1 ≤ size_at x l
upper_size x (AtLeast f) e = negative_size (coef f.terms x) e
upper_size x (Above f) e = negative_size (coef f.terms x) e
upper_size x (Divides d f) e = absurd (cc)
upper_size x (NotDivides d f) e = absurd (cc)

-- some move of a list has what each has
abbrev pub HasIt : (Move → Type 0) → Option Move → Type 0
HasIt P None = ⊤
HasIt P (Some m) = P m

pub greatest_with_has : (P : Move → Type 0) (s : Sort) (p : Point) (m : Move) (ms : List Move) → P m → AllByRecursion P ms → P (greatest_with s p m ms)
greatest_with_has P s p m [] h k = h
greatest_with_has P s p m (n ∷ ns) h k = greatest_with_has P s p (if is_less (move_value s m p) (move_value s n p) then n else m) ns (by (is_less (move_value s m p) (move_value s n p))) k.1
  where
    by : (b : Bool) → P (if b then n else m)
    by true = k.0
    by false = h

pub greatest_has : (P : Move → Type 0) (s : Sort) (p : Point) (ms : List Move) → AllByRecursion P ms → HasIt P (greatest s p ms)
greatest_has P s p [] k = tt
greatest_has P s p (m ∷ ms) k = greatest_with_has P s p m ms k.0 k.1

pub least_with_has : (P : Move → Type 0) (s : Sort) (p : Point) (m : Move) (ms : List Move) → P m → AllByRecursion P ms → P (least_with s p m ms)
least_with_has P s p m [] h k = h
least_with_has P s p m (n ∷ ns) h k = least_with_has P s p (if is_less (move_value s n p) (move_value s m p) then n else m) ns (by (is_less (move_value s n p) (move_value s m p))) k.1
  where
    by : (b : Bool) → P (if b then n else m)
    by true = k.0
    by false = h

pub least_has : (P : Move → Type 0) (s : Sort) (p : Point) (ms : List Move) → AllByRecursion P ms → HasIt P (least s p ms)
least_has P s p [] k = tt
least_has P s p (m ∷ ms) k = least_with_has P s p m ms k.0 k.1
