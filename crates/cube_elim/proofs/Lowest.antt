-- A whole number is in lowest terms.
use Rattle.std.specs.Prelude.{ℕ, ◌*◌, ◌/◌, ◌≡◌, ℤ, pos, negsuc, nat_abs}
use Rattle.std.proofs.Common.{arith, ap, ◌∙◌, refl}
use Rattle.std.proofs.Math.Nat.{mul-div_cancel_left}
use Rattle.lin_term.specs.Fraction.{lowest_value}
use Rattle.lin_term.specs.Linear.{Value, floor_div}
use Rattle.lin_term.specs.Literal.{gcd, or_one}
use Rattle.lin_term.proofs.Divisors.{gcd_one}
use Rattle.cube_elim.specs.Determined.{whole}

over_one : (a : ℕ) → a / 1 ≡ a
over_one a = ap (λ (n : ℕ). n / 1) (let e : a ≡ 1 * a = omega arith in e) ∙ mul-div_cancel_left a {n = 1} (omega arith)

floor_one : (z : ℤ) → floor_div z 1 ≡ z
floor_one (pos a) = ap pos (over_one a)
floor_one (negsuc a) = ap negsuc (over_one a)

abbrev value_of : ℤ → ℕ → Value
value_of z d = record { num = z; den = d }

pub whole_lowest : (z : ℤ) → lowest_value (record { num = z; den = 1 }) ≡ whole z
whole_lowest z =
    ap (λ (g : ℕ). value_of (floor_div z (or_one g)) (1 / or_one g)) (gcd_one 1 (nat_abs z) refl)
    ∙ ap (λ (y : ℤ). value_of y 1) (floor_one z)
