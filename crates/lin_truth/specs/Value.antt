-- Rational and whole values: sums, products, division and order.
use Rattle.std.specs.Prelude.{ℕ, zero, suc, ◌*◌, ◌≡◌, ℤ, pos, negsuc, ◌+ℤ◌, ◌*ℤ◌, neg_ℤ, nat_abs, ◌≤ℤ◌, ◌<ℤ◌, ⊤, Bool, true, false}
use Rattle.lin_term.specs.Linear.{Value, floor_div}
pub use Rattle.lin_term.specs.Fraction.{v_plus, v_neg, v_minus, v_times, over_num, v_over}

abbrev pub v_abs : Value → Value
v_abs x = record { num = pos (nat_abs x.num); den = x.den }

-- the q with m = n*q + r and 0 <= r < |n|
abbrev pub whole_div : ℤ → ℤ → ℤ
whole_div a (pos zero) = a
whole_div a (pos (suc m)) = floor_div a (suc m)
whole_div a (negsuc m) = neg_ℤ (floor_div a (suc m))

abbrev pub v_div : Value → Value → Value
v_div x y = record { num = whole_div x.num y.num; den = 1 }

abbrev pub v_mod : Value → Value → Value
v_mod x y = v_minus x (v_times y (v_div x y))

abbrev pub IsBelow : Value → Value → Type 0
IsBelow x y = (x.num *ℤ pos y.den) <ℤ (y.num *ℤ pos x.den)

abbrev pub IsUpTo : Value → Value → Type 0
IsUpTo x y = (x.num *ℤ pos y.den) ≤ℤ (y.num *ℤ pos x.den)

abbrev pub IsSame : Value → Value → Type 0
IsSame x y = x.num *ℤ pos y.den ≡ y.num *ℤ pos x.den

abbrev pub zero_value : Value
zero_value = record { num = pos 0; den = 1 }

abbrev pub one_value : Value
one_value = record { num = pos 1; den = 1 }

abbrev pub Yes : Bool → Type 0
Yes true = ⊤
Yes false = ⊥
