-- Fractions: lowest terms, arithmetic and order.
use Rattle.std.specs.Prelude.{ℕ, zero, suc, ◌*◌, ◌/◌, ◌≤◌, ◌≡◌, ℤ, pos, negsuc, ◌+ℤ◌, ◌*ℤ◌, neg_ℤ, nat_abs, List, [], ◌∷◌}
use Rattle.std.specs.declared.cmp.Ordering.{Ordering}
use Rattle.std.specs.Ordering.{int_cmp}
use Rattle.lin_term.specs.Form.{cap}
use Rattle.lin_term.specs.Linear.{Value, floor_div}
use Rattle.lin_term.specs.Literal.{gcd, or_one}

-- numerator and denominator without a common divisor
abbrev pub lowest_value : Value → Value
lowest_value v = record { num = floor_div v.num (or_one (gcd v.den (nat_abs v.num))); den = v.den / or_one (gcd v.den (nat_abs v.num)) }

-- within the cap, with a denominator of 1 or more and no common divisor
abbrev pub IsFraction : Value → Type 0
IsFraction v = (nat_abs v.num ≤ cap) × (1 ≤ v.den) × (v.den ≤ cap) × (gcd v.den (nat_abs v.num) ≡ 1)

-- the numerator before the denominator
abbrev pub value_numbers : Value → List ℤ
value_numbers v = v.num ∷ pos v.den ∷ []

abbrev pub v_plus : Value → Value → Value
v_plus x y = record { num = x.num *ℤ pos y.den +ℤ y.num *ℤ pos x.den; den = x.den * y.den }

abbrev pub v_neg : Value → Value
v_neg x = record { num = neg_ℤ x.num; den = x.den }

abbrev pub v_minus : Value → Value → Value
v_minus x y = v_plus x (v_neg y)

abbrev pub v_times : Value → Value → Value
v_times x y = record { num = x.num *ℤ y.num; den = x.den * y.den }

-- x / (m / e); a divisor is never 0
abbrev pub over_num : Value → ℤ → ℕ → Value
over_num x (pos zero) e = x
over_num x (pos (suc m)) e = record { num = x.num *ℤ pos e; den = x.den * suc m }
over_num x (negsuc m) e = record { num = neg_ℤ (x.num *ℤ pos e); den = x.den * suc m }

abbrev pub v_over : Value → Value → Value
v_over x y = over_num x y.num y.den

-- by cross products
abbrev pub value_cmp : Value → Value → Ordering
value_cmp x y = int_cmp (x.num *ℤ pos y.den) (y.num *ℤ pos x.den)
