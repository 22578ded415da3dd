-- Constant terms worked out within the cap: from left to right, two arguments at a time, each step in lowest terms.
use Rattle.std.specs.Prelude.{nat_abs, nat_le, Bool, ◌&&◌, if◌then◌else◌, Option, Some, None, option_and_then}
use Rattle.lin_term.specs.Form.{cap}
use Rattle.lin_term.specs.Linear.{Value}
use Rattle.lin_term.specs.Fraction.{lowest_value}
use Rattle.lin_truth.specs.Value.{zero_value, one_value, v_neg, v_abs, v_plus, v_minus, v_times, v_over, v_div, v_mod}
use Rattle.lin_truth.specs.Term.{Term, Terms, amount, negative, absolute, minus, quotient_of, div_of, mod_of, plus_of, times_of, no_term, term_and}

-- numerator and denominator without a common divisor
abbrev pub lowest : Value → Value
lowest = lowest_value

-- both numbers, and the denominator is not 0
abbrev pub is_within : Value → Bool
is_within v = nat_le (nat_abs v.num) cap && (nat_le v.den cap && nat_le 1 v.den)

-- the value in lowest terms, if it is within the cap; none where the denominator is 0
abbrev pub kept : Value → Option Value
kept v = if is_within (lowest v) then Some (lowest v) else None

abbrev pub step_one : (Value → Value) → Option Value → Option Value
step_one f x = option_and_then (λ v. kept (f v)) x

abbrev pub step_two : (Value → Value → Value) → Option Value → Option Value → Option Value
step_two f x y = option_and_then (λ v. option_and_then (λ w. kept (f v w)) y) x

-- the value of a constant term; None where a step has a number past the cap
abbrev mutual
  pub worked : Term → Option Value
  worked (amount v) = kept v
  worked (negative t) = step_one v_neg (worked t)
  worked (absolute t) = step_one v_abs (worked t)
  worked (minus a b) = step_two v_minus (worked a) (worked b)
  worked (quotient_of a b) = step_two v_over (worked a) (worked b)
  worked (div_of a b) = step_two v_div (worked a) (worked b)
  worked (mod_of a b) = step_two v_mod (worked a) (worked b)
  worked (plus_of ts) = worked_sum ts (Some zero_value)
  worked (times_of ts) = worked_product ts (Some one_value)
  worked t = None

  pub worked_sum : Terms → Option Value → Option Value
  worked_sum no_term x = x
  worked_sum (term_and t ts) x = worked_sum ts (step_two v_plus x (worked t))

  pub worked_product : Terms → Option Value → Option Value
  worked_product no_term x = x
  worked_product (term_and t ts) x = worked_product ts (step_two v_times x (worked t))
