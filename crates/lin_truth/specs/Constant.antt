-- Constant terms: those of numbers and operations alone, and their values.
use Rattle.std.specs.Prelude.{Bool, true, false, ◌&&◌}
use Rattle.lin_term.specs.Linear.{Value}
use Rattle.lin_truth.specs.Value.{zero_value, one_value, v_neg, v_abs, v_plus, v_minus, v_times, v_over, v_div, v_mod}
use Rattle.lin_truth.specs.Term.{Term, Terms, amount, negative, absolute, minus, quotient_of, div_of, mod_of, plus_of, times_of, no_term, term_and}

abbrev mutual
  pub is_constant : Term → Bool
  is_constant (amount v) = true
  is_constant (negative t) = is_constant t
  is_constant (absolute t) = is_constant t
  is_constant (minus a b) = is_constant a && is_constant b
  is_constant (quotient_of a b) = is_constant a && is_constant b
  is_constant (div_of a b) = is_constant a && is_constant b
  is_constant (mod_of a b) = is_constant a && is_constant b
  is_constant (plus_of ts) = are_constant ts
  is_constant (times_of ts) = are_constant ts
  is_constant t = false

  pub are_constant : Terms → Bool
  are_constant no_term = true
  are_constant (term_and t ts) = is_constant t && are_constant ts

abbrev mutual
  pub constant_value : Term → Value
  constant_value (amount v) = v
  constant_value (negative t) = v_neg (constant_value t)
  constant_value (absolute t) = v_abs (constant_value t)
  constant_value (minus a b) = v_minus (constant_value a) (constant_value b)
  constant_value (quotient_of a b) = v_over (constant_value a) (constant_value b)
  constant_value (div_of a b) = v_div (constant_value a) (constant_value b)
  constant_value (mod_of a b) = v_mod (constant_value a) (constant_value b)
  constant_value (plus_of ts) = constant_sum ts zero_value
  constant_value (times_of ts) = constant_product ts one_value
  constant_value t = zero_value

  pub constant_sum : Terms → Value → Value
  constant_sum no_term x = x
  constant_sum (term_and t ts) x = constant_sum ts (v_plus x (constant_value t))

  pub constant_product : Terms → Value → Value
  constant_product no_term x = x
  constant_product (term_and t ts) x = constant_product ts (v_times x (constant_value t))
