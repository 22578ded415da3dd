-- Constant terms, worked out from left to right with two arguments at a time, each step in lowest terms.
use Rattle.std.specs.Prelude.{List, [], ◌∷◌, ◌++◌}
use Rattle.lin_term.specs.Linear.{Value, constant_form}
use Rattle.lin_truth.specs.Value.{zero_value, one_value, v_neg, v_abs, v_plus, v_minus, v_times, v_over, v_div, v_mod}
use Rattle.lin_truth.specs.Term.{Term, Terms, amount, negative, absolute, minus, quotient_of, div_of, mod_of, plus_of, times_of, no_term, term_and}
use Rattle.lin_form.specs.Lin.{Lin, lin_constant}

-- a value in lowest terms
abbrev pub lowest : Value → Value
lowest v = record { num = (lin_constant v).form.constant; den = (lin_constant v).den }

-- a value as a linear form, as it stands
abbrev pub as_lin : Value → Lin
as_lin v = record { form = constant_form v.num; den = v.den }

-- the value of a constant term
abbrev mutual
  pub low : Term → Value
  low (amount v) = lowest v
  low (negative t) = lowest (v_neg (low t))
  low (absolute t) = lowest (v_abs (low t))
  low (minus a b) = lowest (v_minus (low a) (low b))
  low (quotient_of a b) = lowest (v_over (low a) (low b))
  low (div_of a b) = lowest (v_div (low a) (low b))
  low (mod_of a b) = lowest (v_mod (low a) (low b))
  low (plus_of ts) = low_sum ts zero_value
  low (times_of ts) = low_product ts one_value
  low t = zero_value

  pub low_sum : Terms → Value → Value
  low_sum no_term v = v
  low_sum (term_and t ts) v = low_sum ts (lowest (v_plus v (low t)))

  pub low_product : Terms → Value → Value
  low_product no_term v = v
  low_product (term_and t ts) v = low_product ts (lowest (v_times v (low t)))

-- the values of all steps, in their order
abbrev mutual
  pub steps : Term → List Lin
  steps (amount v) = as_lin (lowest v) ∷ []
  steps (negative t) = steps t ++ as_lin (low (negative t)) ∷ []
  steps (absolute t) = steps t ++ as_lin (low (absolute t)) ∷ []
  steps (minus a b) = steps a ++ (steps b ++ as_lin (low (minus a b)) ∷ [])
  steps (quotient_of a b) = steps a ++ (steps b ++ as_lin (low (quotient_of a b)) ∷ [])
  steps (div_of a b) = steps a ++ (steps b ++ as_lin (low (div_of a b)) ∷ [])
  steps (mod_of a b) = steps a ++ (steps b ++ as_lin (low (mod_of a b)) ∷ [])
  steps (plus_of ts) = sum_steps ts zero_value
  steps (times_of ts) = product_steps ts one_value
  steps t = []

  -- the partial sums behind v
  pub sum_steps : Terms → Value → List Lin
  sum_steps no_term v = []
  sum_steps (term_and t ts) v = steps t ++ (as_lin (lowest (v_plus v (low t))) ∷ sum_steps ts (lowest (v_plus v (low t))))

  -- the partial products behind v
  pub product_steps : Terms → Value → List Lin
  product_steps no_term v = []
  product_steps (term_and t ts) v = steps t ++ (as_lin (lowest (v_times v (low t))) ∷ product_steps ts (lowest (v_times v (low t))))
