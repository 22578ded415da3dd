-- A term without a choice: its linear form, and the forms on the way to it, worked out directly.
use Rattle.std.specs.Prelude.{ℕ, ℤ, List, [], ◌∷◌, ◌++◌, Bool, true, false, ◌&&◌, cond}
use Rattle.lin_truth.specs.Term.{Term, Terms, amount, variable, negative, absolute, minus, quotient_of, div_of, mod_of, plus_of, times_of, no_term, term_and}
use Rattle.lin_truth.specs.Value.{zero_value, one_value}
use Rattle.lin_truth.specs.Constant.{is_constant, are_constant}
use Rattle.lin_form.specs.Low.{as_lin, low, low_sum, low_product}
use Rattle.lin_form.specs.Lin.{Lin, lin_constant, lin_variable, lin_plus, lin_neg, lin_minus, lin_times, lin_over}
use Rattle.lin_form.specs.Low.{steps}
use Rattle.lin_form.specs.declared.scope.Bound.{Bound}
use Rattle.lin_form.specs.Scope.{level_at}

-- no ite, abs, div or mod outside constant terms
abbrev mutual
  pub is_direct : Term → Bool
  is_direct (amount v) = true
  is_direct (variable i) = true
  is_direct (negative t) = is_direct t
  is_direct (absolute t) = is_constant t
  is_direct (minus a b) = is_direct a && is_direct b
  is_direct (quotient_of a b) = is_direct a
  is_direct (div_of a b) = is_constant a && is_constant b
  is_direct (mod_of a b) = is_constant a && is_constant b
  is_direct (plus_of ts) = are_direct ts
  is_direct (times_of ts) = are_direct ts
  is_direct t = false

  pub are_direct : Terms → Bool
  are_direct no_term = true
  are_direct (term_and t ts) = is_direct t && are_direct ts

abbrev mutual
  pub direct : Term → List Bound → Lin
  direct (amount v) ctx = lin_constant v
  direct (variable i) ctx = lin_variable (level_at ctx i)
  direct (negative t) ctx = cond (is_constant t) (as_lin (low (negative t))) (lin_neg (direct t ctx))
  direct (absolute t) ctx = as_lin (low (absolute t))
  direct (minus a b) ctx = cond (is_constant a && is_constant b) (as_lin (low (minus a b))) (lin_minus (direct a ctx) (direct b ctx))
  direct (quotient_of a b) ctx = cond (is_constant a && is_constant b) (as_lin (low (quotient_of a b))) (lin_over (direct a ctx) (low b))
  direct (div_of a b) ctx = as_lin (low (div_of a b))
  direct (mod_of a b) ctx = as_lin (low (mod_of a b))
  direct (plus_of ts) ctx = cond (are_constant ts) (as_lin (low_sum ts zero_value)) (direct_sum ts ctx (as_lin zero_value))
  direct (times_of ts) ctx = cond (are_constant ts) (as_lin (low_product ts one_value)) (direct_product ts ctx (as_lin one_value))
  direct t ctx = as_lin zero_value

  pub direct_sum : Terms → List Bound → Lin → Lin
  direct_sum no_term ctx x = x
  direct_sum (term_and t ts) ctx x = direct_sum ts ctx (lin_plus x (direct t ctx))

  pub direct_product : Terms → List Bound → Lin → Lin
  direct_product no_term ctx x = x
  direct_product (term_and t ts) ctx x = direct_product ts ctx (lin_times x (direct t ctx))

-- the forms in the order in which they are formed
abbrev mutual
  pub made : Term → List Bound → List Lin
  made (amount v) ctx = lin_constant v ∷ []
  made (variable i) ctx = lin_variable (level_at ctx i) ∷ []
  made (negative t) ctx = cond (is_constant t) (steps (negative t)) (made t ctx ++ lin_neg (direct t ctx) ∷ [])
  made (absolute t) ctx = steps (absolute t)
  made (minus a b) ctx = cond (is_constant a && is_constant b) (steps (minus a b)) (made a ctx ++ (made b ctx ++ lin_minus (direct a ctx) (direct b ctx) ∷ []))
  made (quotient_of a b) ctx = cond (is_constant a && is_constant b) (steps (quotient_of a b)) (made a ctx ++ (steps b ++ lin_over (direct a ctx) (low b) ∷ []))
  made (div_of a b) ctx = steps (div_of a b)
  made (mod_of a b) ctx = steps (mod_of a b)
  made (plus_of ts) ctx = cond (are_constant ts) (steps (plus_of ts)) (made_sum ts ctx (as_lin zero_value))
  made (times_of ts) ctx = cond (are_constant ts) (steps (times_of ts)) (made_product ts ctx (as_lin one_value))
  made t ctx = []

  pub made_sum : Terms → List Bound → Lin → List Lin
  made_sum no_term ctx x = []
  made_sum (term_and t ts) ctx x = made t ctx ++ (lin_plus x (direct t ctx) ∷ made_sum ts ctx (lin_plus x (direct t ctx)))

  pub made_product : Terms → List Bound → Lin → List Lin
  made_product no_term ctx x = []
  made_product (term_and t ts) ctx x = made t ctx ++ (lin_times x (direct t ctx) ∷ made_product ts ctx (lin_times x (direct t ctx)))

-- the factors of a whole number times a variable
abbrev pub multiple : ℤ → ℕ → Terms
multiple n i = term_and (amount (record { num = n; den = 1 })) (term_and (variable i) no_term)
