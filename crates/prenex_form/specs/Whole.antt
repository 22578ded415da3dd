-- The problem of a goal, or why there is none.
use Rattle.std.specs.Prelude.{ℕ, suc, ◌+◌, nat_le, List, [], length, Bool, cond}
use Rattle.std.specs.Prelude.{Option, None, Some}
use Rattle.lin_term.specs.declared.Sort.{Sort}
use Rattle.dom_core.specs.Game.{Matrix, lit, all, some, Matrices, none, more, Problem}
use Rattle.norm_form.specs.Normal.{Normal}
use Rattle.lin_truth.specs.declared.term.VarSort.{VarSort}
use Rattle.lin_truth.specs.Term.{Term, exists_of}
use Rattle.norm_form.specs.Norm.{normal_of}
use Rattle.prenex_form.specs.Prenex.{prenex_of}
use Rattle.norm_form.specs.Load.{load}
use Rattle.norm_form.specs.Outcome.{node_limit, variable_limit, node_rate, binder_rate}
use Rattle.lin_form.specs.Kept.{within}
use Rattle.norm_form.specs.Cap.{numbers, capped}

abbrev mutual
  pub matrix_nodes : Matrix → ℕ
  matrix_nodes (lit l) = 1
  matrix_nodes (all ms) = suc (matrices_nodes ms)
  matrix_nodes (some ms) = suc (matrices_nodes ms)

  pub matrices_nodes : Matrices → ℕ
  matrices_nodes none = 0
  matrices_nodes (more m ms) = matrix_nodes m + matrices_nodes ms

pub data FormResult : Type 0 where
  a_problem : Problem → FormResult
  too_large : FormResult
  too_many_variables : FormResult
  number_past_cap : FormResult

-- of the problem, and of all numbers formed on the way to it: Size, then Variables, then Number
abbrev pub form_by : Problem → Bool → FormResult
form_by P fits =
    cond (nat_le (matrix_nodes P.matrix) node_limit)
    (cond (nat_le (length P.prefix) variable_limit) (cond fits (a_problem P) number_past_cap) too_many_variables)
    too_large

abbrev pub form_of_goal : Sort → List VarSort → Term → FormResult
form_of_goal s consts body = form_by (prenex_of (normal_of s consts body)) (within (numbers s consts body))

-- ---- the same, counted first and built then

abbrev pub problem_if : Option Normal → FormResult
problem_if None = number_past_cap
problem_if (Some n) = a_problem (prenex_of n)

abbrev pub form_counted : Sort → List VarSort → Term → FormResult
form_counted s consts body =
    cond (nat_le (load (exists_of consts body) node_rate []) node_limit)
    (cond (nat_le (load (exists_of consts body) binder_rate []) variable_limit) (problem_if (capped s consts body)) too_many_variables)
    too_large
