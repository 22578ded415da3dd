-- The outcome of making a goal's problem.
use Rattle.std.specs.Prelude.{◌≡◌, Result, Ok, Err, Option, None, Some, List, ⊤}
use Rattle.ss_names.specs.declared.FaultKind.{FaultKind}
use Rattle.ss_names.specs.declared.FaultKind.TheVariants as kinds
use Rattle.ss_names.specs.declared.ScriptFault.{ScriptFault}
use Rattle.ss_names.specs.declared.ScriptFault.TheVariants as faults
use Rattle.lin_form.specs.declared.FormFault.{FormFault}
use Rattle.lin_form.specs.declared.FormFault.TheVariants as form_faults
use Rattle.lin_truth.specs.Goal.{Goal}
use Rattle.lin_truth.specs.View.{tree_of}
use Rattle.dom_core.specs.declared.Matrix.{Matrix as Tree}
use Rattle.dom_core.specs.declared.Quant.{Quant}
use Rattle.dom_core.specs.Problem.{WrittenProblem, problem_of}
use Rattle.prenex_form.specs.Whole.{FormResult, a_problem, too_large, too_many_variables, number_past_cap, form_of_goal}

-- the goal's problem, or why there is none
abbrev pub form : Goal → FormResult
form g = form_of_goal g.sort g.consts (tree_of g.body)

-- the kind of fault where there is no problem
abbrev pub kind_of : FormResult → Option FaultKind
kind_of (a_problem P) = None
kind_of too_large = Some kinds.Size
kind_of too_many_variables = Some kinds.Variables
kind_of number_past_cap = Some kinds.Number

-- the problem, or its fault at the place of the check-sat; want of memory is free
abbrev pub IsForm : Goal → Result WrittenProblem ScriptFault → Type 0
IsForm g (Ok P) = form g ≡ a_problem (problem_of P)
IsForm g (Err (faults.Bad kind line column)) = (kind_of (form g) ≡ Some kind) × (line ≡ g.line) × (column ≡ g.column)
IsForm g (Err faults.Memory) = ⊤

-- why there is no problem; want of memory is free
abbrev pub IsFault : FormResult → FormFault → Type 0
IsFault r form_faults.Size = r ≡ too_large
IsFault r form_faults.Variables = r ≡ too_many_variables
IsFault r form_faults.Number = r ≡ number_past_cap
IsFault r form_faults.Memory = ⊤

abbrev pub written : List Quant → Tree → WrittenProblem
written qs m = record { prefix = qs; matrix = m }
