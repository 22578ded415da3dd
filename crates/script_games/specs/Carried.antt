-- What is carried from goal to goal of a script: its sort, and its problem with the same truth.
use Rattle.std.specs.Prelude.{◌≡◌, List, [], ◌∷◌, map, ⊤}
use Rattle.lin_term.specs.declared.Sort.{Sort}
use Rattle.dom_core.specs.Problem.{WrittenProblem, problem_of, IsTrueProblem}
use Rattle.lin_truth.specs.Truth.{Same}
use Rattle.lin_truth.specs.Goal.{Goal, IsTrueGoal}
use Rattle.smt_goal.specs.Script.{Questions}
use Rattle.smt_goal.specs.Answer.{asked_by}
use Rattle.prenex_form.specs.Whole.{a_problem}
use Rattle.prenex_form.specs.Outcome.{form}

-- what these goals ask
abbrev pub questions_in : Sort → List Goal → Questions
questions_in s gs = record { sort = s; goals = map asked_by gs }

-- the numbers of each have this sort
abbrev pub AreOfSort : Sort → List Goal → Type 0
AreOfSort s [] = ⊤
AreOfSort s (g ∷ gs) = (g.sort ≡ s) × AreOfSort s gs

-- the problem of the goal, with its truth
abbrev pub IsGameOf : Sort → Goal → WrittenProblem → Type 0
IsGameOf s g P = (g.sort ≡ s) × (form g ≡ a_problem (problem_of P)) × Same (IsTrueGoal g) (IsTrueProblem s P)

abbrev pub AreGamesOf : Sort → List Goal → List WrittenProblem → Type 0
AreGamesOf s [] [] = ⊤
AreGamesOf s [] (P ∷ Ps) = ⊥
AreGamesOf s (g ∷ gs) [] = ⊥
AreGamesOf s (g ∷ gs) (P ∷ Ps) = IsGameOf s g P × AreGamesOf s gs Ps
