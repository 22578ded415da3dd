-- What reading a script gives.
use Rattle.std.specs.Prelude.{◌≡◌, ◌≤◌, List, [], ◌∷◌, map, Result, Ok, Err}
use Rattle.std.specs.Global.{Vec}
use Rattle.ss_names.specs.declared.ScriptFault.{ScriptFault}
use Rattle.ss_names.specs.declared.ScriptFault.TheVariants.{Bad, Memory}
use Rattle.lin_term.specs.declared.Sort.{Sort}
use Rattle.lin_truth.specs.Size.{node_count}
use Rattle.lin_truth.specs.Goal.{Goal, IsGoal, IsBody}
use Rattle.lin_truth.specs.View.{tree_of}
use Rattle.term_table.specs.Worth.{most_nodes}
use Rattle.smt_term.specs.Reading.{Read}
use Rattle.smt_goal.specs.Command.{Asked}
use Rattle.smt_goal.specs.Script.{Questions, sized, all_sized}

-- the sort of a script, and its goals in order
pub record Asking : Type 0 where
  pub sort : Sort
  pub goals : List Goal

-- a goal, with its body as a tree
abbrev pub asked_by : Goal → Asked
asked_by g = record { sort = g.sort; line = g.line; column = g.column; consts = g.consts; body = tree_of g.body }

abbrev pub questions_of : Asking → Questions
questions_of s = record { sort = s.sort; goals = map asked_by s.goals }

-- each is well formed
abbrev pub AllGoals : List Goal → Type 0
AllGoals [] = Unit {0}
AllGoals (g ∷ gs) = IsGoal g × AllGoals gs

-- a script asks what the definition says, or has the fault that it says; want of memory is free
abbrev pub Answers : Read Questions → Result Asking ScriptFault → Type 0
Answers read (Ok s) = (read ≡ Ok (questions_of s)) × AllGoals s.goals
Answers read (Err (Bad k line column)) = read ≡ Err (Bad k line column)
Answers read (Err Memory) = Unit {0}

-- ---- goals one by one

-- well formed where it is not too large
abbrev pub IsFormedBody : Asked → Type 0
IsFormedBody g = node_count g.body ≤ most_nodes → IsBody g.sort g.consts g.body

abbrev pub AllFormed : List Asked → Type 0
AllFormed [] = Unit {0}
AllFormed (g ∷ gs) = IsFormedBody g × AllFormed gs

-- a goal within the limits, or the fault of its size
abbrev pub GivesGoal : Asked → Result Goal ScriptFault → Type 0
GivesGoal g (Ok goal) = (asked_by goal ≡ g) × IsGoal goal × ((next : Read Questions) → sized g next ≡ next)
GivesGoal g (Err (Bad k line column)) = (next : Read Questions) → sized g next ≡ Err (Bad k line column)
GivesGoal g (Err Memory) = Unit {0}

-- the same, of all goals
abbrev pub GivesGoals : List Asked → Result (Vec Goal) ScriptFault → Type 0
GivesGoals gs (Ok goals) = (map asked_by goals.items ≡ gs) × AllGoals goals.items × ((next : Read Questions) → all_sized gs next ≡ next)
GivesGoals gs (Err (Bad k line column)) = (next : Read Questions) → all_sized gs next ≡ Err (Bad k line column)
GivesGoals gs (Err Memory) = Unit {0}
