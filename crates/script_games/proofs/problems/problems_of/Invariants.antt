use Rattle.std.proofs.Common.{◌≡◌, List, map, Err, drop, ◌++◌}
use Rattle.ss_names.specs.declared.ScriptFault.{ScriptFault}
use Rattle.dom_core.specs.Problem.{WrittenProblem}
use Rattle.smt_goal.specs.Answer.{asked_by}
use Rattle.script_games.specs.Carried.{AreOfSort}
use Rattle.script_games.specs.Games.{games_of}
use Rattle.script_games.specs.Carried.{AreGamesOf}
use Rattle.script_games.proofs.problems.problems_of.Given as goal

-- with problems of the goals that are left they are all problems, and the first fault of what is left is that of all
abbrev pub invariant-loop-goal : goal.invariant-loop-goal
invariant-loop-goal g l =
    ((Ps : List WrittenProblem) → AreGamesOf g.D.Domain.SORT (drop l.goal-index l.goals) Ps → AreGamesOf g.D.Domain.SORT l.goals (l.problems.items ++ Ps))
    × ((f : ScriptFault) → games_of (map asked_by (drop l.goal-index l.goals)) ≡ Err f → games_of (map asked_by l.goals) ≡ Err f)
    × AreOfSort g.D.Domain.SORT (drop l.goal-index l.goals)
