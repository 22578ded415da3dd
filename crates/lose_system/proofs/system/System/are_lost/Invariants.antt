use Rattle.std.specs.Prelude.{[]}
use Rattle.dom_core.specs.View.{matrix_of}
use Rattle.game_tree.specs.View.{skeleton_of}
use Rattle.lose_system.specs.Losing.{routes, AllLose}
use Rattle.lose_system.specs.Written.{system_of}
use Rattle.lose_system.proofs.SolvedLemmas.{LoseFrom}
use Rattle.lose_system.proofs.system.System.are_lost.Given as goal

abbrev pub invariant-loop-k : goal.invariant-loop-k
invariant-loop-k g l =
    LoseFrom (matrix_of l.self.problem.matrix) g.D.Domain.SORT (routes (skeleton_of l.self.tree) [] 0) l.k l.point → AllLose (system_of g.D.Domain.SORT l.self).paths l.point
