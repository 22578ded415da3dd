use Rattle.std.proofs.Common.{drop}
use Rattle.game_tree.specs.Distinct.{AreDistinct}
use Rattle.game_tree.specs.View.{branches_of}
use Rattle.game_tree.proofs.following.are_distinct.Given as goal

abbrev pub invariant-loop-i : goal.invariant-loop-i
invariant-loop-i l = AreDistinct (branches_of (drop l.i l.branches)) → AreDistinct (branches_of l.branches)
