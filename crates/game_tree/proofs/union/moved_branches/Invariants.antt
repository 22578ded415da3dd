use Rattle.std.proofs.Common.{◌≡◌, map}
use Rattle.game_tree.specs.View.{skeleton_of}
use Rattle.game_tree.specs.Gather.{pairs_of, joined_branches}
use Rattle.game_tree.proofs.union.moved_branches.Given as goal

abbrev pub invariant-loop-tree : goal.invariant-loop-tree
invariant-loop-tree l = pairs_of l.all ≡ joined_branches (map skeleton_of l.yielded)
