use Rattle.std.proofs.Common.{◌≡◌, map}
use Rattle.game_tree.specs.View.{skeleton_of}
use Rattle.game_tree.specs.Gather.{rests}
use Rattle.game_tree.proofs.union.moved_rests.Given as goal

abbrev pub invariant-loop-tree : goal.invariant-loop-tree
invariant-loop-tree l = map skeleton_of l.below.items ≡ rests (map skeleton_of l.yielded)
