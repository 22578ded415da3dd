use Rattle.std.proofs.Common.{◌≡◌, ◌+◌, ◌*◌, take}
use Rattle.game_tree.specs.Skeleton.{nodes, branch_nodes}
use Rattle.game_tree.specs.View.{skeleton_of, branches_of}
use Rattle.game_tree.proofs.same.+same.Given as goal

abbrev pub invariant-are_same_branches-loop-i : goal.invariant-are_same_branches-loop-i
invariant-are_same_branches-loop-i l = take l.i l.a ≡ take l.i l.b

abbrev pub decreases-is_same_tree : goal.decreases-is_same_tree
decreases-is_same_tree l = 2 * nodes (skeleton_of l.a.now) + 1

abbrev pub decreases-are_same_branches : goal.decreases-are_same_branches
decreases-are_same_branches l = 2 * branch_nodes (branches_of l.a.now)
