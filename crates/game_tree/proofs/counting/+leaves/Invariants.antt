use Rattle.std.proofs.Common.{◌+◌, ◌*◌, ◌≡◌, drop, length}
use Rattle.game_tree.specs.Skeleton.{nodes, branch_nodes, branch_paths}
use Rattle.game_tree.specs.View.{skeleton_of, branches_of}
use Rattle.game_tree.proofs.counting.+leaves.Given as goal

-- the paths so far and those that are left are all
abbrev pub invariant-branch_leaf_count-loop-branch : goal.invariant-branch_leaf_count-loop-branch
invariant-branch_leaf_count-loop-branch l =
    l.count + length (branch_paths (branches_of (drop l.branch-index l.branches))) ≡ length (branch_paths (branches_of l.branches))

abbrev pub decreases-leaf_count : goal.decreases-leaf_count
decreases-leaf_count l = 2 * nodes (skeleton_of l.tree.now) + 1

abbrev pub decreases-branch_leaf_count : goal.decreases-branch_leaf_count
decreases-branch_leaf_count l = 2 * branch_nodes (branches_of l.branches.now)
