use Rattle.std.proofs.Common.{drop}
use Rattle.game_tree.specs.View.{branches_of}
use Rattle.std.proofs.Common.{◌+◌, ◌*◌}
use Rattle.game_tree.specs.Skeleton.{nodes, branch_nodes}
use Rattle.game_tree.specs.View.{skeleton_of}
use Rattle.lose_system.proofs.Filling.{Filled}
use Rattle.lose_system.proofs.table.+fill.Given as goal

abbrev pub invariant-fill_branches-loop-branch : goal.invariant-fill_branches-loop-branch
invariant-fill_branches-loop-branch l =
    Filled l.list l.ends (branches_of (drop l.branch-index l.branches)) l.depth l.above l.fn.list l.fn.ends (branches_of l.branches)

abbrev pub decreases-fill : goal.decreases-fill
decreases-fill l = 2 * nodes (skeleton_of l.tree.now) + 1

abbrev pub decreases-fill_branches : goal.decreases-fill_branches
decreases-fill_branches l = 2 * branch_nodes (branches_of l.branches.now)
