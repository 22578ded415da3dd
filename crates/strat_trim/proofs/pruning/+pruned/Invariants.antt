use Rattle.std.proofs.Common.{drop, ◌+◌, ◌*◌}
use Rattle.game_tree.specs.Skeleton.{nodes, branch_nodes}
use Rattle.game_tree.specs.View.{skeleton_of, branches_of}
use Rattle.strat_trim.specs.Trimmed.{marked}
use Rattle.strat_trim.proofs.PruningLemmas.{Pruning}
use Rattle.strat_trim.proofs.pruning.+pruned.Given as goal

abbrev pub invariant-pruned_each-loop-branch : goal.invariant-pruned_each-loop-branch
invariant-pruned_each-loop-branch l =
    Pruning (marked l.chosen) l.left l.path l.marks (branches_of (drop l.branch-index l.branches)) l.fn.path l.fn.marks (branches_of l.branches)

abbrev pub decreases-pruned : goal.decreases-pruned
decreases-pruned l = 4 * nodes (skeleton_of l.tree.now) + 1

abbrev pub decreases-pruned_below : goal.decreases-pruned_below
decreases-pruned_below l = 4 * nodes (skeleton_of l.rest.now) + 2

abbrev pub decreases-pruned_each : goal.decreases-pruned_each
decreases-pruned_each l = 4 * branch_nodes (branches_of l.branches.now)

abbrev pub decreases-add_pruned : goal.decreases-add_pruned
decreases-add_pruned l = 4 * nodes (skeleton_of l.branch.now.rest) + 3
