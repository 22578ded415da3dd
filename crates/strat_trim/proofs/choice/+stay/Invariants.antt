use Rattle.std.proofs.Common.{drop, ◌+◌, ◌*◌}
use Rattle.game_tree.specs.Skeleton.{nodes, branch_nodes}
use Rattle.game_tree.specs.View.{skeleton_of, branches_of}
use Rattle.strat_trim.specs.Trimmed.{marked}
use Rattle.strat_trim.proofs.ChoiceLemmas.{Walked}
use Rattle.strat_trim.proofs.choice.+stay.Given as goal

abbrev pub invariant-stay_each-loop-branch : goal.invariant-stay_each-loop-branch
invariant-stay_each-loop-branch l =
    Walked (marked l.named.paths) (marked l.named.nodes) l.has l.flags l.node (branches_of (drop l.branch-index l.branches)) l.fn.flags l.fn.node (branches_of l.branches)

abbrev pub decreases-stay : goal.decreases-stay
decreases-stay l = 3 * nodes (skeleton_of l.tree.now) + 1

abbrev pub decreases-stay_below : goal.decreases-stay_below
decreases-stay_below l = 3 * nodes (skeleton_of l.rest.now) + 2

abbrev pub decreases-stay_each : goal.decreases-stay_each
decreases-stay_each l = 3 * branch_nodes (branches_of l.branches.now)
