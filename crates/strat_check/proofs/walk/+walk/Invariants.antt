use Rattle.std.proofs.Common.{◌+◌, ◌*◌, ◌≤◌, ◌^◌, drop}
use Rattle.game_tree.specs.Skeleton.{nodes, branch_nodes}
use Rattle.game_tree.specs.View.{skeleton_of, branches_of}
use Rattle.strat_check.proofs.Walking.{Walked}
use Rattle.strat_check.proofs.walk.+walk.Given as goal

abbrev pub invariant-bad_branch-loop-branch : goal.invariant-bad_branch-loop-branch
invariant-bad_branch-loop-branch l =
    Walked l.at.line l.at.before (branches_of (drop l.branch-index l.branches)) l.sort l.fn.at.line l.fn.at.before (branches_of l.branches)
    × (l.at.before ≤ 2 ^ 20) × (l.at.line ≤ 2 ^ 63 + 8 + 2 * l.at.before)

abbrev pub decreases-bad_line : goal.decreases-bad_line
decreases-bad_line l = 2 * nodes (skeleton_of l.tree.now) + 1

abbrev pub decreases-bad_branch : goal.decreases-bad_branch
decreases-bad_branch l = 2 * branch_nodes (branches_of l.branches.now)
