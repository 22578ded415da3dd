use Rattle.std.specs.Prelude.{◌≡◌, drop}
use Rattle.std.proofs.Common.{◌+◌, ◌*◌}
use Rattle.dom_core.specs.View.{matrix_of}
use Rattle.game_tree.specs.Skeleton.{nodes, branch_nodes}
use Rattle.game_tree.specs.View.{skeleton_of, branches_of}
use Rattle.term_select.specs.Walk.{values_on}
use Rattle.term_select.proofs.Meeting.{Walked}
use Rattle.term_select.proofs.walk.+walk.Given as goal

abbrev pub invariant-walk_each-loop-branch : goal.invariant-walk_each-loop-branch
invariant-walk_each-loop-branch g l = record {
  way : l.way ≡ l.fn.way;
  walked : Walked g.D.Domain.SORT (matrix_of l.matrix) l.point (values_on l.point l.fn.way) l.fn.way l.met (branches_of (drop l.branch-index l.branches)) (branches_of l.branches) l.next;
}

abbrev pub decreases-walk : goal.decreases-walk
decreases-walk g l = 4 * nodes (skeleton_of l.tree.now) + 1

abbrev pub decreases-walk_below : goal.decreases-walk_below
decreases-walk_below g l = 4 * nodes (skeleton_of l.tree.now) + 2

abbrev pub decreases-walk_branch : goal.decreases-walk_branch
decreases-walk_branch g l = 4 * nodes (skeleton_of l.branch.now.rest) + 3

abbrev pub decreases-walk_each : goal.decreases-walk_each
decreases-walk_each g l = 4 * branch_nodes (branches_of l.branches.now)
