use Rattle.std.specs.Prelude.{ℕ, IsTrue, ◌<◌}
use Rattle.std.proofs.Common.{◌≡◌, ◌+◌, ◌*◌, drop}
use Rattle.game_tree.specs.Skeleton.{nodes, branch_nodes}
use Rattle.game_tree.specs.Union.{with_branches}
use Rattle.game_tree.specs.View.{skeleton_of, branches_of}
use Rattle.grown_tree.specs.Fitting.{EachFits}
use Rattle.grown_tree.specs.Shown.{visible, all_shown, are_sound}
use Rattle.grown_tree.proofs.grow.+grow.Given as goal

abbrev pub invariant-grow_all-loop-branch : goal.invariant-grow_all-loop-branch
invariant-grow_all-loop-branch l =
    IsTrue (are_sound l.stamp l.marks l.below)
    × ((v : ℕ) → v < l.stamp → visible v l.marks (all_shown v l.below l.rest) ≡ visible v l.initial.marks (all_shown v l.initial.below l.rest))
    × (with_branches (branches_of (drop l.branch-index l.branches)) (branches_of (visible l.stamp l.marks (all_shown l.stamp l.below l.rest)))
    ≡ with_branches (branches_of l.branches) (branches_of (visible l.stamp l.initial.marks (all_shown l.stamp l.initial.below l.rest))))
    × EachFits (branches_of (drop l.branch-index l.branches)) l.rest

abbrev pub decreases-grow : goal.decreases-grow
decreases-grow l = 3 * nodes (skeleton_of l.tree.now) + 2

abbrev pub decreases-grow_all : goal.decreases-grow_all
decreases-grow_all l = 3 * branch_nodes (branches_of l.branches.now) + 1

abbrev pub decreases-grow_branch : goal.decreases-grow_branch
decreases-grow_branch l = 3 * nodes (skeleton_of l.branch.now.rest) + 3
