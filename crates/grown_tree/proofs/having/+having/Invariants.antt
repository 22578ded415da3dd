use Rattle.std.proofs.Common.{◌+◌, ◌*◌, drop, length}
use Rattle.game_tree.specs.Full.{AllIn}
use Rattle.game_tree.specs.View.{branches_of}
use Rattle.grown_tree.specs.Shown.{visible, all_shown}
use Rattle.grown_tree.proofs.having.+having.Given as goal

-- if all that are left are among the branches of the version, all are
abbrev pub invariant-have_marked-loop-branch : goal.invariant-have_marked-loop-branch
invariant-have_marked-loop-branch l =
    AllIn (branches_of (drop l.branch-index l.branches)) (branches_of (visible l.version l.marks (all_shown l.version l.below l.rest)))
    → AllIn (branches_of l.branches) (branches_of (visible l.version l.marks (all_shown l.version l.below l.rest)))

abbrev pub decreases-has_all : goal.decreases-has_all
decreases-has_all l = 3 * length l.prefix.now

abbrev pub decreases-have_all : goal.decreases-have_all
decreases-have_all l = 3 * length l.rest.now + 2

abbrev pub decreases-have_marked : goal.decreases-have_marked
decreases-have_marked l = 3 * length l.rest.now + 1
