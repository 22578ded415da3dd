use Rattle.std.proofs.Common.{◌≡◌, ◌+◌, ◌*◌, drop, length}
use Rattle.game_tree.specs.Skeleton.{branch_nodes}
use Rattle.game_tree.specs.View.{branches_of}
use Rattle.grown_tree.specs.Shown.{visible, all_shown}
use Rattle.grown_tree.proofs.reading.+count.Given as goal

-- the count so far and what is left are all
abbrev pub invariant-count_all-loop-i : goal.invariant-count_all-loop-i
invariant-count_all-loop-i l =
    l.count + branch_nodes (branches_of (visible l.version (drop l.i l.marks) (all_shown l.version (drop l.i l.below) l.rest)))
    ≡ branch_nodes (branches_of (visible l.version l.marks (all_shown l.version l.below l.rest)))

abbrev pub decreases-count_at : goal.decreases-count_at
decreases-count_at l = 3 * length l.prefix.now

abbrev pub decreases-count_all : goal.decreases-count_all
decreases-count_all l = 3 * length l.rest.now + 2

abbrev pub decreases-count_one : goal.decreases-count_one
decreases-count_one l = 3 * length l.rest.now + 1
