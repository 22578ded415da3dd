use Rattle.std.proofs.Common.{◌≡◌, ◌+◌, ◌*◌, ◌++◌, drop, length}
use Rattle.grown_tree.specs.Shown.{visible, all_shown}
use Rattle.grown_tree.proofs.reading.+copy.Given as goal

abbrev pub invariant-copy_all-loop-i : goal.invariant-copy_all-loop-i
invariant-copy_all-loop-i l =
    l.all ++ visible l.version (drop l.i l.marks) (all_shown l.version (drop l.i l.below) l.rest) ≡ visible l.version l.marks (all_shown l.version l.below l.rest)

abbrev pub decreases-copy_at : goal.decreases-copy_at
decreases-copy_at l = 3 * length l.prefix.now

abbrev pub decreases-copy_all : goal.decreases-copy_all
decreases-copy_all l = 3 * length l.rest.now + 2

abbrev pub decreases-copy_one : goal.decreases-copy_one
decreases-copy_one l = 3 * length l.rest.now + 1
