use Rattle.std.specs.Prelude.{◌≤◌}
use Rattle.std.proofs.Common.{◌+◌, ◌*◌, length}
use Rattle.grown_tree.proofs.Compare.{IsLeft}
use Rattle.grown_tree.proofs.same.+same.Given as goal

abbrev pub invariant-all_same-loop-i : goal.invariant-all_same-loop-i
invariant-all_same-loop-i l = (l.next ≤ length l.branches) × IsLeft l.version l.marks l.below l.rest l.branches l.i l.next

abbrev pub decreases-is_same_at : goal.decreases-is_same_at
decreases-is_same_at l = 4 * length l.prefix.now

abbrev pub decreases-are_same_at : goal.decreases-are_same_at
decreases-are_same_at l = 4 * length l.rest.now + 3

abbrev pub decreases-all_same : goal.decreases-all_same
decreases-all_same l = 4 * length l.rest.now + 2

abbrev pub decreases-next_same : goal.decreases-next_same
decreases-next_same l = 4 * length l.rest.now + 1
