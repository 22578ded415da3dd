use Rattle.std.proofs.Common.{◌≡◌, Some, length}
use Rattle.lin_truth.specs.Value.{zero_value}
use Rattle.term_table.specs.Known.{known_sum}
use Rattle.term_table.proofs.known.sum.Given as goal

abbrev pub invariant-loop-left : goal.invariant-loop-left
invariant-loop-left l = known_sum l.left l.all ≡ known_sum l.parts (Some zero_value)

abbrev pub decreases-loop-left : goal.decreases-loop-left
decreases-loop-left l = length l.left
