use Rattle.std.proofs.Common.{◌≡◌, Some, length}
use Rattle.lin_truth.specs.Value.{one_value}
use Rattle.term_table.specs.Known.{known_product}
use Rattle.term_table.proofs.known.product.Given as goal

abbrev pub invariant-loop-left : goal.invariant-loop-left
invariant-loop-left l = known_product l.left l.all ≡ known_product l.parts (Some one_value)

abbrev pub decreases-loop-left : goal.decreases-loop-left
decreases-loop-left l = length l.left
