use Rattle.std.proofs.Common.{◌≡◌, ◌+◌, ◌*◌, drop}
use Rattle.lin_term.specs.Wide.{first_past}
use Rattle.dom_core.specs.View.{matrix_of, matrices_of}
use Rattle.dom_core.specs.Negation.{negations_numbers}
use Rattle.dom_core.proofs.Negations.{matrix_size, parts_size}
use Rattle.dom_core.proofs.negation.+wide.Given as goal

abbrev pub invariant-wide_part-loop-part : goal.invariant-wide_part-loop-part
invariant-wide_part-loop-part l =
    first_past (negations_numbers (matrices_of (drop l.part-index l.parts)) l.sort) ≡ first_past (negations_numbers (matrices_of l.parts) l.sort)

abbrev pub decreases-wide_negation : goal.decreases-wide_negation
decreases-wide_negation l = 2 * matrix_size (matrix_of l.matrix.now) + 1

abbrev pub decreases-wide_part : goal.decreases-wide_part
decreases-wide_part l = 2 * parts_size (matrices_of l.parts.now)
