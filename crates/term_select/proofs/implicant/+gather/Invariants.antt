use Rattle.std.proofs.Common.{◌+◌, ◌*◌}
use Rattle.dom_core.specs.View.{matrix_of, matrices_of}
use Rattle.dom_core.proofs.Negations.{matrix_size, parts_size}
use Rattle.term_select.proofs.Gathering.{AllGathered, NoneGathered}
use Rattle.term_select.proofs.implicant.+gather.Given as goal

abbrev pub invariant-gather_all-loop-part : goal.invariant-gather_all-loop-part
invariant-gather_all-loop-part l = AllGathered l.parts l.point l.fn.out l.out l.part-index

abbrev pub invariant-gather_first-loop-part : goal.invariant-gather_first-loop-part
invariant-gather_first-loop-part l = NoneGathered l.parts l.point l.fn.out l.out l.part-index

abbrev pub decreases-gather : goal.decreases-gather
decreases-gather l = 2 * matrix_size (matrix_of l.matrix.now) + 1

abbrev pub decreases-gather_all : goal.decreases-gather_all
decreases-gather_all l = 2 * parts_size (matrices_of l.parts.now)

abbrev pub decreases-gather_first : goal.decreases-gather_first
decreases-gather_first l = 2 * parts_size (matrices_of l.parts.now)
