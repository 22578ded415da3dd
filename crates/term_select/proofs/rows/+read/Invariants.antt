use Rattle.std.proofs.Common.{◌+◌, ◌*◌, drop}
use Rattle.dom_core.specs.Negation.{HaveRows}
use Rattle.dom_core.specs.View.{matrix_of, matrices_of}
use Rattle.dom_core.proofs.Negations.{matrix_size, parts_size}
use Rattle.term_select.proofs.rows.+read.Given as goal

abbrev pub invariant-read_parts-loop-part : goal.invariant-read_parts-loop-part
invariant-read_parts-loop-part l = HaveRows (matrices_of (drop l.part-index l.parts)) → HaveRows (matrices_of l.parts)

abbrev pub decreases-read_rows : goal.decreases-read_rows
decreases-read_rows l = 2 * matrix_size (matrix_of l.matrix.now) + 1

abbrev pub decreases-read_parts : goal.decreases-read_parts
decreases-read_parts l = 2 * parts_size (matrices_of l.parts.now)
