use Rattle.std.proofs.Common.{◌+◌, ◌*◌}
use Rattle.dom_core.specs.View.{matrix_of, matrices_of}
use Rattle.dom_core.proofs.Negations.{matrix_size, parts_size}
use Rattle.game_history.proofs.OfSystem.{IsFrom}
use Rattle.game_history.proofs.membership.+literals.Given as goal

abbrev pub invariant-some_has_literal-loop-part : goal.invariant-some_has_literal-loop-part
invariant-some_has_literal-loop-part l = IsFrom l.lit l.parts l.part-index

abbrev pub decreases-has_literal : goal.decreases-has_literal
decreases-has_literal l = 2 * matrix_size (matrix_of l.matrix.now) + 1

abbrev pub decreases-some_has_literal : goal.decreases-some_has_literal
decreases-some_has_literal l = 2 * parts_size (matrices_of l.parts.now)
