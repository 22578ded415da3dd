use Rattle.std.proofs.Common.{◌+◌, ◌*◌}
use Rattle.dom_core.specs.View.{matrix_of, matrices_of}
use Rattle.dom_core.proofs.Negations.{matrix_size, parts_size}
use Rattle.game_play.proofs.Courses.{AllFrom, SomeFrom}
use Rattle.game_play.proofs.holding.+holds.Given as goal

abbrev pub invariant-all_hold-loop-part : goal.invariant-all_hold-loop-part
invariant-all_hold-loop-part l = AllFrom l.parts l.values l.part-index

abbrev pub invariant-some_holds-loop-part : goal.invariant-some_holds-loop-part
invariant-some_holds-loop-part l = SomeFrom l.parts l.values l.part-index

abbrev pub decreases-holds : goal.decreases-holds
decreases-holds l = 2 * matrix_size (matrix_of l.matrix.now) + 1

abbrev pub decreases-all_hold : goal.decreases-all_hold
decreases-all_hold l = 2 * parts_size (matrices_of l.parts.now)

abbrev pub decreases-some_holds : goal.decreases-some_holds
decreases-some_holds l = 2 * parts_size (matrices_of l.parts.now)
