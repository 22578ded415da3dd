use Rattle.dom_core.specs.View.{matrix_of}
use Rattle.strat_check.proofs.ExampleLemmas.{example_primitive}
use Rattle.game_tests.proofs.sections.problem.Goals as goal

pub make-requires-clause-primitive : goal.make-requires-clause-primitive
make-requires-clause-primitive c = example_primitive (matrix_of c.in_ok-matrix.matrix) c.in_ok-matrix.ensures
