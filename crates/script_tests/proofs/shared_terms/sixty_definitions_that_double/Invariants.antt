use Rattle.std.proofs.Common.{◌<◌, length}
use Rattle.script_tests.proofs.shared_terms.sixty_definitions_that_double.Given as goal

abbrev pub invariant-loop : goal.invariant-loop
invariant-loop g l = l.body < length l.table
