use Rattle.std.proofs.Common.{drop}
use Rattle.cube_elim.specs.Among.{IsAmong}
use Rattle.clause_search.proofs.chosen.has.Given as goal

abbrev pub invariant-loop-each : goal.invariant-loop-each
invariant-loop-each l = IsAmong l.lit l.lits → IsAmong l.lit (drop l.each-index l.lits)
