use Rattle.lose_system.specs.Written.{system_of}
use Rattle.lose_system.proofs.SolvedLemmas.{DefinedBefore}
use Rattle.lose_system.proofs.system.System.are_defined.Given as goal

abbrev pub invariant-loop-node : goal.invariant-loop-node
invariant-loop-node g l = DefinedBefore (system_of g.D.Domain.SORT l.self).defs l.point l.node
