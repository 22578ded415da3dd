use Rattle.lose_system.specs.Written.{system_of}
use Rattle.game_history.proofs.OfSystem.{NoneBefore}
use Rattle.game_history.proofs.membership.is_definition.Given as goal

abbrev pub invariant-loop-node : goal.invariant-loop-node
invariant-loop-node g l = NoneBefore (system_of g.D.Domain.SORT l.system).defs l.lit l.node
