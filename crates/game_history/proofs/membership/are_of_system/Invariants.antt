use Rattle.lose_system.specs.Written.{system_of}
use Rattle.game_history.specs.Legal.{IsOfSystem}
use Rattle.game_history.proofs.OfSystem.{AllOf}
use Rattle.game_history.proofs.membership.are_of_system.Given as goal

abbrev pub invariant-loop-lit : goal.invariant-loop-lit
invariant-loop-lit g l = AllOf (IsOfSystem (system_of g.D.Domain.SORT l.system)) l.lits l.lit-index
