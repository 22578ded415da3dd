use Rattle.lose_system.specs.Written.{system_of}
use Rattle.game_history.specs.Legal.{IsOfMatrix}
use Rattle.game_history.proofs.OfSystem.{NoneOf}
use Rattle.game_history.proofs.membership.is_of_path.Given as goal

abbrev pub invariant-loop-k : goal.invariant-loop-k
invariant-loop-k g l = NoneOf (IsOfMatrix l.lit) (system_of g.D.Domain.SORT l.system).paths l.k
