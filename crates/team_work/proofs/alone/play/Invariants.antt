use Rattle.std.specs.Prelude.{◌+◌, ◌*◌, ◌-◌, length}
use Rattle.team_work.specs.Turn.{HasDual, IsGoing, IsSameGame}
use Rattle.team_work.proofs.alone.play.Given as goal

abbrev pub invariant-loop-kept : goal.invariant-loop-kept
invariant-loop-kept g l = record {
  going : IsGoing g.D.Domain.SORT l.board;
  duals : HasDual g.D.Domain.SORT l.board;
  same : IsSameGame l.initial.board l.board;
}

abbrev pub decreases-loop-kept : goal.decreases-loop-kept
decreases-loop-kept g l = 2 * l.board.rounds + 7 - length l.board.history
