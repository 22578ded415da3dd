use Rattle.std.proofs.Common.{refl}
use Rattle.team_work.proofs.Turning.{blocked_turns}
use Rattle.team_work.proofs.turn.turn.Goals as goal

pub returns-in-Blocked-clause-turns : goal.returns-in-Blocked-clause-turns
returns-in-Blocked-clause-turns g c = blocked_turns g.D.Domain.SORT c.args.board.now c.args.wish c.requires.going c.in-Blocked.ensures.job (c.in-Blocked.ensures.blocked refl)
