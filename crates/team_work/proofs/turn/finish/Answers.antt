use Rattle.team_work.proofs.Turning.{finished_turns}
use Rattle.team_work.proofs.turn.finish.Goals as goal

pub returns-clause-turns : goal.returns-clause-turns
returns-clause-turns g c =
    (finished_turns g.D.Domain.SORT c.args.board.now c.finish-set.new.self c.args.won c.args.side c.args.version c.finish-set.result c.requires.going c.requires.wins c.finish-set.ensures).0
