use Rattle.game_board.proofs.Stepping.{all_raised}
use Rattle.game_board.proofs.board.Board.publish.Goals as goal

pub returns-clause-raises : goal.returns-clause-raises
returns-clause-raises g c =
    all_raised g.D.Domain.SORT c.args.self.now c.placed.new.self c.args.counter c.args.version c.placed.result c.placed.ensures.published
