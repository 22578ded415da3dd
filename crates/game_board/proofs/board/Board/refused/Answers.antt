use Rattle.game_board.proofs.board.Board.refused.Goals as goal

pub outgrow-requires : goal.outgrow-requires
outgrow-requires g c =
    let l = c.requires.large c.in-Large.nodes c.in-Large.is in
    record { fresh = c.requires.fresh; news = c.requires.news; left = c.requires.left; joint = l.0; large = l.1 }

pub returns-in-Large-clause-published : goal.returns-in-Large-clause-published
returns-in-Large-clause-published g c =
    let l = c.requires.large c.in-Large.nodes c.in-Large.is in
    (c.requires.fresh, c.requires.news, c.requires.left, l.0, l.1, c.outgrow.ensures)
