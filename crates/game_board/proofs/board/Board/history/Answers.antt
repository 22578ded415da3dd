use Rattle.std.specs.Prelude.{vec_capacity}
use Rattle.game_board.specs.Kept.{Tally}
use Rattle.game_board.proofs.Keeping.{opened}
use Rattle.game_board.proofs.Played.{played, short_history}
use Rattle.game_board.proofs.board.Board.history.Goals as goal

pub returns-clause-legal : goal.returns-clause-legal
returns-clause-legal g c =
    let i = c.self.inside in
    let t : Tally = record { added = i.added; spent = i.spent; large = i.large } in
    (opened g.D.Domain.SORT c.args.self.now i.halves t (vec_capacity i.history) i.rounds i.history.items i.won c.self.view_is c.self.invariant).legal

pub returns-clause-few : goal.returns-clause-few
returns-clause-few g c =
    let i = c.self.inside in
    let t : Tally = record { added = i.added; spent = i.spent; large = i.large } in
    short_history g.D.Domain.SORT c.args.self.now i.halves t (vec_capacity i.history) (opened g.D.Domain.SORT c.args.self.now i.halves t (vec_capacity i.history) i.rounds i.history.items i.won c.self.view_is c.self.invariant)

pub returns-clause-played : goal.returns-clause-played
returns-clause-played g c =
    let i = c.self.inside in
    let t : Tally = record { added = i.added; spent = i.spent; large = i.large } in
    played g.D.Domain.SORT c.args.self.now i.halves t (vec_capacity i.history) (opened g.D.Domain.SORT c.args.self.now i.halves t (vec_capacity i.history) i.rounds i.history.items i.won c.self.view_is c.self.invariant)
