use Rattle.std.specs.Prelude.{vec_capacity}
use Rattle.game_board.specs.Kept.{Tally}
use Rattle.game_board.proofs.Keeping.{opened}
use Rattle.std.proofs.Common.{◌∙◌}
use Rattle.game_board.proofs.Read.{not_named, not_there, on_version, few_at, prefix_at}
use Rattle.game_board.proofs.board.Board.is_on_version.Goals as goal

pub returns-then-note-version : goal.returns-then-note-version
returns-then-note-version g c =
    not_named g.D.Domain.SORT c.args.self.now c.args.note.now c.args.version c.if-note-version.true

pub belongs-requires : goal.belongs-requires
belongs-requires g c =
    let i = c.self.inside in
    let t : Tally = record { added = i.added; spent = i.spent; large = i.large } in
    let s = g.D.Domain.SORT in
    let b = c.args.self.now in
    let room = vec_capacity i.history in
    let k = opened s b i.halves t room i.rounds i.history.items i.won c.self.view_is c.self.invariant in
    record { prefix = c.in-Some.ensures.1 ∙ prefix_at s b i.halves t room c.args.note.now.side c.of-half.result.now k c.of-half.ensures; few = few_at s b i.halves t room c.args.note.now.side c.of-half.result.now c.args.version c.in-Some.view.tree k c.of-half.ensures c.in-Some.ensures.0 }

pub returns-in-Some : goal.returns-in-Some
returns-in-Some g c =
    let i = c.self.inside in
    let t : Tally = record { added = i.added; spent = i.spent; large = i.large } in
    let s = g.D.Domain.SORT in
    let b = c.args.self.now in
    let room = vec_capacity i.history in
    let k = opened s b i.halves t room i.rounds i.history.items i.won c.self.view_is c.self.invariant in
    on_version s b i.halves t room c.args.note.now c.args.version c.of-half.result.now c.in-Some.view.tree c.belongs.result k c.if-note-version.false c.of-half.ensures c.in-Some.ensures.0 c.belongs.ensures

pub returns-in-None : goal.returns-in-None
returns-in-None g c =
    let i = c.self.inside in
    let t : Tally = record { added = i.added; spent = i.spent; large = i.large } in
    let s = g.D.Domain.SORT in
    let b = c.args.self.now in
    let room = vec_capacity i.history in
    let k = opened s b i.halves t room i.rounds i.history.items i.won c.self.view_is c.self.invariant in
    not_there s b i.halves t room c.args.note.now c.args.version c.of-half.result.now k c.of-half.ensures c.in-None.ensures
