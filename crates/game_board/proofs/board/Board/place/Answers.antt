use Rattle.std.specs.Prelude.{vec_capacity}
use Rattle.game_board.specs.Kept.{Tally}
use Rattle.game_board.proofs.Keeping.{opened}
use Rattle.std.proofs.Common.{ap}
use Rattle.game_board.proofs.Keeping.{no_round_left, round_left}
use Rattle.game_board.proofs.board.Board.place.Goals as goal

pub returns-then-holds-clause-published : goal.returns-then-holds-clause-published
returns-then-holds-clause-published g c =
    (c.requires, c.holds.ensures.held c.if-holds.true, c.hold.ensures)

pub spend-requires : goal.spend-requires
spend-requires g c =
    let i = c.self.inside in
    let t : Tally = record { added = i.added; spent = i.spent; large = i.large } in
    let s = g.D.Domain.SORT in
    let b = c.args.self.now in
    let room = vec_capacity i.history in
    let k = opened s b i.halves t room i.rounds i.history.items i.won c.self.view_is c.self.invariant in
    record { fresh = c.requires; news = c.holds.ensures.news c.if-holds.false; spent = no_round_left s b i.halves t room i.rounds k (ap (λ o. o.rounds) c.self.view_is) c.if-self.true }

pub add-requires : goal.add-requires
add-requires g c =
    let i = c.self.inside in
    let t : Tally = record { added = i.added; spent = i.spent; large = i.large } in
    let s = g.D.Domain.SORT in
    let b = c.args.self.now in
    let room = vec_capacity i.history in
    let k = opened s b i.halves t room i.rounds i.history.items i.won c.self.view_is c.self.invariant in
    record { fresh = c.requires; news = c.holds.ensures.news c.if-holds.false; left = round_left s b i.halves t room i.rounds k (ap (λ o. o.rounds) c.self.view_is) c.if-self.false }

pub hold-requires-clause-held : goal.hold-requires-clause-held
hold-requires-clause-held g c = c.holds.ensures.held c.if-holds.true

pub returns-then-self-clause-published : goal.returns-then-self-clause-published
returns-then-self-clause-published g c =
    let i = c.self.inside in
    let t : Tally = record { added = i.added; spent = i.spent; large = i.large } in
    let s = g.D.Domain.SORT in
    let b = c.args.self.now in
    let room = vec_capacity i.history in
    let k = opened s b i.halves t room i.rounds i.history.items i.won c.self.view_is c.self.invariant in
    (c.requires, c.holds.ensures.news c.if-holds.false, no_round_left s b i.halves t room i.rounds k (ap (λ o. o.rounds) c.self.view_is) c.if-self.true, c.spend.ensures)
