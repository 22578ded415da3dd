use Rattle.std.specs.Prelude.{vec_capacity}
use Rattle.std.proofs.Common.{arith, ap}
use Rattle.game_board.specs.Kept.{Tally}
use Rattle.game_board.proofs.Keeping.{opened, room_left}
use Rattle.game_board.proofs.Closing.{end_closes}
use Rattle.game_board.proofs.board.Board.end.Goals as goal

pub invariant_of-self : goal.invariant_of-self
invariant_of-self g c =
    let i = c.self.inside in
    let t : Tally = record { added = i.added; spent = i.spent; large = i.large } in
    (end_closes g.D.Domain.SORT c.args.self.now i.halves t (vec_capacity i.history) (vec_capacity c.push_reserved.new.self) i.rounds i.history.items c.push_reserved.new.self.items i.won c.args.won c.args.entry c.self.view_is c.self.invariant c.requires c.push_reserved.ensures.items (let e = c.push_reserved.ensures.capacity in omega arith)).keeps

pub returns : goal.returns
returns g c =
    let i = c.self.inside in
    let t : Tally = record { added = i.added; spent = i.spent; large = i.large } in
    (end_closes g.D.Domain.SORT c.args.self.now i.halves t (vec_capacity i.history) (vec_capacity c.push_reserved.new.self) i.rounds i.history.items c.push_reserved.new.self.items i.won c.args.won c.args.entry c.self.view_is c.self.invariant c.requires c.push_reserved.ensures.items (let e = c.push_reserved.ensures.capacity in omega arith)).is

pub push_reserved-requires : goal.push_reserved-requires
push_reserved-requires g c =
    let i = c.self.inside in
    let t : Tally = record { added = i.added; spent = i.spent; large = i.large } in
    let k = opened g.D.Domain.SORT c.args.self.now i.halves t (vec_capacity i.history) i.rounds i.history.items i.won c.self.view_is c.self.invariant in
    let e = room_left g.D.Domain.SORT c.args.self.now i.halves t (vec_capacity i.history) (c.args.entry) i.history.len i.history.items k c.requires.open_game
    (c.requires.fits) i.history.ok.0 (ap (λ b. b.history) c.self.view_is) in
    omega arith
