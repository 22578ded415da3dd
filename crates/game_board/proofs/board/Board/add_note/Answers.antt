use Rattle.std.specs.Prelude.{vec_capacity}
use Rattle.std.proofs.Common.{arith, ap}
use Rattle.game_board.specs.declared.entry.Entry.TheVariants as entry
use Rattle.game_board.specs.Kept.{Tally}
use Rattle.game_board.proofs.Keeping.{opened, room_left}
use Rattle.game_board.proofs.Fitting.{note_legal}
use Rattle.game_board.proofs.Closing.{noted_closes, note_room}
use Rattle.game_board.proofs.board.Board.add_note.Goals as goal

pub invariant_of-self : goal.invariant_of-self
invariant_of-self g c =
    let i = c.self.inside in
    let t : Tally = record { added = i.added; spent = i.spent; large = i.large } in
    (noted_closes g.D.Domain.SORT c.args.self.now i.halves c.mark.new.self t (vec_capacity i.history) (vec_capacity c.push_reserved.new.self) i.rounds i.history.items c.push_reserved.new.self.items i.won c.args.note c.args.version c.self.view_is c.self.invariant c.requires.playing c.requires.on c.requires.wide c.requires.first
    (note_room g.D.Domain.SORT c.args.self.now i.halves t (vec_capacity i.history) i.rounds i.history.items i.won c.args.note c.args.version c.self.view_is c.self.invariant c.requires.on) c.mark.ensures c.push_reserved.ensures.items (let e = c.push_reserved.ensures.capacity in omega arith)).keeps

pub returns : goal.returns
returns g c =
    let i = c.self.inside in
    let t : Tally = record { added = i.added; spent = i.spent; large = i.large } in
    (noted_closes g.D.Domain.SORT c.args.self.now i.halves c.mark.new.self t (vec_capacity i.history) (vec_capacity c.push_reserved.new.self) i.rounds i.history.items c.push_reserved.new.self.items i.won c.args.note c.args.version c.self.view_is c.self.invariant c.requires.playing c.requires.on c.requires.wide c.requires.first
    (note_room g.D.Domain.SORT c.args.self.now i.halves t (vec_capacity i.history) i.rounds i.history.items i.won c.args.note c.args.version c.self.view_is c.self.invariant c.requires.on) c.mark.ensures c.push_reserved.ensures.items (let e = c.push_reserved.ensures.capacity in omega arith)).is

pub mark-requires : goal.mark-requires
mark-requires g c =
    let i = c.self.inside in
    let t : Tally = record { added = i.added; spent = i.spent; large = i.large } in
    note_room g.D.Domain.SORT c.args.self.now i.halves t (vec_capacity i.history) i.rounds i.history.items i.won c.args.note c.args.version c.self.view_is c.self.invariant c.requires.on

pub push_reserved-requires : goal.push_reserved-requires
push_reserved-requires g c =
    let i = c.self.inside in
    let t : Tally = record { added = i.added; spent = i.spent; large = i.large } in
    let k = opened g.D.Domain.SORT c.args.self.now i.halves t (vec_capacity i.history) i.rounds i.history.items i.won c.self.view_is c.self.invariant in
    let e = room_left g.D.Domain.SORT c.args.self.now i.halves t (vec_capacity i.history) (entry.Noted c.args.note.side c.args.version c.args.note.why) i.history.len i.history.items k c.requires.playing
    (note_legal g.D.Domain.SORT c.args.self.now c.args.note c.args.version c.requires.on c.requires.wide c.requires.first) i.history.ok.0 (ap (λ b. b.history) c.self.view_is) in
    omega arith
