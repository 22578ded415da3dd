use Rattle.std.specs.Prelude.{vec_capacity}
use Rattle.std.proofs.Common.{arith, ap}
use Rattle.game_board.specs.declared.entry.Entry.TheVariants as entry
use Rattle.game_board.specs.Kept.{Tally}
use Rattle.game_board.proofs.Keeping.{opened, room_left}
use Rattle.game_board.proofs.Fitting.{counters_version}
use Rattle.game_board.proofs.Closing.{held_closes}
use Rattle.game_board.proofs.board.Board.hold.Goals as goal

pub invariant_of-self : goal.invariant_of-self
invariant_of-self g c =
    let i = c.self.inside in
    let t : Tally = record { added = i.added; spent = i.spent; large = i.large } in
    (held_closes g.D.Domain.SORT c.args.self.now i.halves c.set_reach.new.self t (vec_capacity i.history) (vec_capacity c.push_reserved.new.self) i.rounds i.history.items c.push_reserved.new.self.items i.won
    c.args.counter c.side-side.result c.into_paths-paths.result c.args.version c.self.view_is c.self.invariant c.into_paths-paths.ensures.kept c.requires.fresh c.requires.held c.side-side.ensures c.into_paths-paths.ensures.value
    c.set_reach.ensures c.push_reserved.ensures.items (let e = c.push_reserved.ensures.capacity in omega arith)).keeps

pub returns : goal.returns
returns g c =
    let i = c.self.inside in
    let t : Tally = record { added = i.added; spent = i.spent; large = i.large } in
    (held_closes g.D.Domain.SORT c.args.self.now i.halves c.set_reach.new.self t (vec_capacity i.history) (vec_capacity c.push_reserved.new.self) i.rounds i.history.items c.push_reserved.new.self.items i.won
    c.args.counter c.side-side.result c.into_paths-paths.result c.args.version c.self.view_is c.self.invariant c.into_paths-paths.ensures.kept c.requires.fresh c.requires.held c.side-side.ensures c.into_paths-paths.ensures.value
    c.set_reach.ensures c.push_reserved.ensures.items (let e = c.push_reserved.ensures.capacity in omega arith)).is

pub push_reserved-requires : goal.push_reserved-requires
push_reserved-requires g c =
    let i = c.self.inside in
    let t : Tally = record { added = i.added; spent = i.spent; large = i.large } in
    let k = opened g.D.Domain.SORT c.args.self.now i.halves t (vec_capacity i.history) i.rounds i.history.items i.won c.self.view_is c.self.invariant in
    let e = room_left g.D.Domain.SORT c.args.self.now i.halves t (vec_capacity i.history) (entry.Held c.args.counter.side c.args.version c.args.counter.paths) i.history.len i.history.items k c.requires.fresh.open_game
    (counters_version g.D.Domain.SORT c.args.self.now i.halves t (vec_capacity i.history) c.args.counter c.args.version k c.into_paths-paths.ensures.kept c.requires.fresh, c.requires.held) i.history.ok.0 (ap (λ b. b.history) c.self.view_is) in
    omega arith
