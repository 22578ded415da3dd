use Rattle.std.specs.Prelude.{vec_capacity, Bool, if◌then◌else◌}
use Rattle.std.proofs.Common.{arith, ap, ◌∙◌, sym}
use Rattle.game_board.specs.declared.entry.Entry.TheVariants as entry
use Rattle.game_board.specs.Board.{with_entry}
use Rattle.game_board.specs.Kept.{Tally}
use Rattle.game_board.proofs.Keeping.{opened, room_left}
use Rattle.game_board.proofs.Fitting.{counters_version}
use Rattle.game_board.proofs.Closing.{large_closes}
use Rattle.game_board.proofs.board.Board.outgrow.Goals as goal

pub invariant_of-self : goal.invariant_of-self
invariant_of-self g c =
    let i = c.self.inside in
    let t : Tally = record { added = i.added; spent = i.spent; large = i.large } in
    (large_closes g.D.Domain.SORT c.args.self.now i.halves t (vec_capacity i.history) (vec_capacity c.push_reserved.new.self) i.rounds i.history.items c.push_reserved.new.self.items i.won
    c.args.counter c.side-side.result c.into_paths-paths.result c.args.version c.args.nodes c.self.view_is c.self.invariant c.into_paths-paths.ensures.kept c.requires.fresh c.requires.news c.requires.left c.requires.joint c.requires.large c.if-self.false
    c.side-side.ensures c.into_paths-paths.ensures.value c.push_reserved.ensures.items (let e = c.push_reserved.ensures.capacity in omega arith)).keeps

pub returns : goal.returns
returns g c =
    let i = c.self.inside in
    let t : Tally = record { added = i.added; spent = i.spent; large = i.large } in
    let k = opened g.D.Domain.SORT c.args.self.now i.halves t (vec_capacity i.history) i.rounds i.history.items i.won c.self.view_is c.self.invariant in
    (large_closes g.D.Domain.SORT c.args.self.now i.halves t (vec_capacity i.history) (vec_capacity c.push_reserved.new.self) i.rounds i.history.items c.push_reserved.new.self.items i.won
    c.args.counter c.side-side.result c.into_paths-paths.result c.args.version c.args.nodes c.self.view_is c.self.invariant c.into_paths-paths.ensures.kept c.requires.fresh c.requires.news c.requires.left c.requires.joint c.requires.large c.if-self.false
    c.side-side.ensures c.into_paths-paths.ensures.value c.push_reserved.ensures.items (let e = c.push_reserved.ensures.capacity in omega arith)).is ∙ sym (ap (λ (x : Bool). if x then c.args.self.now else with_entry c.args.self.now (entry.TooLarge c.args.counter.side c.args.version c.args.counter.paths c.args.nodes)) (k.matches.large ∙ c.if-self.false))

pub push_reserved-requires : goal.push_reserved-requires
push_reserved-requires g c =
    let i = c.self.inside in
    let t : Tally = record { added = i.added; spent = i.spent; large = i.large } in
    let k = opened g.D.Domain.SORT c.args.self.now i.halves t (vec_capacity i.history) i.rounds i.history.items i.won c.self.view_is c.self.invariant in
    let e = room_left g.D.Domain.SORT c.args.self.now i.halves t (vec_capacity i.history) (entry.TooLarge c.args.counter.side c.args.version c.args.counter.paths c.args.nodes) i.history.len i.history.items k c.requires.fresh.open_game
    (counters_version g.D.Domain.SORT c.args.self.now i.halves t (vec_capacity i.history) c.args.counter c.args.version k c.into_paths-paths.ensures.kept c.requires.fresh, c.requires.news, c.requires.left, c.requires.joint, c.requires.large, k.matches.large ∙ c.if-self.false) i.history.ok.0 (ap (λ b. b.history) c.self.view_is) in
    omega arith
