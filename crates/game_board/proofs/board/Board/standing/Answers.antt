use Rattle.std.specs.Prelude.{vec_capacity}
use Rattle.game_board.specs.Kept.{Tally}
use Rattle.game_board.proofs.Keeping.{opened}
use Rattle.std.proofs.Common.{ap, refl, arith}
use Rattle.std.specs.Prelude.{length}
use Rattle.game_board.specs.Board.{WrittenBoard}
use Rattle.dom_core.specs.declared.Side.TheVariants.{Exists, Forall}
use Rattle.game_board.proofs.Read.{number_found, reach_found}
use Rattle.game_board.proofs.Played.{short_history}
use Rattle.game_board.proofs.board.Board.standing.Goals as goal

pub overflow_cast-result : goal.overflow_cast-result
overflow_cast-result g c =
    let i = c.self.inside in
    let t : Tally = record { added = i.added; spent = i.spent; large = i.large } in
    let s = g.D.Domain.SORT in
    let b = c.args.self.now in
    let room = vec_capacity i.history in
    let k = opened s b i.halves t room i.rounds i.history.items i.won c.self.view_is c.self.invariant in
    let n = short_history s b i.halves t room k in let f = k.few in let e = ap (λ (x : WrittenBoard g.row.D.Denot). length x.history) c.self.view_is in let l = i.history.ok.0 in let m = c.len.ensures in omega arith

pub returns-clause-exists : goal.returns-clause-exists
returns-clause-exists g c =
    let i = c.self.inside in
    let t : Tally = record { added = i.added; spent = i.spent; large = i.large } in
    let s = g.D.Domain.SORT in
    let b = c.args.self.now in
    let room = vec_capacity i.history in
    let k = opened s b i.halves t room i.rounds i.history.items i.won c.self.view_is c.self.invariant in
    number_found s b i.halves t room Exists i.halves.exists c.newest_number.result k refl c.newest_number.ensures

pub returns-clause-forall : goal.returns-clause-forall
returns-clause-forall g c =
    let i = c.self.inside in
    let t : Tally = record { added = i.added; spent = i.spent; large = i.large } in
    let s = g.D.Domain.SORT in
    let b = c.args.self.now in
    let room = vec_capacity i.history in
    let k = opened s b i.halves t room i.rounds i.history.items i.won c.self.view_is c.self.invariant in
    number_found s b i.halves t room Forall i.halves.forall c.newest_number-2.result k refl c.newest_number-2.ensures

pub returns-clause-reach_exists : goal.returns-clause-reach_exists
returns-clause-reach_exists g c =
    let i = c.self.inside in
    let t : Tally = record { added = i.added; spent = i.spent; large = i.large } in
    let s = g.D.Domain.SORT in
    let b = c.args.self.now in
    let room = vec_capacity i.history in
    let k = opened s b i.halves t room i.rounds i.history.items i.won c.self.view_is c.self.invariant in
    reach_found s b i.halves t room Exists i.halves.exists k refl

pub returns-clause-reach_forall : goal.returns-clause-reach_forall
returns-clause-reach_forall g c =
    let i = c.self.inside in
    let t : Tally = record { added = i.added; spent = i.spent; large = i.large } in
    let s = g.D.Domain.SORT in
    let b = c.args.self.now in
    let room = vec_capacity i.history in
    let k = opened s b i.halves t room i.rounds i.history.items i.won c.self.view_is c.self.invariant in
    reach_found s b i.halves t room Forall i.halves.forall k refl
