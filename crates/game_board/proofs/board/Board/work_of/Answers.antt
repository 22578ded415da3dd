use Rattle.std.specs.Prelude.{vec_capacity}
use Rattle.game_board.specs.Kept.{Tally}
use Rattle.game_board.proofs.Keeping.{opened}
use Rattle.std.proofs.Common.{ap, ◌∙◌, sym, subst}
use Rattle.game_board.specs.Half.{half_of}
use Rattle.dom_core.specs.Sides.{other}
use Rattle.game_board.specs.Board.{state_of}
use Rattle.game_board.specs.Replies.{IsNotedAlready}
use Rattle.game_history.specs.Legal.{IsAbove}
use Rattle.game_board.proofs.Asking.{refuted}
use Rattle.game_board.proofs.Working.{stale_no_work, noted_no_work, some_work}
use Rattle.game_board.proofs.Read.{number_found, noted_found, reach_found}
use Rattle.game_board.proofs.board.Board.work_of.Goals as goal

pub returns-in-Some : goal.returns-in-Some
returns-in-Some g c =
    let i = c.self.inside in
    let t : Tally = record { added = i.added; spent = i.spent; large = i.large } in
    let s = g.D.Domain.SORT in
    let b = c.args.self.now in
    let room = vec_capacity i.history in
    let k = opened s b i.halves t room i.rounds i.history.items i.won c.self.view_is c.self.invariant in
    let x = c.of-rival.ensures ∙ ap (λ a. half_of a i.halves) c.other.ensures in
    let e = number_found s b i.halves t room (other c.args.side) c.of-rival.result.now c.newest_number-newest.result k x c.newest_number-newest.ensures in
    stale_no_work c.args.side (state_of s b) c.newest_number-newest.result c.in-Some._reach e (sym (reach_found s b i.halves t room c.args.side c.of.result.now k c.of.ensures) ∙ c.in-Some.ensures.0) c.in-Some.ensures.1

pub returns-then-is_noted : goal.returns-then-is_noted
returns-then-is_noted g c =
    let i = c.self.inside in
    let t : Tally = record { added = i.added; spent = i.spent; large = i.large } in
    let s = g.D.Domain.SORT in
    let b = c.args.self.now in
    let room = vec_capacity i.history in
    let k = opened s b i.halves t room i.rounds i.history.items i.won c.self.view_is c.self.invariant in
    let x = c.of-rival.ensures ∙ ap (λ a. half_of a i.halves) c.other.ensures in
    let e = number_found s b i.halves t room (other c.args.side) c.of-rival.result.now c.newest_number-newest.result k x c.newest_number-newest.ensures in
    noted_no_work c.args.side (state_of s b) c.newest_number-newest.result e ((noted_found s b i.halves t room (other c.args.side) c.of-rival.result.now c.newest_number-newest.result c.is_noted.result k x c.is_noted.ensures).0 c.if-is_noted.true)

pub returns : goal.returns
returns g c =
    let i = c.self.inside in
    let t : Tally = record { added = i.added; spent = i.spent; large = i.large } in
    let s = g.D.Domain.SORT in
    let b = c.args.self.now in
    let room = vec_capacity i.history in
    let k = opened s b i.halves t room i.rounds i.history.items i.won c.self.view_is c.self.invariant in
    let x = c.of-rival.ensures ∙ ap (λ a. half_of a i.halves) c.other.ensures in
    let v = c.newest_number-newest.result in
    let e = number_found s b i.halves t room (other c.args.side) c.of-rival.result.now v k x c.newest_number-newest.ensures in
    let n = refuted c.is_noted.result (IsNotedAlready s b (other c.args.side) v) (noted_found s b i.halves t room (other c.args.side) c.of-rival.result.now v c.is_noted.result k x c.is_noted.ensures) c.if-is_noted.false in
    (some_work c.args.side (state_of s b) v c.requires e (subst (λ r. IsAbove v r) (reach_found s b i.halves t room c.args.side c.of.result.now k c.of.ensures) c.in_default.ensures) n, e)
