use Rattle.std.specs.Prelude.{vec_capacity}
use Rattle.game_board.specs.Kept.{Tally}
use Rattle.game_board.proofs.Keeping.{opened}
use Rattle.std.proofs.Common.{◌∙◌, sym, refl, inl, inr}
use Rattle.game_board.specs.Replies.{IsOnVersion, IsNotedAlready}
use Rattle.game_board.proofs.Asking.{refuted}
use Rattle.game_board.proofs.Read.{noted_found}
use Rattle.game_board.proofs.board.Board.note.Goals as goal

pub returns-then-is_over-clause-noted : goal.returns-then-is_over-clause-noted
returns-then-is_over-clause-noted g c =
    (sym c.is_over.ensures ∙ c.if-is_over.true, refl)

pub returns-then-not-on_version-clause-noted : goal.returns-then-not-on_version-clause-noted
returns-then-not-on_version-clause-noted g c =
    ((sym c.is_over.ensures ∙ c.if-is_over.false), refuted c.in_ok-on_version.on_version (IsOnVersion g.D.Domain.SORT c.args.self.now c.args.note c.args.version) c.in_ok-on_version.ensures c.if-not-on_version.true, refl)

pub returns-then-is_noted-clause-noted : goal.returns-then-is_noted-clause-noted
returns-then-is_noted-clause-noted g c =
    let i = c.self.inside in
    let t : Tally = record { added = i.added; spent = i.spent; large = i.large } in
    let s = g.D.Domain.SORT in
    let b = c.args.self.now in
    let room = vec_capacity i.history in
    let k = opened s b i.halves t room i.rounds i.history.items i.won c.self.view_is c.self.invariant in
    ((sym c.is_over.ensures ∙ c.if-is_over.false), c.in_ok-on_version.ensures.0 c.if-not-on_version.false, inl ((noted_found s b i.halves t room c.args.note.side c.of.result.now c.args.version c.is_noted.result k c.of.ensures c.is_noted.ensures).0 c.if-is_noted.true, refl))

pub add_note-requires : goal.add_note-requires
add_note-requires g c =
    let i = c.self.inside in
    let t : Tally = record { added = i.added; spent = i.spent; large = i.large } in
    let s = g.D.Domain.SORT in
    let b = c.args.self.now in
    let room = vec_capacity i.history in
    let k = opened s b i.halves t room i.rounds i.history.items i.won c.self.view_is c.self.invariant in
    record { playing = (sym c.is_over.ensures ∙ c.if-is_over.false); on = c.in_ok-on_version.ensures.0 c.if-not-on_version.false; wide = c.number-wide.ensures.wide; first = refuted c.is_noted.result (IsNotedAlready s b c.args.note.side c.args.version) (noted_found s b i.halves t room c.args.note.side c.of.result.now c.args.version c.is_noted.result k c.of.ensures c.is_noted.ensures) c.if-is_noted.false }

pub returns-clause-noted : goal.returns-clause-noted
returns-clause-noted g c =
    let i = c.self.inside in
    let t : Tally = record { added = i.added; spent = i.spent; large = i.large } in
    let s = g.D.Domain.SORT in
    let b = c.args.self.now in
    let room = vec_capacity i.history in
    let k = opened s b i.halves t room i.rounds i.history.items i.won c.self.view_is c.self.invariant in
    ((sym c.is_over.ensures ∙ c.if-is_over.false), c.in_ok-on_version.ensures.0 c.if-not-on_version.false, inr (refuted c.is_noted.result (IsNotedAlready s b c.args.note.side c.args.version) (noted_found s b i.halves t room c.args.note.side c.of.result.now c.args.version c.is_noted.result k c.of.ensures c.is_noted.ensures) c.if-is_noted.false, c.add_note.ensures))
