use Rattle.std.specs.Prelude.{vec_capacity}
use Rattle.game_board.specs.Kept.{Tally}
use Rattle.game_board.proofs.Keeping.{opened}
use Rattle.std.proofs.Common.{ap, ◌∙◌, sym, refl}
use Rattle.std.proofs.Common.{subst}
use Rattle.game_board.specs.Half.{half_of}
use Rattle.game_history.specs.Legal.{IsAbove}
use Rattle.game_board.specs.Replies.{AttacksVersion}
use Rattle.game_board.proofs.Asking.{refuted, reach_is}
use Rattle.game_board.proofs.board.Board.placed.Goals as goal

pub returns-then-is_over-clause-published : goal.returns-then-is_over-clause-published
returns-then-is_over-clause-published g c =
    (sym c.is_over.ensures ∙ c.if-is_over.true, refl)

pub returns-then-not-is_attack-clause-published : goal.returns-then-not-is_attack-clause-published
returns-then-not-is_attack-clause-published g c =
    (sym c.is_over.ensures ∙ c.if-is_over.false, refuted c.is_attack.result (AttacksVersion g.D.Domain.SORT c.args.self.now c.args.counter c.args.version) c.is_attack.ensures c.if-not-is_attack.true, refl)

pub returns-in-Some-clause-published : goal.returns-in-Some-clause-published
returns-in-Some-clause-published g c =
    let i = c.self.inside in
    let t : Tally = record { added = i.added; spent = i.spent; large = i.large } in
    let s = g.D.Domain.SORT in
    let b = c.args.self.now in
    let room = vec_capacity i.history in
    let k = opened s b i.halves t room i.rounds i.history.items i.won c.self.view_is c.self.invariant in
    (sym c.is_over.ensures ∙ c.if-is_over.false, c.is_attack.ensures.0 c.if-not-is_attack.false, sym (ap (λ h. h.reach) (c.of.ensures ∙ ap (λ a. half_of a i.halves) c.side.ensures) ∙ reach_is s b i.halves t room c.args.counter.side k) ∙ c.in-Some.ensures.0, c.in-Some.ensures.1, refl)

pub place-requires : goal.place-requires
place-requires g c =
    let i = c.self.inside in
    let t : Tally = record { added = i.added; spent = i.spent; large = i.large } in
    let s = g.D.Domain.SORT in
    let b = c.args.self.now in
    let room = vec_capacity i.history in
    let k = opened s b i.halves t room i.rounds i.history.items i.won c.self.view_is c.self.invariant in
    let e = ap (λ h. h.reach) (c.of.ensures ∙ ap (λ a. half_of a i.halves) c.side.ensures) ∙ reach_is s b i.halves t room c.args.counter.side k in
    record { open_game = sym c.is_over.ensures ∙ c.if-is_over.false; attacks = c.is_attack.ensures.0 c.if-not-is_attack.false; above = subst (λ r. IsAbove c.args.version r) e c.in_default.ensures }
