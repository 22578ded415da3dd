use Rattle.std.specs.Prelude.{vec_capacity}
use Rattle.game_board.specs.Kept.{Tally}
use Rattle.game_board.proofs.Keeping.{opened}
use Rattle.std.proofs.Common.{◌∙◌, sym, inl, inr}
use Rattle.game_board.proofs.Read.{wished, not_wished, no_other_work}
use Rattle.game_board.proofs.Played.{blocked}
use Rattle.game_board.proofs.board.Board.next.Goals as goal

pub returns-then-is_over-clause-job : goal.returns-then-is_over-clause-job
returns-then-is_over-clause-job g c =
    sym c.is_over.ensures ∙ c.if-is_over.true

pub returns-in-Some-clause-job : goal.returns-in-Some-clause-job
returns-in-Some-clause-job g c =
    inl (wished g.D.Domain.SORT c.args.self.now c.args.wish c.other.result c.in-Some.version c.other.ensures c.in-Some.ensures.0 c.in-Some.ensures.1)

pub returns-in-Some-work_of-clause-job : goal.returns-in-Some-work_of-clause-job
returns-in-Some-work_of-clause-job g c =
    inr (c.in_default.ensures, not_wished g.D.Domain.SORT c.args.self.now c.args.wish c.other-2.result c.in-Some-work_of.version c.other-2.ensures c.in-Some-work_of.ensures.0 c.in-Some-work_of.ensures.1)

pub work_of-requires : goal.work_of-requires
work_of-requires g c =
    (sym c.is_over.ensures ∙ c.if-is_over.false)

pub work_of-requires-2 : goal.work_of-requires-2
work_of-requires-2 g c =
    (sym c.is_over.ensures ∙ c.if-is_over.false)

pub returns-clause-job : goal.returns-clause-job
returns-clause-job g c =
    ((sym c.is_over.ensures ∙ c.if-is_over.false), c.in_default.ensures, no_other_work g.D.Domain.SORT c.args.self.now c.args.wish c.other-2.result c.other-2.ensures c.in_default-work_of.ensures)

pub returns-clause-blocked : goal.returns-clause-blocked
returns-clause-blocked g c =
    let i = c.self.inside in
    let t : Tally = record { added = i.added; spent = i.spent; large = i.large } in
    let s = g.D.Domain.SORT in
    let b = c.args.self.now in
    let room = vec_capacity i.history in
    let k = opened s b i.halves t room i.rounds i.history.items i.won c.self.view_is c.self.invariant in
    λ _. blocked s b i.halves t room c.args.wish k (sym c.is_over.ensures ∙ c.if-is_over.false) c.in_default.ensures (no_other_work s b c.args.wish c.other-2.result c.other-2.ensures c.in_default-work_of.ensures)
