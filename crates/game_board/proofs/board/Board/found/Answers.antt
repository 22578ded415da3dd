use Rattle.std.specs.Prelude.{vec_capacity}
use Rattle.game_board.specs.Kept.{Tally}
use Rattle.game_board.proofs.Keeping.{opened}
use Rattle.std.proofs.Common.{ap, ◌∙◌, sym, refl}
use Rattle.game_board.specs.Board.{with_verdict}
use Rattle.game_board.specs.declared.entry.Entry.TheVariants as entry
use Rattle.game_board.proofs.Asked.{win_differs, win_same}
use Rattle.game_board.proofs.Verdicts.{copy_ends}
use Rattle.game_board.proofs.board.Board.found.Goals as goal

pub end-requires : goal.end-requires
end-requires g c =
    let i = c.self.inside in
    let t : Tally = record { added = i.added; spent = i.spent; large = i.large } in
    let s = g.D.Domain.SORT in
    let b = c.args.self.now in
    let room = vec_capacity i.history in
    let k = opened s b i.halves t room i.rounds i.history.items i.won c.self.view_is c.self.invariant in
    copy_ends s b c.args.won c.args.side c.in_ok-tree.tree k.dual_is (sym c.is_over.ensures ∙ c.if-is_over.false) (win_same s b i.halves t room c.args.won c.args.side c.of.result.now c.problem.result.now c.is_same.result k c.of.ensures c.problem.ensures.value c.is_same.ensures c.if-not-is_same.false) c.skeleton.ensures.kept c.skeleton.ensures.lost (sym (c.in_ok-tree.ensures ∙ c.skeleton.ensures.value))

pub returns-then-is_over-clause-found : goal.returns-then-is_over-clause-found
returns-then-is_over-clause-found g c =
    (sym c.is_over.ensures ∙ c.if-is_over.true, refl)

pub returns-then-not-is_same-clause-found : goal.returns-then-not-is_same-clause-found
returns-then-not-is_same-clause-found g c =
    let i = c.self.inside in
    let t : Tally = record { added = i.added; spent = i.spent; large = i.large } in
    let s = g.D.Domain.SORT in
    let b = c.args.self.now in
    let room = vec_capacity i.history in
    let k = opened s b i.halves t room i.rounds i.history.items i.won c.self.view_is c.self.invariant in
    (sym c.is_over.ensures ∙ c.if-is_over.false, win_differs s b i.halves t room c.args.won c.args.side c.of.result.now c.problem.result.now c.is_same.result k c.of.ensures c.problem.ensures.value c.is_same.ensures c.if-not-is_same.true, refl)

pub returns-clause-found : goal.returns-clause-found
returns-clause-found g c =
    let i = c.self.inside in
    let t : Tally = record { added = i.added; spent = i.spent; large = i.large } in
    let s = g.D.Domain.SORT in
    let b = c.args.self.now in
    let room = vec_capacity i.history in
    let k = opened s b i.halves t room i.rounds i.history.items i.won c.self.view_is c.self.invariant in
    (sym c.is_over.ensures ∙ c.if-is_over.false, win_same s b i.halves t room c.args.won c.args.side c.of.result.now c.problem.result.now c.is_same.result k c.of.ensures c.problem.ensures.value c.is_same.ensures c.if-not-is_same.false, c.end.ensures ∙ ap (λ S. with_verdict b (entry.Found c.args.side S) c.args.won) (c.in_ok-tree.ensures ∙ c.skeleton.ensures.value))
