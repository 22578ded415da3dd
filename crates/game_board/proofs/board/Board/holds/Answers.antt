use Rattle.std.specs.Prelude.{vec_capacity}
use Rattle.game_board.specs.Kept.{Tally}
use Rattle.game_board.proofs.Keeping.{opened}
use Rattle.std.proofs.Common.{ap, ◌∙◌}
use Rattle.game_board.specs.Half.{half_of}
use Rattle.game_board.proofs.Asking.{news_of}
use Rattle.game_board.proofs.Asked.{paths_found}
use Rattle.game_tree.specs.View.{skeleton_of}
use Rattle.game_history.specs.History.{of_side}
use Rattle.game_board.specs.Board.{state_of}
use Rattle.game_board.proofs.board.Board.holds.Goals as goal

pub returns-clause-held : goal.returns-clause-held
returns-clause-held g c =
    let i = c.self.inside in
    let t : Tally = record { added = i.added; spent = i.spent; large = i.large } in
    let s = g.D.Domain.SORT in
    let b = c.args.self.now in
    let room = vec_capacity i.history in
    let k = opened s b i.halves t room i.rounds i.history.items i.won c.self.view_is c.self.invariant in
    λ e. (paths_found s b i.halves t room c.args.counter.now c.holds.result c.of.result.now c.paths.result.now k (c.of.ensures ∙ ap (λ a. half_of a i.halves) c.side.ensures) c.paths.ensures.value c.holds.ensures).0 e

pub returns-clause-news : goal.returns-clause-news
returns-clause-news g c =
    let i = c.self.inside in
    let t : Tally = record { added = i.added; spent = i.spent; large = i.large } in
    let s = g.D.Domain.SORT in
    let b = c.args.self.now in
    let room = vec_capacity i.history in
    let k = opened s b i.halves t room i.rounds i.history.items i.won c.self.view_is c.self.invariant in
    λ e. news_of (skeleton_of c.args.counter.now.paths.tree) (of_side c.args.counter.now.side (state_of s b)).newest c.holds.result (paths_found s b i.halves t room c.args.counter.now c.holds.result c.of.result.now c.paths.result.now k (c.of.ensures ∙ ap (λ a. half_of a i.halves) c.side.ensures) c.paths.ensures.value c.holds.ensures) e
