use Rattle.std.specs.Prelude.{vec_capacity}
use Rattle.game_board.specs.Kept.{Tally}
use Rattle.game_board.proofs.Keeping.{opened}
use Rattle.game_board.proofs.Asking.{other_game}
use Rattle.game_board.proofs.Asked.{win_differs, win_same, win_found}
use Rattle.game_board.proofs.board.Board.is_win.Goals as goal

pub returns-then-not-is_same-clause-value : goal.returns-then-not-is_same-clause-value
returns-then-not-is_same-clause-value g c =
    let i = c.self.inside in
    let t : Tally = record { added = i.added; spent = i.spent; large = i.large } in
    let s = g.D.Domain.SORT in
    let b = c.args.self.now in
    let room = vec_capacity i.history in
    let k = opened s b i.halves t room i.rounds i.history.items i.won c.self.view_is c.self.invariant in
    other_game s b c.args.won.now c.args.side c.args.version (win_differs s b i.halves t room c.args.won.now c.args.side c.of.result.now c.problem.result.now c.is_same.result k c.of.ensures c.problem.ensures.value c.is_same.ensures c.if-not-is_same.true)

pub returns-then-not-is_same-clause-dual : goal.returns-then-not-is_same-clause-dual
returns-then-not-is_same-clause-dual g c =
    let i = c.self.inside in
    let t : Tally = record { added = i.added; spent = i.spent; large = i.large } in
    let s = g.D.Domain.SORT in
    let b = c.args.self.now in
    let room = vec_capacity i.history in
    let k = opened s b i.halves t room i.rounds i.history.items i.won c.self.view_is c.self.invariant in
    k.dual_is

pub returns-clause-value : goal.returns-clause-value
returns-clause-value g c =
    let i = c.self.inside in
    let t : Tally = record { added = i.added; spent = i.spent; large = i.large } in
    let s = g.D.Domain.SORT in
    let b = c.args.self.now in
    let room = vec_capacity i.history in
    let k = opened s b i.halves t room i.rounds i.history.items i.won c.self.view_is c.self.invariant in
    let e = win_same s b i.halves t room c.args.won.now c.args.side c.of.result.now c.problem.result.now c.is_same.result k c.of.ensures c.problem.ensures.value c.is_same.ensures c.if-not-is_same.false in
    win_found s b i.halves t room c.args.won.now c.args.side c.args.version c.is_version.result c.of-2.result.now c.skeleton.result k e c.of-2.ensures c.skeleton.ensures.value c.is_version.ensures

pub returns-clause-dual : goal.returns-clause-dual
returns-clause-dual g c =
    let i = c.self.inside in
    let t : Tally = record { added = i.added; spent = i.spent; large = i.large } in
    let s = g.D.Domain.SORT in
    let b = c.args.self.now in
    let room = vec_capacity i.history in
    let k = opened s b i.halves t room i.rounds i.history.items i.won c.self.view_is c.self.invariant in
    k.dual_is
