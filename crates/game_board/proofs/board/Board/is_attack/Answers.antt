use Rattle.std.specs.Prelude.{vec_capacity}
use Rattle.game_board.specs.Kept.{Tally}
use Rattle.game_board.proofs.Keeping.{opened}
use Rattle.std.proofs.Common.{ap, ◌∙◌}
use Rattle.game_board.specs.Half.{half_of}
use Rattle.dom_core.specs.Sides.{other}
use Rattle.game_board.proofs.Asked.{attack_differs, attack_same, attack_found}
use Rattle.game_board.proofs.board.Board.is_attack.Goals as goal

pub returns-then-not-is_same : goal.returns-then-not-is_same
returns-then-not-is_same g c =
    let i = c.self.inside in
    let t : Tally = record { added = i.added; spent = i.spent; large = i.large } in
    let s = g.D.Domain.SORT in
    let b = c.args.self.now in
    let room = vec_capacity i.history in
    let k = opened s b i.halves t room i.rounds i.history.items i.won c.self.view_is c.self.invariant in
    attack_differs s b i.halves t room c.args.counter.now c.args.version c.side-side.result c.of.result.now c.problem.result.now c.is_same.result k c.side-side.ensures c.of.ensures c.problem.ensures c.is_same.ensures c.if-not-is_same.true

pub returns : goal.returns
returns g c =
    let i = c.self.inside in
    let t : Tally = record { added = i.added; spent = i.spent; large = i.large } in
    let s = g.D.Domain.SORT in
    let b = c.args.self.now in
    let room = vec_capacity i.history in
    let k = opened s b i.halves t room i.rounds i.history.items i.won c.self.view_is c.self.invariant in
    let e = attack_same s b i.halves t room c.args.counter.now c.side-side.result c.of.result.now c.problem.result.now c.is_same.result k c.side-side.ensures c.of.ensures c.problem.ensures c.is_same.ensures c.if-not-is_same.false in
    attack_found s b i.halves t room c.args.counter.now c.args.version c.is_version.result c.of-2.result.now c.lend.result k e (c.of-2.ensures ∙ ap (λ a. half_of a i.halves) (c.other.ensures ∙ ap other c.side-side.ensures)) (c.lend.ensures ∙ c.against.ensures) c.is_version.ensures
