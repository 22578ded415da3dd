use Rattle.std.specs.Prelude.{false, None, List, vec_capacity}
use Rattle.std.proofs.Common.{arith, ap, ◌∙◌, sym, subst, refl}
use Rattle.dom_core.specs.Problem.{problem_of}
use Rattle.game_board.specs.declared.entry.Entry.{Entry}
use Rattle.game_board.specs.declared.halves.Halves.{Halves}
use Rattle.game_board.specs.Kept.{Tally, IsBoard, board_of}
use Rattle.game_board.proofs.Keeping.{started}
use Rattle.game_board.proofs.board.Board.begin.Goals as goal

pub invariant_of-result : goal.invariant_of-result
invariant_of-result g c =
    let s = g.D.Domain.SORT in
    let p : Halves g.row.D.Denot = record { exists = c.in_ok-exists.exists; forall = c.in_ok-forall.forall } in
    let t : Tally = record { added = 0; spent = false; large = false } in
    let room = vec_capacity c.in_ok-history.history in
    let h = c.in_ok-history.ensures in
    let e = h.exact in
    subst (λ (xs : List (Entry g.row.D.Denot)). IsBoard s (board_of p c.args.rounds xs None) p t room) (sym h.items)
    (started s c.args.problem c.in_ok-contrary.contrary p c.args.rounds room c.matrix-kept.ensures.kept c.in_ok-contrary.ensures.value c.requires c.in_ok-exists.ensures.problem c.in_ok-forall.ensures.problem
    c.in_ok-exists.ensures.half c.in_ok-forall.ensures.half c.in_ok-exists.ensures.table c.in_ok-forall.ensures.table (omega arith))

pub returns : goal.returns
returns g c = record {
  problem = c.in_ok-exists.ensures.problem;
  dual_is = ap problem_of c.in_ok-forall.ensures.problem ∙ c.in_ok-contrary.ensures.value;
  rounds_are = refl;
  history = c.in_ok-history.ensures.items;
  won = refl;
}
