use Rattle.std.specs.Prelude.{List, [], ◌∷◌, ◌++◌, length, ℕ}
use Rattle.std.proofs.Common.{arith, ap, ◌∙◌, sym, take}
use Rattle.lin_term.specs.Move.{Move}
use Rattle.game_tree.specs.Gather.{place, all_moves, homes_from, with_new_move, moves_of}
use Rattle.game_tree.proofs.Gathers.{homes_push, moves_push}
use Rattle.game_tree.proofs.Placing.{moves_more, with_length}
use Rattle.game_tree.proofs.places.homes.Goals as goal

pub loop-other-preserved : goal.loop-other-preserved
loop-other-preserved c =
    let bs = c.args.others.now in
    let i = c.loop-other.other-index in
    let b = c.other-item.result in
    let own = moves_of c.args.branches.now in
    let us = moves_of (take i bs) in
    let ms = all_moves own us in
    let inv = c.loop-other.invariant in
    let w = c.in_ok-home.ensures ms inv.0 inv.1 in
    let g = c.groups_then-count.ensures ms b.term inv.1 w.0 in
    let more = moves_more bs i b c.loop-other-test.true c.other-item.is in
    let e = ap (λ (xs : List Move). all_moves own xs) more ∙ moves_push own us b.term in
    let n = with_length ms b.term in
    let below = inv.2 in (
      λ k. w.1 k ∙ ap (λ (xs : List Move). place k.term.now xs) (sym e),
      g ∙ ap (λ (xs : List Move). length xs) (sym e),
      omega (arith, g, n, below, inv.1),
      c.in_ok-push.ensures.items ∙ ap (λ (xs : List ℕ). xs ++ c.in_ok-home.home ∷ []) inv.3 ∙ ap (λ (h : ℕ). homes_from own us ++ h ∷ []) w.0
          ∙ sym (homes_push own us b.term) ∙ ap (λ (xs : List Move). homes_from own xs) (sym more),
    )
