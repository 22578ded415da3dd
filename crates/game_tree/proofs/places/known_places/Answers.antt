use Rattle.std.specs.Prelude.{get_or}
use Rattle.std.proofs.Common.{arith, ap, ◌∙◌, sym, take}
use Rattle.std.proofs.lemmas.List.{get_or_default}
use Rattle.game_tree.specs.Gather.{place, moves_of}
use Rattle.game_tree.proofs.Placing.{knows_more, moves_count, moves_more}
use Rattle.game_tree.proofs.places.known_places.Goals as goal

pub loop-i-preserved : goal.loop-i-preserved
loop-i-preserved c =
    let bs = c.args.branches.now in
    let i = c.loop-i.i in
    let d = c.index-branches-i.result in
    let b = get_or bs i d in
    let l = c.loop-i-test.true in
    let w = c.in_ok-_place.ensures (moves_of (take i bs)) c.loop-i.invariant (moves_count bs i (omega (arith, l))) in
    λ k. knows_more c.place_or.new.known (moves_of (take i bs)) b.term w.1 k ∙ ap (λ ms. place k.term.now ms) (sym (moves_more bs i b l (get_or_default bs i d b l)))
