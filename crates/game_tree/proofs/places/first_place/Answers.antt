use Rattle.std.specs.Prelude.{get_or}
use Rattle.std.proofs.lemmas.List.{get_or_default}
use Rattle.game_tree.proofs.Placing.{found_place, other_place}
use Rattle.game_tree.proofs.places.first_place.Goals as goal

pub returns-then-is_same : goal.returns-then-is_same
returns-then-is_same c =
    let bs = c.args.branches.now in
    let i = c.loop-i.i in
    let d = c.index-branches-i.result in
    let b = get_or bs i d in
    record {
      value = found_place bs i b c.args.term.now c.is_same.result c.loop-i-test.true (get_or_default bs i d b c.loop-i-test.true) c.loop-i.invariant c.is_same.ensures.value c.if-is_same.true;
      within = c.loop-i-test.true;
    }

pub loop-i-preserved : goal.loop-i-preserved
loop-i-preserved c =
    let bs = c.args.branches.now in
    let i = c.loop-i.i in
    let d = c.index-branches-i.result in
    let b = get_or bs i d in
    other_place bs i b c.args.term.now c.is_same.result c.loop-i-test.true (get_or_default bs i d b c.loop-i-test.true) c.loop-i.invariant c.is_same.ensures.value c.if-is_same.false
