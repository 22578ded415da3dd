use Rattle.std.specs.Prelude.{get_or}
use Rattle.std.proofs.lemmas.List.{get_or_default}
use Rattle.grown_tree.proofs.Marking.{found_mark, other_mark}
use Rattle.grown_tree.proofs.marks.first_place.Goals as goal

pub returns-then-is_same-clause-value : goal.returns-then-is_same-clause-value
returns-then-is_same-clause-value c =
    let ms = c.args.marks.now in
    let i = c.loop-i.i in
    let d = c.index-marks-i.result in
    let k = get_or ms i d in
    found_mark ms i k c.args.term.now c.is_same.result c.loop-i-test.true (get_or_default ms i d k c.loop-i-test.true) c.loop-i.invariant c.is_same.ensures.value c.if-is_same.true

pub loop-i-preserved : goal.loop-i-preserved
loop-i-preserved c =
    let ms = c.args.marks.now in
    let i = c.loop-i.i in
    let d = c.index-marks-i.result in
    let k = get_or ms i d in
    other_mark ms i k c.args.term.now c.is_same.result c.loop-i-test.true (get_or_default ms i d k c.loop-i-test.true) c.loop-i.invariant c.is_same.ensures.value c.if-is_same.false
