use Rattle.std.specs.Prelude.{length}
use Rattle.std.proofs.Common.{arith}
use Rattle.dom_core.proofs.Negations.{part_smaller}
use Rattle.game_play.proofs.Courses.{part_is, all_stops, all_ends, all_more, all_done, some_stops, some_ends, some_more, some_done}
use Rattle.game_play.proofs.holding.+holds.Goals as goal

pub all_hold-holds-requires : goal.all_hold-holds-requires
all_hold-holds-requires t c =
    let h = part_smaller c.args.parts.now c.loop-part.part-index c.part-item.result c.loop-part-test.true c.part-item.is in
    (omega arith, part_is c.args.parts.now (length c.args.values.now) c.loop-part.part-index c.part-item.result c.loop-part-test.true c.part-item.is c.requires)

pub some_holds-holds-requires : goal.some_holds-holds-requires
some_holds-holds-requires t c =
    let h = part_smaller c.args.parts.now c.loop-part.part-index c.part-item.result c.loop-part-test.true c.part-item.is in
    (omega arith, part_is c.args.parts.now (length c.args.values.now) c.loop-part.part-index c.part-item.result c.loop-part-test.true c.part-item.is c.requires)

pub all_hold-returns-in-Err : goal.all_hold-returns-in-Err
all_hold-returns-in-Err t c =
    all_stops c.args.parts.now c.args.values.now c.loop-part.part-index c.part-item.result c.in-Err.wide.number c.loop-part-test.true c.part-item.is c.loop-part.invariant c.in-Err.ensures

pub all_hold-returns-then-not-one : goal.all_hold-returns-then-not-one
all_hold-returns-then-not-one t c =
    all_ends c.args.parts.now c.args.values.now c.loop-part.part-index c.part-item.result c.in-Ok.one c.loop-part-test.true c.part-item.is c.loop-part.invariant c.if-not-one.true c.in-Ok.ensures

pub all_hold-loop-part-preserved : goal.all_hold-loop-part-preserved
all_hold-loop-part-preserved t c =
    all_more c.args.parts.now c.args.values.now c.loop-part.part-index c.part-item.result c.in-Ok.one c.loop-part-test.true c.part-item.is c.loop-part.invariant c.if-not-one.false c.in-Ok.ensures

pub all_hold-returns : goal.all_hold-returns
all_hold-returns t c = all_done c.args.parts.now c.args.values.now c.loop-part.part-index c.loop-part-test.false c.loop-part.invariant

pub some_holds-returns-in-Err : goal.some_holds-returns-in-Err
some_holds-returns-in-Err t c =
    some_stops c.args.parts.now c.args.values.now c.loop-part.part-index c.part-item.result c.in-Err.wide.number c.loop-part-test.true c.part-item.is c.loop-part.invariant c.in-Err.ensures

pub some_holds-returns-then-one : goal.some_holds-returns-then-one
some_holds-returns-then-one t c =
    some_ends c.args.parts.now c.args.values.now c.loop-part.part-index c.part-item.result c.in-Ok.one c.loop-part-test.true c.part-item.is c.loop-part.invariant c.if-one.true c.in-Ok.ensures

pub some_holds-loop-part-preserved : goal.some_holds-loop-part-preserved
some_holds-loop-part-preserved t c =
    some_more c.args.parts.now c.args.values.now c.loop-part.part-index c.part-item.result c.in-Ok.one c.loop-part-test.true c.part-item.is c.loop-part.invariant c.if-one.false c.in-Ok.ensures

pub some_holds-returns : goal.some_holds-returns
some_holds-returns t c = some_done c.args.parts.now c.args.values.now c.loop-part.part-index c.loop-part-test.false c.loop-part.invariant
