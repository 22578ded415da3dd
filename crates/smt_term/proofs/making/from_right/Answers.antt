use Rattle.std.proofs.Common.{◌≡◌, ◌<◌, ◌+◌, ◌-◌, length, get_or, arith}
use Rattle.smt_term.proofs.MakingLemmas.{no_seen, same_at, AreIn-at, Extends-length, right_begins, right_goes}
use Rattle.smt_term.proofs.making.from_right.Goals as goal

pub loop-first-init : goal.loop-first-init
loop-first-init c =
    let last = length c.args.args.now - 1 in
    let lt : last < length c.args.args.now = omega (arith, c.requires.some) in
    let x = get_or c.args.args.now last no_seen in
    right_begins c.args.table.now c.args.op c.args.args.now last x c.requires.args (omega (arith, c.requires.some)) (same_at c.args.args.now last no_seen x lt)

pub added-requires : goal.added-requires
added-requires c =
    let lt : c.loop-first.first - 1 < length c.args.args.now = omega (arith, c.loop-first.invariant.some) in (
      omega (arith, AreIn-at (length c.args.table.now) c.args.args.now (c.loop-first.first - 1) no_seen c.requires.args lt, Extends-length c.args.table.now c.loop-first.table c.loop-first.invariant.extends),
      c.loop-first.invariant.within,
    )

pub loop-first-preserved : goal.loop-first-preserved
loop-first-preserved c =
    let before = c.loop-first.first - 1 in
    let lt : before < length c.args.args.now = omega (arith, c.loop-first.invariant.some) in
    let step : before + 1 ≡ c.loop-first.first = omega (arith, c.loop-first-test.true) in
    let x = get_or c.args.args.now before no_seen in
    right_goes c.args.table.now c.loop-first.table c.added.new.table c.args.op c.args.args.now c.loop-first.first before c.loop-first.made c.in-Ok.node x
    c.loop-first.invariant c.requires.args step (same_at c.args.args.now before no_seen x lt) c.in-Ok.ensures.0 c.in-Ok.ensures.1 c.in-Ok.ensures.2
