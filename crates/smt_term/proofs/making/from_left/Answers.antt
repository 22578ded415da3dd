use Rattle.std.proofs.Common.{length, get_or, arith}
use Rattle.smt_term.proofs.MakingLemmas.{no_seen, same_at, AreIn-at, Extends-length, left_step, left_all}
use Rattle.smt_term.proofs.making.from_left.Goals as goal

pub added-requires : goal.added-requires
added-requires c = (
  c.loop-arg.invariant.within,
  omega (arith, AreIn-at (length c.args.table.now) c.args.rest.now c.loop-arg.arg-index no_seen c.requires.rest c.loop-arg-test.true, Extends-length c.args.table.now c.loop-arg.table c.loop-arg.invariant.extends),
)

pub loop-arg-preserved : goal.loop-arg-preserved
loop-arg-preserved c =
    let x = get_or c.args.rest.now c.loop-arg.arg-index no_seen in
    left_step c.args.table.now c.loop-arg.table c.added.new.table c.args.op c.args.first c.args.rest.now c.loop-arg.arg-index c.loop-arg.made c.in-Ok.node x
    c.loop-arg.invariant c.requires.rest c.loop-arg-test.true (same_at c.args.rest.now c.loop-arg.arg-index no_seen x c.loop-arg-test.true) c.in-Ok.ensures.0 c.in-Ok.ensures.1 c.in-Ok.ensures.2

pub returns : goal.returns
returns c = left_all c.args.table.now c.loop-arg.table c.args.op c.args.first c.args.rest.now c.loop-arg.arg-index c.loop-arg.made c.loop-arg.invariant c.loop-arg-test.false
