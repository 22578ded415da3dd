use Rattle.std.proofs.Common.{arith}
use Rattle.smt_goal.proofs.ParameterNames.{none_bound, one_bound, all_bound, same_at}
use Rattle.smt_goal.proofs.define.bind.Goals as goal

pub loop-i-init : goal.loop-i-init
loop-i-init c = (omega arith, none_bound c.args.reader.now c.args.params.now c.requires)

pub loop-i-preserved : goal.loop-i-preserved
loop-i-preserved c = (
  omega (arith, c.loop-i-test.true),
  one_bound c.args.reader.now c.loop-i.reader _ c.args.params.now c.loop-i.i _ c.loop-i.invariant.1 c.loop-i-test.true (same_at c.args.params.now c.loop-i.i _ _ c.loop-i-test.true) c.in-Ok.ensures,
)

pub returns : goal.returns
returns c = all_bound c.args.reader.now c.loop-i.reader c.args.params.now c.loop-i.i c.loop-i.invariant.1 c.loop-i-test.false
