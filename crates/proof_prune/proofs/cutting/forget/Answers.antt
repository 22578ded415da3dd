use Rattle.std.proofs.Common.{arith}
use Rattle.proof_prune.specs.declared.item.Item.TheVariants.{Line}
use Rattle.proof_prune.proofs.Places.{forget_step, forget_rest}
use Rattle.proof_prune.proofs.cutting.forget.Goals as goal

pub returns-then-cut-stop-clause-counts : goal.returns-then-cut-stop-clause-counts
returns-then-cut-stop-clause-counts c =
    forget_rest c.args.items.now c.loop-place.place c.args.end (Line 0 0) c.loop-place.counts.items c.forget_item-cut.new.counts.items _ c.forget_item-cut.result c.stop-stop.result
    c.loop-place.invariant.counts c.stop-stop.ensures c.loop-place-test.true c.forget_item-cut.ensures.counts c.forget_item-cut.ensures.passes (let w = c.if-cut-stop.true in omega (arith, w))

pub loop-place-preserved : goal.loop-place-preserved
loop-place-preserved c = record {
  counts = forget_step c.args.items.now c.loop-place.place c.args.end (Line 0 0) c.loop-place.counts.items c.forget_item-cut.new.counts.items _ c.forget_item-cut.result
      c.loop-place.invariant.counts (let s = c.stop-stop.ensures in let l = c.loop-place-test.true in omega (arith, s, l)) c.forget_item-cut.ensures.counts c.forget_item-cut.ensures.passes;
  few = c.forget_item-cut.ensures.few;
}
