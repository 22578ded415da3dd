use Rattle.dom_core.proofs.Duals.{flip_more}
use Rattle.dom_core.proofs.quant.flipped.Goals as goal

pub loop-quant-preserved : goal.loop-quant-preserved
loop-quant-preserved c =
    flip_more c.args.prefix.now c.loop-quant.quants c.push.new.self c.loop-quant.quant-index _ c.flip.result c.loop-quant-test.true c.loop-quant.invariant c.flip.ensures c.in_ok-push.ensures.ok
