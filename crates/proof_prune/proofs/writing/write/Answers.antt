use Rattle.std.proofs.Common.{arith}
use Rattle.proof_prune.specs.declared.item.Item.TheVariants.{Line}
use Rattle.proof_prune.proofs.Places.{write_step, write_rest}
use Rattle.proof_prune.proofs.writing.write.Goals as goal

pub returns-then-cut-items : goal.returns-then-cut-items
returns-then-cut-items c =
    write_rest c.args.proof.now c.loop-place.names.items c.write_item.new.names.items c.loop-place.lines c.write_item.new.lines _ c.args.items.now c.loop-place.place (Line 0 0) c.in-Ok.cut
    c.loop-place.invariant c.loop-place-test.true c.in-Ok.ensures.lines c.in-Ok.ensures.names c.in-Ok.ensures.passes (let w = c.if-cut-items.true in omega (arith, w))

pub loop-place-preserved : goal.loop-place-preserved
loop-place-preserved c =
    write_step c.args.proof.now c.loop-place.names.items c.write_item.new.names.items c.loop-place.lines c.write_item.new.lines _ c.args.items.now c.loop-place.place (Line 0 0) c.in-Ok.cut
    c.loop-place.invariant c.loop-place-test.true c.in-Ok.ensures.lines c.in-Ok.ensures.names c.in-Ok.ensures.passes
