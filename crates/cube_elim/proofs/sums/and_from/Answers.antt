use Rattle.cube_elim.proofs.Storing.{row_push}
use Rattle.cube_elim.proofs.sums.and_from.Goals as goal

pub loop-place-preserved : goal.loop-place-preserved
loop-place-preserved c =
    row_push c.args.free.now c.loop-place.ids c.push.new.self c.args.from c.loop-place.place c.loop-place.auto.place c.loop-place.invariant c.in_ok-push.ensures.ok
