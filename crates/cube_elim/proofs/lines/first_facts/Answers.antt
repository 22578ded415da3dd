use Rattle.cube_elim.proofs.Storing.{row_next}
use Rattle.cube_elim.proofs.lines.first_facts.Goals as goal

pub loop-index-preserved : goal.loop-index-preserved
loop-index-preserved c = row_next c.loop-index.facts c.push.new.self c.loop-index.index c.loop-index.invariant c.in_ok-push.ensures.ok
