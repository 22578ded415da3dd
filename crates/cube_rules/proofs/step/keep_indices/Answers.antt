use Rattle.cube_rules.specs.Limits.{IsIndex}
use Rattle.cube_rules.proofs.Limiting.{all_more_at, all_done}
use Rattle.cube_rules.proofs.step.keep_indices.Goals as goal

pub loop-fact-preserved : goal.loop-fact-preserved
loop-fact-preserved c =
    all_more_at IsIndex c.args.facts.now c.loop-fact.fact-index c.loop-fact.invariant c.loop-fact-test.true c.keep_index.ensures

pub returns : goal.returns
returns c = all_done IsIndex c.args.facts.now c.loop-fact.fact-index c.loop-fact.invariant c.loop-fact-test.false
