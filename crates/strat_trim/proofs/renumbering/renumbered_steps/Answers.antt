use Rattle.cube_rules.proofs.Learning.{each_at}
use Rattle.strat_trim.specs.Renamed.{rename_step, StepHasNames}
use Rattle.strat_trim.proofs.RenumberLemmas.{mapped_step, mapped_end}
use Rattle.strat_trim.proofs.renumbering.renumbered_steps.Goals as goal

pub renumbered-requires : goal.renumbered-requires
renumbered-requires c =
    each_at (StepHasNames c.args.nodes.now) c.args.steps.now c.loop-step.step-index c.step-item.result c.requires c.loop-step-test.true c.step-item.is

pub loop-step-preserved : goal.loop-step-preserved
loop-step-preserved c =
    mapped_step (rename_step c.args.paths.now c.args.nodes.now) c.args.steps.now c.loop-step.list c.push.new.self c.loop-step.step-index c.step-item.result c.in_ok-renumbered.field-0 c.loop-step.invariant c.loop-step-test.true c.step-item.is c.in_ok-renumbered.ensures c.in_ok-push.ensures.ok

pub returns : goal.returns
returns c = mapped_end (rename_step c.args.paths.now c.args.nodes.now) c.args.steps.now c.loop-step.list c.loop-step.step-index c.loop-step.invariant c.loop-step-test.false
