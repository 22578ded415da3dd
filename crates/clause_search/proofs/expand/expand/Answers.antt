use Rattle.clause_search.specs.declared.expand.Progress.{Progress}
use Rattle.clause_search.specs.Searching.{Progresses}
use Rattle.std.proofs.Common.{subst}
use Rattle.clause_search.proofs.Reaching.{reaches_self, reaches_then}
use Rattle.clause_search.proofs.Parting.{then_fork, then_end}
use Rattle.clause_search.proofs.expand.expand.Goals as goal

pub loop-init : goal.loop-init
loop-init g c = record {
  reaches = reaches_self g.D.Domain.SORT c.args.system.now c.args.goal.now c.args.lines.now;
  kept = c.requires;
}

pub step-requires : goal.step-requires
step-requires g c = c.loop.invariant.kept

pub loop-preserved : goal.loop-preserved
loop-preserved g c =
    let p = subst (λ (p : Progress). Progresses g.D.Domain.SORT c.args.system.now c.loop.goal c.loop.lines c.step.new.goal c.step.new.lines p) c.in-Taken.is c.in_ok-step.ensures in
    record {
      reaches = reaches_then g.D.Domain.SORT c.args.system.now c.args.goal.now c.loop.goal c.step.new.goal c.args.lines.now c.loop.lines c.step.new.lines c.loop.invariant.reaches p.0;
      kept = p.1;
    }

pub returns-in-Fork : goal.returns-in-Fork
returns-in-Fork g c =
    then_fork g.D.Domain.SORT c.args.system.now c.args.goal.now c.loop.goal c.step.new.goal c.args.lines.now c.loop.lines c.step.new.lines c.in-Fork.part c.loop.invariant.reaches
    (subst (λ (p : Progress). Progresses g.D.Domain.SORT c.args.system.now c.loop.goal c.loop.lines c.step.new.goal c.step.new.lines p) c.in-Fork.is c.in_ok-step.ensures)

pub returns-in-Done : goal.returns-in-Done
returns-in-Done g c =
    then_end g.D.Domain.SORT c.args.system.now c.args.goal.now c.loop.goal c.step.new.goal c.args.lines.now c.loop.lines c.step.new.lines c.loop.invariant.reaches
    (subst (λ (p : Progress). Progresses g.D.Domain.SORT c.args.system.now c.loop.goal c.loop.lines c.step.new.goal c.step.new.lines p) c.in-Done.is c.in_ok-step.ensures)
