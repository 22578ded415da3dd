use Rattle.norm_form.proofs.Running.{flip_step, flip_back}
use Rattle.norm_form.proofs.branches.flipped.Goals as goal

pub loop-case-preserved : goal.loop-case-preserved
loop-case-preserved c = record {
  forth = flip_step c.args.cases c.loop-case.todo c.pop.new.self c.loop-case.all c.push.new.self c.in-Some.case c.in-Some.ensures c.in_ok-push.ensures.ok c.loop-case.invariant.forth;
  back = flip_back c.args.cases c.loop-case.todo c.pop.new.self c.loop-case.all c.push.new.self c.in-Some.case c.in-Some.ensures c.in_ok-push.ensures.ok c.loop-case.invariant.back;
}
