use Rattle.lose_system.specs.Written.{system_of}
use Rattle.proof_rules.specs.Rules.{apply}
use Rattle.proof_rules.specs.Stack.{stack_of}
use Rattle.proof_rules.proofs.CheckLemmas.{fault_taken, broken, going_more, done, missing, all_steps}
use Rattle.proof_rules.proofs.checker.first_bad_line.Goals as goal

pub step-requires : goal.step-requires
step-requires g c = c.loop-step.invariant.state

pub loop-step-preserved : goal.loop-step-preserved
loop-step-preserved g c =
    going_more g.D.Domain.SORT c.args.system.now c.loop-step.state c.step.new.self c.args.proof.now c.loop-step.step-index c.loop-step.line c.step-item.result c.loop-step.invariant c.loop-step-test.true c.step-item.is c.in-Ok.ensures.taken c.in-Ok.ensures.kept c.in-Ok.ensures.step

pub returns-in-Err-Fault-clause-value : goal.returns-in-Err-Fault-clause-value
returns-in-Err-Fault-clause-value g c =
    rw c.in-Err-Fault.field-0-is (broken g.D.Domain.SORT c.args.system.now c.loop-step.state c.args.proof.now c.loop-step.step-index c.loop-step.line c.step-item.result c.in-Err-Fault.rule c.loop-step.invariant c.loop-step-test.true c.step-item.is
    (fault_taken (apply g.D.Domain.SORT (system_of g.D.Domain.SORT c.args.system.now)) (stack_of g.D.Domain.SORT c.args.system.now c.loop-step.state) c.step-item.result (stack_of g.D.Domain.SORT c.args.system.now c.step.new.self) c.in-Err-Fault.field-0 c.in-Err-Fault.rule c.in-Err-Fault.field-0-is c.in-Err-Fault.ensures.taken))
