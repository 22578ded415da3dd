use Rattle.std.specs.Prelude.{Option}
use Rattle.std.proofs.Common.{refl, subst}
use Rattle.cube_rules.specs.Limits.{IsStep}
use Rattle.lose_system.specs.Written.{system_of}
use Rattle.proof_rules.specs.declared.fact.Next.{Next}
use Rattle.proof_rules.specs.Held.{Leaves}
use Rattle.proof_rules.specs.Rules.{apply}
use Rattle.proof_rules.specs.Stack.{current_of}
use Rattle.proof_rules.proofs.CheckLemmas.{none_open, none_left, line_taken}
use Rattle.proof_rules.proofs.LeastLemmas.{of_some}
use Rattle.proof_rules.proofs.state.ProofState.step.Goals as goal

pub returns-then-self-clause-taken : goal.returns-then-self-clause-taken
returns-then-self-clause-taken g c = none_open g.D.Domain.SORT c.args.system.now c.args.self.now c.args.step.now c.if-self.true

pub take_next-requires-clause-next : goal.take_next-requires-clause-next
take_next-requires-clause-next g c =
    let k = subst (λ (o : Option Next). Leaves g.D.Domain.SORT c.args.system.now (current_of g.D.Domain.SORT c.args.system.now c.args.self.now) (apply g.D.Domain.SORT (system_of g.D.Domain.SORT c.args.system.now) (current_of g.D.Domain.SORT c.args.system.now c.args.self.now) c.args.step.now) o) c.in-Ok-Some.field-0-is c.in-Ok-Some.ensures.leaves in
    k.kept c.in-Ok-Some.next refl

pub returns-in-Ok-clause-taken : goal.returns-in-Ok-clause-taken
returns-in-Ok-clause-taken g c =
    line_taken g.D.Domain.SORT c.args.system.now c.args.self.now c.take_next.new.self c.args.step.now c.in-Ok-Some.next c.if-self.false
    (subst (λ (o : Option Next). Leaves g.D.Domain.SORT c.args.system.now (current_of g.D.Domain.SORT c.args.system.now c.args.self.now) (apply g.D.Domain.SORT (system_of g.D.Domain.SORT c.args.system.now) (current_of g.D.Domain.SORT c.args.system.now c.args.self.now) c.args.step.now) o) c.in-Ok-Some.field-0-is c.in-Ok-Some.ensures.leaves)
    c.in-Ok.ensures

pub returns-in-Ok-clause-kept : goal.returns-in-Ok-clause-kept
returns-in-Ok-clause-kept g c = c.in-Ok.ensures.kept

pub returns-in-Ok-clause-step : goal.returns-in-Ok-clause-step
returns-in-Ok-clause-step g c =
    of_some (λ _. IsStep c.args.step.now) c.in-Ok-Some.field-0 c.in-Ok-Some.next c.in-Ok-Some.field-0-is c.in-Ok-Some.ensures.step

pub returns-in-Ok-None-clause-taken : goal.returns-in-Ok-None-clause-taken
returns-in-Ok-None-clause-taken g c =
    none_left g.D.Domain.SORT c.args.system.now c.args.self.now c.args.step.now c.rule_of_step.result c.if-self.false
    (subst (λ (o : Option Next). Leaves g.D.Domain.SORT c.args.system.now (current_of g.D.Domain.SORT c.args.system.now c.args.self.now) (apply g.D.Domain.SORT (system_of g.D.Domain.SORT c.args.system.now) (current_of g.D.Domain.SORT c.args.system.now c.args.self.now) c.args.step.now) o) c.in-Ok-None.field-0-is c.in-Ok-None.ensures.leaves)
    c.rule_of_step.ensures
