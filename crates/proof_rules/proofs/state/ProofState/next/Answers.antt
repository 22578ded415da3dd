use Rattle.std.proofs.Common.{ap, subst, sym}
use Rattle.std.specs.Prelude.{List}
use Rattle.cube_rules.specs.Context.{Context}
use Rattle.lose_system.specs.Written.{system_of}
use Rattle.lose_system.proofs.Tabled.{IfOk_with}
use Rattle.proof_rules.specs.Held.{context_of, Leaves}
use Rattle.proof_rules.specs.Rules.{apply}
use Rattle.proof_rules.proofs.CheckLemmas.{current_facts}
use Rattle.proof_rules.proofs.state.ProofState.next.Goals as goal

pub apply-requires : goal.apply-requires
apply-requires g c =
    current_facts g.D.Domain.SORT c.args.system.now c.args.self.now c.facts.result.now c.requires c.facts.ensures.value

pub returns-clause-leaves : goal.returns-clause-leaves
returns-clause-leaves g c =
    IfOk_with c.apply.result
    (λ o e. subst (λ (d : Context). Leaves g.D.Domain.SORT c.args.system.now d (apply g.D.Domain.SORT (system_of g.D.Domain.SORT c.args.system.now) d c.args.step.now) o)
    (c.facts.ensures.current g.D.Domain.SORT c.args.system.now) e)
    c.apply.ensures.leaves
