use Rattle.std.proofs.Common.{refl}
use Rattle.proof_rules.specs.declared.fact.Fact.TheVariants.{Known}
use Rattle.proof_rules.proofs.KnownLemmas.{known_none, known_more, known_value, known_kept}
use Rattle.proof_rules.proofs.literals.known_facts.Goals as goal

pub loop-lit-init : goal.loop-lit-init
loop-lit-init c = known_none c.args.cube c.into_lits.result c.in_ok-left.left c.new-facts.result c.new-facts.ensures c.in_ok-left.ensures c.into_lits.ensures

pub loop-lit-preserved : goal.loop-lit-preserved
loop-lit-preserved c =
    known_more c.args.cube c.loop-lit.left c.pop.new.self c.loop-lit.facts c.push.new.self (Known c.in_ok-shared.field-0) c.in-Some.lit c.in_ok-shared.field-0.value c.loop-lit.invariant c.in-Some.ensures
    (λ s w. refl) (λ s w. refl) c.in_ok-shared.ensures c.in_ok-push.ensures.ok

pub returns-clause-value : goal.returns-clause-value
returns-clause-value c = known_value c.args.cube c.loop-lit.left c.loop-lit.facts c.loop-lit.invariant c.in_default.ensures.0

pub returns-clause-kept : goal.returns-clause-kept
returns-clause-kept c = known_kept c.args.cube c.loop-lit.left c.loop-lit.facts c.loop-lit.invariant
