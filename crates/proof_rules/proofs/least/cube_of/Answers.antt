use Rattle.std.specs.Prelude.{option_map, ◌++◌, ◌∷◌, []}
use Rattle.lin_term.specs.declared.Lit.{Lit}
use Rattle.std.proofs.Common.{ap, sym, ◌∙◌, subst}
use Rattle.proof_rules.specs.declared.fact.Fact.{Fact}
use Rattle.proof_rules.specs.Held.{IsFact}
use Rattle.proof_rules.proofs.FactLemmas.{fact_here}
use Rattle.proof_rules.proofs.LeastLemmas.{read_none, read_more, read_missing, read_done, of_some}
use Rattle.proof_rules.proofs.least.cube_of.Goals as goal

pub loop-fact-init : goal.loop-fact-init
loop-fact-init g c = read_none g.D.Domain.SORT c.args.system.now c.args.facts.now c.new-lits.result c.new-lits.ensures

pub literal-requires : goal.literal-requires
literal-requires g c =
    subst (λ (f : Fact). IsFact g.D.Domain.SORT c.args.system.now f) (sym c.fact-item.is)
    (fact_here g.D.Domain.SORT c.args.system.now c.args.facts.now c.loop-fact.fact-index c.fact-item.result c.requires c.loop-fact-test.true)

pub returns-in_default-clause-value : goal.returns-in_default-clause-value
returns-in_default-clause-value g c =
    read_missing g.D.Domain.SORT c.args.system.now c.args.facts.now c.loop-fact.fact-index c.loop-fact.lits c.fact-item.result c.loop-fact.invariant c.loop-fact-test.true c.fact-item.is
    (ap (option_map (λ l. l.value)) (sym c.in_default.is) ∙ c.in_ok-lit.ensures.value)

pub loop-fact-preserved : goal.loop-fact-preserved
loop-fact-preserved g c =
    read_more g.D.Domain.SORT c.args.system.now c.args.facts.now c.loop-fact.fact-index c.loop-fact.lits c.push.new.self c.fact-item.result c.in-Some.lit.value c.loop-fact.invariant c.loop-fact-test.true c.fact-item.is
    (ap (option_map (λ l. l.value)) (sym c.in-Some.is) ∙ c.in_ok-lit.ensures.value) (of_some _ c.in_ok-lit.field-0 c.in-Some.lit c.in-Some.is c.in_ok-lit.ensures.known)
    (c.in_ok-push.ensures.ok ∙ ap (λ (l : Lit). c.loop-fact.lits ++ l ∷ []) (c.in_ok-copy.ensures ∙ c.deref.ensures))

pub returns-clause-value : goal.returns-clause-value
returns-clause-value g c =
    read_done g.D.Domain.SORT c.args.system.now c.args.facts.now c.loop-fact.fact-index c.loop-fact.lits c.from_lits.result c.loop-fact.invariant c.loop-fact-test.false c.from_lits.ensures
