use Rattle.std.specs.Prelude.{true, false, option_and_then}
use Rattle.std.proofs.Common.{ap, sym, ◌∙◌, subst, eq-eqb}
use Rattle.dom_core.specs.View.{matrix_of}
use Rattle.proof_rules.specs.declared.fact.Fact.{Fact}
use Rattle.lose_system.proofs.Tabled.{IfOk_with}
use Rattle.cube_rules.specs.Facts.{or_children}
use Rattle.cube_rules.specs.Lines.{cases_line}
use Rattle.proof_rules.specs.Held.{fact_of, IsFact}
use Rattle.proof_rules.proofs.PartLemmas.{cases_on, differ}
use Rattle.proof_rules.proofs.parts.or_cases.Goals as goal

pub returns-then-parts-count-clause-value : goal.returns-then-parts-count-clause-value
returns-then-parts-count-clause-value c = λ s w d.
    cases_on s w d c.in-OnPath.k c.args.count (matrix_of c.in-OnPath.matrix.now) (fact_of s w c.args.fact.now) c.in-Some.parts.now true
    (ap (λ (f : Fact). fact_of s w f) c.in-OnPath.is) c.in-Some.ensures (eq-eqb _ _ c.if-parts-count.true)

pub returns-else-parts-count-clause-value : goal.returns-else-parts-count-clause-value
returns-else-parts-count-clause-value c = λ s w d.
    cases_on s w d c.in-OnPath.k c.args.count (matrix_of c.in-OnPath.matrix.now) (fact_of s w c.args.fact.now) c.in-Some.parts.now false
    (ap (λ (f : Fact). fact_of s w f) c.in-OnPath.is) c.in-Some.ensures (differ _ _ c.if-parts-count.false)

pub returns-in-Learnt-clause-value : goal.returns-in-Learnt-clause-value
returns-in-Learnt-clause-value c =
    IfOk_with c.clause_cases.result
    (λ o e s w d. e s w d ∙ sym (ap (λ (f : Fact). option_and_then (cases_line d c.args.count) (or_children (fact_of s w f))) c.in-Learnt.is))
    c.clause_cases.ensures.value

pub returns-in-Learnt-clause-kept : goal.returns-in-Learnt-clause-kept
returns-in-Learnt-clause-kept c =
    IfOk_with c.clause_cases.result
    (λ o e s w h n q. e s w (subst (λ (f : Fact). IsFact s w f) c.in-Learnt.is h) n q)
    c.clause_cases.ensures.kept
