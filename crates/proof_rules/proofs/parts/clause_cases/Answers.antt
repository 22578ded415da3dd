use Rattle.std.specs.Prelude.{Some, List, true, false, length}
use Rattle.std.proofs.Common.{ap, ◌∙◌, eq-eqb}
use Rattle.lin_term.specs.declared.Lit.{Lit}
use Rattle.cube_rules.specs.Lines.{each_child, leaves}
use Rattle.proof_rules.proofs.PartLemmas.{cases_learnt, differ}
use Rattle.proof_rules.proofs.parts.clause_cases.Goals as goal

pub returns-in_ok-clone-clause-value : goal.returns-in_ok-clone-clause-value
returns-in_ok-clone-clause-value c = λ s w d.
    ap (λ (ls : List Lit). Some (each_child d (leaves ls))) c.in_ok-clone.ensures.cases
    ∙ cases_learnt d c.args.count c.len.result c.args.clause.now.value true (c.len.ensures ∙ ap length c.deref.ensures) (eq-eqb _ _ c.if-len-count.true)

pub returns-else-len-count-clause-value : goal.returns-else-len-count-clause-value
returns-else-len-count-clause-value c = λ s w d.
    cases_learnt d c.args.count c.len.result c.args.clause.now.value false (c.len.ensures ∙ ap length c.deref.ensures) (differ _ _ c.if-len-count.false)
