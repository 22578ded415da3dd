use Rattle.std.specs.Prelude.{option_map}
use Rattle.std.proofs.Common.{ap, sym, ◌∙◌}
use Rattle.lin_term.specs.declared.Lit.{Lit}
use Rattle.lin_term.specs.Truth.{truth_of}
use Rattle.cube_rules.specs.Lines.{is_false}
use Rattle.proof_rules.proofs.LineLemmas.{false_none, false_tested}
use Rattle.proof_rules.proofs.lines.falsity.Goals as goal

pub returns-in_default : goal.returns-in_default
returns-in_default g c = λ bare n.
    false_none g.D.Domain.SORT c.args.system.now bare n c.args.f c.args.facts.now (ap (option_map (λ l. l.value)) (sym c.in_default.is) ∙ c.in_ok-lit.ensures.value bare)

pub returns-then-is_false_literal : goal.returns-then-is_false_literal
returns-then-is_false_literal g c = λ bare n.
    false_tested g.D.Domain.SORT c.args.system.now bare n c.args.f c.args.facts.now c.in-Some.lit.value _ (ap (option_map (λ l. l.value)) (sym c.in-Some.is) ∙ c.in_ok-lit.ensures.value bare)
    (ap (λ (l : Lit). is_false (truth_of l)) (sym c.deref.ensures) ∙ sym c.is_false_literal.ensures ∙ c.if-is_false_literal.true)

pub returns : goal.returns
returns g c = λ bare n.
    false_tested g.D.Domain.SORT c.args.system.now bare n c.args.f c.args.facts.now c.in-Some.lit.value _ (ap (option_map (λ l. l.value)) (sym c.in-Some.is) ∙ c.in_ok-lit.ensures.value bare)
    (ap (λ (l : Lit). is_false (truth_of l)) (sym c.deref.ensures) ∙ sym c.is_false_literal.ensures ∙ c.if-is_false_literal.false)
