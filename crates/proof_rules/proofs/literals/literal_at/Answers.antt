use Rattle.std.proofs.Common.{◌∙◌, sym}
use Rattle.lose_system.proofs.Tabled.{IfOk_with}
use Rattle.proof_rules.proofs.FactLemmas.{fact_at, literal_found}
use Rattle.proof_rules.proofs.literals.literal_at.Goals as goal

pub literal-requires : goal.literal-requires
literal-requires g c =
    fact_at g.D.Domain.SORT c.args.system.now c.args.facts.now c.args.number c.in-Some.fact.now c.requires (sym c.in-Some.ensures)

pub returns-clause-value : goal.returns-clause-value
returns-clause-value g c =
    IfOk_with c.literal.result (λ o e bare. e ∙ sym (literal_found g.D.Domain.SORT c.args.system.now c.args.facts.now c.args.number c.in-Some.fact.now bare (sym c.in-Some.ensures))) c.literal.ensures.value
