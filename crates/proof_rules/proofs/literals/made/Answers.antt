use Rattle.std.specs.Prelude.{length}
use Rattle.std.proofs.Common.{ap, ◌∙◌}
use Rattle.lin_term.specs.declared.Sort.{Sort}
use Rattle.lin_term.specs.Literal.{neg, rename_lit}
use Rattle.lose_system.proofs.Tabled.{IfOk_with}
use Rattle.proof_rules.proofs.FactLemmas.{made_known}
use Rattle.proof_rules.proofs.literals.made.Goals as goal

pub returns-clause-known : goal.returns-clause-known
returns-clause-known g c =
    IfOk_with c.shared.result (λ l e. made_known g.D.Domain.SORT c.as_slice.result.now c.args.lit.now l.value (length c.args.system.now.problem.prefix)
    (e ∙ c.in_ok-literal.ensures ∙ ap (λ (s : Sort). rename_lit c.as_slice.result.now (neg s c.args.lit.now)) c.SORT.ensures) c.requires.matrix c.requires.kept) c.shared.ensures
