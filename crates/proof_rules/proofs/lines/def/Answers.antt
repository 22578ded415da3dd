use Rattle.std.proofs.Common.{ap, refl, sym, ◌∙◌}
use Rattle.dom_core.specs.Game.{lit}
use Rattle.proof_rules.specs.declared.fact.Fact.TheVariants.{Known}
use Rattle.proof_rules.proofs.LineLemmas.{def_open}
use Rattle.proof_rules.proofs.lines.def.Goals as goal

pub returns-in_ok-shared-in-Some : goal.returns-in_ok-shared-in-Some
returns-in_ok-shared-in-Some g c = λ facts.
    def_open g.D.Domain.SORT c.args.system.now facts c.args.node c.args.which c.in-Some.lit c.args.bare (Known c.in_ok-shared-in-Some.field-0) (ap lit c.in_ok-shared-in-Some.ensures) c.in_ok-shared-in-Some.field-0.value c.in_ok-shared-in-Some.ensures refl c.if-bare.false (sym c.in-Some.is ∙ c.in_ok-lit.ensures)
