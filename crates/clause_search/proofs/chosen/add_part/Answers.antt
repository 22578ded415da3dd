use Rattle.std.specs.Prelude.{length}
use Rattle.std.proofs.Common.{ap, ◌∙◌, sym, subst}
use Rattle.dom_core.specs.Game.{Matrix, lit, IsMatrix}
use Rattle.dom_core.specs.Problem.{HasNegations}
use Rattle.dom_core.specs.View.{matrix_of}
use Rattle.proof_rules.proofs.PartLemmas.{matrix_lit}
use Rattle.proof_rules.proofs.StackLemmas.{OnOk_with}
use Rattle.clause_search.proofs.Parting.{leaf_at}
use Rattle.clause_search.proofs.Choosing.{part_added, no_literal_and, no_literal_or}
use Rattle.clause_search.proofs.chosen.add_part.Goals as goal

pub literal-requires-clause-matrix : goal.literal-requires-clause-matrix
literal-requires-clause-matrix g c =
    subst (λ (m : Matrix). IsMatrix m g.D.Domain.SORT (length c.args.system.now.problem.prefix)) (ap matrix_of c.in-Lit.is ∙ matrix_lit c.in-Lit.lit) c.requires.1

pub literal-requires-clause-kept : goal.literal-requires-clause-kept
literal-requires-clause-kept g c =
    subst (λ (m : Matrix). HasNegations m g.D.Domain.SORT) (ap matrix_of c.in-Lit.is ∙ matrix_lit c.in-Lit.lit) c.requires.2

pub returns-in_ok-made-in-Lit : goal.returns-in_ok-made-in-Lit
returns-in_ok-made-in-Lit g c =
    OnOk_with c.add_new.result
    (λ h. part_added g.D.Domain.SORT c.args.system.now c.args.part.now c.in_ok-made-in-Lit.made c.args.chosen.now c.add_new.new.chosen
    (leaf_at g.D.Domain.SORT c.args.system.now c.args.part.now c.in-Lit.lit c.in-Lit.is ∙ ap lit (sym c.in_ok-made-in-Lit.ensures.value)) c.in_ok-made-in-Lit.ensures.known c.in_ok-made-in-Lit.ensures.below h)
    c.add_new.ensures

pub returns-in-And : goal.returns-in-And
returns-in-And g c = no_literal_and g.D.Domain.SORT c.args.system.now c.args.part.now c.in-And.field-0 c.args.chosen.now c.in-And.is

pub returns-in-Or : goal.returns-in-Or
returns-in-Or g c = no_literal_or g.D.Domain.SORT c.args.system.now c.args.part.now c.in-Or.field-0 c.args.chosen.now c.in-Or.is
