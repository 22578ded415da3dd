use Rattle.std.specs.Prelude.{option_map}
use Rattle.std.proofs.Common.{ap, sym, ◌∙◌}
use Rattle.dom_core.specs.View.{matrix_of}
use Rattle.proof_rules.specs.declared.fact.Fact.{Fact}
use Rattle.proof_rules.specs.Held.{fact_of, part_on}
use Rattle.cube_rules.specs.Facts.{and_child}
use Rattle.proof_rules.proofs.PartLemmas.{and_child_on, child_is_fact}
use Rattle.proof_rules.proofs.parts.and_child.Goals as goal

pub returns-in-Some-clause-value : goal.returns-in-Some-clause-value
returns-in-Some-clause-value c = λ s w.
    ap (option_map (part_on s w c.in-OnPath.k)) c.in-Some.ensures ∙ sym (and_child_on s w c.in-OnPath.k c.args.i (matrix_of c.in-OnPath.matrix.now))
    ∙ sym (ap (λ (f : Fact). and_child c.args.i (fact_of s w f)) c.in-OnPath.is)

pub returns-in-Some-clause-kept : goal.returns-in-Some-clause-kept
returns-in-Some-clause-kept c = λ s w h f e.
    child_is_fact s w c.in-OnPath.k c.args.i c.args.fact.now c.in-OnPath.matrix c.in-Some.part f c.in-OnPath.is c.in-Some.ensures h e

pub returns-in-None-clause-value : goal.returns-in-None-clause-value
returns-in-None-clause-value c = λ s w.
    ap (option_map (part_on s w c.in-OnPath.k)) c.in-None.ensures ∙ sym (and_child_on s w c.in-OnPath.k c.args.i (matrix_of c.in-OnPath.matrix.now))
    ∙ sym (ap (λ (f : Fact). and_child c.args.i (fact_of s w f)) c.in-OnPath.is)
