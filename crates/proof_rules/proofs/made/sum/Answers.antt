use Rattle.std.specs.Prelude.{option_map}
use Rattle.std.proofs.Common.{ap, sym, ◌∙◌, refl, w64, SFits, to_z-of_z}
use mir.Syntax.{w128}
use Rattle.proof_rules.specs.declared.fact.Fact.TheVariants.{Known}
use Rattle.proof_rules.specs.Held.{context_of}
use Rattle.proof_rules.proofs.MadeLemmas.{first_missing, second_missing, sum_broken, sum_made, summed_as}
use Rattle.proof_rules.proofs.made.sum.Goals as goal

pub returns-in_default : goal.returns-in_default
returns-in_default g c = λ bare n.
    first_missing g.D.Domain.SORT c.args.system.now (context_of g.D.Domain.SORT c.args.system.now bare c.args.facts.now) n c.args.f c.args.h c.args.p c.args.q c.args.g
    (ap (option_map (λ l. l.value)) (sym c.in_default.is) ∙ c.in_ok-a.ensures.value bare)

pub returns-in_default-2 : goal.returns-in_default-2
returns-in_default-2 g c = λ bare n.
    second_missing g.D.Domain.SORT c.args.system.now (context_of g.D.Domain.SORT c.args.system.now bare c.args.facts.now) n c.args.f c.args.h c.args.p c.args.q c.args.g c.in-Some.a.value
    (ap (option_map (λ l. l.value)) (sym c.in-Some.is) ∙ c.in_ok-a.ensures.value bare)
    (ap (option_map (λ l. l.value)) (sym c.in_default-2.is) ∙ c.in_ok-b.ensures.value bare)

pub returns-in-Some-3 : goal.returns-in-Some-3
returns-in-Some-3 g c = λ bare n.
    let fp : SFits w64 c.args.p = c.ranges.p in
    let fq : SFits w64 c.args.q = c.ranges.q in
    let fg : SFits w128 c.args.g = c.ranges.g in
    let e = simp to_z-of_z at c.in_ok-lit.ensures in
    sum_made g.D.Domain.SORT c.args.system.now (context_of g.D.Domain.SORT c.args.system.now bare c.args.facts.now) n c.args.f c.args.h c.args.p c.args.q c.args.g c.in-Some.a.value c.in-Some-2.b.value c.in-Some-3.lit c.in_ok-shared-in-Some-3.field-0.value (Known c.in_ok-shared-in-Some-3.field-0)
    (ap (option_map (λ l. l.value)) (sym c.in-Some.is) ∙ c.in_ok-a.ensures.value bare)
    (ap (option_map (λ l. l.value)) (sym c.in-Some-2.is) ∙ c.in_ok-b.ensures.value bare)
    (sym c.in-Some-3.is ∙ summed_as g.D.Domain.SORT c.args.p c.args.q c.args.g _ _ _ _ _ _ e c.SORT.ensures c.deref.ensures c.deref-2.ensures)
    c.in_ok-shared-in-Some-3.ensures refl refl

pub returns : goal.returns
returns g c = λ bare n.
    let fp : SFits w64 c.args.p = c.ranges.p in
    let fq : SFits w64 c.args.q = c.ranges.q in
    let fg : SFits w128 c.args.g = c.ranges.g in
    let e = simp to_z-of_z at c.in_ok-lit.ensures in
    sum_broken g.D.Domain.SORT c.args.system.now (context_of g.D.Domain.SORT c.args.system.now bare c.args.facts.now) n c.args.f c.args.h c.args.p c.args.q c.args.g c.in-Some.a.value c.in-Some-2.b.value
    (ap (option_map (λ l. l.value)) (sym c.in-Some.is) ∙ c.in_ok-a.ensures.value bare)
    (ap (option_map (λ l. l.value)) (sym c.in-Some-2.is) ∙ c.in_ok-b.ensures.value bare)
    (sym c.in-None.is ∙ summed_as g.D.Domain.SORT c.args.p c.args.q c.args.g _ _ _ _ _ _ e c.SORT.ensures c.deref.ensures c.deref-2.ensures)
