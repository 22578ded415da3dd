use Rattle.std.specs.Prelude.{Some, None}
use Rattle.proof_rules.proofs.LineLemmas.{part_child}
use Rattle.proof_rules.proofs.lines.part.Goals as goal

pub returns-in-Some-and_child : goal.returns-in-Some-and_child
returns-in-Some-and_child c = λ s w bare n a.
    part_child s w bare n c.args.f c.args.i c.args.facts.now c.in-Some.fact.now (Some c.in-Some-and_child.child) c.in-Some.ensures (c.in-Some-and_child.ensures.value s w) a (c.in-Some-and_child.ensures.kept s w)

pub returns-in-None : goal.returns-in-None
returns-in-None c = λ s w bare n a.
    part_child s w bare n c.args.f c.args.i c.args.facts.now c.in-Some.fact.now None c.in-Some.ensures (c.in-None.ensures.value s w) a (c.in-None.ensures.kept s w)
