use Rattle.proof_rules.proofs.PartLemmas.{part_of_or}
use Rattle.proof_rules.proofs.parts.or_part.Goals as goal

pub returns-in-Or : goal.returns-in-Or
returns-in-Or c = part_of_or c.in-Or.parts c.args.i c.get.result c.args.matrix.now c.get.ensures.value c.in-Or.is
