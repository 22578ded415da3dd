use Rattle.proof_prune.proofs.Places.{none_copied}
use Rattle.proof_prune.proofs.writing.copy_line.Goals as goal

pub returns-in-None : goal.returns-in-None
returns-in-None c = none_copied c.args.lines.now c.args.proof.now c.args.line c.in-None.ensures.lookup.3
