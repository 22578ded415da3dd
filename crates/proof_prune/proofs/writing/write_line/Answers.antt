use Rattle.proof_prune.proofs.Places.{none_written, none_named}
use Rattle.proof_prune.proofs.writing.write_line.Goals as goal

pub returns-in-None-clause-lines : goal.returns-in-None-clause-lines
returns-in-None-clause-lines c = none_written c.args.lines.now c.args.proof.now c.args.names.now.items c.args.line c.in-None.ensures.lookup.3

pub returns-in-None-clause-names : goal.returns-in-None-clause-names
returns-in-None-clause-names c = none_named c.args.proof.now c.args.names.now.items c.args.line c.in-None.ensures.lookup.3
