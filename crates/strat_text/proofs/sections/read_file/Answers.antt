use Rattle.strat_text.proofs.Faults.{is_none}
use Rattle.strat_text.proofs.Files.{is_found, is_only}
use Rattle.strat_text.proofs.sections.read_file.Goals as goal

pub returns-clause-found : goal.returns-clause-found
returns-clause-found c = is_found c.args.bytes.now c.all.result c.all.ensures.gives

pub returns-clause-only : goal.returns-clause-only
returns-clause-only c = is_only c.args.bytes.now c.all.result c.all.ensures.gives

pub returns-clause-none : goal.returns-clause-none
returns-clause-none c = is_none c.args.bytes.now c.all.result c.all.ensures.gives
