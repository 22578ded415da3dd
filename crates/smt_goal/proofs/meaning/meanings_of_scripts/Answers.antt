use Rattle.smt_goal.proofs.Examples.{asked}
use Rattle.smt_goal.proofs.meaning.meanings_of_scripts.Goals as goal

pub returns : goal.returns
returns c = asked
