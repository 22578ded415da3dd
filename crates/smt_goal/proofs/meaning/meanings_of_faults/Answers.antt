use Rattle.smt_goal.proofs.Examples.{refused}
use Rattle.smt_goal.proofs.meaning.meanings_of_faults.Goals as goal

pub returns : goal.returns
returns c = refused
