use Rattle.smt_tree.proofs.Spells.{spelled}
use Rattle.smt_tree.proofs.expressions.expressions_of.Goals as goal

pub returns-clause-spelled : goal.returns-clause-spelled
returns-clause-spelled c = spelled _
