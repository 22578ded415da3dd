use Rattle.lin_term.proofs.Summing.{made_answer}
use Rattle.game_tests.proofs.literals.made.Goals as goal

pub returns-clause-primitive : goal.returns-clause-primitive
returns-clause-primitive c = made_answer c.args.sort c.args.row c.primitive.result c.primitive.ensures
