use Rattle.solve_texts.proofs.Making.{made_is_problem}
use Rattle.solve_texts.proofs.made.generated.Goals as goal

pub from_parts-requires : goal.from_parts-requires
from_parts-requires c = made_is_problem c.args.n c.in_ok-prefix.prefix c.in_ok-matrix.matrix c.requires c.in_ok-prefix.ensures c.in_ok-matrix.ensures
