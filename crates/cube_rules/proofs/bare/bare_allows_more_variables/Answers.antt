use Rattle.cube_rules.proofs.Lifting.{bare_more}
use Rattle.cube_rules.proofs.bare.bare_allows_more_variables.Goals as goal

pub returns : goal.returns
returns c = λ s n m h. bare_more s n m h
