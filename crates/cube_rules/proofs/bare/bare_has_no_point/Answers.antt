use Rattle.cube_rules.proofs.Lifting.{bare_is_empty}
use Rattle.cube_rules.proofs.bare.bare_has_no_point.Goals as goal

pub returns : goal.returns
returns c = λ s n cube steps k o p ip h. bare_is_empty s n cube steps k o p ip h
