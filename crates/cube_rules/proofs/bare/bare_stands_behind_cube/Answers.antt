use Rattle.cube_rules.proofs.Lifting.{spliced}
use Rattle.cube_rules.proofs.bare.bare_stands_behind_cube.Goals as goal

pub returns : goal.returns
returns c = λ rules s n c facts cube steps a e h k. spliced rules s n c facts cube steps a e h k
