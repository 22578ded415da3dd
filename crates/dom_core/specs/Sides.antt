-- The two players and their problems.
use Rattle.lin_term.specs.declared.Sort.{Sort}
use Rattle.dom_core.specs.declared.quant.Side.{Side}
use Rattle.dom_core.specs.declared.quant.Side.TheVariants.{Exists, Forall}
use Rattle.dom_core.specs.Game.{Problem, dual}

abbrev pub other : Side → Side
other Exists = Forall
other Forall = Exists

-- the problem in which the side plays Exists
abbrev pub problem_for : Sort → Side → Problem → Problem
problem_for s Exists P = P
problem_for s Forall P = dual s P
