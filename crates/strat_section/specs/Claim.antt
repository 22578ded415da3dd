-- The section that claims a won game.
use Rattle.std.specs.Prelude.{}
use Rattle.dom_core.specs.declared.Side.{Side}
use Rattle.proof_rules.specs.Won.{WonGame}
use Rattle.strat_text.specs.declared.Section.{Section}
use Rattle.strat_text.specs.declared.Section.TheVariants.{Claimed}
use Rattle.strat_check.specs.Section.{turns_of}

-- the winner's turns, tree and lines; it stood in no file
abbrev pub claim_of : Side → WonGame → Section
claim_of side g = Claimed side (turns_of g.problem.prefix) g.tree g.proof 0
