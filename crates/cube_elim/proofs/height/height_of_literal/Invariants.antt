use Rattle.std.specs.Prelude.{max}
use Rattle.std.proofs.Common.{◌≡◌, drop}
use Rattle.cube_elim.specs.Determined.{height_of_terms}
use Rattle.cube_elim.proofs.height.height_of_literal.Given as goal

abbrev pub invariant-loop-term : goal.invariant-loop-term
invariant-loop-term l = max l.top (height_of_terms (drop l.term-index l.term-items)) ≡ height_of_terms l.term-items
