use Rattle.std.specs.Prelude.{max}
use Rattle.std.proofs.Common.{◌≡◌, drop}
use Rattle.cube_elim.specs.Determined.{height}
use Rattle.cube_elim.proofs.height.height_of.Given as goal

abbrev pub invariant-loop-lit : goal.invariant-loop-lit
invariant-loop-lit l = max l.top (height (drop l.lit-index l.lits)) ≡ height l.lits
