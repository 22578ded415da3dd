use Rattle.std.proofs.Common.{◌≡◌, take}
use Rattle.dom_core.proofs.cube.Cube.copy.Given as goal

abbrev pub invariant-loop-lit : goal.invariant-loop-lit
invariant-loop-lit l = l.lits ≡ take l.lit-index l.self
