use Rattle.std.proofs.Common.{take}
use Rattle.dom_core.specs.Reduced.{AreRows}
use Rattle.cube_elim.proofs.lines.read_rows.Given as goal

abbrev pub invariant-loop-lit : goal.invariant-loop-lit
invariant-loop-lit l = AreRows (take l.lit-index l.lits)
