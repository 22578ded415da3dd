use Rattle.cube_elim.specs.Written.{IsWritten}
use Rattle.cube_elim.proofs.lines.marked_lines.Given as goal

abbrev pub invariant-loop-index : goal.invariant-loop-index
invariant-loop-index l = IsWritten l.given l.store.lits l.marks l.index l.lines
