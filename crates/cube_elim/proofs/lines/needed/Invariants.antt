use Rattle.cube_elim.proofs.Writing.{MarkedFrom}
use Rattle.cube_elim.proofs.lines.needed.Given as goal

abbrev pub invariant-loop-k : goal.invariant-loop-k
invariant-loop-k l = MarkedFrom l.given l.pairs l.id l.k l.marks
