use Rattle.std.proofs.Common.{◌≡◌, length}
use Rattle.cube_elim.proofs.lines.no_marks.Given as goal

abbrev pub invariant-loop-index : goal.invariant-loop-index
invariant-loop-index l = length l.marks ≡ l.index
