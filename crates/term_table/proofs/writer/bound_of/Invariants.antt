use Rattle.std.proofs.Common.{◌≡◌, ◌++◌}
use Rattle.term_table.specs.Placed.{places}
use Rattle.term_table.proofs.writer.bound_of.Given as goal

abbrev pub invariant-loop-i : goal.invariant-loop-i
invariant-loop-i l = l.all.items ≡ l.outer ++ places l.i l.above
