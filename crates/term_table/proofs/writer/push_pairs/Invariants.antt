use Rattle.std.proofs.Common.{◌≡◌, ◌++◌, drop}
use Rattle.term_table.specs.Steps.{aparts}
use Rattle.term_table.proofs.writer.push_pairs.Given as goal

abbrev pub invariant-loop-i : goal.invariant-loop-i
invariant-loop-i l = l.todo.items ++ aparts (drop l.i l.parts) l.frame l.above ≡ l.fn.todo.items ++ aparts l.parts l.frame l.above
