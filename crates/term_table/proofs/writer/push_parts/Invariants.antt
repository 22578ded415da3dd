use Rattle.std.proofs.Common.{◌≡◌, ◌++◌, take}
use Rattle.term_table.specs.Steps.{writes}
use Rattle.term_table.proofs.writer.push_parts.Given as goal

abbrev pub invariant-loop-part : goal.invariant-loop-part
invariant-loop-part l = l.todo.items ≡ l.fn.todo.items ++ writes (take l.part-index l.parts) l.frame l.above
