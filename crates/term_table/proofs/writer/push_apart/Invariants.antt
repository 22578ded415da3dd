use Rattle.std.proofs.Common.{◌≡◌, ◌++◌, map, take}
use Rattle.term_table.specs.declared.step.Task.TheVariants as task
use Rattle.term_table.proofs.writer.push_apart.Given as goal

abbrev pub invariant-loop-right : goal.invariant-loop-right
invariant-loop-right l = l.todo.items ≡ l.fn.todo.items ++ map (λ right. task.Apart l.left right l.frame l.above) (take l.right-index l.others)
