use Rattle.term_table.specs.Stack.{stacked}
use Rattle.term_table.proofs.StackLemmas.{Takes}
use Rattle.term_table.proofs.build.taken_all.Given as goal

abbrev pub invariant-loop : goal.invariant-loop
invariant-loop l = Takes (stacked l.fn.stack.items) l.count l.counter l.parts.items l.stack.items
