use Rattle.term_table.specs.Known.{turned}
use Rattle.term_table.proofs.KnownLemmas.{Takes}
use Rattle.term_table.proofs.working.taken_all.Given as goal

abbrev pub invariant-loop : goal.invariant-loop
invariant-loop l = Takes (turned l.fn.stack.items) l.count l.counter l.parts.items l.stack.items
