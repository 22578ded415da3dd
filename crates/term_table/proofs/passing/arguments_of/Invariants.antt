use Rattle.std.proofs.Common.{take}
use Rattle.term_table.specs.Forwarding.{Stand}
use Rattle.term_table.proofs.passing.arguments_of.Given as goal

abbrev pub invariant-loop-part : goal.invariant-loop-part
invariant-loop-part l = Stand l.entries (take l.part-index l.parts) l.args l.all.items
