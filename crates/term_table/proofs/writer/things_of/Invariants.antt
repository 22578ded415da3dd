use Rattle.std.proofs.Common.{◌≡◌, take}
use Rattle.term_table.specs.Steps.{things}
use Rattle.term_table.proofs.writer.things_of.Given as goal

abbrev pub invariant-loop-node : goal.invariant-loop-node
invariant-loop-node l = l.all.items ≡ things (take l.node-index l.args) l.frame
