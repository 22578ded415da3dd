use Rattle.std.proofs.Common.{◌≡◌, []}
use Rattle.term_table.specs.Meaning.{meanings}
use Rattle.term_table.specs.Entries.{nodes_of}
use Rattle.term_table.specs.Steps.{run}
use Rattle.term_table.specs.Writing.{IsReady, ends}
use Rattle.term_table.proofs.writer.Writer.finish.Given as goal

abbrev pub invariant-loop : goal.invariant-loop
invariant-loop l =
    IsReady l.self × (ends (meanings (nodes_of l.entries)) l.self (run l.self.steps.items []) ≡ ends (meanings (nodes_of l.entries)) l.fn.self (run l.fn.self.steps.items []))
