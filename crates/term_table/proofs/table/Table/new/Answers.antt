use Rattle.term_table.proofs.EntryForms.{no_entries}
use Rattle.term_table.proofs.table.Table.new.Goals as goal

pub invariant_of-result : goal.invariant_of-result
invariant_of-result c = no_entries c.new.result.items c.new.ensures.items
