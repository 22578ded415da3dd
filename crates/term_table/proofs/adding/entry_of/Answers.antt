use Rattle.term_table.proofs.EntryForms.{size_of-node}
use Rattle.term_table.proofs.adding.entry_of.Goals as goal

pub known_of-requires-clause-size : goal.known_of-requires-clause-size
known_of-requires-clause-size c =
    λ s. size_of-node c.args.entries.now c.args.node 0 c.in_ok-form.form c.size-size.result s c.requires.entries.forms c.in_ok-form.ensures c.size-size.ensures
