use Rattle.std.proofs.Common.{◌∙◌, [], List, ap, sym, subst}
use Rattle.term_table.specs.declared.entry.Entry.{Entry}
use Rattle.term_table.specs.declared.node.Node.{Node}
use Rattle.term_table.specs.Placed.{top}
use Rattle.term_table.specs.Meaning.{at, meanings}
use Rattle.term_table.specs.Entries.{nodes_of, AreEntries}
use Rattle.term_table.specs.Steps.{first, run}
use Rattle.term_table.proofs.StackLemmas.{if_ok-tree}
use Rattle.term_table.proofs.table.Table.tree.Goals as goal

pub steps_of-requires : goal.steps_of-requires
steps_of-requires c = subst AreEntries (sym c.as_slice.ensures.value) c.self.invariant

pub returns : goal.returns
returns c =
    if_ok-tree c.built.result (first (run c.in_ok-steps.steps.items [])) (at (meanings c.args.self.now) c.args.entry top c.args.above)
    (ap first c.in_ok-steps.ensures
    ∙ ap (λ (es : List Entry). at (meanings (nodes_of es)) c.args.entry top c.args.above) c.as_slice.ensures.value
    ∙ ap (λ (ns : List Node). at (meanings ns) c.args.entry top c.args.above) c.self.view_is)
    c.built.ensures
