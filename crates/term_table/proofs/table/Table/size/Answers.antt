use Rattle.std.proofs.Common.{◌∙◌, List, [], min, ap, subst}
use Rattle.term_table.specs.declared.entry.Entry.{Entry}
use Rattle.term_table.specs.declared.node.Node.{Node}
use Rattle.term_table.specs.Placed.{top}
use Rattle.term_table.specs.Meaning.{at, meanings}
use Rattle.term_table.specs.Scale.{by_nodes, by_bindings, by_depth, Near, amount, size, limit}
use Rattle.term_table.specs.Form.{Linear, AreSizes, value}
use Rattle.term_table.specs.Entries.{form_at}
use Rattle.term_table.proofs.EntryForms.{size_of-entry}
use Rattle.term_table.proofs.table.Table.size.Goals as goal

pub returns-clause-nodes : goal.returns-clause-nodes
returns-clause-nodes c =
    λ n. let es = c.self.inside.entries.items in
    let is : AreSizes c.size.result (λ s. value s (form_at es c.args.entry) []) =
    λ s. c.size.ensures s ∙ ap (λ (f : Linear). min (limit s) (value s f [])) (c.form_at-form.ensures ∙ ap (λ (xs : List Entry). form_at xs c.args.entry) c.as_slice.ensures.value) in
    ap (λ z. z.nodes) c.cut.ensures
    ∙ subst (λ (ns : List Node). Near by_nodes (amount by_nodes c.size.result) (size by_nodes (at (meanings ns) c.args.entry top n))) c.self.view_is (size_of-entry es c.args.entry n c.size.result by_nodes c.self.invariant.forms is)

pub returns-clause-depth : goal.returns-clause-depth
returns-clause-depth c =
    λ n. let es = c.self.inside.entries.items in
    let is : AreSizes c.size.result (λ s. value s (form_at es c.args.entry) []) =
    λ s. c.size.ensures s ∙ ap (λ (f : Linear). min (limit s) (value s f [])) (c.form_at-form.ensures ∙ ap (λ (xs : List Entry). form_at xs c.args.entry) c.as_slice.ensures.value) in
    ap (λ z. z.depth) c.cut.ensures
    ∙ subst (λ (ns : List Node). Near by_depth (amount by_depth c.size.result) (size by_depth (at (meanings ns) c.args.entry top n))) c.self.view_is (size_of-entry es c.args.entry n c.size.result by_depth c.self.invariant.forms is)

pub returns-clause-bindings : goal.returns-clause-bindings
returns-clause-bindings c =
    λ n. let es = c.self.inside.entries.items in
    let is : AreSizes c.size.result (λ s. value s (form_at es c.args.entry) []) =
    λ s. c.size.ensures s ∙ ap (λ (f : Linear). min (limit s) (value s f [])) (c.form_at-form.ensures ∙ ap (λ (xs : List Entry). form_at xs c.args.entry) c.as_slice.ensures.value) in
    ap (λ z. z.bindings) c.cut.ensures
    ∙ subst (λ (ns : List Node). Near by_bindings (amount by_bindings c.size.result) (size by_bindings (at (meanings ns) c.args.entry top n))) c.self.view_is (size_of-entry es c.args.entry n c.size.result by_bindings c.self.invariant.forms is)
