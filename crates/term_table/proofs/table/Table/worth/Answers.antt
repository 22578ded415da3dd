use Rattle.std.proofs.Common.{◌∙◌, ◌≡◌, ◌==◌, List, [], min, ap}
use Rattle.std.specs.Prelude.{nat_le, if◌then◌else◌}
use Rattle.term_table.specs.declared.entry.Entry.{Entry}
use Rattle.term_table.specs.declared.node.Node.{Node}
use Rattle.term_table.specs.declared.worth.Worth.TheVariants as worth
use Rattle.term_table.specs.Placed.{top}
use Rattle.term_table.specs.Meaning.{at, meanings}
use Rattle.term_table.specs.Scale.{by_nodes, by_freedom, limit}
use Rattle.term_table.specs.Form.{Linear, AreSizes, value}
use Rattle.term_table.specs.Known.{Known}
use Rattle.term_table.specs.Entries.{nodes_of, knowns_of, form_at, known_at}
use Rattle.term_table.specs.Worth.{most_nodes, value_known, worth_of}
use Rattle.term_table.proofs.EntryForms.{size_of-entry}
use Rattle.term_table.proofs.Knowing.{known-at, worth-is}
use Rattle.term_table.proofs.table.Table.worth.Goals as goal

pub returns : goal.returns
returns c =
    let es = c.self.inside.entries.items in
    let ms = meanings (nodes_of es) in
    let a = c.size-size.result in
    let x : Known = known_at es c.args.entry in
    let known : c.known_at.result ≡ x = c.known_at.ensures ∙ ap (λ (xs : List Entry). known_at xs c.args.entry) c.as_slice-2.ensures.value in
    let is : AreSizes a (λ s. value s (form_at es c.args.entry) []) =
    λ s. c.size-size.ensures s ∙ ap (λ (f : Linear). min (limit s) (value s f [])) (c.form_at-form.ensures ∙ ap (λ (xs : List Entry). form_at xs c.args.entry) c.as_slice.ensures.value) in
    c.worth_from.ensures
    ∙ ap (λ (k : Known). if a.free == 0 then (if nat_le a.nodes most_nodes then value_known k else worth.Large) else worth.Free) known
    ∙ worth-is (at ms c.args.entry top 0) a x (size_of-entry es c.args.entry 0 a by_nodes c.self.invariant.forms is) (size_of-entry es c.args.entry 0 a by_freedom c.self.invariant.forms is)
    (known-at ms (knowns_of es) c.args.entry c.self.invariant.known)
    ∙ ap (λ (ns : List Node). worth_of (at (meanings ns) c.args.entry top 0)) c.self.view_is
