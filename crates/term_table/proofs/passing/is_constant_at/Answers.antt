use Rattle.std.proofs.Common.{◌∙◌, [], min, ap, sym}
use Rattle.lin_truth.specs.Constant.{is_constant}
use Rattle.term_table.specs.Placed.{top}
use Rattle.term_table.specs.Meaning.{at, meanings}
use Rattle.term_table.specs.Scale.{by_freedom, limit}
use Rattle.term_table.specs.Form.{Linear, value, AreSizes}
use Rattle.term_table.specs.Entries.{nodes_of, form_at}
use Rattle.term_table.proofs.EntryForms.{size_of-entry}
use Rattle.term_table.proofs.FormLemmas.{form-at}
use Rattle.term_table.proofs.Knowing.{no_free}
use Rattle.term_table.proofs.passing.is_constant_at.Goals as goal

pub returns : goal.returns
returns c =
    let es = c.args.entries.now in
    let i = c.args.entry in
    let a = c.size-size.result in
    let is : AreSizes a (λ s. value s (form_at es i) []) =
    λ s. c.size-size.ensures s ∙ ap (λ (f : Linear). min (limit s) (value s f [])) (sym (form-at es i c.index-entries-entry.result c.requires.entry c.index-entries-entry.is)) in
    no_free a.free (is_constant (at (meanings (nodes_of es)) i top 0)) (size_of-entry es i 0 a by_freedom c.requires.entries.forms is)
