use Rattle.std.proofs.Common.{subst, ◌∙◌}
use Rattle.lin_term.specs.Linear.{Form}
use Rattle.lin_term.specs.declared.Lit.TheVariants.{AtLeast}
use Rattle.lin_form.specs.Lin.{lin_neg}
use Rattle.norm_form.specs.Literal.{AreSigned}
use Rattle.norm_form.proofs.change.absolute_cases.Goals as goal

pub returns : goal.returns
returns c =
    c.with_choice.ensures c.args.sort (c.single-minus.ensures (lin_neg c.args.x) c.negative-form.ensures.value)
    (subst (λ (f : Form). AreSigned c.args.sort (AtLeast f) c.both_signs-signs.result) (c.in_ok-copy.ensures ∙ c.row.ensures) c.both_signs-signs.ensures)
