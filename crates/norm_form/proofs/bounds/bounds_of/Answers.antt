use Rattle.std.proofs.Common.{subst, ◌∙◌}
use Rattle.std.specs.Prelude.{Ok, Err}
use Rattle.lin_term.specs.Linear.{Form}
use Rattle.lin_term.specs.declared.Lit.TheVariants.{AtLeast}
use Rattle.norm_form.specs.Literal.{AreSigned}
use Rattle.norm_form.proofs.Bounding.{sides_stop, low_stops, high_stops, bounds_made}
use Rattle.norm_form.proofs.bounds.bounds_of.Goals as goal

pub returns-in-Err-clause-value : goal.returns-in-Err-clause-value
returns-in-Err-clause-value c = sides_stop c.args.sort c.args.by.now.form.constant c.args.x.now c.args.level c.in-Err.fault c.in-Err.ensures.value

pub returns-in-Err-both_signs-clause-value : goal.returns-in-Err-both_signs-clause-value
returns-in-Err-both_signs-clause-value c =
    low_stops c.args.sort c.args.by.now.form.constant c.args.x.now c.args.level c.in-Ok.sides c.in-Err-both_signs.fault c.in-Ok.ensures.value
    (subst (λ (f : Form). AreSigned c.args.sort (AtLeast f) (Err c.in-Err-both_signs.fault)) (c.in_ok-copy.ensures ∙ c.row.ensures) c.in-Err-both_signs.ensures)

pub returns-in-Err-both_signs-2-clause-value : goal.returns-in-Err-both_signs-2-clause-value
returns-in-Err-both_signs-2-clause-value c =
    high_stops c.args.sort c.args.by.now.form.constant c.args.x.now c.args.level c.in-Ok.sides c.in-Err-both_signs-2.fault c.in-Ok.ensures.value
    (subst (λ (f : Form). AreSigned c.args.sort (AtLeast f) (Err c.in-Err-both_signs-2.fault)) c.into_row.ensures c.in-Err-both_signs-2.ensures)

pub returns-clause-value : goal.returns-clause-value
returns-clause-value c =
    bounds_made c.args.sort c.args.by.now.form.constant c.args.x.now c.args.level c.in-Ok.sides c.in-Ok-both_signs.signs c.in-Ok-both_signs-2.signs c.in-Ok.ensures.value
    (subst (λ (f : Form). AreSigned c.args.sort (AtLeast f) (Ok c.in-Ok-both_signs.signs)) (c.in_ok-copy.ensures ∙ c.row.ensures) c.in-Ok-both_signs.ensures)
    (subst (λ (f : Form). AreSigned c.args.sort (AtLeast f) (Ok c.in-Ok-both_signs-2.signs)) c.into_row.ensures c.in-Ok-both_signs-2.ensures)
