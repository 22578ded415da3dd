use Rattle.std.proofs.Common.{subst, ◌∙◌, ap, [], ◌∷◌, ◌++◌}
use Rattle.std.specs.Prelude.{List}
use Rattle.lin_term.specs.declared.Lit.TheVariants.{AtLeast}
use Rattle.lin_form.specs.Lin.{lin_neg}
use Rattle.norm_form.specs.declared.branches.Case.{Case}
use Rattle.norm_form.specs.declared.branches.Case.TheVariants as cases
use Rattle.norm_form.specs.Cap.{capped_maker}
use Rattle.norm_form.specs.Cases.{AreBack}
use Rattle.norm_form.specs.Literal.{AreSigned}
use Rattle.norm_form.proofs.Changing.{minus_stops, signs_stop, choice_back}
use Rattle.norm_form.proofs.change.with_choice.Goals as goal

pub returns-in-Err : goal.returns-in-Err
returns-in-Err c = λ s h g. minus_stops s c.args.level c.args.x c.in-Err.fault (subst (λ r. AreBack (λ k. capped_maker.formed (lin_neg c.args.x ∷ []) (k c.args.level (lin_neg c.args.x))) r) c.in-Err.is h)

pub returns-in-Err-signs : goal.returns-in-Err-signs
returns-in-Err-signs c = λ s h g. signs_stop s c.args.level c.args.x c.in-Err-signs.fault (subst (λ r. AreSigned s (AtLeast c.args.x.form) r) c.in-Err-signs.is g)

pub returns : goal.returns
returns c = λ s h g.
    choice_back s c.args.level c.args.x c.in-Ok.all c.push-2.new.self c.in-Ok-signs.signs (subst (λ r. AreBack (λ k. capped_maker.formed (lin_neg c.args.x ∷ []) (k c.args.level (lin_neg c.args.x))) r) c.in-Ok.is h)
    (subst (λ r. AreSigned s (AtLeast c.args.x.form) r) c.in-Ok-signs.is g)
    (c.in_ok-push-2.ensures.ok ∙ ap (λ (cs : List Case). cs ++ cases.Choice c.in-Ok-signs.signs.yes c.in-Ok-signs.signs.no ∷ []) c.in_ok-push.ensures.ok)
