use Rattle.std.specs.Prelude.{[], ◌∷◌}
use Rattle.std.proofs.Common.{subst}
use Rattle.lin_form.specs.Operating.{absolute_lin}
use Rattle.lin_form.specs.Outcome.{Formed}
use Rattle.lin_form.proofs.Forming.{formed_stop, step_one}
use Rattle.lin_form.proofs.step.absolute.Goals as goal

pub returns-in-Err : goal.returns-in-Err
returns-in-Err c = λ xs v h. formed_stop xs (absolute_lin v ∷ []) v (absolute_lin v) c.in-Err.fault (subst (λ r. Formed xs v r) c.in-Err.is h)

pub returns : goal.returns
returns c = λ xs v h. step_one absolute_lin xs v c.in-Ok.x c.absolute_form.result (subst (λ r. Formed xs v r) c.in-Ok.is h) c.absolute_form.ensures
