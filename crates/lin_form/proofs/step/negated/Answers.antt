use Rattle.std.specs.Prelude.{[], ◌∷◌}
use Rattle.std.proofs.Common.{subst}
use Rattle.lin_form.specs.Lin.{lin_neg}
use Rattle.lin_form.specs.Outcome.{Formed}
use Rattle.lin_form.proofs.Forming.{formed_stop, step_one}
use Rattle.lin_form.proofs.step.negated.Goals as goal

pub returns-in-Err : goal.returns-in-Err
returns-in-Err c = λ xs v h. formed_stop xs (lin_neg v ∷ []) v (lin_neg v) c.in-Err.fault (subst (λ r. Formed xs v r) c.in-Err.is h)

pub returns : goal.returns
returns c = λ xs v h. step_one lin_neg xs v c.in-Ok.x c.negative.result (subst (λ r. Formed xs v r) c.in-Ok.is h) c.negative.ensures.value
