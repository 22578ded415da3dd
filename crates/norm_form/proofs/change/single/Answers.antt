use Rattle.std.proofs.Common.{subst}
use Rattle.std.specs.Prelude.{[], ◌∷◌}
use Rattle.lin_form.specs.Outcome.{Formed}
use Rattle.norm_form.proofs.Running.{single_stops}
use Rattle.norm_form.proofs.change.single.Goals as goal

pub returns-in-Err : goal.returns-in-Err
returns-in-Err c = λ v h. single_stops c.args.level v c.in-Err.fault (subst (λ r. Formed (v ∷ []) v r) c.in-Err.is h)
