use Rattle.std.proofs.Common.{subst}
use Rattle.lin_form.specs.Outcome.{Formed}
use Rattle.norm_form.proofs.Running.{leaf_stops}
use Rattle.norm_form.proofs.branches.leaf_cases.Goals as goal

pub returns-in-Err : goal.returns-in-Err
returns-in-Err c = λ xs v h. leaf_stops c.args.level xs v c.in-Err.fault (subst (λ r. Formed xs v r) c.in-Err.is h)
