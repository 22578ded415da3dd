use Rattle.std.proofs.Common.{subst}
use Rattle.norm_form.specs.View.{IsBuilt}
use Rattle.norm_form.proofs.Claiming.{with_one, stack_stop}
use Rattle.norm_form.proofs.claim.with_formula.Goals as goal

pub returns-in-Err : goal.returns-in-Err
returns-in-Err c = λ o h. stack_stop c.args.stack o c.in-Err.fault (subst (λ r. IsBuilt o r) c.in-Err.is h)

pub returns-in_ok-push-in-Ok : goal.returns-in_ok-push-in-Ok
returns-in_ok-push-in-Ok c = λ o h. with_one c.args.stack c.push.new.self c.in-Ok.formula o c.in_ok-push-in-Ok.ensures.ok (subst (λ r. IsBuilt o r) c.in-Ok.is h)
