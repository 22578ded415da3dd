use Rattle.std.proofs.Common.{subst}
use Rattle.norm_form.specs.Cases.{AreCases}
use Rattle.norm_form.specs.Claim.{claimed}
use Rattle.norm_form.proofs.Claiming.{cases_built}
use Rattle.norm_form.proofs.claim.atom.Goals as goal

pub returns-in-Err : goal.returns-in-Err
returns-in-Err c = λ g h. cases_built g (λ e x. claimed c.args.claim c.args.sort c.args.truth x) c.in-Err.fault (subst (λ r. AreCases g r) c.in-Err.is h)

pub returns-in-Ok : goal.returns-in-Ok
returns-in-Ok c = λ g h. c.made.ensures g (subst (λ r. AreCases g r) c.in-Ok.is h)
