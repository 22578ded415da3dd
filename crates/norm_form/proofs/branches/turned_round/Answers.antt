use Rattle.std.proofs.Common.{subst, ◌∙◌}
use Rattle.norm_form.specs.Cases.{AreCases}
use Rattle.norm_form.proofs.Running.{round_stop}
use Rattle.norm_form.proofs.branches.turned_round.Goals as goal

pub returns-in-Err : goal.returns-in-Err
returns-in-Err c = λ g h. round_stop g c.in-Err.fault (subst (λ r. AreCases g r) c.in-Err.is h)

pub returns-in_ok-flipped-in-Ok : goal.returns-in_ok-flipped-in-Ok
returns-in_ok-flipped-in-Ok c = λ g h k rs. c.in_ok-flipped-in-Ok.ensures.back k rs ∙ (subst (λ r. AreCases g r) c.in-Ok.is h) k rs
