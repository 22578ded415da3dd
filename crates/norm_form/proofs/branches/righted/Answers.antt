use Rattle.std.proofs.Common.{subst, ◌∙◌}
use Rattle.norm_form.specs.Cases.{AreTurnedBack}
use Rattle.norm_form.proofs.Running.{righted_stop}
use Rattle.norm_form.proofs.branches.righted.Goals as goal

pub returns-in-Err : goal.returns-in-Err
returns-in-Err c = λ f cs h. righted_stop f cs c.in-Err.fault (subst (λ r. AreTurnedBack f cs r) c.in-Err.is h)

pub returns-in_ok-flipped-in-Ok : goal.returns-in_ok-flipped-in-Ok
returns-in_ok-flipped-in-Ok c = λ f cs h k rs. c.in_ok-flipped-in-Ok.ensures.forth k rs ∙ (subst (λ r. AreTurnedBack f cs r) c.in-Ok.is h) k rs
