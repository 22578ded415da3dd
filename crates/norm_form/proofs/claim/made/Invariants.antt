use Rattle.std.specs.Prelude.{length}
use Rattle.norm_form.specs.Claim.{claimed}
use Rattle.norm_form.proofs.Claiming.{Stands}
use Rattle.norm_form.proofs.claim.made.Given as goal

abbrev pub invariant-loop-case : goal.invariant-loop-case
invariant-loop-case l = Stands (λ e x. claimed l.claim l.sort l.truth x) l.fn.cases l.todo l.stack

abbrev pub decreases-loop-case : goal.decreases-loop-case
decreases-loop-case l = length l.todo
