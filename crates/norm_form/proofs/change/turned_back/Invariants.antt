use Rattle.std.specs.Prelude.{length}
use Rattle.norm_form.specs.Cases.{changed}
use Rattle.norm_form.proofs.Running.{GoesOn}
use Rattle.norm_form.proofs.change.turned_back.Given as goal

abbrev pub invariant-loop-case : goal.invariant-loop-case
invariant-loop-case l = GoesOn (λ k. changed l.change l.sort k) l.fn.cases l.todo l.out

abbrev pub decreases-loop-case : goal.decreases-loop-case
decreases-loop-case l = length l.todo
