use Rattle.norm_form.specs.Cases.{joined}
use Rattle.norm_form.proofs.Running.{BothStand}
use Rattle.norm_form.proofs.change.joined_each.Given as goal

abbrev pub invariant-loop-case : goal.invariant-loop-case
invariant-loop-case l = BothStand (joined l.step l.x) l.cases l.case-index l.out
