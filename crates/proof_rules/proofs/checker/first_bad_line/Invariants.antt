use Rattle.proof_rules.proofs.CheckLemmas.{Going}
use Rattle.proof_rules.proofs.checker.first_bad_line.Given as goal

abbrev pub invariant-loop-step : goal.invariant-loop-step
invariant-loop-step g l = Going g.D.Domain.SORT l.system l.state l.proof l.step-index l.line
