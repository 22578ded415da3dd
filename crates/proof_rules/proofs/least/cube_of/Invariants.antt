use Rattle.proof_rules.proofs.LeastLemmas.{Read}
use Rattle.proof_rules.proofs.least.cube_of.Given as goal

abbrev pub invariant-loop-fact : goal.invariant-loop-fact
invariant-loop-fact g l = Read g.D.Domain.SORT l.system l.facts l.fact-index l.lits
