use Rattle.cube_rules.proofs.Learning.{Negated}
use Rattle.cube_rules.proofs.learn.each_negation.Given as goal

abbrev pub invariant-loop-lit : goal.invariant-loop-lit
invariant-loop-lit l = Negated l.sort l.nodes l.lits l.lit-index l.all
