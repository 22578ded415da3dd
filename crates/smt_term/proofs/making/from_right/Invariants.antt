use Rattle.smt_term.proofs.MakingLemmas.{RightOn}
use Rattle.smt_term.proofs.making.from_right.Given as goal

abbrev pub invariant-loop-first : goal.invariant-loop-first
invariant-loop-first l = RightOn l.fn.table l.table l.op l.args l.first l.made

abbrev pub decreases-loop-first : goal.decreases-loop-first
decreases-loop-first l = l.first
