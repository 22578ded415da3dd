use Rattle.smt_term.proofs.MakingLemmas.{LeftOn}
use Rattle.smt_term.proofs.making.from_left.Given as goal

abbrev pub invariant-loop-arg : goal.invariant-loop-arg
invariant-loop-arg l = LeftOn l.fn.table l.table l.op l.first l.rest l.arg-index l.made
