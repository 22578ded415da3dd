use Rattle.smt_term.proofs.MakingLemmas.{LinksOn}
use Rattle.smt_term.proofs.making.links.Given as goal

abbrev pub invariant-loop-i : goal.invariant-loop-i
invariant-loop-i l = LinksOn l.fn.table l.table l.op l.args l.i l.parts.items
