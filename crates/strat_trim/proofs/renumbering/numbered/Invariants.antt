use Rattle.strat_trim.proofs.RenumberLemmas.{Numbering}
use Rattle.strat_trim.proofs.renumbering.numbered.Given as goal

abbrev pub invariant-loop-mark : goal.invariant-loop-mark
invariant-loop-mark l = Numbering l.list l.count l.mark-index l.marks
