use Rattle.std.proofs.Common.{◌≤◌}
use Rattle.strat_trim.proofs.MarkLemmas.{Blank}
use Rattle.strat_trim.proofs.naming.unmarked.Given as goal

abbrev pub invariant-loop-place : goal.invariant-loop-place
invariant-loop-place l = Blank l.place l.marks × (l.place ≤ l.count)
