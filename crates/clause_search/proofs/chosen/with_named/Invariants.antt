use Rattle.clause_search.specs.Chosen.{Chooses}
use Rattle.clause_search.proofs.chosen.with_named.Given as goal

abbrev pub invariant-loop-place : goal.invariant-loop-place
invariant-loop-place g l = Chooses g.D.Domain.SORT l.system l.goal l.more
