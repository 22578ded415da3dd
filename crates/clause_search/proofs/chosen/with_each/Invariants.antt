use Rattle.clause_search.specs.Chosen.{Chooses}
use Rattle.clause_search.proofs.chosen.with_each.Given as goal

abbrev pub invariant-loop-node : goal.invariant-loop-node
invariant-loop-node g l = Chooses g.D.Domain.SORT l.system l.goal l.more
