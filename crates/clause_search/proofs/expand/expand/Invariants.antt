use Rattle.clause_search.specs.Taken.{IsGoal}
use Rattle.clause_search.specs.Searching.{Reaches}
use Rattle.clause_search.proofs.expand.expand.Given as goal

abbrev pub invariant-loop : goal.invariant-loop
invariant-loop g l = record {
  reaches : Reaches g.D.Domain.SORT l.system l.fn.goal l.fn.lines l.goal l.lines;
  kept : IsGoal g.D.Domain.SORT l.system l.goal;
}
