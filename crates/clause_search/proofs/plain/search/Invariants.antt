use Rattle.std.specs.Prelude.{[], reverse}
use Rattle.clause_search.specs.Stacked.{Stands_at}
use Rattle.clause_search.proofs.plain.search.Given as goal

abbrev pub invariant-loop : goal.invariant-loop
invariant-loop g l = Stands_at g.D.Domain.SORT l.system (record { count = 0; next = 0; waiting = []; lits = [] }) l.fn.lines (reverse l.splits) l.lines l.state
