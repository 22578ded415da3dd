use Rattle.std.proofs.Common.{◌-◌}
use Rattle.clause_search.proofs.Parting.{Parts}
use Rattle.clause_search.proofs.expand.take_parts.Given as goal

abbrev pub invariant-loop-done : goal.invariant-loop-done
invariant-loop-done g l = Parts g.D.Domain.SORT l.system l.fn.goal l.whole l.parts l.fn.lines (l.count - l.done) l.goal l.lines
