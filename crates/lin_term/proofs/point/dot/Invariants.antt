use Rattle.std.proofs.Common.{◌≡◌, ◌≤◌, ◌*◌, ◌^◌, pos, nat_abs, take, ◌+◌, ◌+ℤ◌, ◌*ℤ◌}
use Rattle.lin_term.specs.Linear.{dot_terms}
use Rattle.lin_term.proofs.point.dot.Given as goal

abbrev pub invariant-loop-var : goal.invariant-loop-var
invariant-loop-var l = record {
  items : l.var-items ≡ l.row.terms;
  value : l.sum ≡ dot_terms (take l.var-index l.var-items) l.nums +ℤ l.row.constant *ℤ pos l.point.den;
  size : nat_abs l.sum ≤ (l.var-index + 1) * 2 ^ 104;
}
