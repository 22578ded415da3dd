use Rattle.std.proofs.Common.{◌≡◌, ◌≤◌, drop}
use Rattle.smt_term.specs.Numeral.{significant}
use Rattle.smt_term.proofs.number.significant.Given as goal

abbrev pub invariant-loop-i : goal.invariant-loop-i
invariant-loop-i l = (significant l.i l.kept (drop l.i l.digits) ≡ significant 0 0 l.digits) × (l.kept ≤ l.i)
