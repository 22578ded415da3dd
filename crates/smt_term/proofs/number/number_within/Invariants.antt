use Rattle.std.proofs.Common.{◌≡◌, ◌≤◌, drop}
use Rattle.lin_term.specs.Form.{cap}
use Rattle.smt_term.specs.Numeral.{number_behind, number_of}
use Rattle.smt_term.proofs.number.number_within.Given as goal

abbrev pub invariant-loop-digit : goal.invariant-loop-digit
invariant-loop-digit l = (number_behind l.n (drop l.digit-index l.digits) ≡ number_of l.digits) × (l.n ≤ cap)
