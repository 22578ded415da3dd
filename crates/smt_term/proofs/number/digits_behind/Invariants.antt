use Rattle.std.proofs.Common.{◌≡◌, ◌≤◌, ◌+◌, ◌-◌, ◌*◌, ◌^◌, length, drop}
use Rattle.smt_term.specs.Numeral.{number_behind}
use Rattle.smt_term.proofs.number.digits_behind.Given as goal

abbrev pub invariant-loop-digit : goal.invariant-loop-digit
invariant-loop-digit l =
    (number_behind l.n (drop l.digit-index l.digits) ≡ number_behind l.start l.digits)
    × ((l.n + 1) * 10 ^ (length l.digits - l.digit-index) ≤ (l.start + 1) * 10 ^ length l.digits)
