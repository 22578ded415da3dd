use Rattle.std.proofs.Common.{◌≤◌, length, take}
use Rattle.smt_goal.specs.Session.{IsBound}
use Rattle.smt_goal.proofs.define.bind.Given as goal

abbrev pub invariant-loop-i : goal.invariant-loop-i
invariant-loop-i l = (l.i ≤ length l.params) × IsBound l.fn.reader l.reader (take l.i l.params)
