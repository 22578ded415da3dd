use Rattle.std.proofs.Common.{◌≡◌, ◌++◌, false, replicate}
use Rattle.proof_idle.proofs.walk.push_unread.Given as goal

abbrev pub invariant-loop : goal.invariant-loop
invariant-loop l = l.used.items ≡ l.fn.used.items ++ replicate l.counter false
