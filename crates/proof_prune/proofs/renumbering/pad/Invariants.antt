use Rattle.std.proofs.Common.{◌≡◌, ◌+◌, ◌++◌, replicate}
use Rattle.proof_prune.proofs.renumbering.pad.Given as goal

abbrev pub invariant-loop : goal.invariant-loop
invariant-loop l = l.names.items ≡ l.fn.names.items ++ replicate (l.counter + 1) l.number
