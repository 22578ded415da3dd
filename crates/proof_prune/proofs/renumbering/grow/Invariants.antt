use Rattle.std.proofs.Common.{◌≡◌, ◌-◌}
use Rattle.proof_prune.specs.Writing.{grown}
use Rattle.proof_prune.proofs.renumbering.grow.Given as goal

abbrev pub invariant-loop : goal.invariant-loop
invariant-loop l = grown (l.facts - l.counter) l.names.items ≡ grown l.facts l.fn.names.items
