use Rattle.std.proofs.Common.{◌≡◌, map, take}
use Rattle.proof_prune.specs.Writing.{new_number}
use Rattle.proof_prune.proofs.renumbering.new_numbers.Given as goal

abbrev pub invariant-loop-fact : goal.invariant-loop-fact
invariant-loop-fact l = l.list ≡ map (new_number l.names) (take l.fact-index l.facts)
