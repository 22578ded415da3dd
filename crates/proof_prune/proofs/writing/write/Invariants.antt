use Rattle.std.proofs.Common.{◌≡◌, ◌-◌, ◌++◌, ◌∷◌, [], drop, length}
use Rattle.proof_prune.specs.Writing.{written}
use Rattle.proof_prune.proofs.writing.write.Given as goal

abbrev pub invariant-loop-place : goal.invariant-loop-place
invariant-loop-place l = l.lines ++ written l.proof l.names.items 0 (drop l.place l.items) ≡ written l.proof (0 ∷ []) 0 l.items

abbrev pub decreases-loop-place : goal.decreases-loop-place
decreases-loop-place l = length l.items - l.place
