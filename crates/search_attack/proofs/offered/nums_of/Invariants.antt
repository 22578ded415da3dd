use Rattle.lin_term.specs.Point.{AreWithin}
use Rattle.search_attack.proofs.offered.nums_of.Given as goal

abbrev pub invariant-loop-place : goal.invariant-loop-place
invariant-loop-place l = AreWithin l.nums
