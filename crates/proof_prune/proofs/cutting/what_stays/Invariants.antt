use Rattle.std.proofs.Common.{◌≡◌, ◌≤◌, ◌*◌, ◌^◌, drop, length}
use Rattle.proof_prune.specs.Counting.{AtMost}
use Rattle.proof_prune.specs.Cutting.{cut, uncut, cutting}
use Rattle.proof_prune.proofs.cutting.what_stays.Given as goal

abbrev pub invariant-loop-i : goal.invariant-loop-i
invariant-loop-i l = record {
  walk : cut l.i (drop l.i l.proof) (cutting l.walk.counts.items l.walk.items.items l.walk.around.items l.walk.skip l.walk.copies) ≡ cut 0 l.proof uncut;
  few : AtMost (length l.walk.items.items) l.walk.counts.items;
  skip : l.walk.skip ≤ l.i * 2 ^ 64;
}
