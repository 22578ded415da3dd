use Rattle.std.proofs.Common.{◌≡◌, false, reverse, length}
use Rattle.proof_prune.specs.Counting.{AtMost}
use Rattle.proof_prune.specs.Cutting.{part_closed}
use Rattle.proof_prune.proofs.cutting.close.Given as goal

abbrev pub invariant-loop-around : goal.invariant-loop-around
invariant-loop-around l = record {
  walk : part_closed (reverse l.walk.around.items) l.walk.counts.items l.walk.items.items ≡ part_closed (reverse l.fn.walk.around.items) l.fn.walk.counts.items l.fn.walk.items.items;
  few : AtMost (length l.walk.items.items) l.walk.counts.items;
  skip : l.walk.skip ≡ 0;
  copies : l.walk.copies ≡ false;
}

abbrev pub decreases-loop-around : goal.decreases-loop-around
decreases-loop-around l = length l.walk.around.items
