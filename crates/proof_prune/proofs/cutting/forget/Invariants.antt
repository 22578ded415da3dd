use Rattle.std.proofs.Common.{◌≡◌, ◌-◌, take, drop}
use Rattle.proof_prune.specs.Counting.{uncounted, AtMost}
use Rattle.proof_prune.specs.Cutting.{reads_from}
use Rattle.proof_prune.proofs.cutting.forget.Given as goal

abbrev pub invariant-loop-place : goal.invariant-loop-place
invariant-loop-place l = record {
  counts : uncounted (reads_from 0 (drop l.place (take l.end l.items))) l.counts.items ≡ uncounted (reads_from 0 (drop l.fn.at (take l.end l.items))) l.fn.counts.items;
  few : AtMost l.most l.counts.items;
}

abbrev pub decreases-loop-place : goal.decreases-loop-place
decreases-loop-place l = l.stop - l.place
