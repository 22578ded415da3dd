use Rattle.std.proofs.Common.{◌≡◌, ◌++◌, replicate}
use Rattle.proof_prune.specs.Counting.{AtMost}
use Rattle.proof_prune.proofs.cutting.push_unread.Given as goal

abbrev pub invariant-loop : goal.invariant-loop
invariant-loop l = record {
  counts : l.counts.items ≡ l.fn.counts.items ++ replicate l.counter 0;
  few : AtMost l.most l.counts.items;
}
