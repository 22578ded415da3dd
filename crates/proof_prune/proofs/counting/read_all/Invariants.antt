use Rattle.std.proofs.Common.{◌≡◌, ◌++◌, length, map, drop}
use Rattle.proof_prune.specs.declared.item.Item.TheVariants.{Read}
use Rattle.proof_prune.specs.Counting.{counted, AtMost}
use Rattle.proof_prune.proofs.counting.read_all.Given as goal

abbrev pub invariant-loop-fact : goal.invariant-loop-fact
invariant-loop-fact l = record {
  few : AtMost (length l.items.items) l.counts.items;
  counts : counted (drop l.fact-index l.facts) l.counts.items ≡ counted l.facts l.fn.counts.items;
  items : l.items.items ++ map Read (drop l.fact-index l.facts) ≡ l.fn.items.items ++ map Read l.facts;
}
