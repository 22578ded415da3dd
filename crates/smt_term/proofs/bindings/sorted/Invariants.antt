use Rattle.std.proofs.Common.{◌≡◌, [], drop}
use Rattle.smt_tree.specs.Seen.{all_seen}
use Rattle.smt_term.specs.Newest.{newest_first}
use Rattle.smt_term.proofs.PairLemmas.{Alike, sorted_on}
use Rattle.smt_term.proofs.bindings.sorted.Given as goal

abbrev pub invariant-loop-item : goal.invariant-loop-item
invariant-loop-item l = record {
  same_names : Alike l.taken (newest_first [] l.bindings.items);
  left : sorted_on l.logic (newest_first [] l.bindings.items) (all_seen (drop l.item-index l.items)) ≡ sorted_on l.logic [] (all_seen l.items);
}
