use Rattle.std.proofs.Common.{◌≡◌, ◌+◌, ◌*◌, [], drop, length}
use Rattle.smt_tree.specs.Seen.{seen, all_seen}
use Rattle.term_table.specs.Meaning.{meanings, Extends}
use Rattle.smt_term.specs.Terms.{terms}
use Rattle.smt_term.specs.Walked.{let_names}
use Rattle.smt_term.specs.View.{all_at, AreIn}
use Rattle.smt_term.specs.Reads.{scope_seen, Keeps}
use Rattle.smt_term.specs.Newest.{size, bound_at, BoundIn}
use Rattle.smt_term.proofs.PairLemmas.{Alike}
use Rattle.smt_term.proofs.reader.Reader.+walk.Given as goal

abbrev pub decreases-term : goal.decreases-term
decreases-term l = 8 * size (seen l.expr.now)

abbrev pub decreases-inside : goal.decreases-inside
decreases-inside l = 8 * size (all_seen l.items.now) + 7

abbrev pub decreases-behind : goal.decreases-behind
decreases-behind l = 8 * size (all_seen l.args.now) + 6

abbrev pub decreases-let_term : goal.decreases-let_term
decreases-let_term l = 8 * size (all_seen l.args.now) + 5

abbrev pub decreases-binder : goal.decreases-binder
decreases-binder l = 8 * size (all_seen l.args.now) + 5

abbrev pub decreases-annotated : goal.decreases-annotated
decreases-annotated l = 8 * size (all_seen l.args.now) + 5

abbrev pub decreases-one : goal.decreases-one
decreases-one l = 8 * size (all_seen l.items.now) + 2

abbrev pub decreases-terms : goal.decreases-terms
decreases-terms l = 8 * size (all_seen l.items.now) + 1

abbrev pub decreases-bound : goal.decreases-bound
decreases-bound l = 8 * size (all_seen l.items.now) + 1

abbrev pub invariant-terms-loop-item : goal.invariant-terms-loop-item
invariant-terms-loop-item l = record {
  keeps : Keeps l.fn.self l.self;
  grows : Extends l.fn.self.table l.self.table;
  within : AreIn (length l.self.table) l.terms.items;
  left : terms (scope_seen l.fn.self) (all_at (meanings l.self.table) l.terms.items) (all_seen (drop l.item-index l.items)) ≡ terms (scope_seen l.fn.self) [] (all_seen l.items);
}

abbrev pub invariant-bound-loop-item : goal.invariant-bound-loop-item
invariant-bound-loop-item l = record {
  keeps : Keeps l.fn.self l.self;
  grows : Extends l.fn.self.table l.self.table;
  same_names : Alike l.taken (bound_at (meanings l.self.table) [] l.bound.items);
  within : BoundIn (length l.self.table) l.bound.items;
  left : let_names (scope_seen l.fn.self) (bound_at (meanings l.self.table) [] l.bound.items) (all_seen (drop l.item-index l.items)) ≡ let_names (scope_seen l.fn.self) [] (all_seen l.items);
}
