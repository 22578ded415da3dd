use Rattle.std.proofs.Common.{◌≡◌, ◌+◌, ◌-◌, ◌*◌, length, map, []}
use Rattle.strat_words.specs.View.{spot}
use Rattle.strat_words.proofs.Loops.{with_front}
use Rattle.strat_text.specs.Seen.{HasMoves}
use Rattle.strat_text.specs.Tree as spec
use Rattle.strat_text.proofs.preorder.+preorder.Given as goal

abbrev pub decreases-branches : goal.decreases-branches
decreases-branches l = 2 * length l.turns.now + 1

abbrev pub decreases-tree : goal.decreases-tree
decreases-tree l = 2 * length l.turns.now

abbrev pub invariant-branches-loop : goal.invariant-branches-loop
invariant-branches-loop l = record {
  so_far : with_front l.all (spec.branches (spec.tree l.turns (l.pos + 1)) l.pos (l.count - l.counter) (map (λ b. b.term) l.all) (spot l.place)) ≡ spec.branches (spec.tree l.turns (l.pos + 1)) l.pos l.count [] (spot l.at);
  has : HasMoves l.seen (map (λ b. b.term) l.all);
}
