use Rattle.std.proofs.Common.{◌≡◌, ◌+◌, ◌*◌, length}
use Rattle.dom_core.specs.View.{matrix_of}
use Rattle.game_tree.specs.View.{skeleton_of}
use Rattle.game_play.proofs.Turns.{SomeFrom, EveryFrom, own_course, other_course}
use Rattle.game_play.proofs.play.+wins.Given as goal

abbrev pub decreases-wins : goal.decreases-wins
decreases-wins l = 4 * length l.prefix.now

abbrev pub decreases-turn : goal.decreases-turn
decreases-turn l = 4 * length l.rest.now + 3

abbrev pub decreases-some_wins : goal.decreases-some_wins
decreases-some_wins l = 4 * length l.rest.now + 2

abbrev pub decreases-each_wins : goal.decreases-each_wins
decreases-each_wins l = 4 * length l.rest.now + 2

abbrev pub decreases-wins_with : goal.decreases-wins_with
decreases-wins_with l = 4 * length l.rest.now + 1

abbrev pub invariant-some_wins-loop-branch : goal.invariant-some_wins-loop-branch
invariant-some_wins-loop-branch l = record {
  values : l.values ≡ l.fn.values;
  course : SomeFrom l.branches (own_course l.rest l.sort (matrix_of l.matrix) (skeleton_of l.other) l.fn.values) l.branch-index;
}

abbrev pub invariant-each_wins-loop-branch : goal.invariant-each_wins-loop-branch
invariant-each_wins-loop-branch l = record {
  values : l.values ≡ l.fn.values;
  course : EveryFrom l.branches (other_course l.rest l.sort (matrix_of l.matrix) (skeleton_of l.own) l.fn.values) l.branch-index;
}
