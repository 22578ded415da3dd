use Rattle.std.proofs.Common.{◌≡◌, ◌++◌, reverse, length}
use Rattle.game_tree.proofs.group.from_the_last.Given as goal

abbrev pub invariant-loop-branch : goal.invariant-loop-branch
invariant-loop-branch l = l.fn.branches ≡ l.left ++ reverse l.turned.items

abbrev pub decreases-loop-branch : goal.decreases-loop-branch
decreases-loop-branch l = length l.left
