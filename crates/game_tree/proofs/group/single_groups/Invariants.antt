use Rattle.std.proofs.Common.{◌≡◌, ◌++◌, map, reverse, length}
use Rattle.game_tree.specs.Gather.{group_of, single, pairs_of}
use Rattle.game_tree.proofs.group.single_groups.Given as goal

abbrev pub invariant-loop-branch : goal.invariant-loop-branch
invariant-loop-branch l = map single (pairs_of l.fn.branches) ≡ map single (pairs_of l.left) ++ reverse (map group_of l.groups.items)

abbrev pub decreases-loop-branch : goal.decreases-loop-branch
decreases-loop-branch l = length l.left
