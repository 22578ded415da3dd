use Rattle.std.proofs.Common.{◌≡◌, map, reverse, drop}
use Rattle.game_tree.specs.Gather.{group_of, add_all, pairs_of}
use Rattle.game_tree.proofs.group.add_branches.Given as goal

abbrev pub invariant-loop-home : goal.invariant-loop-home
invariant-loop-home l =
    add_all (drop l.home-index l.homes) (map group_of l.groups.items) (pairs_of (reverse l.turned.items))
    ≡ add_all l.homes (map group_of l.fn.groups.items) (pairs_of (reverse l.fn.turned.items))
