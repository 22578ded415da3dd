use Rattle.std.proofs.Common.{◌≡◌, ◌+◌, ◌*◌, ◌++◌, map}
use Rattle.game_tree.specs.View.{skeleton_of}
use Rattle.game_tree.specs.Gather.{group_of, whole, pairs_of}
use Rattle.game_tree.proofs.Gathers.{weight, weight_all, group_weight}
use Rattle.game_tree.proofs.union.+merge.Given as goal

abbrev pub invariant-merge_groups-loop-group : goal.invariant-merge_groups-loop-group
invariant-merge_groups-loop-group l = (pairs_of l.all ≡ map whole (map group_of l.yielded)) × (l.fn.groups.items ≡ l.yielded ++ l.group-iterator.rest.items)

abbrev pub decreases-merged : goal.decreases-merged
decreases-merged l = 2 * (weight (skeleton_of l.first) + weight_all (map skeleton_of l.more.items))

abbrev pub decreases-merge_groups : goal.decreases-merge_groups
decreases-merge_groups l = 2 * group_weight (map group_of l.groups.items) + 1
