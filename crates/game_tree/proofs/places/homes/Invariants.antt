use Rattle.std.proofs.Common.{◌≡◌, ◌+◌, ◌≤◌, take, length}
use Rattle.game_tree.specs.Gather.{moves_of, all_moves, homes_from}
use Rattle.game_tree.specs.Known.{Knows}
use Rattle.game_tree.proofs.places.homes.Given as goal

abbrev pub invariant-loop-other : goal.invariant-loop-other
invariant-loop-other l =
    Knows l.known (all_moves (moves_of l.branches) (moves_of (take l.other-index l.others)))
    × (l.count ≡ length (all_moves (moves_of l.branches) (moves_of (take l.other-index l.others))))
    × (l.count ≤ length l.branches + l.other-index)
    × (l.homes.items ≡ homes_from (moves_of l.branches) (moves_of (take l.other-index l.others)))
