use Rattle.std.proofs.Common.{◌≡◌, ◌+◌, drop}
use Rattle.game_tree.specs.Skeleton.{branch_nodes}
use Rattle.game_tree.specs.View.{branches_of}
use Rattle.game_tree.proofs.following.+room.Given as goal

-- what is left, and what was taken
abbrev pub invariant-branch_room_left-loop-branch : goal.invariant-branch_room_left-loop-branch
invariant-branch_room_left-loop-branch l =
    l.left + branch_nodes (branches_of l.branches) ≡ l.room + branch_nodes (branches_of (drop l.branch-index l.branches))
