use Rattle.std.proofs.Common.{◌+◌, ◌≡◌, drop}
use Rattle.game_tree.specs.Skeleton.{branch_nodes}
use Rattle.game_tree.specs.View.{branches_of}
use Rattle.game_tree.proofs.counting.+nodes.Given as goal

-- the count so far and what is left are all
abbrev pub invariant-branch_node_count-loop-branch : goal.invariant-branch_node_count-loop-branch
invariant-branch_node_count-loop-branch l =
    l.count + branch_nodes (branches_of (drop l.branch-index l.branches)) ≡ branch_nodes (branches_of l.branches)
