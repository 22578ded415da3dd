use Rattle.std.proofs.Common.{◌+◌, ◌*◌, drop}
use Rattle.game_tree.specs.Skeleton.{nodes, branch_nodes}
use Rattle.game_tree.specs.View.{skeleton_of, branches_of}
use Rattle.game_tree.specs.Full.{AllIn}
use Rattle.game_tree.proofs.containing.+contains.Given as goal

abbrev pub invariant-have_known_paths-loop-other : goal.invariant-have_known_paths-loop-other
invariant-have_known_paths-loop-other l = AllIn (branches_of (drop l.other-index l.others)) (branches_of l.branches) → AllIn (branches_of l.others) (branches_of l.branches)

abbrev pub decreases-has_paths : goal.decreases-has_paths
decreases-has_paths l = 3 * nodes (skeleton_of l.part.now) + 2

abbrev pub decreases-have_paths : goal.decreases-have_paths
decreases-have_paths l = 3 * branch_nodes (branches_of l.others.now) + 1

abbrev pub decreases-have_known_paths : goal.decreases-have_known_paths
decreases-have_known_paths l = 3 * branch_nodes (branches_of l.others.now)
