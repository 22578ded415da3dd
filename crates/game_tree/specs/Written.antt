-- Skeletons as they are written, and what their type keeps.
use Rattle.std.specs.Prelude.{ℕ, ◌≤◌, ◌^◌, List, length}
use Rattle.lin_term.specs.declared.Sort.{Sort}
use Rattle.dom_core.specs.declared.Quant.{Quant}
use Rattle.game_tree.specs.declared.tree.Tree.{Tree}
use Rattle.game_tree.specs.Skeleton.{Follows, nodes, node_limit}
use Rattle.game_tree.specs.View.{skeleton_of}

-- a tree and the prefix along which it goes
pub record WrittenSkeleton : Type 0 where
  pub prefix : List Quant
  pub tree : Tree

-- more nodes than any memory holds, so that a count of them is a word
abbrev pub count_limit : ℕ
count_limit = 2 ^ 62

-- the tree follows its own prefix, which has at most 1,024 variables
pub record FollowsPrefix (s : Sort) (S : WrittenSkeleton) : Type 0 where
  pub short : length S.prefix ≤ 1024
  pub follows : Follows (skeleton_of S.tree) s S.prefix 0
  pub countable : nodes (skeleton_of S.tree) ≤ count_limit

-- the tree follows the prefix, with at most 1,048,576 nodes
abbrev pub IsWithinLimit : Sort → WrittenSkeleton → Type 0
IsWithinLimit s S = Follows (skeleton_of S.tree) s S.prefix 0 × (nodes (skeleton_of S.tree) ≤ node_limit)
