-- All versions of a growing skeleton, and what its type keeps.
use Rattle.std.specs.Prelude.{ℕ, zero, suc, ◌≡◌, ◌≤◌, IsTrue, List, [], ◌∷◌, ◌++◌}
use Rattle.lin_term.specs.declared.Sort.{Sort}
use Rattle.dom_core.specs.declared.Quant.{Quant}
use Rattle.game_tree.specs.declared.Tree.{Tree}
use Rattle.game_tree.specs.declared.Tree.TheVariants as trees
use Rattle.game_tree.specs.Skeleton.{Skeleton, nodes, node_limit}
use Rattle.game_tree.specs.View.{skeleton_of}
use Rattle.game_tree.specs.Written.{WrittenSkeleton, FollowsPrefix}
use Rattle.game_tree.specs.Union.{union}
use Rattle.grown_tree.specs.declared.node.Node.{Node}
use Rattle.grown_tree.specs.Shown.{shown, is_sound}

-- a prefix, and a tree along it for each version, the first in front
pub record Versions : Type 0 where
  pub prefix : List Quant
  pub versions : List Tree

-- the last version
abbrev pub newest : List Tree → Tree
newest [] = trees.End
newest (t ∷ []) = t
newest (t ∷ u ∷ ts) = newest (u ∷ ts)

-- one more version, the union of the newest one and a skeleton
pub record Grows (olds : List Tree) (C : Skeleton) (news : List Tree) : Type 0 where
  pub tree : Tree
  pub appended : news ≡ olds ++ tree ∷ []
  pub is_union : skeleton_of tree ≡ union (skeleton_of (newest olds)) C

-- a tree that follows its prefix, with at most 1,048,576 nodes
pub record IsLent (s : Sort) (S : WrittenSkeleton) : Type 0 where
  pub follows : FollowsPrefix s S
  pub few : nodes (skeleton_of S.tree) ≤ node_limit

-- the versions up to number n
abbrev pub up_to : Node → List Quant → ℕ → List Tree
up_to r qs zero = shown 0 r qs ∷ []
up_to r qs (suc n) = up_to r qs n ++ shown (suc n) r qs ∷ []

-- every version follows the prefix and has at most 1,048,576 nodes, the newest one at most b
pub record IsGrown (s : Sort) (qs : List Quant) (r : Node) (n b : ℕ) : Type 0 where
  pub sound : IsTrue (is_sound n r)
  pub lent : (v : ℕ) → v ≤ n → IsLent s (record { prefix = qs; tree = shown v r qs })
  pub counted : nodes (skeleton_of (shown n r qs)) ≤ b
  pub within : b ≤ node_limit
