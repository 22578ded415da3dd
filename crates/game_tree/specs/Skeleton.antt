-- Skeletons: trees of moves of one player along a prefix. The player is the one of Exists.
use Rattle.std.specs.Prelude.{ℕ, suc, ◌+◌, ◌^◌, ◌≤◌, ◌≢◌, ℤ, pos, Option, Some, None, List, [], ◌∷◌, ◌++◌, map, ⊤}
use Rattle.lin_term.specs.declared.Sort.{Sort}
use Rattle.lin_term.specs.Linear.{Below, constant_form}
use Rattle.lin_term.specs.Move.{Move, IsMove}
use Rattle.lin_term.specs.Definition.{IsKeptMove}
use Rattle.dom_core.specs.declared.Quant.{Quant}
use Rattle.dom_core.specs.declared.Quant.TheVariants.{Exists, Forall}
use Rattle.dom_core.specs.Game.{Problem}

mutual
  pub data Skeleton : Type 0 where
    end : Skeleton
    theirs : Skeleton → Skeleton
    mine : Branches → Skeleton

  pub data Branches : Type 0 where
    no_more : Branches
    branch : Move → Skeleton → Branches → Branches

-- the other player's variables and the moves
abbrev mutual
  pub nodes : Skeleton → ℕ
  nodes end = 0
  nodes (theirs t) = 1 + nodes t
  nodes (mine bs) = branch_nodes bs

  pub branch_nodes : Branches → ℕ
  branch_nodes no_more = 0
  branch_nodes (branch m t bs) = (1 + nodes t) + branch_nodes bs

-- the paths in preorder: a move at each variable of the owner, none at each other one
abbrev mutual
  pub paths : Skeleton → List (List (Option Move))
  paths end = [] ∷ []
  paths (theirs t) = map (λ path. None ∷ path) (paths t)
  paths (mine bs) = branch_paths bs

  pub branch_paths : Branches → List (List (Option Move))
  branch_paths no_more = []
  branch_paths (branch m t bs) = map (λ path. Some m ∷ path) (paths t) ++ branch_paths bs

-- a move for the variable at position k: over earlier variables, in lowest form, within the cap with its definition
pub record IsMoveAt (s : Sort) (k : ℕ) (m : Move) : Type 0 where
  pub written : IsMove m
  pub earlier : Below k m.numer
  pub kept : IsKeptMove s m

-- none of the branches has this move
abbrev pub IsNew : Move → Branches → Type 0
IsNew m no_more = ⊤
IsNew m (branch n t bs) = (m ≢ n) × IsNew m bs

abbrev pub IsSomeBranch : Branches → Type 0
IsSomeBranch no_more = ⊥
IsSomeBranch (branch m t bs) = ⊤

-- from position k on, where the rest of the prefix is qs: one child at Forall, one or more distinct moves at Exists
abbrev mutual
  pub Follows : Skeleton → Sort → List Quant → ℕ → Type 0
  Follows end s [] k = ⊤
  Follows end s (q ∷ qs) k = ⊥
  Follows (theirs t) s [] k = ⊥
  Follows (theirs t) s (Exists ∷ qs) k = ⊥
  Follows (theirs t) s (Forall ∷ qs) k = Follows t s qs (suc k)
  Follows (mine bs) s [] k = ⊥
  Follows (mine bs) s (Forall ∷ qs) k = ⊥
  Follows (mine bs) s (Exists ∷ qs) k = IsSomeBranch bs × EachFollows bs s qs k

  pub EachFollows : Branches → Sort → List Quant → ℕ → Type 0
  EachFollows no_more s qs k = ⊤
  EachFollows (branch m t bs) s qs k = IsMoveAt s k m × IsNew m bs × Follows t s qs (suc k) × EachFollows bs s qs k

abbrev pub node_limit : ℕ
node_limit = 2 ^ 20

-- a skeleton of the problem, for the player who is Exists in it
pub record IsSkeleton (s : Sort) (P : Problem) (S : Skeleton) : Type 0 where
  pub follows : Follows S s P.prefix 0
  pub few : nodes S ≤ node_limit

-- the move that has this value
abbrev pub constant_move : ℤ → Move
constant_move c = record { numer = constant_form c; div = 1 }

-- along a prefix, with the move 0 alone at each variable of the owner
abbrev pub zero_tree : List Quant → Skeleton
zero_tree [] = end
zero_tree (Exists ∷ qs) = mine (branch (constant_move (pos 0)) (zero_tree qs) no_more)
zero_tree (Forall ∷ qs) = theirs (zero_tree qs)
