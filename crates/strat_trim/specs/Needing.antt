-- Which paths a proof needs, said of the nodes of each path.
use Rattle.std.specs.Prelude.{ℕ, ◌<◌, ◌≡◌, ◌⊎◌, ◌↔◌, nat_eq, Bool, true, false, List, [], get_or, length}
use Rattle.std.specs.List.{list_any}
use Rattle.cube_rules.specs.declared.Step.{Step}
use Rattle.game_tree.specs.Skeleton.{Skeleton, paths}
use Rattle.lose_system.specs.Losing.{routes}
use Rattle.strat_trim.specs.Trimmed.{names_path, names_node}

-- node v lies on path k
abbrev pub LiesOn : Skeleton → ℕ → ℕ → Type 0
LiesOn S v k = list_any (nat_eq v) (get_or (routes S [] 0) k []) ≡ true

-- path k is the first through a node that a line names and that lies on no named path
pub record IsFirstThrough (S : Skeleton) (steps : List Step) (k : ℕ) : Type 0 where
  pub node : ℕ
  pub named : names_node steps node ≡ true
  pub free : (j : ℕ) → names_path steps j ≡ true → ¬ LiesOn S node j
  pub on : LiesOn S node k
  pub first : (j : ℕ) → j < k → ¬ LiesOn S node j

-- path k is named, or the first through such a node; where there is neither a named path nor such a node, the first path
abbrev pub IsNeeded : Skeleton → List Step → ℕ → Type 0
IsNeeded S steps k =
    (names_path steps k ≡ true) ⊎ (IsFirstThrough S steps k ⊎ ((k ≡ 0) × ((j : ℕ) → j < length (paths S) → ¬ ((names_path steps j ≡ true) ⊎ IsFirstThrough S steps j))))

-- a flag for each path, set exactly where the path is needed
abbrev pub AreNeeded : Skeleton → List Step → List Bool → Type 0
AreNeeded S steps flags =
    (length flags ≡ length (paths S)) × ((k : ℕ) → k < length (paths S) → (get_or flags k false ≡ true) ↔ IsNeeded S steps k)
