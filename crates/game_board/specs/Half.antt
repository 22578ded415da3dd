-- What a board keeps of a side, beside its history.
use Rattle.std.specs.Prelude.{ℕ, suc, ◌<◌, ◌≤◌, ◌≡◌, Bool, true, Some, List, map, slice_get, slice_set}
use Rattle.dom_core.specs.declared.Side.{Side}
use Rattle.dom_core.specs.declared.Side.TheVariants.{Exists, Forall}
use Rattle.game_tree.specs.View.{skeleton_of}
use Rattle.game_tree.specs.Skeleton.{Skeleton, nodes, node_limit}
use Rattle.game_tree.specs.Union.{union}
use Rattle.game_tree.specs.Among.{IsAmong}
use Rattle.grown_tree.specs.Versions.{newest}
use Rattle.game_board.specs.declared.half.Half.{Half}
use Rattle.game_board.specs.declared.halves.Halves.{Halves}
use Rattle.game_history.specs.History.{SideState, versions, newest_number, add_version}

-- the half of a side
abbrev pub half_of : {D : Type 0} → Side → Halves D → Half D
half_of {D} Exists p = p.exists
half_of {D} Forall p = p.forall

abbrev pub with_half : {D : Type 0} → Side → Half D → Halves D → Halves D
with_half {D} Exists h p = record { exists = h; forall = p.forall }
with_half {D} Forall h p = record { exists = p.exists; forall = h }

abbrev pub with_reach : {D : Type 0} → ℕ → Half D → Half D
with_reach {D} v h = record { problem = h.problem; grown = h.grown; reach = Some v; noted = h.noted }

abbrev pub with_note : {D : Type 0} → ℕ → Half D → Half D
with_note {D} v h = record { problem = h.problem; grown = h.grown; reach = h.reach; noted = slice_set h.noted v true }

abbrev pub all_versions : {D : Type 0} → Half D → List Skeleton
all_versions {D} h = map skeleton_of h.grown.versions

-- the numbers at which the table has true are those of the list
pub record IsTableOf (table : List Bool) (notes : List ℕ) : Type 0 where
  pub noted : (v : ℕ) → IsAmong v notes → slice_get table v ≡ Some true
  pub listed : (v : ℕ) → slice_get table v ≡ Some true → IsAmong v notes

-- the half of a board is the state of a side
pub record IsHalfOf {D : Type 0} (h : Half D) (x : SideState) : Type 0 where
  pub prefix : h.grown.prefix ≡ h.problem.prefix
  pub versions_are : all_versions h ≡ versions x
  pub reach : h.reach ≡ x.reach
  pub notes : IsTableOf h.noted x.notes

-- the half has one more version, of number m, and its reach is v
pub record Grows {D : Type 0} (C : Skeleton) (v m : ℕ) (h h' : Half D) : Type 0 where
  pub problem : h'.problem ≡ h.problem
  pub noted : h'.noted ≡ h.noted
  pub number : (x : SideState) → IsHalfOf h x → m ≡ suc (newest_number x)
  pub within : (x : SideState) → IsHalfOf h x → nodes (union x.newest C) ≤ node_limit
  pub state : (x : SideState) → IsHalfOf h x → IsHalfOf h' (add_version C v x)

-- the union of the newest version with C has n nodes, which are too many
abbrev pub IsTooLarge : {D : Type 0} → Skeleton → Half D → ℕ → Type 0
IsTooLarge {D} C h n = (n ≡ nodes (union (skeleton_of (newest h.grown.versions)) C)) × (node_limit < n)
