-- What fetches leave in the counts of a shelf.
use Rattle.std.specs.Prelude.{ℕ, ◌≡◌, ◌<◌, List}
use Rattle.ss_shelf.specs.declared.CallKind.{CallKind}
use Rattle.ss_shelf.specs.declared.CallKind.TheVariants.{Fetch}
use Rattle.ss_shelf.specs.Outside.{Counts}

-- where the call failed the count of a fetch of a watched name rose; no other count changes, and none where it did not fail
pub record ReadCounted (watched : List ℕ → Type 0) (before now : Counts) (failed : Type 0) : Type 0 where
  pub rose : failed → (name : List ℕ) × watched name × (before Fetch name < now Fetch name)
  pub kept : (failed → ⊥) → now ≡ before
  pub others : (kind : CallKind) → (name : List ℕ) → (kind ≡ Fetch → watched name → ⊥) → now kind name ≡ before kind name
