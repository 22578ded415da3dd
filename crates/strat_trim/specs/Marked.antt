-- Marks at the places of a list.
use Rattle.std.specs.Prelude.{ℕ, ◌<◌, ◌≡◌, nat_eq, Bool, false, ◌||◌, List, length}
use Rattle.std.specs.List.{list_any}
use Rattle.strat_trim.specs.Trimmed.{marked}

-- these places are marked too, as far as there are such
abbrev pub Marks : List ℕ → List Bool → List Bool → Type 0
Marks places old new =
    (length new ≡ length old) × ((i : ℕ) → i < length old → marked new i ≡ (marked old i || list_any (nat_eq i) places))

-- so many places, marked where it is said
abbrev pub HasMarks : ℕ → (ℕ → Bool) → List Bool → Type 0
HasMarks count is_at marks = (length marks ≡ count) × ((i : ℕ) → i < count → marked marks i ≡ is_at i)

abbrev pub IsUnmarked : ℕ → List Bool → Type 0
IsUnmarked count marks = HasMarks count (λ i. false) marks
