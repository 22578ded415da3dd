-- Names and what they stand for.
use Rattle.std.specs.Prelude.{◌≡◌, ℕ, ◌+◌, List, [], ◌∷◌, length, map, reverse, Option, Some, None, if◌then◌else◌}
use Rattle.std.specs.Str.{bytes_eq}
use Rattle.std.specs.Borrow.{Bor}
use Rattle.std.specs.Map.{lookup}
use Rattle.symbol_table.specs.declared.names.Known.{Known}
use Rattle.symbol_table.specs.declared.names.Row.{Row}

-- what the newest of a name stands for
abbrev pub looked_up : {A : Type 0} → List (List ℕ × A) → List ℕ → Option A
looked_up [] name = None
looked_up (e ∷ es) name = if bytes_eq e.0 name then Some e.1 else looked_up es name

abbrev pub name_of : Row → List ℕ × Known
name_of r = (r.name.now, r.known)

-- the newest first
abbrev pub names_of : List Row → List (List ℕ × Known)
names_of rows = map name_of (reverse rows)

-- of rows that are given the newest first: one more than the place of the newest of this name, or 0
abbrev pub newest_row : List Row → List ℕ → ℕ
newest_row [] name = 0
newest_row (r ∷ rs) name = if bytes_eq r.name.now name then length rs + 1 else newest_row rs name

-- each row has the one that it hides
abbrev pub HidesRight : List Row → Type 0
HidesRight [] = Unit {0}
HidesRight (r ∷ rs) = (r.hidden ≡ newest_row rs r.name.now) × HidesRight rs

abbrev pub or_zero : Option ℕ → ℕ
or_zero None = 0
or_zero (Some i) = i

abbrev pub FindsNewest : List Row → List (Bor (List ℕ) × ℕ) → Type 0
FindsNewest rows entries = (q : Bor (List ℕ)) → or_zero (lookup (λ k. bytes_eq q.now k.now) entries) ≡ newest_row (reverse rows) q.now

-- the table has the newest row of each name
pub record IsIndex (rows : List Row) (entries : List (Bor (List ℕ) × ℕ)) : Type 0 where
  pub finds : FindsNewest rows entries
  pub hides : HidesRight (reverse rows)
