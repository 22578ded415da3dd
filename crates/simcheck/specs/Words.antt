-- The words behind the program's name.
use Rattle.std.specs.Prelude.{ℕ, Bool, false, not, ◌&&◌, if◌then◌else◌, List, [], ◌∷◌, Option, Some, None, nat_eq}

pub record Names : Type 0 where
  pub script : List ℕ
  pub file : List ℕ

-- not empty, and no option
abbrev pub is_name : List ℕ → Bool
is_name [] = false
is_name (b ∷ word) = not (nat_eq b 45)

-- exactly two names: SCRIPT FILE
abbrev pub names_of : List (List ℕ) → Option Names
names_of [] = None
names_of (script ∷ []) = None
names_of (script ∷ file ∷ []) = if is_name script && is_name file then Some (record { script = script; file = file }) else None
names_of (script ∷ file ∷ more ∷ words) = None
