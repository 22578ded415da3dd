-- The least number of a list.
use Rattle.std.specs.Prelude.{ℕ, min, Option, Some, None, List, [], ◌∷◌}

-- the lesser of two, where none stands above every number
abbrev pub lesser : Option ℕ → Option ℕ → Option ℕ
lesser None b = b
lesser (Some x) None = Some x
lesser (Some x) (Some y) = Some (min x y)

-- none of an empty list
abbrev pub least : List ℕ → Option ℕ
least [] = None
least (x ∷ xs) = lesser (Some x) (least xs)
