-- Tables of words.
use Rattle.std.specs.Prelude.{◌≡◌, ℕ, Bool, true, not, ◌&&◌, ◌==◌, length, ◌+◌, List, [], ◌∷◌, take, drop, Some, slice_get}
use Rattle.std.specs.Str.{bytes_eq}
use Rattle.std.specs.List.{list_any}

-- the words that a text is cut into, at these lengths
abbrev pub words_of : List ℕ → List ℕ → List (List ℕ)
words_of [] text = []
words_of (len ∷ lens) text = take len text ∷ words_of lens (drop len text)

-- the sum of the lengths
abbrev pub total : List ℕ → ℕ
total [] = 0
total (len ∷ lens) = len + total lens

-- no two words are the same
abbrev pub are_distinct : List (List ℕ) → Bool
are_distinct [] = true
are_distinct (w ∷ ws) = not (list_any (bytes_eq w) ws) && are_distinct ws

-- the lengths cut all of the text into distinct words
abbrev pub is_table : List ℕ → List ℕ → Bool
is_table lens text = total lens == length text && are_distinct (words_of lens text)

-- the row has the word
abbrev pub IsRowOf : ℕ → List ℕ → List (List ℕ) → Type 0
IsRowOf row word words = slice_get words row ≡ Some word
