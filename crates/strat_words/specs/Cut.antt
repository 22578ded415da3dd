-- A text as the first part of a file, up to the end of a word.
use Rattle.std.specs.Prelude.{◌≡◌, ⊤, ℕ, ◌+◌, ◌==◌, false, if◌then◌else◌, List, [], ◌∷◌, ◌⊎◌}
use Rattle.strat_words.specs.Spot.{Place, is_of_word, begins_with_space}

-- no word goes on here
abbrev pub Parted : List ℕ → Type 0
Parted [] = Unit {0}
Parted (c ∷ z) = is_of_word c ≡ false

-- both go on with the same byte, or both end
abbrev pub SameHead : List ℕ → List ℕ → Type 0
SameHead [] [] = ⊤
SameHead [] (c ∷ z) = ⊥
SameHead (b ∷ y) [] = ⊥
SameHead (b ∷ y) (c ∷ z) = b ≡ c

abbrev pub next_word : Place → Place
next_word p = record { line = p.line; word = p.word + 1 }

abbrev pub next_line : Place → Place
next_line p = record { line = p.line + 1; word = 1 }

-- the word in which a text ends that begins in the word p
abbrev pub word_behind : Place → List ℕ → Place
word_behind p [] = p
word_behind p (b ∷ z) = word_behind (if b == 10 then next_line p else (if b == 32 then next_word p else p)) z

-- The text, which begins in the word q, and behind which `rest` stands, goes through the word p and no further: p ends with it, or is
-- the word after the last of the line, and is missing.
abbrev pub GoesThrough : Place → Place → List ℕ → List ℕ → Type 0
GoesThrough q p text rest = Parted rest × ((word_behind q text ≡ p) ⊎ ((next_word (word_behind q text) ≡ p) × (begins_with_space rest ≡ false)))
