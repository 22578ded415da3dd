-- Where a reader of the file stands, and what it can do there: take a word, or end the line.
use Rattle.std.specs.Prelude.{◌≡◌, ℕ, ◌+◌, Bool, false, not, ◌&&◌, ◌||◌, ◌==◌, if◌then◌else◌, List, [], ◌∷◌, take, drop, Option, Some, None, Result, Ok, Err}
use Rattle.std.specs.Char.{is_ascii_digit}
use Rattle.std.specs.List.{prefix_len}
use Rattle.std.specs.Str.{bytes_eq}
use Rattle.strat_words.specs.declared.fault.FileFault.{FileFault}
use Rattle.strat_words.specs.declared.fault.FileFault.TheVariants as faults

-- Line and word, both from 1.
pub record Place : Type 0 where
  pub line : ℕ
  pub word : ℕ

-- The bytes still to come, the line, and how many of its words were taken.
pub record Spot : Type 0 where
  pub rest : List ℕ
  pub line : ℕ
  pub word : ℕ

-- Reading gives a value and the spot behind it, or the place of the first word that does not fit.
abbrev pub Read : Type 0 → Type 0
Read A = Result A Place

abbrev pub Taken : Type 0 → Type 0
Taken A = Result (A × Spot) Place

infixl 10 ◌>>=◌
abbrev pub ◌>>=◌ : {A B : Type 0} → Result A Place → (A → Result B Place) → Result B Place
(Ok x) >>= f = f x
(Err e) >>= f = Err e

-- the word after those that were taken
abbrev pub next_place : Spot → Place
next_place s = record { line = s.line; word = s.word + 1 }

-- the word that was taken last
abbrev pub last_place : Spot → Place
last_place s = record { line = s.line; word = s.word }

abbrev pub start : List ℕ → Spot
start bytes = record { rest = bytes; line = 1; word = 0 }

-- a word goes on up to a space, a line feed or the end
abbrev pub is_of_word : ℕ → Bool
is_of_word b = not (b == 32 || b == 10)

abbrev pub word_len : List ℕ → ℕ
word_len z = prefix_len is_of_word z

-- the spot behind the word that begins at z
abbrev pub behind : Spot → List ℕ → Spot
behind s z = record { rest = drop (word_len z) z; line = s.line; word = s.word + 1 }

-- The word that begins at z. An empty word fits nowhere.
unfoldable pub word_at : Spot → List ℕ → Taken (List ℕ)
word_at s z = if word_len z == 0 then Err (next_place s) else Ok (take (word_len z) z, behind s z)

-- the first word of a line
abbrev pub first : Spot → Taken (List ℕ)
first s = word_at s s.rest

-- the bytes behind the byte b
abbrev pub behind_byte : ℕ → List ℕ → Option (List ℕ)
behind_byte b [] = None
behind_byte b (c ∷ z) = if c == b then Some z else None

abbrev pub word_in : Spot → Option (List ℕ) → Taken (List ℕ)
word_in s (Some z) = word_at s z
word_in s None = Err (next_place s)

-- a further word of a line
unfoldable pub next : Spot → Taken (List ℕ)
next s = word_in s (behind_byte 32 s.rest)

abbrev pub ended : Spot → Option (List ℕ) → Read Spot
ended s (Some z) = Ok (record { rest = z; line = s.line + 1; word = 0 })
ended s None = Err (next_place s)

-- the end of a line
unfoldable pub ends : Spot → Read Spot
ends s = ended s (behind_byte 10 s.rest)

-- The word that was taken last fits where it has a value.
abbrev pub fits : {A : Type 0} → Option A → Spot → Taken A
fits (Some x) s = Ok (x, s)
fits None s = Err (last_place s)

abbrev pub begins_with_space : List ℕ → Bool
begins_with_space [] = false
begins_with_space (c ∷ z) = c == 32

-- whether a further word begins here
abbrev pub goes_on : Spot → Bool
goes_on s = begins_with_space s.rest

-- a number begins with a digit or a minus
abbrev pub begins_number : List ℕ → Bool
begins_number [] = false
begins_number (b ∷ z) = b == 45 || is_ascii_digit b

-- behind a space
abbrev pub number_behind_space : List ℕ → Bool
number_behind_space [] = false
number_behind_space (c ∷ z) = c == 32 && begins_number z

-- whether a further word begins here that may be a number
abbrev pub number_follows : Spot → Bool
number_follows s = number_behind_space s.rest

-- no further word of the line
abbrev pub no_more : Spot → Read Spot
no_more s = if goes_on s then Err (next_place s) else Ok s

-- a word that is a given one
abbrev pub is : List ℕ → Taken (List ℕ) → Read Spot
is known (Err p) = Err p
is known (Ok w) = if bytes_eq w.0 known then Ok w.1 else Err (last_place w.1)

-- What the code answers, seen by view, is what reading gives, unless memory ran out.
abbrev pub Fails : {Y : Type 0} → FileFault → Result Y Place → Type 0
Fails faults.Memory read = Unit {0}
Fails (faults.Bad l w) read = read ≡ Err (record { line = l; word = w })

abbrev pub Gives : {X Y : Type 0} → (X → Y) → Result X FileFault → Result Y Place → Type 0
Gives view (Ok x) read = read ≡ Ok (view x)
Gives view (Err e) read = Fails e read
