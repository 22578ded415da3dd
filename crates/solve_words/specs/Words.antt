-- The words behind the program's name.
use Rattle.std.specs.Prelude.{ℕ, ◌+◌, ◌==◌, Bool, true, false, not, ◌&&◌, if◌then◌else◌, List, [], ◌∷◌, map, take, drop, Option, Some, None, option_map, option_and_then, codes, is_none}
use Rattle.std.specs.List.{after_first, before_first, flat_map, list_all, list_any}
use Rattle.std.specs.Str.{bytes_eq}
use Rattle.strat_words.specs.Number.{natural_of}

abbrev pub Word : Type 0
Word = List ℕ

-- ---- options and other words

-- an option with its value, or a word that is none
pub data Piece : Type 0 where
  setting : Word → Word → Piece
  plain : Word → Piece

abbrev pub is_dashes : Word → Bool
is_dashes w = bytes_eq w (codes "--")

-- a word that begins with two dashes
abbrev pub is_option : Word → Bool
is_option w = bytes_eq (take 2 w) (codes "--")

-- what stands before the first `=`, and behind it where there is one
abbrev pub name_in : Word → Word
name_in w = before_first (λ b. b == 61) w

abbrev pub value_in : Word → Option Word
value_in w = if list_any (λ b. b == 61) w then Some (after_first (λ b. b == 61) w) else None

abbrev pub before : Piece → List Piece → List Piece
before p ps = p ∷ ps

-- an option before the word `next`: `here` are the pieces from that word on, `behind` those behind it
abbrev pub with_value : Word → Option Word → Word → Option (List Piece) → Option (List Piece) → Option (List Piece)
with_value name (Some value) next here behind = option_map (before (setting name value)) here
with_value name None next here behind = option_map (before (setting name next)) behind

abbrev pub last_piece : Word → Option Word → Option (List Piece)
last_piece name (Some value) = Some (setting name value ∷ [])
last_piece name None = None

-- `--name value`, `--name=value`, `--` before words that are no options, and other words
unfoldable pub pieces : List Word → Option (List Piece)
pieces [] = Some []
pieces (w ∷ []) =
    if is_dashes w then Some []
    else if is_option w then last_piece (name_in (drop 2 w)) (value_in (drop 2 w))
    else Some (plain w ∷ [])
pieces (w ∷ v ∷ ws) =
    if is_dashes w then Some (map plain (v ∷ ws))
    else if is_option w then with_value (name_in (drop 2 w)) (value_in (drop 2 w)) v (pieces (v ∷ ws)) (pieces ws)
    else option_map (before (plain w)) (pieces (v ∷ ws))

-- ---- what the pieces say

abbrev pub plain_of : Piece → List Word
plain_of (setting n v) = []
plain_of (plain w) = w ∷ []

abbrev pub value_for : Word → Piece → List Word
value_for name (setting n v) = if bytes_eq n name then v ∷ [] else []
value_for name (plain w) = []

abbrev pub is_known : Piece → Bool
is_known (setting n v) = list_any (bytes_eq n) (codes "strategy" ∷ codes "journal" ∷ codes "workers" ∷ codes "rounds" ∷ codes "generate" ∷ [])
is_known (plain w) = true

-- none, or the one; more than one is refused
abbrev pub at_most_one : List Word → Option (Option Word)
at_most_one [] = Some None
at_most_one (v ∷ []) = Some (Some v)
at_most_one (v ∷ w ∷ ws) = None

abbrev pub values : List Piece → List ℕ → Option (Option Word)
values ps name = at_most_one (flat_map (value_for name) ps)

-- the word that is no option, and the value of each option
pub record Settings : Type 0 where
  pub script : Option Word
  pub strategy : Option Word
  pub journal : Option Word
  pub workers : Option Word
  pub rounds : Option Word
  pub generate : Option Word

-- each of these, where each is there
abbrev pub gathered : Option (Option Word) → Option (Option Word) → Option (Option Word) → Option (Option Word) → Option (Option Word) → Option (Option Word) → Option Settings
gathered script strategy journal workers rounds generate =
    option_and_then (λ f. option_and_then (λ s. option_and_then (λ j. option_and_then (λ w. option_and_then (λ r. option_map (λ g.
    record { script = f; strategy = s; journal = j; workers = w; rounds = r; generate = g })
    generate) rounds) workers) journal) strategy) script

-- the settings, where each option is known, none comes twice, and at most one word is no option
unfoldable pub settings : List Piece → Option Settings
settings ps =
    if list_all is_known ps
    then gathered (at_most_one (flat_map plain_of ps)) (values ps (codes "strategy")) (values ps (codes "journal")) (values ps (codes "workers")) (values ps (codes "rounds")) (values ps (codes "generate"))
    else None

-- ---- names and numbers

-- not empty, and not beginning with `-`
abbrev pub is_name : Word → Bool
is_name [] = false
is_name (b ∷ w) = not (b == 45)

abbrev pub differ : List Word → Bool
differ [] = true
differ (w ∷ ws) = not (list_any (bytes_eq w) ws) && differ ws

-- each is a name, and no two are the same
abbrev pub are_names : List Word → Bool
are_names ws = list_all is_name ws && differ ws

abbrev pub named : Option Word → List Word
named None = []
named (Some w) = w ∷ []

-- a number from low to high: 0, or digits without a leading zero
abbrev pub number : ℕ → ℕ → Word → Option ℕ
number low high w = natural_of low (high + 1) w

abbrev pub number_or : ℕ → ℕ → ℕ → Option Word → Option ℕ
number_or default low high None = Some default
number_or default low high (Some w) = number low high w

-- ---- what is asked

pub record Names : Type 0 where
  pub script : Word
  pub strategy : Word
  pub journal : Option Word
  pub workers : ℕ
  pub rounds : ℕ

-- a script, or a generated problem of a size with its rounds
pub data Asking : Type 0 where
  solve : Names → Asking
  generate : ℕ → ℕ → Asking

abbrev pub solving : Word → Word → Option Word → Option ℕ → Option ℕ → Option Asking
solving script strategy journal None r = None
solving script strategy journal (Some w) None = None
solving script strategy journal (Some w) (Some r) =
    if are_names (script ∷ strategy ∷ named journal)
    then Some (solve (record { script = script; strategy = strategy; journal = journal; workers = w; rounds = r })) else None

abbrev pub generating : Option ℕ → Option ℕ → Option Asking
generating None r = None
generating (Some n) None = None
generating (Some n) (Some r) = Some (generate n r)

-- a script needs its strategy
abbrev pub script_asks : Word → Option Word → Settings → Option Asking
script_asks script None x = None
script_asks script (Some strategy) x = solving script strategy x.journal (number_or 2 0 64 x.workers) (number_or 256 0 4096 x.rounds)

-- a generated problem has neither a strategy, a journal nor workers
abbrev pub size_asks : Word → Settings → Option Asking
size_asks size x =
    if is_none x.strategy && is_none x.journal && is_none x.workers
    then generating (number 1 64 size) (number_or 256 0 4096 x.rounds) else None

-- either a script or a generated problem
abbrev pub asks_by : Option Word → Option Word → Settings → Option Asking
asks_by None None x = None
asks_by None (Some size) x = size_asks size x
asks_by (Some script) None x = script_asks script x.strategy x
asks_by (Some script) (Some size) x = None

unfoldable pub asking_by : Settings → Option Asking
asking_by x = asks_by x.script x.generate x

-- what the words ask, where they are in the grammar
unfoldable pub words_of : List Word → Option Asking
words_of ws = option_and_then asking_by (option_and_then settings (pieces ws))
