-- The sections of a file.
use Rattle.std.specs.Prelude.{ℕ, ◌+◌, Bool, not, ◌&&◌, ◌||◌, ◌==◌, nat_lt, if◌then◌else◌, List, [], ◌∷◌, length, map, codes, decimal, Option, Some, None, Ok, Err}
use Rattle.std.specs.List.{list_all}
use Rattle.std.specs.Str.{bytes_eq}
use Rattle.dom_core.specs.declared.Side.{Side}
use Rattle.dom_core.specs.declared.Side.TheVariants.{Exists, Forall}
use Rattle.strat_words.specs.Spot.{Spot, Read, Taken, ◌>>=◌, first, next, ends, is, fits, next_place, start}
use Rattle.strat_words.specs.Many.{times}
use Rattle.strat_words.specs.Taking.{count}
use Rattle.strat_text.specs.Tree.{tree}
use Rattle.strat_text.specs.Proof.{proof}
use Rattle.strat_text.specs.Sections.{Sections}
use Rattle.strat_text.specs.declared.section.Section.{Section}
use Rattle.strat_text.specs.declared.section.Section.TheVariants.{Claimed, Unknown}

-- ---- the turns

abbrev pub is_turn : ℕ → Bool
is_turn b = b == 111 || b == 116

-- `-` for none, or a letter for each, from 1 to 1024 of them
abbrev pub turns_of : List ℕ → Option (List Bool)
turns_of word =
    if bytes_eq word (codes "-") then Some []
    else (if not (length word == 0) && list_all is_turn word && nat_lt (length word) 1025 then Some (map (λ b. b == 111) word) else None)

-- `turns W`
unfoldable pub turns : Spot → Taken (List Bool)
turns s = do
  w ← is (codes "turns") (first s)
  word ← next w
  ts ← fits (turns_of word.0) word.1
  after ← ends ts.1
  Ok (ts.0, after)

-- ---- a section

-- what the verdict claims: no side for `unknown`
abbrev pub verdict_of : List ℕ → Option (Option Side)
verdict_of word =
    if bytes_eq word (codes "sat") then Some (Some Exists)
    else (if bytes_eq word (codes "unsat") then Some (Some Forall)
    else (if bytes_eq word (codes "unknown") then Some None else None))

-- what stands behind the line `goal K sat` or `goal K unsat`, which is the line of that number
unfoldable pub claimed : ℕ → Side → ℕ → Spot → Taken Section
claimed version side line s = do
  ts ← turns s
  t ← tree ts.0 0 ts.1
  p ← proof version t.1
  Ok (Claimed side ts.0 t.0 p.0 line, p.1)

abbrev pub section_of : ℕ → Option Side → ℕ → Spot → Taken Section
section_of version None line s = Ok (Unknown, s)
section_of version (Some side) line s = claimed version side line s

-- `goal K VERDICT` and what follows
unfoldable pub section : ℕ → ℕ → Spot → Taken Section
section version number s = do
  w ← is (codes "goal") (first s)
  k ← is (decimal number) (next w)
  word ← next k
  v ← fits (verdict_of word.0) word.1
  after ← ends v.1
  section_of version v.0 s.line after

-- ---- the file

abbrev pub next_number : ℕ → Section → ℕ
next_number number x = number + 1

-- the versions that there are
abbrev pub version_of : List ℕ → Option ℕ
version_of word = if bytes_eq word (codes "1") then Some 1 else (if bytes_eq word (codes "2") then Some 2 else None)

abbrev pub version : Spot → Taken ℕ
version s = next s >>= λ w. fits (version_of w.0) w.1

-- nothing stands behind the last line
abbrev pub nothing_left : Sections → Spot → List ℕ → Read Sections
nothing_left xs s [] = Ok xs
nothing_left xs s (b ∷ z) = Err (next_place s)

unfoldable pub file : Spot → Read Sections
file s = do
  w ← is (codes "simsat-strategy") (first s)
  v ← version w
  one ← ends v.1
  g ← is (codes "goals") (first one)
  n ← count 0 g
  two ← ends n.1
  xs ← times (section v.0) next_number n.0 0 two
  e ← is (codes "end") (first xs.1)
  after ← ends e
  nothing_left (record { version = v.0; list = xs.0 }) after after.rest

-- The sections that the bytes spell, or the place of the first fault.
abbrev pub reading : List ℕ → Read Sections
reading bytes = file (start bytes)
