-- What the place of a fault says of all files.
use Rattle.std.specs.Prelude.{◌≡◌, ℕ, List, ◌++◌}
use Rattle.strat_words.specs.Spot.{Place}
use Rattle.strat_words.specs.Cut.{SameHead, GoesThrough}
use Rattle.strat_text.specs.Sections.{Sections}
use Rattle.strat_text.specs.Spelling.{Spells}

-- No file is spelled by sections that begins as this one does, up to the end of the word at that place, and goes on with the same byte
-- behind it, or ends there, too.
pub record NoneShares (bytes : List ℕ) (p : Place) : Type 0 where
  pub text : List ℕ
  pub rest : List ℕ
  pub parts : bytes ≡ text ++ rest
  pub through : GoesThrough (record { line = 1; word = 1 }) p text rest
  pub none : (z : List ℕ) (xs : Sections) → SameHead rest z → ¬ Spells (text ++ z) xs
