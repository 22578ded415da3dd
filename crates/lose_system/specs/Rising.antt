-- Names for the positions of a prefix.
use Rattle.std.specs.Prelude.{ℕ, ◌≡◌, ◌^◌, List, length}
use Rattle.lin_term.specs.Rising.{IsRising}

-- names for k variables
pub record IsWay (k : ℕ) (names : List ℕ) : Type 0 where
  pub long : length names ≡ k
  pub rising : IsRising names (2 ^ 20)
