-- Names for the variables of a form that keep their order, and moves whose definition can be formed at such names.
use Rattle.std.specs.Prelude.{ℕ, ◌<◌, ◌^◌, ℤ, IsTrue, List, length, get_or}
use Rattle.lin_term.specs.Linear.{Sort, Below}
use Rattle.lin_term.specs.Move.{Move}
use Rattle.lin_term.specs.PutIn.{occurs}
use Rattle.lin_term.specs.Definition.{IsKeptMove}

-- strictly ascending, and below n
pub record IsRising (names : List ℕ) (n : ℕ) : Type 0 where
  pub ascend : (i j : ℕ) → i < j → j < length names → get_or names i 0 < get_or names j 0
  pub below : (i : ℕ) → i < length names → get_or names i 0 < n

-- a move that is kept, with names for its variables that are below its node
pub record IsDefinable (s : Sort) (m : Move) (names : List ℕ) (v : ℕ) : Type 0 where
  pub kept : IsKeptMove s m
  pub named : Below (length names) m.numer
  pub rising : IsRising names v
  pub few : v < 2 ^ 20

-- at the variables of these terms strictly ascending, and below n
pub record IsRisingAt (names : List ℕ) (ts : List (ℕ × ℤ)) (n : ℕ) : Type 0 where
  pub ascend : (i j : ℕ) → IsTrue (occurs ts i) → IsTrue (occurs ts j) → i < j → get_or names i 0 < get_or names j 0
  pub below : (i : ℕ) → IsTrue (occurs ts i) → get_or names i 0 < n
