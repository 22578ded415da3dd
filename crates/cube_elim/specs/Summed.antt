-- A cube without a variable, whose sums stand behind the literals of a store.
use Rattle.std.specs.Prelude.{ℕ, ◌≡◌, Some, None, Result, Ok, Err, List, map, length, ⊤}
use Rattle.std.specs.List.{flat_map}
use Rattle.lin_term.specs.declared.Lit.{Lit}
use Rattle.lin_term.specs.declared.Sort.TheVariants.{Rat}
use Rattle.lin_term.specs.declared.Short.{Short}
use Rattle.lin_term.specs.declared.Short.TheVariants as short
use Rattle.lin_term.specs.declared.Wide.{Wide}
use Rattle.lin_term.specs.Wide.{first_past}
use Rattle.dom_core.specs.Elimination.{resolvent, fourier_motzkin, elimination_numbers}
use Rattle.cube_elim.specs.declared.sums.Without.{Without}
use Rattle.cube_elim.specs.Stored.{lits_of, AreIn, IsLonger}
use Rattle.cube_elim.specs.Parted.{IsParted}

-- the sums of a lower literal with upper ones
abbrev pub row_of : ℕ → Lit → List Lit → List Lit
row_of x l us = map (λ u. resolvent x l u) us

-- those of each lower literal
abbrev pub rows_of : ℕ → List Lit → List Lit → List Lit
rows_of x ls us = flat_map (λ l. row_of x l us) ls

-- the cube at these places, parted, and the places of the cube without the variable
pub record IsWithout (x : ℕ) (old new : List Lit) (ids : List ℕ) (w : Without) : Type 0 where
  pub parted : IsParted x old ids w.parts
  pub next : lits_of new w.next ≡ fourier_motzkin (lits_of old ids) x
  pub next_in : AreIn (length new) w.next
  pub longer : IsLonger old new
  pub fits : first_past (elimination_numbers Rat (lits_of old ids) x) ≡ None

-- it, or the first number of the elimination that is past the cap; want of memory is free
abbrev pub TakesOut : ℕ → List Lit → List Lit → List ℕ → Result Without (Short Wide) → Type 0
TakesOut x old new ids (Ok w) = IsWithout x old new ids w
TakesOut x old new ids (Err (short.Fault w)) = first_past (elimination_numbers Rat (lits_of old ids) x) ≡ Some w.number
TakesOut x old new ids (Err short.Memory) = ⊤
