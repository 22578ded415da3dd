-- The cases of an elimination over the integers that are still to be closed.
use Rattle.std.specs.Prelude.{ℕ, ◌<◌, ◌≡◌, Option, Some, None, List, [], drop, length}
use Rattle.lin_term.specs.declared.Sort.TheVariants.{Int}
use Rattle.lin_term.specs.declared.Lit.{Lit}
use Rattle.lin_term.specs.Wide.{first_past}
use Rattle.dom_core.specs.Cube.{IsPrimitiveCube}
use Rattle.dom_core.specs.Elimination.{cooper, elimination_numbers}

-- a cube, the variable that is taken out of it, and the number of the first case that is left
pub record Left : Type 0 where
  pub cube : List Lit
  pub variable : ℕ
  pub next : ℕ

-- a case is left, and no number of the elimination is past the cap
pub record IsLeft (l : Left) : Type 0 where
  pub primitive : IsPrimitiveCube Int l.cube
  pub fits : first_past (elimination_numbers Int l.cube l.variable) ≡ None
  pub some : l.next < length (cooper l.cube l.variable)

abbrev pub left_cases : Left → List (List Lit)
left_cases l = drop l.next (cooper l.cube l.variable)

abbrev pub all_left : Option Left → List (List Lit)
all_left None = []
all_left (Some l) = left_cases l
