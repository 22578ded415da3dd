-- What is found out of a cube over n variables.
use Rattle.std.specs.Prelude.{ℕ, List}
use Rattle.lin_term.specs.declared.Sort.{Sort}
use Rattle.lin_term.specs.declared.Lit.{Lit}
use Rattle.cube_rules.specs.Bare.{ClosesBare}
use Rattle.cube_elim.specs.declared.decided.Decided.{Decided}
use Rattle.cube_elim.specs.declared.decided.Decided.TheVariants.{Point, Refuted, Wide}
use Rattle.cube_elim.specs.WideCubes.{WideLits}
use Rattle.cube_elim.specs.Among.{IsTakenFrom}
use Rattle.cube_elim.specs.Determined.{WideAt}
use Rattle.cube_elim.specs.Deciding.{IsSolution}

-- a cube of literals of the given one, and a number past the cap of its elimination or of its point
abbrev pub IsWideOf : Sort → List Lit → WideLits → Type 0
IsWideOf s c w = IsTakenFrom w.lits c × WideAt s w.lits w.number

-- a point at which the cube holds, lines that close its bare context, or a wide cube of its literals
abbrev pub Answers : {D : Type 0} → Sort → ℕ → List Lit → Decided D → Type 0
Answers {D} s n c (Point p) = IsSolution s n c p
Answers {D} s n c (Refuted steps) = ClosesBare s n c steps
Answers {D} s n c (Wide w) = IsWideOf s c w
