-- What a call says that adds literals to others, within the cap.
use Rattle.std.specs.Prelude.{◌≡◌, Some, None, Result, Ok, Err, List, [], ◌∷◌, ◌++◌, ⊤}
use Rattle.lin_term.specs.declared.Lit.{Lit}
use Rattle.lin_term.specs.declared.Short.{Short}
use Rattle.lin_term.specs.declared.Short.TheVariants as short
use Rattle.lin_term.specs.declared.Wide.{Wide}
use Rattle.lin_term.specs.Wide.{first_past, lit_numbers}
use Rattle.dom_core.specs.Elimination.{cube_numbers}

-- the literal was added and its numbers fit, or the first that does not fit is named
abbrev pub AddsLit : List Lit → List Lit → Lit → Result (Unit {0}) (Short Wide) → Type 0
AddsLit old new l (Ok u) = (first_past (lit_numbers l) ≡ None) × (new ≡ old ++ l ∷ [])
AddsLit old new l (Err (short.Fault w)) = first_past (lit_numbers l) ≡ Some w.number
AddsLit old new l (Err short.Memory) = ⊤

-- the literals were added and their numbers fit, or the first that does not fit is named
abbrev pub AddsCube : List Lit → List Lit → List Lit → Result (Unit {0}) (Short Wide) → Type 0
AddsCube old new ls (Ok u) = (first_past (cube_numbers ls) ≡ None) × (new ≡ old ++ ls)
AddsCube old new ls (Err (short.Fault w)) = first_past (cube_numbers ls) ≡ Some w.number
AddsCube old new ls (Err short.Memory) = ⊤
