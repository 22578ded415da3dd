-- Numbers that are added to those of a point, where they are within the cap.
use Rattle.std.specs.Prelude.{◌≡◌, ℤ, Some, None, Result, Ok, Err, List, [], ◌∷◌, ◌++◌, ⊤}
use Rattle.lin_term.specs.declared.Short.{Short}
use Rattle.lin_term.specs.declared.Short.TheVariants as short
use Rattle.lin_term.specs.declared.Wide.{Wide}
use Rattle.lin_term.specs.Wide.{first_past}

-- the numbers were added, or the first of them that is past the cap is named; want of memory is free
abbrev pub AddsNumbers : List ℤ → List ℤ → List ℤ → Result (Unit {0}) (Short Wide) → Type 0
AddsNumbers old new zs (Ok u) = (first_past zs ≡ None) × (new ≡ old ++ zs)
AddsNumbers old new zs (Err (short.Fault w)) = first_past zs ≡ Some w.number
AddsNumbers old new zs (Err short.Memory) = ⊤

abbrev pub AddsNumber : List ℤ → List ℤ → ℤ → Result (Unit {0}) (Short Wide) → Type 0
AddsNumber old new z r = AddsNumbers old new (z ∷ []) r
