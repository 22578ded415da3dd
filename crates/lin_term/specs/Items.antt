-- Terms in a vector, within the cap.
use Rattle.std.specs.Prelude.{ℕ, ◌≡◌, ℤ, Some, None, Result, Ok, Err, List, ◌++◌, ⊤}
use Rattle.smallvec.specs.SmallVec.{SmallVec}
use Rattle.lin_term.specs.Wide.{coefficients, first_past}
use Rattle.lin_term.specs.declared.fault.Short.{Short}
use Rattle.lin_term.specs.declared.fault.Short.TheVariants as short
use Rattle.lin_term.specs.declared.fault.Wide.{Wide}

-- all coefficients fit and the vector has the terms, or the first that does not fit is named
abbrev pub CappedTerms : List (ℕ × ℤ) → Result (SmallVec (ℕ × ℤ)) (Short Wide) → Type 0
CappedTerms ts (Ok v) = (first_past (coefficients ts) ≡ None) × (v.items ≡ ts)
CappedTerms ts (Err (short.Fault w)) = first_past (coefficients ts) ≡ Some w.number
CappedTerms ts (Err short.Memory) = ⊤

-- the same of what is added to a vector
abbrev pub AddsCapped : SmallVec (ℕ × ℤ) → SmallVec (ℕ × ℤ) → List (ℕ × ℤ) → Result (Unit {0}) (Short Wide) → Type 0
AddsCapped old new ts (Ok u) = (first_past (coefficients ts) ≡ None) × (new.items ≡ old.items ++ ts)
AddsCapped old new ts (Err (short.Fault w)) = first_past (coefficients ts) ≡ Some w.number
AddsCapped old new ts (Err short.Memory) = ⊤
