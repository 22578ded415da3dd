-- Numbers in the order in which they are formed, and the first of them that is past the cap.
use Rattle.std.specs.Prelude.{ℕ, ◌≡◌, ℤ, pos, nat_abs, nat_le, Bool, if◌then◌else◌, Option, Some, None, Result, Ok, Err, List, [], ◌∷◌, ◌++◌, ⊤}
use Rattle.lin_term.specs.Form.{Form, cap}
use Rattle.lin_term.specs.Literal.{Lit, AtLeast, Above, Divides, NotDivides}
use Rattle.lin_term.specs.declared.fault.Short.{Short}
use Rattle.lin_term.specs.declared.fault.Short.TheVariants as short
use Rattle.lin_term.specs.declared.fault.Wide.{Wide}

abbrev pub fits : ℤ → Bool
fits z = nat_le (nat_abs z) cap

abbrev pub first_past : List ℤ → Option ℤ
first_past [] = None
first_past (z ∷ zs) = if fits z then first_past zs else Some z

abbrev pub coefficients : List (ℕ × ℤ) → List ℤ
coefficients [] = []
coefficients (t ∷ ts) = t.1 ∷ coefficients ts

-- the coefficients, then the constant
abbrev pub form_numbers : Form → List ℤ
form_numbers f = coefficients f.terms ++ f.constant ∷ []

-- a modulus before both
abbrev pub lit_numbers : Lit → List ℤ
lit_numbers (AtLeast f) = form_numbers f
lit_numbers (Above f) = form_numbers f
lit_numbers (Divides d f) = pos d ∷ form_numbers f
lit_numbers (NotDivides d f) = pos d ∷ form_numbers f

-- all numbers fit and the answer is the value, or the first that does not fit is named; want of memory is free
abbrev pub Capped : {A : Type 0} → List ℤ → A → Result A (Short Wide) → Type 0
Capped {A} numbers value (Ok x) = (first_past numbers ≡ None) × (x ≡ value)
Capped {A} numbers value (Err (short.Fault w)) = first_past numbers ≡ Some w.number
Capped {A} numbers value (Err short.Memory) = ⊤

-- the same of a call that takes no memory
abbrev pub CappedWide : {A : Type 0} → List ℤ → A → Result A Wide → Type 0
CappedWide {A} numbers value (Ok x) = (first_past numbers ≡ None) × (x ≡ value)
CappedWide {A} numbers value (Err w) = first_past numbers ≡ Some w.number
