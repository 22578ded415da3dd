-- The primitive form of a sum that is not kept as a form.
use Rattle.std.specs.Prelude.{ℕ, ◌≡◌, ℤ, pos, nat_abs, Some, None, Result, Ok, Err, Bool, true, false, List, ◌∷◌, ⊤}
use Rattle.lin_term.specs.Linear.{Sort, Rat, Int, Form, floor_div}
use Rattle.lin_term.specs.Literal.{divisor, quotient, whole_form, modulus_of, residue_form, sign_of}
use Rattle.lin_term.specs.Blend.{sum_terms}
use Rattle.lin_term.specs.Wide.{form_numbers, first_past}
use Rattle.lin_term.specs.declared.fault.Short.{Short}
use Rattle.lin_term.specs.declared.fault.Short.TheVariants as short
use Rattle.lin_term.specs.declared.fault.Wide.{Wide}

-- p times the left terms and q times the right ones without x, and a constant
abbrev pub sum_form : ℤ → List (ℕ × ℤ) → ℤ → List (ℕ × ℤ) → ℕ → ℤ → Form
sum_form p ls q rs x c = record { terms = sum_terms p ls q rs x; constant = c }

-- the form of an inequality in primitive form
abbrev pub settled : Sort → Form → Form
settled Rat f = quotient f (divisor Rat f)
settled Int f = whole_form f

-- modulus and form of a divisibility in primitive form, or the first number past the cap
abbrev pub CappedResidues : ℕ → Form → Result (ℕ × Form) (Short Wide) → Type 0
CappedResidues d f (Ok r) =
    (first_past (pos (modulus_of d f) ∷ form_numbers (residue_form d f)) ≡ None) × (r.0 ≡ modulus_of d f) × (r.1 ≡ residue_form d f)
CappedResidues d f (Err (short.Fault w)) = first_past (pos (modulus_of d f) ∷ form_numbers (residue_form d f)) ≡ Some w.number
CappedResidues d f (Err short.Memory) = ⊤

-- the constant of that form; the flag says that there are no variables
abbrev pub settled_constant : Sort → Bool → ℤ → ℕ → ℤ
settled_constant Rat none c g = floor_div c g
settled_constant Int true c g = sign_of c
settled_constant Int false c g = floor_div c g

-- what the divisor of the coefficients begins with
abbrev pub divisor_start : Sort → ℤ → ℕ
divisor_start Rat c = nat_abs c
divisor_start Int c = 0
