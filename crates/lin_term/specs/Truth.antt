-- The truth of literals without variables.
use Rattle.std.specs.Prelude.{ℕ, ◌%◌, ℤ, pos, nat_abs, Bool, not, nat_eq, int_le, int_lt, Option, Some, None, List, [], ◌∷◌}
use Rattle.lin_term.specs.Literal.{Lit, AtLeast, Above, Divides, NotDivides, form_of}

abbrev pub divides_number : ℕ → ℤ → Bool
divides_number d z = nat_eq (nat_abs z % d) 0

-- the truth of a literal whose form is this constant
abbrev pub truth_at : Lit → ℤ → Bool
truth_at (AtLeast f) c = int_le (pos 0) c
truth_at (Above f) c = int_lt (pos 0) c
truth_at (Divides d f) c = divides_number d c
truth_at (NotDivides d f) c = not (divides_number d c)

abbrev pub truth_without : List (ℕ × ℤ) → Lit → ℤ → Option Bool
truth_without [] l c = Some (truth_at l c)
truth_without (t ∷ ts) l c = None

-- none where the literal has a variable
abbrev pub truth_of : Lit → Option Bool
truth_of l = truth_without (form_of l).terms l (form_of l).constant
