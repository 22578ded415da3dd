-- A form with another coefficient for one variable.
use Rattle.std.specs.Prelude.{ℕ, ℤ, if◌then◌else◌, nat_eq, List, [], ◌∷◌}
use Rattle.lin_term.specs.Form.{Form}
use Rattle.lin_term.specs.Linear.{put}
use Rattle.lin_term.specs.PutIn.{without}

-- k is the coefficient of x; 0 takes x out
abbrev pub replaced : Form → ℕ → ℤ → Form
replaced f x k = record { terms = put x k (without f.terms x); constant = f.constant }

-- the terms without x, where x can only be the first
abbrev pub past : ℕ → List (ℕ × ℤ) → List (ℕ × ℤ)
past x [] = []
past x (t ∷ ts) = if nat_eq t.0 x then ts else t ∷ ts
