-- A linear form over a divisor, put in for a variable.
use Rattle.std.specs.Prelude.{ℕ, ◌*◌, ℤ, pos, ◌+ℤ◌, neg_ℤ, Bool, true, false, if◌then◌else◌, nat_eq, List, [], ◌∷◌}
use Rattle.lin_term.specs.Linear.{Sort, Form, plus, times, constant_form}
use Rattle.lin_term.specs.Literal.{Lit, AtLeast, Above, Divides, NotDivides, form_of, prim}
use Rattle.lin_term.specs.Move.{Move}

-- the coefficient of x
abbrev pub coef : List (ℕ × ℤ) → ℕ → ℤ
coef [] x = pos 0
coef (t ∷ ts) x = if nat_eq t.0 x then t.1 +ℤ coef ts x else coef ts x

-- the terms without x
abbrev pub without : List (ℕ × ℤ) → ℕ → List (ℕ × ℤ)
without [] x = []
without (t ∷ ts) x = if nat_eq t.0 x then without ts x else t ∷ without ts x

abbrev pub rest_of : Form → ℕ → Form
rest_of f x = record { terms = without f.terms x; constant = f.constant }

-- a times the form with t/a for x
abbrev pub put_form : Form → ℕ → ℕ → Form → Form
put_form f x a t = plus (times (coef f.terms x) t) (times (pos a) (rest_of f x))

-- the literal with t/a for x, both sides times a
abbrev pub put_raw : ℕ → ℕ → Form → Lit → Lit
put_raw x a t (AtLeast f) = AtLeast (put_form f x a t)
put_raw x a t (Above f) = Above (put_form f x a t)
put_raw x a t (Divides d f) = Divides (a * d) (put_form f x a t)
put_raw x a t (NotDivides d f) = NotDivides (a * d) (put_form f x a t)

abbrev pub occurs : List (ℕ × ℤ) → ℕ → Bool
occurs [] x = false
occurs (t ∷ ts) x = if nat_eq t.0 x then true else occurs ts x

-- the primitive form; a literal without x stays as it is
abbrev pub put_lit : Sort → ℕ → ℕ → Form → Lit → Lit
put_lit s x a t l = if occurs (form_of l).terms x then prim s (put_raw x a t l) else l

-- the move's numerator less the residue
abbrev pub less_residue : Move → ℕ → Form
less_residue m r = plus m.numer (constant_form (neg_ℤ (pos r)))

-- the literal with (numer - r)/div for x
abbrev pub substituted : Sort → Lit → ℕ → Move → ℕ → Lit
substituted s l x m r = put_lit s x m.div (less_residue m r) l
