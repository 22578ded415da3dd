-- A term over a divisor put into a form.
use Rattle.std.specs.Prelude.{ℕ, ℤ}
use Rattle.lin_term.specs.Linear.{Form, plus, times}
use Rattle.lin_term.specs.PutIn.{rest_of}

-- c times the term and a times the rest, c being the coefficient of x
abbrev pub put_with : Form → ℕ → ℤ → ℤ → Form → Form
put_with f x c a t = plus (times c t) (times a (rest_of f x))
