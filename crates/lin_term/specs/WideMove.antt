-- A sum of multiples of two forms over a divisor.
use Rattle.std.specs.Prelude.{ℕ, ℤ, ◌+ℤ◌}
use Rattle.lin_term.specs.Linear.{Sort, Rat, Int, Form, plus, times}
use Rattle.lin_term.specs.Literal.{gcd}

-- p times f and q times g, with c added to the constant
abbrev pub wide_form : ℤ → Form → ℤ → Form → ℤ → Form
wide_form p f q g c = record { terms = (plus (times p f) (times q g)).terms; constant = (plus (times p f) (times q g)).constant +ℤ c }

-- what the divisor of a move begins with: of a constant and a divisor
abbrev pub wide_start : Sort → ℕ → ℕ → ℕ
wide_start Rat c d = gcd d c
wide_start Int c d = d
