-- Moves: linear forms over a divisor, and their values.
use Rattle.std.specs.Prelude.{ℕ, ◌*◌, ◌/◌, ◌≤◌, ◌≡◌, nat_abs}
use Rattle.lin_term.specs.Form.{Form, cap, IsRow}
use Rattle.lin_term.specs.Linear.{Sort, Rat, Int, Point, Value, dot, floor_div}
use Rattle.lin_term.specs.Literal.{gcd, gcd_terms, or_one, quotient}

-- the value numer / div, rounded down in Int
pub record Move : Type 0 where
  pub numer : Form
  pub div : ℕ

abbrev pub IsMove : Move → Type 0
IsMove m = IsRow m.numer × (1 ≤ m.div) × (m.div ≤ cap)

abbrev pub move_value : Sort → Move → Point → Value
move_value Rat m p = record { num = dot m.numer p; den = m.div * p.den }
move_value Int m p = record { num = floor_div (dot m.numer p) m.div; den = 1 }

-- in Rat that of the divisor, the coefficients and the constant; in Int that of the divisor and the coefficients
abbrev pub move_divisor : Sort → Move → ℕ
move_divisor Rat m = or_one (gcd m.div (gcd (nat_abs m.numer.constant) (gcd_terms m.numer.terms)))
move_divisor Int m = or_one (gcd m.div (gcd_terms m.numer.terms))

-- the lowest form: all numbers divided, the constant rounded down
abbrev pub lowest : Sort → Move → Move
lowest s m = record { numer = quotient m.numer (move_divisor s m); div = m.div / move_divisor s m }

abbrev pub IsLowest : Sort → Move → Type 0
IsLowest s m = lowest s m ≡ m
