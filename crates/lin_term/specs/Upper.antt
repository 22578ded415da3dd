-- The one number of a kept move's definition that the move itself need not have.
use Rattle.std.specs.Prelude.{ℕ, ℤ, pos, ◌-ℤ◌}
use Rattle.lin_term.specs.Linear.{Sort, Rat, Int}

-- the constant of literal 0, for a move with this constant and divisor
abbrev pub upper_constant : Sort → ℤ → ℕ → ℤ
upper_constant Rat c d = pos 0 -ℤ c
upper_constant Int c d = (pos d -ℤ pos 1) -ℤ c
