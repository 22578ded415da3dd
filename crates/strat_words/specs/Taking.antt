-- Numbers, each the next word of a line.
use Rattle.std.specs.Prelude.{ℕ, ◌+◌, ℤ}
use Rattle.lin_term.specs.Form.{cap}
use Rattle.strat_words.specs.Number.{U32, natural_of, signed_of, coef_of}
use Rattle.strat_words.specs.Spot.{Spot, Taken, ◌>>=◌, next, fits}

-- without a sign, from low to below the limit
abbrev pub natural : ℕ → ℕ → Spot → Taken ℕ
natural low limit s = next s >>= λ w. fits (natural_of low limit w.0) w.1

-- of a size below the limit
abbrev pub signed : ℕ → Spot → Taken ℤ
signed limit s = next s >>= λ w. fits (signed_of limit w.0) w.1

-- an index fits 32 bits
abbrev pub index : Spot → Taken ℕ
index s = natural 0 U32 s

-- a count of low or more
abbrev pub count : ℕ → Spot → Taken ℕ
count low s = natural low (cap + 1) s

-- a number within the cap
abbrev pub kept : Spot → Taken ℤ
kept s = signed (cap + 1) s

-- a coefficient is not 0
abbrev pub coef : Spot → Taken ℤ
coef s = next s >>= λ w. fits (coef_of w.0) w.1
