-- The value of a variable at a point, and a point read at names.
use Rattle.std.specs.Prelude.{ℕ, ◌≡◌, pos, ◌*ℤ◌, List, map}
use Rattle.lin_term.specs.Linear.{Point, Value, at}

-- the point gives variable v the value x
abbrev pub HasValue : Point → ℕ → Value → Type 0
HasValue p v x = at p.nums v *ℤ pos x.den ≡ x.num *ℤ pos p.den

-- variable i has the value that the point gives to its name
abbrev pub at_names : List ℕ → Point → Point
at_names names p = record { den = p.den; nums = map (λ i. at p.nums i) names }
