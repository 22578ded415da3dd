-- Literals that have a primitive form.
use Rattle.std.specs.Prelude.{◌≤◌, ⊤}
use Rattle.lin_term.specs.Form.{cap}
use Rattle.lin_term.specs.Linear.{Sort, Rat, Int}
use Rattle.lin_term.specs.Literal.{Lit, AtLeast, Above, Divides, NotDivides}

-- in Rat an inequality; a modulus is from 1 to the cap
abbrev pub IsPrimable : Sort → Lit → Type 0
IsPrimable s (AtLeast f) = ⊤
IsPrimable s (Above f) = ⊤
IsPrimable Rat (Divides d f) = ⊥
IsPrimable Int (Divides d f) = (1 ≤ d) × (d ≤ cap)
IsPrimable Rat (NotDivides d f) = ⊥
IsPrimable Int (NotDivides d f) = (1 ≤ d) × (d ≤ cap)
