-- Points within the cap.
use Rattle.std.specs.Prelude.{◌≤◌, ℤ, nat_abs, List, [], ◌∷◌, ⊤}
use Rattle.lin_term.specs.Form.{cap}
use Rattle.lin_term.specs.Linear.{Point}

abbrev pub AreWithin : List ℤ → Type 0
AreWithin [] = ⊤
AreWithin (z ∷ zs) = (nat_abs z ≤ cap) × AreWithin zs

-- no number past the cap, and a denominator of 1 or more
abbrev pub IsKeptPoint : Point → Type 0
IsKeptPoint p = (1 ≤ p.den) × (p.den ≤ cap) × AreWithin p.nums
