-- A cube without a solution: no number is even and odd.
use Rattle.std.specs.Prelude.{ℕ, ℤ, pos, List, [], ◌∷◌}
use Rattle.lin_term.specs.declared.Lit.{Lit}
use Rattle.lin_term.specs.declared.Lit.TheVariants.{Divides}

-- 2 divides x, and 2 divides x + 1
abbrev pub even_and_odd : List Lit
even_and_odd =
    Divides 2 (record { terms = (0, pos 1) ∷ []; constant = pos 0 }) ∷ Divides 2 (record { terms = (0, pos 1) ∷ []; constant = pos 1 }) ∷ []
