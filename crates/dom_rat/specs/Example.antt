-- Bounds of one variable: the other one lies above 1.
use Rattle.std.specs.Prelude.{ℕ, ℤ, pos, negsuc, List, [], ◌∷◌}
use Rattle.lin_term.specs.declared.Lit.{Lit}
use Rattle.lin_term.specs.declared.Lit.TheVariants.{AtLeast, Above}

-- 2x - 1 >= 0, and y - 3x > 0, and y >= 0
abbrev pub between : List Lit
between =
    AtLeast (record { terms = (0, pos 2) ∷ []; constant = negsuc 0 })
    ∷ Above (record { terms = (0, negsuc 2) ∷ (1, pos 1) ∷ []; constant = pos 0 })
    ∷ AtLeast (record { terms = (1, pos 1) ∷ []; constant = pos 0 })
    ∷ []
