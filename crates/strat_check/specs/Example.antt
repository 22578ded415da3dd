-- Two variables of which the second is to be the greater one.
use Rattle.std.specs.Prelude.{pos, negsuc, [], ◌∷◌}
use Rattle.lin_term.specs.declared.Lit.{Lit}
use Rattle.lin_term.specs.declared.Lit.TheVariants.{Above}

-- -v0 + v1 > 0
abbrev pub second_above_first : Lit
second_above_first = Above (record { terms = (0, negsuc 0) ∷ (1, pos 1) ∷ []; constant = pos 0 })
