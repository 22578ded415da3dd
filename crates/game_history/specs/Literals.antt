-- The literals of a definition.
use Rattle.std.specs.Prelude.{◌≡◌, ◌⊎◌, Option, Some, None}
use Rattle.lin_term.specs.declared.Lit.{Lit}
use Rattle.lin_term.specs.Definition.{Definition}

-- one of the two, where there is a definition
abbrev pub IsLiteralOf : Option Definition → Lit → Type 0
IsLiteralOf None l = ⊥
IsLiteralOf (Some d) l = (l ≡ d.upper) ⊎ (l ≡ d.lower)
