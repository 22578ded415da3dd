-- Cubes with a number past the cap.
use Rattle.std.specs.Prelude.{ℤ, List}
use Rattle.lin_term.specs.declared.Lit.{Lit}

pub record WideLits : Type 0 where
  pub lits : List Lit
  pub number : ℤ
