-- What an elimination keeps of a cube.
use Rattle.std.specs.Prelude.{ℕ, ◌≡◌, false, List}
use Rattle.std.specs.List.{AllByRecursion}
use Rattle.lin_term.specs.declared.Sort.{Sort}
use Rattle.lin_term.specs.declared.Lit.{Lit}
use Rattle.lin_term.specs.Form.{IsRow}
use Rattle.lin_term.specs.Linear.{Below}
use Rattle.lin_term.specs.Literal.{form_of}
use Rattle.lin_term.specs.PutIn.{occurs}
use Rattle.dom_core.specs.Cube.{IsPrimitiveCube}

-- each literal's form is a row
abbrev pub AreRows : List Lit → Type 0
AreRows c = AllByRecursion (λ l. IsRow (form_of l)) c

-- each literal has its variables below n
abbrev pub AreBelow : ℕ → List Lit → Type 0
AreBelow n c = AllByRecursion (λ l. Below n (form_of l)) c

-- no literal has the variable x
abbrev pub AreWithout : ℕ → List Lit → Type 0
AreWithout x c = AllByRecursion (λ l. occurs (form_of l).terms x ≡ false) c

-- each literal is primitive and a row, each modulus from 1 to the cap; all variables are below n, and x is none of them
pub record IsReduced (s : Sort) (n x : ℕ) (c : List Lit) : Type 0 where
  pub primitive : IsPrimitiveCube s c
  pub rows : AreRows c
  pub below : AreBelow n c
  pub without : AreWithout x c
