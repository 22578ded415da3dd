-- Matrices that can be negated: each literal primitive, and the numbers of the negations.
use Rattle.std.specs.Prelude.{ℤ, List, [], ◌++◌, ⊤}
use Rattle.lin_term.specs.declared.Sort.{Sort}
use Rattle.lin_term.specs.Form.{IsRow}
use Rattle.lin_term.specs.Literal.{IsPrimitive, neg, form_of}
use Rattle.lin_term.specs.Wide.{lit_numbers}
use Rattle.dom_core.specs.Game.{Matrix, Matrices, lit, all, some, none, more}

-- each literal is of the sort and its own primitive form
abbrev mutual
  pub IsPrimitiveMatrix : Matrix → Sort → Type 0
  IsPrimitiveMatrix (lit l) s = IsPrimitive s l
  IsPrimitiveMatrix (all ms) s = ArePrimitiveMatrices ms s
  IsPrimitiveMatrix (some ms) s = ArePrimitiveMatrices ms s

  pub ArePrimitiveMatrices : Matrices → Sort → Type 0
  ArePrimitiveMatrices none s = ⊤
  ArePrimitiveMatrices (more m ms) s = IsPrimitiveMatrix m s × ArePrimitiveMatrices ms s

-- the numbers of each literal's negation, literals from left to right
abbrev mutual
  pub negation_numbers : Matrix → Sort → List ℤ
  negation_numbers (lit l) s = lit_numbers (neg s l)
  negation_numbers (all ms) s = negations_numbers ms s
  negation_numbers (some ms) s = negations_numbers ms s

  pub negations_numbers : Matrices → Sort → List ℤ
  negations_numbers none s = []
  negations_numbers (more m ms) s = negation_numbers m s ++ negations_numbers ms s

-- each literal's form is a row
abbrev mutual
  pub HasRows : Matrix → Type 0
  HasRows (lit l) = IsRow (form_of l)
  HasRows (all ms) = HaveRows ms
  HasRows (some ms) = HaveRows ms

  pub HaveRows : Matrices → Type 0
  HaveRows none = ⊤
  HaveRows (more m ms) = HasRows m × HaveRows ms
