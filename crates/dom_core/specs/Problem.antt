-- Problems as they are written, and what their type keeps.
use Rattle.std.specs.Prelude.{◌≤◌, ◌≡◌, None, List, length, ⊤}
use Rattle.lin_term.specs.declared.Sort.{Sort}
use Rattle.lin_term.specs.Literal.{neg, prim}
use Rattle.lin_term.specs.Wide.{first_past, lit_numbers}
use Rattle.dom_core.specs.declared.matrix.Matrix.{Matrix as Written}
use Rattle.dom_core.specs.declared.quant.Quant.{Quant}
use Rattle.dom_core.specs.Game.{Matrix, Matrices, lit, all, some, none, more, IsMatrix, Problem, TrueP}
use Rattle.dom_core.specs.View.{matrix_of}

-- a prefix and the matrix as written
pub record WrittenProblem : Type 0 where
  pub prefix : List Quant
  pub matrix : Written

abbrev pub problem_of : WrittenProblem → Problem
problem_of P = record { prefix = P.prefix; matrix = matrix_of P.matrix }

-- each literal is primitive, and its negation is within the cap
abbrev mutual
  pub HasNegations : Matrix → Sort → Type 0
  HasNegations (lit l) s = (prim s l ≡ l) × (first_past (lit_numbers (neg s l)) ≡ None)
  HasNegations (all ms) s = HaveNegations ms s
  HasNegations (some ms) s = HaveNegations ms s

  pub HaveNegations : Matrices → Sort → Type 0
  HaveNegations none s = ⊤
  HaveNegations (more m ms) s = HasNegations m s × HaveNegations ms s

abbrev pub IsProblem : Sort → WrittenProblem → Type 0
IsProblem s P = (length P.prefix ≤ 1024) × IsMatrix (matrix_of P.matrix) s (length P.prefix) × HasNegations (matrix_of P.matrix) s

-- the problem is true: Exists has a strategy
abbrev pub IsTrueProblem : Sort → WrittenProblem → Type 0
IsTrueProblem s P = TrueP s (problem_of P)
