-- The operators of terms, as a table with a line for each (SMT-LIB 2.6, the theories Core, Reals and Ints).
use Rattle.std.specs.Prelude.{ℕ, Bool, true, false, if◌then◌else◌, List, [], ◌∷◌, Option, Some, None, position, slice_get}
use Rattle.std.specs.Str.{bytes_eq}
use Rattle.ss_names.specs.Vocabulary.{operator_words}
use Rattle.lin_term.specs.declared.Sort.{Sort}
use Rattle.lin_term.specs.declared.Sort.TheVariants.{Rat, Int}
use Rattle.lin_truth.specs.declared.VarSort.{VarSort}
use Rattle.lin_truth.specs.declared.VarSort.TheVariants as sort
use Rattle.term_table.specs.declared.Unary.TheVariants as unary
use Rattle.term_table.specs.declared.Binary.TheVariants as binary
use Rattle.term_table.specs.declared.Variadic.TheVariants as variadic
use Rattle.smt_term.specs.declared.operator.Within.{Within}
use Rattle.smt_term.specs.declared.operator.Within.TheVariants as within
use Rattle.smt_term.specs.declared.operator.Takes.{Takes}
use Rattle.smt_term.specs.declared.operator.Takes.TheVariants as takes
use Rattle.smt_term.specs.declared.operator.Gives.{Gives}
use Rattle.smt_term.specs.declared.operator.Gives.TheVariants as gives
use Rattle.smt_term.specs.declared.operator.Shape.{Shape}
use Rattle.smt_term.specs.declared.operator.Shape.TheVariants as shape
use Rattle.smt_term.specs.declared.operator.Linear.{Linear}
use Rattle.smt_term.specs.declared.operator.Linear.TheVariants as linear
use Rattle.smt_term.specs.declared.operator.Operator.{Operator}

-- the logics, the least and the greatest number of arguments, their sorts, the sort of the application, how it is made,
-- and which arguments have to be constant terms
abbrev pub line : Within → ℕ → Option ℕ → Takes → Gives → Shape → Linear → Operator
line w least most t g s l = record { within = w; least = least; most = most; takes = t; gives = g; shape = s; linear = l }

-- in the order of the table of words; `true` and `false` take no arguments
abbrev pub lines : List Operator
lines =
    line within.All 1 (Some 0) takes.Formulas gives.Formula (shape.Truth true) linear.Free  -- true
    ∷ line within.All 1 (Some 0) takes.Formulas gives.Formula (shape.Truth false) linear.Free  -- false
    ∷ line within.All 1 (Some 1) takes.Formulas gives.Formula (shape.One unary.Not) linear.Free  -- not
    ∷ line within.All 1 None takes.Formulas gives.Formula (shape.Several variadic.And) linear.Free  -- and
    ∷ line within.All 1 None takes.Formulas gives.Formula (shape.Several variadic.Or) linear.Free  -- or
    ∷ line within.All 2 None takes.Formulas gives.Formula (shape.Left binary.Xor) linear.Free  -- xor
    ∷ line within.All 2 None takes.Formulas gives.Formula (shape.Right binary.Implies) linear.Free  -- =>
    ∷ line within.All 2 None takes.Alike gives.Formula (shape.Chain binary.Equal) linear.Free  -- =
    ∷ line within.All 2 None takes.Alike gives.Formula shape.Pairwise linear.Free  -- distinct
    ∷ line within.All 3 (Some 3) takes.Choice gives.Last shape.Choice linear.Free  -- ite
    ∷ line within.All 2 None takes.Numbers gives.Formula (shape.Chain binary.Less) linear.Free  -- <
    ∷ line within.All 2 None takes.Numbers gives.Formula (shape.Chain binary.AtMost) linear.Free  -- <=
    ∷ line within.All 2 None takes.Numbers gives.Formula (shape.Chain binary.Greater) linear.Free  -- >
    ∷ line within.All 2 None takes.Numbers gives.Formula (shape.Chain binary.AtLeast) linear.Free  -- >=
    ∷ line within.All 2 None takes.Numbers gives.Number (shape.Several variadic.Plus) linear.Free  -- +
    ∷ line within.All 1 None takes.Numbers gives.Number shape.Difference linear.Free  -- -
    ∷ line within.All 2 None takes.Numbers gives.Number (shape.Several variadic.Times) linear.Factors  -- *
    ∷ line within.Reals 2 None takes.Numbers gives.Number (shape.Left binary.Quotient) linear.Divisors  -- /
    ∷ line within.Integers 2 None takes.Numbers gives.Number (shape.Left binary.Div) linear.Divisors  -- div
    ∷ line within.Integers 2 (Some 2) takes.Numbers gives.Number (shape.Left binary.Mod) linear.Divisors  -- mod
    ∷ line within.Integers 1 (Some 1) takes.Numbers gives.Number (shape.One unary.Abs) linear.Free  -- abs
    ∷ []

abbrev pub is_within : Within → Sort → Bool
is_within within.All logic = true
is_within within.Reals Rat = true
is_within within.Reals Int = false
is_within within.Integers Rat = false
is_within within.Integers Int = true

abbrev pub of_logic : Sort → Operator → Option Operator
of_logic logic op = if is_within op.within logic then Some op else None

abbrev pub of_logic_at : Sort → Option Operator → Option Operator
of_logic_at logic None = None
of_logic_at logic (Some op) = of_logic logic op

abbrev pub line_at : Option ℕ → Option Operator
line_at None = None
line_at (Some row) = slice_get lines row

-- the operator of the logic that a name spells
unfoldable pub operator_named : Sort → List ℕ → Option Operator
operator_named logic name = of_logic_at logic (line_at (position (λ known. bytes_eq known name) operator_words))

-- the sort of an application whose last argument has this one
abbrev pub sort_given : Gives → VarSort → VarSort
sort_given gives.Formula last = sort.Bool
sort_given gives.Number last = sort.Number
sort_given gives.Last last = last
