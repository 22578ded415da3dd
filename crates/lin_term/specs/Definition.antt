-- The literals that define a move's value, and the moves that are kept.
use Rattle.std.specs.Prelude.{ℕ, ◌≡◌, ◌^◌, ℤ, pos, ◌-ℤ◌, neg_ℤ, None, List, ◌∷◌, ◌++◌}
use Rattle.lin_term.specs.Linear.{Sort, Rat, Int, Form, plus, times, constant_form, variable_form, rename}
use Rattle.lin_term.specs.Literal.{Lit, AtLeast, prim}
use Rattle.lin_term.specs.Move.{Move, IsLowest}
use Rattle.lin_term.specs.Wide.{form_numbers, lit_numbers, first_past}

-- div*v - numer, and in Int div - 1 more
abbrev pub upper_form : Sort → Move → ℕ → Form
upper_form Rat m v = plus (times (neg_ℤ (pos 1)) m.numer) (variable_form (pos m.div) v)
upper_form Int m v =
    plus (times (neg_ℤ (pos 1)) m.numer) (plus (variable_form (pos m.div) v) (constant_form (pos m.div -ℤ pos 1)))

-- numer - div*v
abbrev pub lower_form : Move → ℕ → Form
lower_form m v = plus m.numer (variable_form (neg_ℤ (pos m.div)) v)

-- v is at least the value, and at most it
abbrev pub upper_literal : Sort → Move → ℕ → Lit
upper_literal s m v = prim s (AtLeast (upper_form s m v))

abbrev pub lower_literal : Sort → Move → ℕ → Lit
lower_literal s m v = prim s (AtLeast (lower_form m v))

-- the move at other variables
abbrev pub rename_move : List ℕ → Move → Move
rename_move names m = record { numer = rename names m.numer; div = m.div }

-- node, literal 0 and literal 1
pub record Definition : Type 0 where
  pub node : ℕ
  pub upper : Lit
  pub lower : Lit

-- names has the node of each variable
abbrev pub definition : Sort → Move → List ℕ → ℕ → Definition
definition s m names v =
    record { node = v; upper = upper_literal s (rename_move names m) v; lower = lower_literal s (rename_move names m) v }

-- above the number of every variable; the numbers of a definition do not depend on the node
abbrev pub spare_node : ℕ
spare_node = 2 ^ 20

-- divisor, coefficients, constant, literal 0, literal 1
abbrev pub move_numbers : Sort → Move → List ℤ
move_numbers s m =
    pos m.div ∷ (form_numbers m.numer ++ (lit_numbers (upper_literal s m spare_node) ++ lit_numbers (lower_literal s m spare_node)))

-- in lowest form, and it and its definition are within the cap
pub record IsKeptMove (s : Sort) (m : Move) : Type 0 where
  pub is_lowest : IsLowest s m
  pub within : first_past (move_numbers s m) ≡ None
