-- The values of constant terms, from those of their parts; None where there is none.
use Rattle.std.specs.Prelude.{List, [], ◌∷◌, take, drop, Option, Some, None}
use Rattle.lin_term.specs.Linear.{Value}
use Rattle.lin_truth.specs.Value.{zero_value, one_value, v_neg, v_abs, v_plus, v_minus, v_times, v_over, v_div, v_mod}
use Rattle.lin_truth.specs.Worked.{kept, step_one, step_two}
use Rattle.lin_truth.specs.View.{den_of}
use Rattle.term_table.specs.declared.node.Leaf.{Leaf}
use Rattle.term_table.specs.declared.node.Leaf.TheVariants as leaf
use Rattle.term_table.specs.declared.node.Unary.{Unary}
use Rattle.term_table.specs.declared.node.Unary.TheVariants as unary
use Rattle.term_table.specs.declared.node.Binary.{Binary}
use Rattle.term_table.specs.declared.node.Binary.TheVariants as binary
use Rattle.term_table.specs.declared.node.Variadic.{Variadic}
use Rattle.term_table.specs.declared.node.Variadic.TheVariants as variadic
use Rattle.term_table.specs.declared.step.Step.{Step}
use Rattle.term_table.specs.declared.step.Step.TheVariants as step

-- a value that is known, if there is one
abbrev pub Known : Type 0
Known = Option Value

abbrev pub known_leaf : Leaf → Known
known_leaf leaf.True = None
known_leaf leaf.False = None
known_leaf (leaf.Number num den) = kept (record { num = num; den = den_of den })
known_leaf (leaf.Constant i) = None

abbrev pub known_one : Unary → Known → Known
known_one unary.Negative x = step_one v_neg x
known_one unary.Abs x = step_one v_abs x
known_one unary.Not x = None
known_one (unary.Divisible n) x = None

abbrev pub known_two : Binary → Known → Known → Known
known_two binary.Minus x y = step_two v_minus x y
known_two binary.Quotient x y = step_two v_over x y
known_two binary.Div x y = step_two v_div x y
known_two binary.Mod x y = step_two v_mod x y
known_two binary.Less x y = None
known_two binary.AtMost x y = None
known_two binary.Greater x y = None
known_two binary.AtLeast x y = None
known_two binary.Equal x y = None
known_two binary.Xor x y = None
known_two binary.Implies x y = None

-- behind a value, from left to right
abbrev pub known_sum : List Known → Known → Known
known_sum [] x = x
known_sum (y ∷ ys) x = known_sum ys (step_two v_plus x y)

abbrev pub known_product : List Known → Known → Known
known_product [] x = x
known_product (y ∷ ys) x = known_product ys (step_two v_times x y)

abbrev pub known_several : Variadic → List Known → Known
known_several variadic.Plus xs = known_sum xs (Some zero_value)
known_several variadic.Times xs = known_product xs (Some one_value)
known_several variadic.And xs = None
known_several variadic.Or xs = None

-- ---- steps

abbrev pub first_known : List Known → Known
first_known [] = None
first_known (x ∷ xs) = x

abbrev pub rest_known : List Known → List Known
rest_known [] = []
rest_known (x ∷ xs) = xs

-- one step on a stack of values, the top first
abbrev pub known_step : Step → List Known → List Known
known_step (step.Leaf l) xs = known_leaf l ∷ xs
known_step (step.Variable i) xs = None ∷ xs
known_step (step.One op) xs = known_one op (first_known xs) ∷ rest_known xs
known_step (step.Two op) xs = known_two op (first_known xs) (first_known (rest_known xs)) ∷ rest_known (rest_known xs)
known_step step.Choice xs = None ∷ rest_known (rest_known (rest_known xs))
known_step (step.Several op k) xs = known_several op (take k xs) ∷ drop k xs
known_step (step.Binder q us) xs = None ∷ rest_known xs

abbrev pub known_run : List Step → List Known → List Known
known_run [] xs = xs
known_run (s ∷ ss) xs = known_run ss (known_step s xs)

-- ---- the stack of a computation

abbrev pub turned_on : List Known → List Known → List Known
turned_on ys [] = ys
turned_on ys (x ∷ xs) = turned_on (x ∷ ys) xs

-- the last one first
abbrev pub turned : List Known → List Known
turned xs = turned_on [] xs
