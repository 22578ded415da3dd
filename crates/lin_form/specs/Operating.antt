-- The operations on two forms.
use Rattle.lin_form.specs.declared.step.Operation.{Operation}
use Rattle.lin_form.specs.declared.step.Operation.TheVariants as operations
use Rattle.lin_term.specs.Linear.{Value}
use Rattle.lin_truth.specs.Value.{v_abs, v_over, v_div, v_mod}
use Rattle.lin_form.specs.Lin.{Lin, lin_plus, lin_minus, lin_times}
use Rattle.lin_form.specs.Low.{as_lin, lowest}

-- the value of a form without variables
abbrev pub value_of : Lin → Value
value_of x = record { num = x.form.constant; den = x.den }

abbrev pub absolute_lin : Lin → Lin
absolute_lin x = as_lin (lowest (v_abs (value_of x)))

abbrev pub whole_lin : Lin → Lin → Lin
whole_lin x y = as_lin (lowest (v_div (value_of x) (value_of y)))

abbrev pub remainder_lin : Lin → Lin → Lin
remainder_lin x y = as_lin (lowest (v_mod (value_of x) (value_of y)))

abbrev pub quotient_lin : Lin → Lin → Lin
quotient_lin x y = as_lin (lowest (v_over (value_of x) (value_of y)))

abbrev pub operation : Operation → Lin → Lin → Lin
operation operations.Plus x y = lin_plus x y
operation operations.Minus x y = lin_minus x y
operation operations.Times x y = lin_times x y
operation operations.Over x y = quotient_lin x y
operation operations.Whole x y = whole_lin x y
operation operations.Rest x y = remainder_lin x y
