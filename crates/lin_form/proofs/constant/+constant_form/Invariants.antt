use Rattle.std.proofs.Common.{drop}
use Rattle.lin_truth.specs.Value.{zero_value, one_value}
use Rattle.lin_truth.specs.View.{trees_of}
use Rattle.lin_form.specs.Low.{as_lin}
use Rattle.lin_form.proofs.Constants.{SumGoesOn, ProductGoesOn}
use Rattle.lin_form.proofs.constant.+constant_form.Given as goal

abbrev pub invariant-constant_product-loop-term : goal.invariant-constant_product-loop-term
invariant-constant_product-loop-term l = ProductGoesOn (as_lin one_value) (trees_of l.terms) (trees_of (drop l.term-index l.terms)) l.total

abbrev pub invariant-constant_sum-loop-term : goal.invariant-constant_sum-loop-term
invariant-constant_sum-loop-term l = SumGoesOn (as_lin zero_value) (trees_of l.terms) (trees_of (drop l.term-index l.terms)) l.total
