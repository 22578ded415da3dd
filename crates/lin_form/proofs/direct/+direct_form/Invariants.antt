use Rattle.std.proofs.Common.{drop}
use Rattle.lin_truth.specs.Value.{zero_value, one_value}
use Rattle.lin_truth.specs.View.{trees_of}
use Rattle.lin_form.specs.Low.{as_lin}
use Rattle.lin_form.specs.Direct.{direct_sum, direct_product, made_sum, made_product}
use Rattle.lin_form.proofs.Lists.{GoesOn}
use Rattle.lin_form.proofs.direct.+direct_form.Given as goal

abbrev pub invariant-direct_sum-loop-term : goal.invariant-direct_sum-loop-term
invariant-direct_sum-loop-term l = GoesOn (λ us x. made_sum us l.ctx x) (λ us x. direct_sum us l.ctx x) (as_lin zero_value) (trees_of l.terms) (trees_of (drop l.term-index l.terms)) l.total

abbrev pub invariant-direct_product-loop-term : goal.invariant-direct_product-loop-term
invariant-direct_product-loop-term l = GoesOn (λ us x. made_product us l.ctx x) (λ us x. direct_product us l.ctx x) (as_lin one_value) (trees_of l.terms) (trees_of (drop l.term-index l.terms)) l.total
