use Rattle.std.proofs.Common.{◌≡◌, drop}
use Rattle.lin_truth.specs.Constant.{are_constant}
use Rattle.lin_truth.specs.View.{trees_of}
use Rattle.lin_form.proofs.kinds.+constant.Given as goal

abbrev pub invariant-all_constant-loop-term : goal.invariant-all_constant-loop-term
invariant-all_constant-loop-term l = are_constant (trees_of (drop l.term-index l.terms)) ≡ are_constant (trees_of l.terms)
