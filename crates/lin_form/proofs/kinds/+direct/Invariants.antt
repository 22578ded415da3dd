use Rattle.std.proofs.Common.{◌≡◌, drop}
use Rattle.lin_truth.specs.View.{trees_of}
use Rattle.lin_form.specs.Direct.{are_direct}
use Rattle.lin_form.proofs.kinds.+direct.Given as goal

abbrev pub invariant-all_direct-loop-term : goal.invariant-all_direct-loop-term
invariant-all_direct-loop-term l = are_direct (trees_of (drop l.term-index l.terms)) ≡ are_direct (trees_of l.terms)
