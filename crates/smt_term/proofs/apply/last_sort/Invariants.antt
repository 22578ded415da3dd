use Rattle.std.proofs.Common.{◌≡◌, length}
use Rattle.lin_truth.specs.declared.VarSort.TheVariants as sorts
use Rattle.smt_term.specs.Apply as spec
use Rattle.smt_term.specs.View.{sorts_seen}
use Rattle.smt_term.proofs.apply.last_sort.Given as goal

abbrev pub invariant-loop-rest : goal.invariant-loop-rest
invariant-loop-rest l = spec.last_sort l.last (sorts_seen l.rest) ≡ spec.last_sort sorts.Bool (sorts_seen l.args)

abbrev pub decreases-loop-rest : goal.decreases-loop-rest
decreases-loop-rest l = length l.rest
