use Rattle.std.proofs.Common.{◌≡◌, length}
use Rattle.smt_term.specs.Apply as spec
use Rattle.smt_term.specs.View.{sorts_seen}
use Rattle.smt_term.proofs.apply.all_of.Given as goal

abbrev pub invariant-loop-rest : goal.invariant-loop-rest
invariant-loop-rest l = spec.all_of l.sort (sorts_seen l.rest) ≡ spec.all_of l.sort (sorts_seen l.args)

abbrev pub decreases-loop-rest : goal.decreases-loop-rest
decreases-loop-rest l = length l.rest
