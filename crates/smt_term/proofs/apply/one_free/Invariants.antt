use Rattle.std.proofs.Common.{◌≡◌, length}
use Rattle.smt_term.specs.Apply as spec
use Rattle.smt_term.proofs.apply.one_free.Given as goal

abbrev pub invariant-loop-rest : goal.invariant-loop-rest
invariant-loop-rest l = spec.one_free l.rest ≡ spec.one_free l.worths

abbrev pub decreases-loop-rest : goal.decreases-loop-rest
decreases-loop-rest l = length l.rest
