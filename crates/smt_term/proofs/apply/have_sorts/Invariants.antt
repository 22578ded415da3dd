use Rattle.std.proofs.Common.{◌≡◌, length}
use Rattle.smt_term.specs.Apply as spec
use Rattle.smt_term.specs.View.{sorts_seen}
use Rattle.smt_term.proofs.apply.have_sorts.Given as goal

abbrev pub invariant-loop-left : goal.invariant-loop-left
invariant-loop-left l = spec.same_sorts (sorts_seen l.left) l.right ≡ spec.same_sorts (sorts_seen l.args) l.sorts

abbrev pub decreases-loop-left : goal.decreases-loop-left
decreases-loop-left l = length l.left
