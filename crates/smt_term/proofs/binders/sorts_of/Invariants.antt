use Rattle.std.proofs.Common.{◌≡◌, take}
use Rattle.smt_term.specs.Newest.{sorts_bound}
use Rattle.smt_term.proofs.binders.sorts_of.Given as goal

abbrev pub invariant-loop-v : goal.invariant-loop-v
invariant-loop-v l = l.sorts.items ≡ sorts_bound (take l.v-index l.variables)
