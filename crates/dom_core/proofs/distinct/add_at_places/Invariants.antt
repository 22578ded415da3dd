use Rattle.std.proofs.Common.{◌≡◌, ◌++◌, drop}
use Rattle.dom_core.specs.Distinct.{at_places}
use Rattle.dom_core.proofs.distinct.add_at_places.Given as goal

abbrev pub invariant-loop-index : goal.invariant-loop-index
invariant-loop-index l = l.out ++ at_places (drop l.index l.places) (drop l.index l.lits) ≡ l.fn.out ++ at_places l.places l.lits
