use Rattle.std.proofs.Common.{◌≡◌, ◌++◌, List, drop}
use Rattle.lin_term.specs.declared.Lit.{Lit}
use Rattle.dom_core.specs.Distinct.{HasLits, new_places}
use Rattle.dom_core.proofs.distinct.new_places.Given as goal

abbrev pub invariant-loop-lit : goal.invariant-loop-lit
invariant-loop-lit l = (met : List Lit) × HasLits l.seen met × (l.places ++ new_places met (drop l.lit-index l.more) ≡ new_places l.fn.old l.fn.more)
