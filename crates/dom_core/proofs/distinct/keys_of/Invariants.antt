use Rattle.std.proofs.Common.{take}
use Rattle.dom_core.specs.Distinct.{HasLits}
use Rattle.dom_core.proofs.distinct.keys_of.Given as goal

abbrev pub invariant-loop-lit : goal.invariant-loop-lit
invariant-loop-lit l = HasLits l.seen (take l.lit-index l.lits)
