use Rattle.std.proofs.Common.{◌≡◌, drop}
use Rattle.proof_idle.specs.Walk.{all_marked}
use Rattle.proof_idle.proofs.walk.mark_all.Given as goal

abbrev pub invariant-loop-fact : goal.invariant-loop-fact
invariant-loop-fact l = all_marked (drop l.fact-index l.facts) l.used.items ≡ all_marked l.facts l.fn.used.items
