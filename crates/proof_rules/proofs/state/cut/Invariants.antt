use Rattle.std.specs.Prelude.{◌≡◌, take, length}
use Rattle.proof_rules.proofs.state.cut.Given as goal

abbrev pub invariant-loop-facts : goal.invariant-loop-facts
invariant-loop-facts l = take l.len l.facts ≡ take l.len l.fn.facts

abbrev pub decreases-loop-facts : goal.decreases-loop-facts
decreases-loop-facts l = length l.facts
