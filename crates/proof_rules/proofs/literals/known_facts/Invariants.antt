use Rattle.std.specs.Prelude.{length}
use Rattle.proof_rules.proofs.KnownLemmas.{KnownSo}
use Rattle.proof_rules.proofs.literals.known_facts.Given as goal

abbrev pub invariant-loop-lit : goal.invariant-loop-lit
invariant-loop-lit l = KnownSo l.fn.cube l.left l.facts

abbrev pub decreases-loop-lit : goal.decreases-loop-lit
decreases-loop-lit l = length l.left
