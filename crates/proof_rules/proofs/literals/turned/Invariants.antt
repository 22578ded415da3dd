use Rattle.std.specs.Prelude.{◌≡◌, ◌++◌, reverse, length}
use Rattle.proof_rules.proofs.literals.turned.Given as goal

abbrev pub invariant-loop-lit : goal.invariant-loop-lit
invariant-loop-lit l = l.turned ++ reverse l.left ≡ reverse l.fn.lits

abbrev pub decreases-loop-lit : goal.decreases-loop-lit
decreases-loop-lit l = length l.left
