use Rattle.std.specs.Prelude.{take, Bool}
use Rattle.lin_term.specs.declared.Sort.{Sort}
use Rattle.lose_system.specs.Written.{WrittenSystem}
use Rattle.proof_rules.specs.Held.{context_of, AreFacts}
use Rattle.proof_rules.proofs.CubeLemmas.{Kept}
use Rattle.proof_rules.proofs.cubes.cube.Given as goal

abbrev pub invariant-loop-number : goal.invariant-loop-number
invariant-loop-number l =
    (s : Sort) (w : WrittenSystem) (bare : Bool) → AreFacts s w l.facts → Kept s w (context_of s w bare l.facts) (take l.number-index l.numbers) l.kept
