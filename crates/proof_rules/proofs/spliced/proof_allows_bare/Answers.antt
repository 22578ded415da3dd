use Rattle.lose_system.specs.Losing.{system}
use Rattle.proof_rules.proofs.Splicing.{system_allows}
use Rattle.proof_rules.proofs.spliced.proof_allows_bare.Goals as goal

pub returns : goal.returns
returns c = λ s P S n h. system_allows s (system s P S) n h
