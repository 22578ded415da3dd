use Rattle.proof_rules.proofs.StackLemmas.{keep_made}
use Rattle.proof_rules.proofs.state.ProofState.keep.Goals as goal

pub returns : goal.returns
returns c = λ s w i e k. keep_made s w c.args.self.now c.args.facts c.append.new.self c.len-self.result i e k c.in_ok-append.ensures c.len-self.ensures
