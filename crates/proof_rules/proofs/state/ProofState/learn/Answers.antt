use Rattle.proof_rules.specs.declared.state.Rest.TheVariants.{Other}
use Rattle.std.proofs.Common.{refl}
use Rattle.proof_rules.proofs.StackLemmas.{learn_moves}
use Rattle.proof_rules.proofs.state.ProofState.learn.Goals as goal

pub returns : goal.returns
returns c = λ s w i e k f.
    learn_moves s w c.args.self.now c.wait.new.self _ c.args.facts c.append.new.self (Other c.args.fact) i e k f c.in_ok-wait.ensures c.in_ok-append.ensures refl
