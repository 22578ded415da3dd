use Rattle.std.proofs.Common.{refl}
use Rattle.proof_rules.specs.declared.fact.Fact.TheVariants.{Known}
use Rattle.proof_rules.specs.declared.fact.Next.TheVariants.{Split}
use Rattle.proof_rules.specs.declared.state.Rest.TheVariants.{Other}
use Rattle.proof_rules.proofs.StackLemmas.{OnOk_with, goes_moves, split_moves}
use Rattle.proof_rules.proofs.state.ProofState.take.Goals as goal

pub returns-in-Goes : goal.returns-in-Goes
returns-in-Goes c = λ s w i e k.
    OnOk_with c.add.result (λ n. goes_moves s w c.args.self.now c.add.new.self c.args.next c.in-Goes.fact i e k c.in-Goes.is n) c.add.ensures

pub returns-in_ok-wait-in-Split : goal.returns-in_ok-wait-in-Split
returns-in_ok-wait-in-Split c = λ s w i e k.
    OnOk_with c.add-in-Split.result (λ n. split_moves s w c.args.self.now c.wait.new.self c.add-in-Split.new.self c.args.next (Split c.in-Split.first c.in-Split.second) (Known c.in-Split.first) (Other (Known c.in-Split.second)) i e k c.in-Split.is
    (λ h. (h.1, h.0)) refl c.in_ok-wait-in-Split.ensures n) c.add-in-Split.ensures
