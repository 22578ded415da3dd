use Rattle.std.proofs.Common.{sym, subst}
use Rattle.proof_rules.specs.declared.state.ProofState.{ProofState}
use Rattle.proof_rules.specs.Stack.{Settled}
use Rattle.proof_rules.proofs.StackLemmas.{OnOk_with}
use Rattle.proof_rules.proofs.SettleLemmas.{last_is, settle_one, settle_none}
use Rattle.proof_rules.proofs.state.ProofState.settle.Goals as goal

pub settled-requires : goal.settled-requires
settled-requires g c = last_is g.D.Domain.SORT c.args.system.now c.args.self.now c.pop.new.self c.in-Some.fact c.requires c.in-Some.ensures

pub returns-in_default : goal.returns-in_default
returns-in_default g c = settle_none g.D.Domain.SORT c.args.system.now c.args.self.now c.pop.new.self c.requires c.in_default.ensures.0 c.in_default.ensures.1

pub returns : goal.returns
returns g c =
    OnOk_with c.add.result
    (λ n. subst (λ (t : ProofState). Settled g.D.Domain.SORT c.args.system.now c.args.self.now t) (sym n)
    (settle_one g.D.Domain.SORT c.args.system.now c.args.self.now c.pop.new.self c.in-Some.fact c.in_ok-built.built c.requires c.in-Some.ensures c.in_ok-built.ensures.value c.in_ok-built.ensures.kept))
    c.add.ensures
