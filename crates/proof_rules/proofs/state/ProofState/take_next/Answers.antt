use Rattle.proof_rules.specs.Stack.{current_of}
use Rattle.proof_rules.specs.Held.{next_of}
use Rattle.proof_rules.proofs.StackLemmas.{OnOk_with}
use Rattle.proof_rules.proofs.SettleLemmas.{moved_settled}
use Rattle.proof_rules.proofs.state.ProofState.take_next.Goals as goal

pub settle-requires : goal.settle-requires
settle-requires g c = (c.in_ok-take.ensures g.D.Domain.SORT c.args.system.now c.requires.kept c.requires.going c.requires.next).kept

pub returns : goal.returns
returns g c =
    OnOk_with c.settle.result
    (moved_settled g.D.Domain.SORT c.args.system.now (next_of g.D.Domain.SORT c.args.system.now (current_of g.D.Domain.SORT c.args.system.now c.args.self.now) c.args.next) c.args.self.now c.take.new.self c.settle.new.self
    (c.in_ok-take.ensures g.D.Domain.SORT c.args.system.now c.requires.kept c.requires.going c.requires.next))
    c.settle.ensures
