use Rattle.proof_rules.specs.declared.state.Rest.TheVariants.{Least}
use Rattle.proof_rules.proofs.StackLemmas.{OnOk_with, waited_state, waited_open, int_cube, last_case, next_case}
use Rattle.proof_rules.proofs.state.ProofState.next_case.Goals as goal

pub returns-in_ok-wait-in-Some : goal.returns-in_ok-wait-in-Some
returns-in_ok-wait-in-Some c = λ s w i e q.
    OnOk_with c.keep.result
    (next_case s w c.args.self.now c.wait.new.self c.keep.new.self c.in_ok-facts.facts c.in_ok-case.case c.args.left c.in-Some.more c.in_ok-case.behind (c.in_ok-facts.ensures.value s w) c.in_ok-case.ensures.cases c.in-Some.is c.in_ok-wait-in-Some.ensures)
    (c.keep.ensures s w (waited_state s w c.args.self.now c.wait.new.self (Least c.in-Some.more) i q c.in_ok-wait-in-Some.ensures) (waited_open c.args.self.now c.wait.new.self (Least c.in-Some.more) e c.in_ok-wait-in-Some.ensures)
    (c.in_ok-facts.ensures.kept s w (int_cube s c.in_ok-case.case q c.in_ok-case.ensures.primitive)))

pub returns-in-None : goal.returns-in-None
returns-in-None c = λ s w i e q.
    OnOk_with c.keep-in-None.result
    (last_case s w c.args.self.now c.keep-in-None.new.self c.in_ok-facts.facts c.in_ok-case.case c.args.left c.in_ok-case.behind (c.in_ok-facts.ensures.value s w) c.in_ok-case.ensures.cases c.in-None.is)
    (c.keep-in-None.ensures s w i e (c.in_ok-facts.ensures.kept s w (int_cube s c.in_ok-case.case q c.in_ok-case.ensures.primitive)))
