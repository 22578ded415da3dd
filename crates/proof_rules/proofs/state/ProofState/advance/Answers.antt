use Rattle.std.proofs.Common.{ap, subst}
use Rattle.proof_rules.specs.declared.state.Rest.{Rest}
use Rattle.proof_rules.specs.Stack.{rest_of, current_of, IsRest}
use Rattle.proof_rules.proofs.StackLemmas.{OnOk_with, popped, pop_state, popped_moves, added_moves}
use Rattle.proof_rules.proofs.state.ProofState.advance.Goals as goal

pub returns-in-Children : goal.returns-in-Children
returns-in-Children c = λ s w i e.
    let p = pop_state s w c.args.self.now c.pop.new.self c.in-Some.frame c.cut.new.facts i c.in-Some.ensures c.cut.ensures in
    OnOk_with c.first_child.result
    (λ m. popped_moves s w c.args.self.now c.first_child.new.self c.pop.new.self c.in-Some.frame c.cut.new.facts _ p
    (ap (rest_of s w (current_of s w (popped c.args.self.now c.pop.new.self c.in-Some.frame c.cut.new.facts))) c.in-Children.is) m)
    (c.first_child.ensures s w p.state e (subst (λ (r : Rest). IsRest s w r) c.in-Children.is p.rest))

pub returns-in-Literals : goal.returns-in-Literals
returns-in-Literals c = λ s w i e.
    let p = pop_state s w c.args.self.now c.pop.new.self c.in-Some.frame c.cut.new.facts i c.in-Some.ensures c.cut.ensures in
    OnOk_with c.next_literal.result
    (λ m. popped_moves s w c.args.self.now c.next_literal.new.self c.pop.new.self c.in-Some.frame c.cut.new.facts _ p
    (ap (rest_of s w (current_of s w (popped c.args.self.now c.pop.new.self c.in-Some.frame c.cut.new.facts))) c.in-Literals.is) m)
    (c.next_literal.ensures s w p.state e (subst (λ (r : Rest). IsRest s w r) c.in-Literals.is p.rest))

pub returns-in-Other : goal.returns-in-Other
returns-in-Other c = λ s w i e.
    let p = pop_state s w c.args.self.now c.pop.new.self c.in-Some.frame c.cut.new.facts i c.in-Some.ensures c.cut.ensures in
    OnOk_with c.add.result
    (λ n. popped_moves s w c.args.self.now c.add.new.self c.pop.new.self c.in-Some.frame c.cut.new.facts _ p
    (ap (rest_of s w (current_of s w (popped c.args.self.now c.pop.new.self c.in-Some.frame c.cut.new.facts))) c.in-Other.is)
    (added_moves s w (popped c.args.self.now c.pop.new.self c.in-Some.frame c.cut.new.facts) c.add.new.self _ p.state e (subst (λ (r : Rest). IsRest s w r) c.in-Other.is p.rest) n))
    c.add.ensures

pub returns-in-Least : goal.returns-in-Least
returns-in-Least c = λ s w i e.
    let p = pop_state s w c.args.self.now c.pop.new.self c.in-Some.frame c.cut.new.facts i c.in-Some.ensures c.cut.ensures in
    OnOk_with c.next_case.result
    (λ m. popped_moves s w c.args.self.now c.next_case.new.self c.pop.new.self c.in-Some.frame c.cut.new.facts _ p
    (ap (rest_of s w (current_of s w (popped c.args.self.now c.pop.new.self c.in-Some.frame c.cut.new.facts))) c.in-Least.is) m)
    (c.next_case.ensures s w p.state e (subst (λ (r : Rest). IsRest s w r) c.in-Least.is p.rest))
