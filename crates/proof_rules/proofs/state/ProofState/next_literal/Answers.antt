use Rattle.std.specs.Prelude.{◌≤◌, ◌≡◌, ◌+◌, suc, ℕ, List, option_map, slice_get, drop, length}
use Rattle.std.proofs.Common.{arith, ap, sym, ◌∙◌, refl}
use Rattle.lin_term.specs.declared.Lit.{Lit}
use Rattle.cube_rules.specs.Lines.{each_child, leaves}
use Rattle.proof_rules.specs.declared.fact.Fact.TheVariants.{Known}
use Rattle.proof_rules.specs.declared.state.Rest.TheVariants.{Literals}
use Rattle.proof_rules.specs.Stack.{current_of}
use Rattle.proof_rules.proofs.StackLemmas.{OnOk_with, adds, last_literal, more_literals}
use Rattle.proof_rules.proofs.state.ProofState.next_literal.Goals as goal

pub returns-then-behind-count : goal.returns-then-behind-count
returns-then-behind-count c = λ s w i e k.
    OnOk_with c.add.result
    (λ n. last_literal s w c.args.self.now c.add.new.self c.args.clause.value c.args.place (Known c.in-Some.literal) i e
    (adds s w c.args.clause.value c.args.place (Known c.in-Some.literal) c.in-Some.literal.value
    (ap (option_map (λ l. l.value)) (sym c.in-Some.is) ∙ c.in_ok-literal.ensures.value ∙ ap (λ (ls : List Lit). slice_get ls c.args.place) c.deref-2.ensures) refl refl k.1)
    (let a = c.len-count.ensures in let b = ap length c.deref.ensures in let d = c.if-behind-count.true in omega arith) n)
    c.add.ensures

pub returns : goal.returns
returns c = λ s w i e k.
    OnOk_with c.add-2.result
    (λ n. more_literals s w c.args.self.now c.wait.new.self c.add-2.new.self c.args.clause.value c.args.place (Known c.in-Some.literal) (Literals c.args.clause (c.args.place + 1)) i e
    (adds s w c.args.clause.value c.args.place (Known c.in-Some.literal) c.in-Some.literal.value
    (ap (option_map (λ l. l.value)) (sym c.in-Some.is) ∙ c.in_ok-literal.ensures.value ∙ ap (λ (ls : List Lit). slice_get ls c.args.place) c.deref-2.ensures) refl refl k.1)
    (ap (λ (j : ℕ). each_child (current_of s w c.args.self.now) (leaves (drop j c.args.clause.value))) (let q : c.args.place + 1 ≡ suc c.args.place = omega arith in q))
    (let a = c.len-count.ensures in let b = ap length c.deref.ensures in let d = c.if-behind-count.false in omega arith, k.1)
    c.in_ok-wait.ensures n)
    c.add-2.ensures
