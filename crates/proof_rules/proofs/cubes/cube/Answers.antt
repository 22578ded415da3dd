use Rattle.std.proofs.Common.{sym, ◌∙◌, rules}
use Rattle.proof_rules.specs.Held.{context_of}
use Rattle.proof_rules.proofs.CubeLemmas.{cube_more, cube_missing, cube_other, cube_done, not_empty}
use Rattle.proof_rules.proofs.cubes.cube.Goals as goal

pub returns-in_default : goal.returns-in_default
returns-in_default c = λ s w bare a.
    cube_missing s w bare c.args.facts.now c.args.numbers.now c.loop-number.number-index c.loop-number-test.true c.in_default.ensures

pub returns-then-not-is_literal : goal.returns-then-not-is_literal
returns-then-not-is_literal c = λ s w bare a.
    cube_other s w bare c.args.facts.now c.args.numbers.now c.loop-number.number-index c.in-Some.fact.now c.loop-number-test.true c.in-Some.ensures (sym (c.is_literal.ensures s w) ∙ search rules)

pub loop-number-preserved : goal.loop-number-preserved
loop-number-preserved c = λ s w bare a.
    cube_more s w bare c.args.facts.now c.args.numbers.now c.loop-number.number-index c.loop-number.kept c.push.new.self c.in-Some.fact.now c.in_ok-again.field-0 a (c.loop-number.invariant s w bare a) c.loop-number-test.true c.in-Some.ensures
    (sym (c.is_literal.ensures s w) ∙ search rules) (c.in_ok-again.ensures.value s w) (c.in_ok-again.ensures.kept s w) c.in_ok-push.ensures.ok

pub returns : goal.returns
returns c = λ s w bare a.
    cube_done s w (context_of s w bare c.args.facts.now) c.args.numbers.now c.loop-number.number-index c.loop-number.kept (c.loop-number.invariant s w bare a) c.loop-number-test.false (not_empty c.args.numbers.now c.is_empty.result c.is_empty.ensures c.if-is_empty.false)
