use Rattle.std.proofs.Common.{ℤ, ◌∙◌, ap, sym, arith}
use Rattle.lin_term.specs.Linear.{Point}
use Rattle.lin_term.proofs.Terms.{two_words}
use Rattle.cube_elim.proofs.Totals.{step_here, step_next}
use Rattle.cube_elim.proofs.case_value.value_among_lower.Goals as goal

pub returns-then-from-count : goal.returns-then-from-count
returns-then-from-count c = λ p t.
    let q = two_words c.value_of_lower.result c.value_of_lower.type_inv in
    let v = c.cases_of-count.ensures.value in
    let f = c.from.ensures in
    let l = c.if-from-count.true in
    let h = step_here c.args.var c.args.n c.args.cube.now c.loop-lit.rest c.loop-lit.lit-index c.lit-item.result c.loop-lit-test.true c.lit-item.is (omega arith) in
    q ∙ c.value_of_lower.ensures p t ∙ ap (λ (g : Point → ℤ). g p) (sym h ∙ c.loop-lit.invariant)

pub loop-lit-preserved : goal.loop-lit-preserved
loop-lit-preserved c =
    let v = c.cases_of-count.ensures.value in
    let f = c.from.ensures in
    let l = c.if-from-count.false in
    step_next c.args.var c.args.n c.args.cube.now c.loop-lit.rest c.cases_of-count.result c.loop-lit.lit-index c.lit-item.result c.loop-lit-test.true c.lit-item.is v (omega arith) ∙ c.loop-lit.invariant
