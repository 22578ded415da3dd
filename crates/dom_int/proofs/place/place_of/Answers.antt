use Rattle.std.proofs.Common.{ℕ, ◌≡◌, ◌≤◌, ◌<◌, ◌-◌, ◌+◌, ◌∙◌, [], ap, sym, subst, arith, length, get_or, take, drop}
use Rattle.dom_core.specs.Elimination.{lower_cases}
use Rattle.dom_int.specs.Counts.{count_at}
use Rattle.dom_int.proofs.Places.{place_found, step_within, step_case}
use Rattle.dom_int.proofs.place.place_of.Goals as goal

pub returns-then-from-count-clause-place : goal.returns-then-from-count-clause-place
returns-then-from-count-clause-place c =
    let i = c.loop-lit.invariant in
    let v = c.count_of-count.ensures.value in
    let t = c.if-from-count.true in
    let f = c.from.ensures in
    place_found c.args.var c.args.n c.args.cube.now c.args.index c.loop-lit.place c.loop-lit.rest c.loop-lit.lit-index c.lit-item.result c.loop-lit-test.true c.lit-item.is i.at i.case (omega arith)

pub loop-lit-preserved : goal.loop-lit-preserved
loop-lit-preserved c =
    let i = c.loop-lit.invariant in
    let v = c.count_of-count.ensures.value in
    let t = c.if-from-count.false in
    let f = c.from.ensures in
    let x = c.args.var in
    let n = c.args.n in
    let l = c.lit-item.result in
    let cube = c.args.cube.now in
    let j = c.loop-lit.lit-index in
    let o : count_at x n l ≤ c.loop-lit.rest = omega arith in
    record {
      at = omega arith;
      small = omega arith;
      within = subst (λ (m : ℕ). c.loop-lit.rest - m < length (lower_cases x n (take (j + 1) cube) (drop (j + 1) cube))) (sym v) (step_within x n cube c.loop-lit.rest j l c.loop-lit-test.true c.lit-item.is i.within o);
      case = subst (λ (m : ℕ). get_or (lower_cases x n (take (j + 1) cube) (drop (j + 1) cube)) (c.loop-lit.rest - m) [] ≡ get_or (lower_cases x n [] cube) c.args.index []) (sym v) (step_case x n cube c.loop-lit.rest j l c.loop-lit-test.true c.lit-item.is o ∙ i.case);
    }
