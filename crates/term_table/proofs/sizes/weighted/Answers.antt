use Rattle.std.proofs.Common.{◌∙◌, ◌+◌, map, drop, get_or, min, sym, ap, arith}
use Rattle.term_table.specs.Scale.{ring, sum_in, amount, weight, limit}
use Rattle.term_table.specs.Form.{Linear, value}
use Rattle.term_table.specs.Entries.{part_value}
use Rattle.term_table.proofs.Amounts.{below-at, sum_next, sum_end, plus_zero}
use Rattle.term_table.proofs.FormLemmas.{step_part, form-at, nothing_owed}
use Rattle.term_table.proofs.sizes.weighted.Goals as goal

pub loop-part-init : goal.loop-part-init
loop-part-init c =
    λ s gs. ap (λ n. min (limit s) ((ring s).plus n ((ring s).times (weight s c.args.weight) (sum_in (ring s) (map (part_value s c.args.entries.now gs) c.args.parts.now))))) (c.of-form.ensures s gs ∙ plus_zero s (amount s c.args.own))

pub bounds-entries-part : goal.bounds-entries-part
bounds-entries-part c = below-at _ c.args.parts.now c.loop-part.part-index c.requires c.loop-part-test.true

pub loop-part-preserved : goal.loop-part-preserved
loop-part-preserved c =
    λ s gs. let f = part_value s c.args.entries.now gs in
    let i = c.loop-part.part-index in
    let k = get_or c.args.parts.now i 0 in
    let parts = c.args.parts.now in
    step_part s (weight s c.args.weight) (value s c.loop-part.form gs) (value s c.add.new.self gs) (f k) (sum_in (ring s) (map f (drop (i + 1) parts))) (sum_in (ring s) (map f (drop i parts))) _
    (sum_next s f parts i c.loop-part-test.true)
    (c.in_ok-add.ensures s gs ∙ ap (λ (form : Linear). min (limit s) ((ring s).plus (value s c.loop-part.form gs) ((ring s).times (weight s c.args.weight) (value s form gs))))
    (sym (form-at c.args.entries.now k c.index-entries-part.result (below-at _ parts i c.requires c.loop-part-test.true) c.index-entries-part.is)))
    (c.loop-part.invariant s gs)

pub returns : goal.returns
returns c =
    λ s gs. nothing_owed s (weight s c.args.weight) (value s c.loop-part.form gs) (sum_in (ring s) (map (part_value s c.args.entries.now gs) (drop c.loop-part.part-index c.args.parts.now))) _
    (sum_end s (part_value s c.args.entries.now gs) c.args.parts.now c.loop-part.part-index (omega (arith, c.loop-part-test.false))) (c.loop-part.invariant s gs)
