use Rattle.std.proofs.Common.{◌∙◌, ◌<◌, ◌+◌, ℕ, List, length, map, drop, get_or, min, sym, ap, subst, arith}
use Rattle.term_table.specs.Scale.{Scale, ring, Near, amount, weight, limit, bare}
use Rattle.term_table.specs.Form.{Linear, dot, value}
use Rattle.term_table.specs.Entries.{form_at, part_value}
use Rattle.term_table.proofs.Amounts.{below-at, dot_next, dot_end, plus_zero, amount-layer}
use Rattle.term_table.proofs.FormLemmas.{no_weight, step_add, form-at, map-at, map-end}
use Rattle.term_table.proofs.sizes.used.Goals as goal
use Rattle.term_table.proofs.sizes.used.Goals.{then-i-args+in_ok-add, else-i-args}

pub loop-i-init : goal.loop-i-init
loop-i-init c =
    λ s gs. let us = c.uses-weight-items.result.now in
    let xs = map (part_value s c.args.entries.now gs) c.args.args.now in
    ap (min (limit s))
    (ap (λ n. (ring s).plus n (dot s us xs)) (c.of-form.ensures s gs ∙ plus_zero s (amount s c.own.result))
    ∙ (λ k. (ring s).plus (amount s (c.own.ensures k)) (dot s (c.uses-weight-items.ensures k) xs))
    ∙ ap (λ (f : Linear). value s f xs) (sym (form-at c.args.entries.now c.args.body c.index-entries-body.result c.requires.body c.index-entries-body.is)))

pub bounds-entries-args : goal.bounds-entries-args
bounds-entries-args c = below-at _ c.args.args.now c.loop-i.i c.requires.args (omega (arith, c.if-i-args.true))

pub loop-i-preserved : goal.loop-i-preserved
loop-i-preserved c =
    let i = c.loop-i.i in
    let us = c.uses-weight-items.result.now in
    let args = c.args.args.now in
    let u = get_or us i no_weight in
    let Kept : Linear → Type 0 = λ form. (s : Scale) (gs : List ℕ) → Near s ((ring s).plus (value s form gs) (dot s (drop (i + 1) us) (drop (i + 1) (map (part_value s c.args.entries.now gs) args))))
    (value s (form_at c.args.entries.now c.args.body) (map (part_value s c.args.entries.now gs) args)) in
    let added : (form : Linear) → ((s : Scale) (gs : List ℕ) → Near s (value s form gs) ((ring s).plus (value s c.loop-i.form gs) ((ring s).times (weight s u) (get_or (map (part_value s c.args.entries.now gs) args) i (bare s))))) → Kept form =
    λ form step s gs. let xs = map (part_value s c.args.entries.now gs) args in
    step_add s (value s c.loop-i.form gs) (value s form gs) ((ring s).times (weight s u) (get_or xs i (bare s))) (dot s (drop (i + 1) us) (drop (i + 1) xs)) (value s (form_at c.args.entries.now c.args.body) xs) (step s gs)
    (ap (λ n. min (limit s) ((ring s).plus (value s c.loop-i.form gs) n)) (sym (dot_next s us xs i no_weight c.loop-i-test.true)) ∙ c.loop-i.invariant s gs) in
    elim c.if-i-args.branch [
      | then-i-args+in_ok-add w ↦
          (let lt : i < length args = omega (arith, w.if-i-args.true) in
          subst Kept (sym w.form-is) (added w.add.new.self (λ s gs. w.in_ok-add.ensures s gs
          ∙ ap (λ n. min (limit s) ((ring s).plus (value s c.loop-i.form gs) ((ring s).times (weight s u) n)))
          (ap (λ (f : Linear). value s f gs) (sym (form-at c.args.entries.now (get_or args i 0) w.index-entries-args.result (below-at _ args i c.requires.args lt) w.index-entries-args.is))
          ∙ sym (map-at (part_value s c.args.entries.now gs) args i (bare s) lt)))))
      | else-i-args w ↦
          (subst Kept (sym w.form-is) (added w.add_amount.new.self (λ s gs. w.add_amount.ensures s gs
          ∙ ap (λ n. min (limit s) ((ring s).plus (value s c.loop-i.form gs) ((ring s).times (weight s u) n)))
          (ap (amount s) w.layer.ensures ∙ amount-layer s 1 0 ∙ sym (map-end (part_value s c.args.entries.now gs) args i (bare s) (omega (arith, w.if-i-args.false)))))))
    ]

pub returns : goal.returns
returns c =
    λ s gs. let us = c.uses-weight-items.result.now in
    let xs = map (part_value s c.args.entries.now gs) c.args.args.now in
    ap (min (limit s)) (sym (plus_zero s (value s c.loop-i.form gs)) ∙ ap ((ring s).plus (value s c.loop-i.form gs)) (sym (dot_end s us (drop c.loop-i.i xs) c.loop-i.i c.loop-i-test.false)))
    ∙ c.loop-i.invariant s gs
