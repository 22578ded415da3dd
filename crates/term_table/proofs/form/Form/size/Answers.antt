use Rattle.std.proofs.Common.{◌∙◌, ◌+◌, [], drop, get_or, min, sym, ap}
use Rattle.term_table.specs.Scale.{ring, amount, weight, limit, bare}
use Rattle.term_table.specs.Form.{dot, value}
use Rattle.term_table.proofs.Amounts.{one_more, dot_end, amount-together, amount-as_often, amount-layer, plus_zero}
use Rattle.term_table.proofs.FormLemmas.{no_weight, bare_next}
use Rattle.term_table.proofs.form.Form.size.Goals as goal

pub loop-weight-preserved : goal.loop-weight-preserved
loop-weight-preserved c =
    λ s. let us = c.deref-weight-items.result.now in
    let i = c.loop-weight.weight-index in
    let w = get_or us i no_weight in
    one_more s c.loop-weight.sum c.plus-sum.result (amount s c.scaled.result) ((ring s).times (weight s w) (bare s)) (dot s (drop (i + 1) us) []) (value s c.args.self.now [])
    (ap (λ a. min (limit s) (amount s a)) c.plus-sum.ensures ∙ amount-together s c.loop-weight.sum c.scaled.result)
    (ap (λ a. min (limit s) (amount s a)) c.scaled.ensures ∙ amount-as_often s c.layer.result w ∙ ap (λ n. min (limit s) ((ring s).times (weight s w) n)) (ap (amount s) c.layer.ensures ∙ amount-layer s 1 0))
    (ap (λ n. min (limit s) ((ring s).plus (amount s c.loop-weight.sum) n)) (sym (bare_next s us i no_weight c.loop-weight-test.true)) ∙ c.loop-weight.invariant s)

pub returns : goal.returns
returns c =
    λ s. let us = c.deref-weight-items.result.now in
    ap (min (limit s)) (sym (plus_zero s (amount s c.loop-weight.sum)) ∙ ap ((ring s).plus (amount s c.loop-weight.sum)) (sym (dot_end s us [] c.loop-weight.weight-index c.loop-weight-test.false)))
    ∙ c.loop-weight.invariant s
