use Rattle.std.proofs.Common.{◌∙◌, length, map, min, sym, ap, subst}
use Rattle.term_table.specs.declared.node.Node.{Node}
use Rattle.term_table.specs.declared.node.Node.TheVariants as node
use Rattle.term_table.specs.Scale.{ring, sum_in, Near, amount, weight, limit, layer, distinct_layer, distinct_weight}
use Rattle.std.specs.Prelude.{IfOk}
use Rattle.term_table.specs.Form.{value, IsValue}
use Rattle.term_table.specs.Entries.{part_value, row_in}
use Rattle.term_table.proofs.Amounts.{amount-layer, plus_zero}
use Rattle.term_table.proofs.Rings.{near_plus, near_times}
use Rattle.term_table.proofs.FormLemmas.{if_ok-value}
use Rattle.term_table.proofs.sizes.form_of.Goals as goal

pub returns-in-Leaf : goal.returns-in-Leaf
returns-in-Leaf c =
    λ s gs. subst (λ (x : Node). Near s (value s c.of.result gs) (row_in s c.args.entries.now gs x)) (sym c.in-Leaf.is)
    (ap (min (limit s)) (c.of.ensures s gs ∙ plus_zero s (amount s c.layer.result) ∙ ap (amount s) c.layer.ensures ∙ amount-layer s c.free_leaf.result 0 ∙ ap (λ f. layer s f 0) c.free_leaf.ensures))

pub returns-in-Binding : goal.returns-in-Binding
returns-in-Binding c =
    λ s gs. subst (λ (x : Node). Near s (value s c.of-in-Binding.result gs) (row_in s c.args.entries.now gs x)) (sym c.in-Binding.is)
    (ap (min (limit s)) (c.of-in-Binding.ensures s gs ∙ plus_zero s (amount s c.layer-in-Binding.result) ∙ ap (amount s) c.layer-in-Binding.ensures ∙ amount-layer s 1 0))

pub returns-in-Distinct : goal.returns-in-Distinct
returns-in-Distinct c =
    let es = c.args.entries.now in
    let parts = c.in-Distinct.parts in
    let slice = c.as_slice-in-Distinct.result.now in
    let own = c.pairs_layer.result in
    let w = c.pairs_weight.result in
    subst (λ (x : Node). IfOk c.weighted-in-Distinct.result (IsValue (λ s gs. row_in s es gs x))) (sym c.in-Distinct.is)
    (if_ok-value c.weighted-in-Distinct.result
    (λ s gs. (ring s).plus (amount s own) ((ring s).times (weight s w) (sum_in (ring s) (map (part_value s es gs) slice))))
    (λ s gs. row_in s es gs (node.Distinct parts))
    (λ s gs. near_plus s (amount s own) ((ring s).times (weight s w) (sum_in (ring s) (map (part_value s es gs) slice))) (distinct_layer s (length parts)) ((ring s).times (distinct_weight s (length parts)) (sum_in (ring s) (map (part_value s es gs) parts)))
    (c.pairs_layer.ensures s ∙ ap (λ k. min (limit s) (distinct_layer s k)) c.len.ensures)
    (near_times s (weight s w) (sum_in (ring s) (map (part_value s es gs) slice)) (distinct_weight s (length parts)) (sum_in (ring s) (map (part_value s es gs) parts))
    (c.pairs_weight.ensures s ∙ ap (λ k. min (limit s) (distinct_weight s k)) c.len-in-Distinct.ensures)
    (ap (λ is. min (limit s) (sum_in (ring s) (map (part_value s es gs) is))) c.as_slice-in-Distinct.ensures)))
    c.weighted-in-Distinct.ensures)
