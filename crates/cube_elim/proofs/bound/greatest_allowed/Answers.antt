use Rattle.std.proofs.Common.{ℕ, ℤ, ◌∙◌, ap, ap₂, sym, neg_ℤ, pos, ◌+ℤ◌, ◌-ℤ◌, ◌*◌}
use Rattle.lin_term.specs.Linear.{dot, floor_div}
use Rattle.lin_term.specs.Literal.{form_of}
use Rattle.lin_term.specs.Sum.{is_strict}
use Rattle.lin_term.proofs.Terms.{two_words}
use Rattle.dom_core.specs.Elimination.{size_at}
use Rattle.cube_elim.proofs.Picks.{pick_true, pick_false}
use Rattle.cube_elim.proofs.bound.greatest_allowed.Goals as goal

pub returns-then-is_above_zero-clause-value : goal.returns-then-is_above_zero-clause-value
returns-then-is_above_zero-clause-value c =
    let l = c.args.lit.now in
    let t = c.args.trial.now in
    let m = size_at c.args.var l * t.den in
    let v = two_words c.value_at-value.result c.value_at-value.type_inv in
    let d = two_words c.rounded_up.result c.rounded_up.type_inv in
    let q = two_words c.one_less.result c.one_less.type_inv in
    let e = ap₂ (λ (z : ℤ) (n : ℕ). neg_ℤ (floor_div (neg_ℤ z) n)) (v ∙ c.value_at-value.ensures.value) c.scale_of-scale.ensures.value in
    q ∙ c.one_less.ensures.value ∙ ap (λ (z : ℤ). z -ℤ pos 1) (d ∙ c.rounded_up.ensures.value ∙ e)
    ∙ pick_true (is_strict l) (neg_ℤ (floor_div (neg_ℤ (dot (form_of l) t)) m) -ℤ pos 1) (floor_div (dot (form_of l) t) m) (sym c.is_above_zero.ensures ∙ c.if-is_above_zero.true)

pub returns-clause-value : goal.returns-clause-value
returns-clause-value c =
    let l = c.args.lit.now in
    let t = c.args.trial.now in
    let m = size_at c.args.var l * t.den in
    let v = two_words c.value_at-value.result c.value_at-value.type_inv in
    let d = two_words c.rounded_down.result c.rounded_down.type_inv in
    let e = ap₂ (λ (z : ℤ) (n : ℕ). floor_div z n) (v ∙ c.value_at-value.ensures.value) c.scale_of-scale.ensures.value in
    d ∙ c.rounded_down.ensures.value ∙ e
    ∙ pick_false (is_strict l) (neg_ℤ (floor_div (neg_ℤ (dot (form_of l) t)) m) -ℤ pos 1) (floor_div (dot (form_of l) t) m) (sym c.is_above_zero.ensures ∙ c.if-is_above_zero.false)
