use Rattle.std.proofs.Common.{ℕ, ℤ, pos, ◌-ℤ◌, ◌∙◌, ap₂}
use Rattle.lin_term.specs.Linear.{floor_div}
use Rattle.lin_term.proofs.Terms.{two_words}
use Rattle.cube_elim.proofs.Trials.{lower_same}
use Rattle.cube_elim.proofs.case_value.value_of_lower.Goals as goal

pub returns : goal.returns
returns c = λ p t.
    let v = two_words c.value_at-value.result c.value_at-value.type_inv in
    let q = two_words c.quotient_of.result c.quotient_of.type_inv in
    q ∙ c.quotient_of.ensures ∙ ap₂ (λ (z : ℤ) (a : ℕ). floor_div (pos c.args.k -ℤ z) a) (v ∙ c.value_at-value.ensures.value) c.size_of-size.ensures.value
    ∙ lower_same c.args.var c.args.lit.now c.args.k p c.args.trial.now t
