use Rattle.std.proofs.Common.{ℕ, ℤ, ◌∙◌, ap₂}
use Rattle.lin_term.specs.Linear.{floor_div}
use Rattle.lin_term.proofs.Terms.{two_words}
use Rattle.cube_elim.proofs.Trials.{upper_same}
use Rattle.cube_elim.proofs.case_value.value_of_upper.Goals as goal

pub returns-clause-value : goal.returns-clause-value
returns-clause-value c = λ p t.
    let v = two_words c.value_at-value.result c.value_at-value.type_inv in
    let q = two_words c.rounded.result c.rounded.type_inv in
    q ∙ c.rounded.ensures.value ∙ ap₂ (λ (z : ℤ) (a : ℕ). floor_div z a) (v ∙ c.value_at-value.ensures.value) c.size_of-size.ensures.value
    ∙ upper_same c.args.var c.args.lit.now p c.args.trial.now t
