use Rattle.std.specs.Prelude.{Option}
use Rattle.std.proofs.Common.{ℕ, ℤ, ◌<◌, ◌≤◌, ◌/◌, ◌∙◌, ap, ap₂, sym, subst, arith, get_or}
use Rattle.lin_term.specs.Form.{cap}
use Rattle.lin_term.specs.Linear.{Point}
use Rattle.lin_term.proofs.Terms.{two_words}
use Rattle.cube_elim.specs.Determined.{up_to, lower_values}
use Rattle.cube_elim.specs.Values.{no_value}
use Rattle.cube_elim.proofs.Totals.{sizes_kept, free_at, lower_at}
use Rattle.cube_elim.proofs.case_value.value_in_case.Goals as goal

pub sum_of_sizes-total-requires : goal.sum_of_sizes-total-requires
sum_of_sizes-total-requires c =
    sizes_kept c.args.var c.args.cube.now c.requires.period (subst (λ (n : ℕ). n ≤ cap) c.requires.cases c.requires.kept)

pub returns-then-total-eq0 : goal.returns-then-total-eq0
returns-then-total-eq0 c = λ p t.
    let q = two_words c.number_up_to.result c.number_up_to.type_inv in
    let w = subst (λ (n : ℕ). c.args.index < n) c.requires.cases c.requires.within in
    let r = free_at c.args.var c.args.cube.now c.args.index (sym c.sum_of_sizes-total.ensures ∙ c.if-total-eq0.true) w in
    q ∙ c.number_up_to.ensures
    ∙ ap₂ (λ (d : ℕ) (o : Option ℤ). up_to d c.args.index o) (c.requires.cases ∙ r.1) (c.least_of_uppers-best.ensures.value p t)
    ∙ ap (λ (g : Point → ℤ). g p) (sym r.0)

pub returns : goal.returns
returns c = λ p t.
    let q = two_words c.value_among_lower.result c.value_among_lower.type_inv in
    let e = c.sum_of_sizes-total.ensures in
    let z = c.if-total-eq0.false in
    let r = lower_at c.args.var c.args.cube.now c.args.index (omega arith) in
    q ∙ c.value_among_lower.ensures p t
    ∙ ap (λ (n : ℕ). get_or (lower_values c.args.var n c.args.cube.now) c.args.index no_value p) (ap₂ (λ (m k : ℕ). m / k) c.requires.cases e ∙ r.1)
    ∙ ap (λ (g : Point → ℤ). g p) (sym r.0)
