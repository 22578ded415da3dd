use Rattle.std.proofs.Common.{ℕ, ℤ, ◌≡◌, ◌∙◌, ◌*◌, ◌*ℤ◌, ap, arith, List, w64, SFits, to_z-of_z, []}
use Rattle.std.proofs.lemmas.Int.{ints}
use Rattle.lin_term.specs.Linear.{plus_terms, times_terms}
use Rattle.lin_form.specs.Lin.{Lin}
use Rattle.lin_form.proofs.Dividing.{formed_same, plus_nothing, times_rises, are_rise}
use Rattle.lin_form.proofs.form.scaled.Goals as goal

pub returns : goal.returns
returns c =
    let fp : SFits w64 c.args.n = c.ranges.n in
    let fx : SFits w64 c.constant_part.result = omega (arith, ints, c.constant_part.ensures.kept) in
    let l : c.product-constant.result ≡ c.args.n *ℤ c.constant_part.result = simp to_z-of_z at c.product-constant.ensures.value in
    let fk : SFits mir.Syntax.w128 c.product-constant.result = omega (arith, ints, c.product-constant.ensures.size) in
    let h = simp to_z-of_z at c.reduced_sum.ensures in
    formed_same c.reduced_sum.result
    (plus_terms (times_terms c.args.n c.coefs.result.now) []) (times_terms c.args.n c.args.x.now.form.terms)
    c.product-constant.result (c.args.n *ℤ c.args.x.now.form.constant)
    (c.args.d * c.den.result) (c.args.d * c.args.x.now.den)
    (plus_nothing 0 (times_terms c.args.n c.coefs.result.now) (times_rises 0 c.args.n c.coefs.result.now (are_rise 0 c.coefs.result.now c.coefs.ensures.kept)) ∙ ap (λ (a : List (ℕ × ℤ)). times_terms c.args.n a) (c.coefs.ensures.terms ∙ ap (λ (x : Lin). x.form.terms) c.x.view_is))
    (l ∙ ap (λ (z : ℤ). c.args.n *ℤ z) (c.constant_part.ensures.value ∙ ap (λ (x : Lin). x.form.constant) c.x.view_is))
    (ap (λ (a : ℕ). c.args.d * a) c.den.ensures.value)
    h
