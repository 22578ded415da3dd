use Rattle.std.proofs.Common.{ℕ, ℤ, ◌≡◌, ◌∙◌, ◌*◌, ◌+ℤ◌, ◌*ℤ◌, ap, ap₂, arith, List, w64, SFits, to_z-of_z}
use Rattle.std.proofs.lemmas.Int.{ints}
use Rattle.lin_term.specs.Linear.{plus_terms, times_terms}
use Rattle.lin_form.specs.Lin.{Lin}
use Rattle.lin_form.proofs.Dividing.{formed_same}
use Rattle.lin_form.proofs.form.combined.Goals as goal

pub returns : goal.returns
returns c =
    let fp : SFits w64 c.args.p = c.ranges.p in
    let fq : SFits w64 c.args.q = c.ranges.q in
    let fx : SFits w64 c.constant_part.result = omega (arith, ints, c.constant_part.ensures.kept) in
    let fy : SFits w64 c.constant_part-2.result = omega (arith, ints, c.constant_part-2.ensures.kept) in
    let l : c.product-left.result ≡ c.args.p *ℤ c.constant_part.result = simp to_z-of_z at c.product-left.ensures.value in
    let r : c.product-right.result ≡ c.args.q *ℤ c.constant_part-2.result = simp to_z-of_z at c.product-right.ensures.value in
    let fl : SFits mir.Syntax.w128 c.product-left.result = omega (arith, ints, c.product-left.ensures.size) in
    let fr : SFits mir.Syntax.w128 c.product-right.result = omega (arith, ints, c.product-right.ensures.size) in
    let fk : SFits mir.Syntax.w128 (c.product-left.result +ℤ c.product-right.result) = omega (arith, ints, c.product-left.ensures.size, c.product-right.ensures.size) in
    let h = simp to_z-of_z at c.reduced_sum.ensures in
    formed_same c.reduced_sum.result
    (plus_terms (times_terms c.args.p c.coefs.result.now) (times_terms c.args.q c.coefs-2.result.now))
    (plus_terms (times_terms c.args.p c.args.x.now.form.terms) (times_terms c.args.q c.args.y.now.form.terms))
    (c.product-left.result +ℤ c.product-right.result)
    (c.args.p *ℤ c.args.x.now.form.constant +ℤ c.args.q *ℤ c.args.y.now.form.constant)
    (c.den.result * c.den-2.result) (c.args.x.now.den * c.args.y.now.den)
    (ap₂ (λ (a b : List (ℕ × ℤ)). plus_terms (times_terms c.args.p a) (times_terms c.args.q b)) (c.coefs.ensures.terms ∙ ap (λ (x : Lin). x.form.terms) c.x.view_is) (c.coefs-2.ensures.terms ∙ ap (λ (x : Lin). x.form.terms) c.y.view_is))
    (ap₂ (λ (a b : ℤ). a +ℤ b) (l ∙ ap (λ (z : ℤ). c.args.p *ℤ z) (c.constant_part.ensures.value ∙ ap (λ (x : Lin). x.form.constant) c.x.view_is)) (r ∙ ap (λ (z : ℤ). c.args.q *ℤ z) (c.constant_part-2.ensures.value ∙ ap (λ (x : Lin). x.form.constant) c.y.view_is)))
    (ap₂ (λ (a b : ℕ). a * b) c.den.ensures.value c.den-2.ensures.value)
    h
