use Rattle.std.proofs.Common.{ℕ, ℤ, negsuc, ◌≡◌, ◌≤◌, ◌∙◌, ◌*◌, ◌*ℤ◌, nat_abs, ap, subst, arith, List, w64, SFits, to_z-of_z, []}
use Rattle.std.proofs.lemmas.Int.{ints}
use Rattle.lin_term.specs.Form.{AreTerms, cap}
use Rattle.lin_term.specs.Linear.{plus_terms, times_terms}
use Rattle.lin_form.specs.Lin.{Lin}
use Rattle.lin_form.proofs.Dividing.{formed_same, plus_nothing, times_rises, are_rise}
use Rattle.lin_form.proofs.Opposite.{negative_kept}
use Rattle.lin_form.proofs.form.negative.Goals as goal

pub returns-clause-value : goal.returns-clause-value
returns-clause-value c =
    let fx : SFits w64 c.constant_part.result = omega (arith, ints, c.constant_part.ensures.kept) in
    let l : c.product-constant.result ≡ negsuc 0 *ℤ c.constant_part.result = simp to_z-of_z at c.product-constant.ensures.value in
    let fk : SFits mir.Syntax.w128 c.product-constant.result = omega (arith, ints, c.product-constant.ensures.size) in
    let h = simp to_z-of_z at c.reduced_sum.ensures in
    formed_same c.reduced_sum.result
    (plus_terms (times_terms (negsuc 0) c.coefs.result.now) []) (times_terms (negsuc 0) c.args.x.now.form.terms)
    c.product-constant.result (negsuc 0 *ℤ c.args.x.now.form.constant)
    c.den.result (1 * c.args.x.now.den)
    (plus_nothing 0 (times_terms (negsuc 0) c.coefs.result.now) (times_rises 0 (negsuc 0) c.coefs.result.now (are_rise 0 c.coefs.result.now c.coefs.ensures.kept)) ∙ ap (λ (a : List (ℕ × ℤ)). times_terms (negsuc 0) a) (c.coefs.ensures.terms ∙ ap (λ (x : Lin). x.form.terms) c.x.view_is))
    (l ∙ ap (λ (z : ℤ). negsuc 0 *ℤ z) (c.constant_part.ensures.value ∙ ap (λ (x : Lin). x.form.constant) c.x.view_is))
    (let d = c.den.ensures.value in omega (arith, d))
    h

pub returns-clause-kept : goal.returns-clause-kept
returns-clause-kept c =
    negative_kept c.args.x.now
    (subst (λ (ts : List (ℕ × ℤ)). AreTerms 0 ts) (c.coefs.ensures.terms ∙ ap (λ (x : Lin). x.form.terms) c.x.view_is) c.coefs.ensures.kept)
    (subst (λ (z : ℤ). nat_abs z ≤ cap) (c.constant_part.ensures.value ∙ ap (λ (x : Lin). x.form.constant) c.x.view_is) c.constant_part.ensures.kept)
    (subst (λ (n : ℕ). n ≤ cap) c.den.ensures.value c.den.ensures.greatest)
