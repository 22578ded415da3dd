use Rattle.std.proofs.Common.{ℕ, ℤ, Bool, ◌≡◌, ◌^◌, ◌∙◌, ◌+ℤ◌, ◌*ℤ◌, ◌||◌, nat_abs, arith, ap, ap₂, subst, w64, SFits, to_z-of_z, to_z, of_z}
use mir.Syntax.{w128}
use Rattle.lin_term.specs.Linear.{Form, plus, times}
use Rattle.lin_term.specs.Literal.{form_of}
use Rattle.lin_term.specs.Sum.{is_strict, inequality_with, Combined}
use Rattle.lin_term.specs.Settle.{sum_form}
use Rattle.lin_term.proofs.Terms.{wide_of, word_of}
use Rattle.lin_term.proofs.Summing.{sum_form_as}
use Rattle.lin_term.proofs.combining.combine.Goals as goal

pub returns : goal.returns
returns c =
    let fg : SFits w128 c.args.g = c.ranges.g in
    let fp : SFits w64 c.args.p = c.ranges.p in
    let fq : SFits w64 c.args.q = c.ranges.q in
    let p = c.args.p in
    let q = c.args.q in
    let a = c.args.a.now in
    let b = c.args.b.now in
    let w = wide_of c.sum_of_products-constant.result (omega (arith, c.sum_of_products-constant.ensures.size)) in
    let left = word_of c.constant_part.result c.constant_part.ensures.kept in
    let right = word_of c.constant_part-2.result c.constant_part-2.ensures.kept in
    let v = simp (to_z-of_z, left, right) at c.sum_of_products-constant.ensures.value in
    let l : c.constant_part.result ≡ (form_of a).constant = c.constant_part.ensures.value ∙ ap (λ (f : Form). f.constant) c.row-left.ensures in
    let r : c.constant_part-2.result ≡ (form_of b).constant = c.constant_part-2.ensures.value ∙ ap (λ (f : Form). f.constant) c.row-right.ensures in
    let k : c.sum_of_products-constant.result ≡ p *ℤ (form_of a).constant +ℤ q *ℤ (form_of b).constant = v ∙ ap₂ (λ (x y : ℤ). p *ℤ x +ℤ q *ℤ y) l r in
    let same = sum_form_as p a q b (2 ^ 20) c.coefs-left.result.now c.coefs-right.result.now c.sum_of_products-constant.result (omega arith) (c.coefs-left.ensures.terms ∙ ap (λ (f : Form). f.terms) c.row-left.ensures) (c.coefs-right.ensures.terms ∙ ap (λ (f : Form). f.terms) c.row-right.ensures) c.coefs-right.ensures.kept k in
    let s : sum_form (to_z w64 (of_z w64 p)) c.coefs-left.result.now (to_z w64 (of_z w64 q)) c.coefs-right.result.now (2 ^ 20) (to_z w128 (of_z w128 c.sum_of_products-constant.result)) ≡ sum_form p c.coefs-left.result.now q c.coefs-right.result.now (2 ^ 20) c.sum_of_products-constant.result = simp (to_z-of_z, w) in
    let n : nat_abs (to_z w128 (of_z w128 c.args.g)) ≡ nat_abs c.args.g = simp to_z-of_z in
    subst (λ (m : ℕ). Combined c.args.sort (inequality_with (is_strict a || is_strict b) (plus (times p (form_of a)) (times q (form_of b)))) m c.combined.result) n
    (subst (λ (t : Bool). Combined c.args.sort (inequality_with t (plus (times p (form_of a)) (times q (form_of b)))) (nat_abs (to_z w128 (of_z w128 c.args.g))) c.combined.result) c.is_either_strict-strict.ensures
    (subst (λ (h : Form). Combined c.args.sort (inequality_with c.is_either_strict-strict.result h) (nat_abs (to_z w128 (of_z w128 c.args.g))) c.combined.result) (s ∙ same) c.combined.ensures))
