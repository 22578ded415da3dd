use Rattle.std.proofs.Common.{ℤ, ◌≡◌, ◌≤◌, ◌+◌, ◌^◌, ◌∙◌, ◌*ℤ◌, ◌-ℤ◌, nat_abs, arith, ap, ap₂, sym, subst, to_z, of_z}
use Rattle.std.proofs.lemmas.Int.{ints}
use mir.Syntax.{w128}
use Rattle.lin_term.specs.Form.{cap}
use Rattle.lin_term.specs.Linear.{at}
use Rattle.lin_term.specs.PutIn.{coef}
use Rattle.lin_term.proofs.Points.{at_within}
use Rattle.lin_term.proofs.Terms.{word_of}
use Rattle.dom_core.proofs.Bounding.{dot_size, rest_dot, row_of, point_of, wide_word}
use Rattle.dom_core.proofs.nearest.rest_value.Goals as goal

pub product-own-requires-clause-a_kept : goal.product-own-requires-clause-a_kept
product-own-requires-clause-a_kept c =
    let k = at_within c.nums-nums.result.now c.args.var c.nums-nums.ensures.kept in
    subst (λ (y : ℤ). nat_abs y ≤ cap) (sym (word_of (at c.nums-nums.result.now c.args.var) k)) k

pub overflow_sub-result : goal.overflow_sub-result
overflow_sub-result c =
    let r = row_of c.args.row.now c.coefs-terms.result.now c.constant_part-constant.result c.coefs-terms.ensures.terms c.coefs-terms.ensures.kept c.constant_part-constant.ensures.value c.constant_part-constant.ensures.kept in
    let p = point_of c.args.point.now c.den-den.result c.nums-nums.result.now c.den-den.ensures.value c.den-den.ensures.least c.den-den.ensures.greatest c.nums-nums.ensures.value c.nums-nums.ensures.kept in
    let h : nat_abs c.dot-all.result ≤ 2 ^ 124 + 2 ^ 104 = subst (λ (z : ℤ). nat_abs z ≤ 2 ^ 124 + 2 ^ 104) (sym c.dot-all.ensures) (dot_size c.args.row.now c.args.point.now r p) in
    let k = c.product-own.ensures.size in
    let w = wide_word c.dot-all.result (omega (arith, h)) in
    let v = wide_word c.product-own.result (omega (arith, k)) in
    omega (arith, ints, h, k, w, v)

pub returns-clause-value : goal.returns-clause-value
returns-clause-value c =
    let r = row_of c.args.row.now c.coefs-terms.result.now c.constant_part-constant.result c.coefs-terms.ensures.terms c.coefs-terms.ensures.kept c.constant_part-constant.ensures.value c.constant_part-constant.ensures.kept in
    let p = point_of c.args.point.now c.den-den.result c.nums-nums.result.now c.den-den.ensures.value c.den-den.ensures.least c.den-den.ensures.greatest c.nums-nums.ensures.value c.nums-nums.ensures.kept in
    let h : nat_abs c.dot-all.result ≤ 2 ^ 124 + 2 ^ 104 = subst (λ (z : ℤ). nat_abs z ≤ 2 ^ 124 + 2 ^ 104) (sym c.dot-all.ensures) (dot_size c.args.row.now c.args.point.now r p) in
    let k = c.product-own.ensures.size in
    let w = wide_word c.dot-all.result (omega (arith, h)) in
    let v = wide_word c.product-own.result (omega (arith, k)) in
    let a = at_within c.nums-nums.result.now c.args.var c.nums-nums.ensures.kept in
    let own : c.product-own.result ≡ coef c.args.row.now.terms c.args.var *ℤ at c.args.point.now.nums c.args.var =
    c.product-own.ensures.value ∙ ap₂ (λ (x y : ℤ). x *ℤ y) (word_of c.coefficient_at-coef.result c.coefficient_at-coef.ensures.size ∙ c.coefficient_at-coef.ensures.value) (word_of (at c.nums-nums.result.now c.args.var) a ∙ ap (λ ns. at ns c.args.var) c.nums-nums.ensures.value) in
    let e = wide_word (c.dot-all.result -ℤ c.product-own.result) (omega (arith, ints, h, k)) in
    ap₂ (λ (x y : ℤ). to_z w128 (of_z w128 (x -ℤ y))) w v ∙ e ∙ rest_dot c.args.row.now c.args.var c.args.point.now (c.dot-all.result -ℤ c.product-own.result) (ap₂ (λ (x y : ℤ). x -ℤ y) c.dot-all.ensures own)

pub returns-clause-size : goal.returns-clause-size
returns-clause-size c =
    let r = row_of c.args.row.now c.coefs-terms.result.now c.constant_part-constant.result c.coefs-terms.ensures.terms c.coefs-terms.ensures.kept c.constant_part-constant.ensures.value c.constant_part-constant.ensures.kept in
    let p = point_of c.args.point.now c.den-den.result c.nums-nums.result.now c.den-den.ensures.value c.den-den.ensures.least c.den-den.ensures.greatest c.nums-nums.ensures.value c.nums-nums.ensures.kept in
    let h : nat_abs c.dot-all.result ≤ 2 ^ 124 + 2 ^ 104 = subst (λ (z : ℤ). nat_abs z ≤ 2 ^ 124 + 2 ^ 104) (sym c.dot-all.ensures) (dot_size c.args.row.now c.args.point.now r p) in
    let k = c.product-own.ensures.size in
    let w = wide_word c.dot-all.result (omega (arith, h)) in
    let v = wide_word c.product-own.result (omega (arith, k)) in
    let e = wide_word (c.dot-all.result -ℤ c.product-own.result) (omega (arith, ints, h, k)) in
    subst (λ (z : ℤ). nat_abs z ≤ 2 ^ 125) (sym (ap₂ (λ (x y : ℤ). to_z w128 (of_z w128 (x -ℤ y))) w v ∙ e)) (omega (arith, ints, h, k))
