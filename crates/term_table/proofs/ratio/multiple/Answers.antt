use Rattle.std.proofs.Common.{◌≡◌, ◌≤◌, ◌*ℤ◌, nat_abs, arith, ap, ◌∙◌, sym, subst, ℤ, w64, SFits, to_z, of_z, to_z-of_z}
use Rattle.std.proofs.lemmas.Int.{ints}
use Rattle.lin_truth.specs.Value.{whole_div}
use Rattle.term_table.proofs.Multiples.{multiple-size}
use Rattle.term_table.proofs.ratio.multiple.Goals as goal
use Rattle.term_table.proofs.ratio.multiple.Goals.{After-product}

product_is : (c : After-product) → c.product.result ≡ c.args.n *ℤ whole_div c.args.a c.args.n
product_is c =
    let f1 : SFits w64 c.args.n = c.ranges.n in
    let f2 : SFits w64 c.args.a = c.ranges.a in
    let f3 : SFits w64 c.whole_quotient.result = omega (arith, ints, c.whole_quotient.ensures.small) in
    let p : c.product.result ≡ c.args.n *ℤ c.whole_quotient.result = simp to_z-of_z at c.product.ensures.value in
    let q : c.whole_quotient.result ≡ whole_div c.args.a c.args.n = simp to_z-of_z at c.whole_quotient.ensures.value in
    p ∙ ap (λ (z : ℤ). c.args.n *ℤ z) q

small : (c : After-product) → nat_abs c.product.result ≤ 9007199254740992
small c =
    let m : nat_abs (c.args.n *ℤ whole_div c.args.a c.args.n) ≤ 9007199254740992 = omega (arith, multiple-size c.args.a c.args.n, c.requires.n_kept, c.requires.a_kept) in
    subst (λ (z : ℤ). nat_abs z ≤ 9007199254740992) (sym (product_is c)) m

pub overflow_cast-result : goal.overflow_cast-result
overflow_cast-result c =
    let g : SFits mir.Syntax.w128 c.product.result = omega (arith, ints, small c) in
    let h : SFits w64 c.product.result = omega (arith, ints, small c) in
    subst (λ (z : ℤ). SFits w64 z) (sym (to_z-of_z g)) h

pub returns-clause-size : goal.returns-clause-size
returns-clause-size c =
    let g : SFits mir.Syntax.w128 c.product.result = omega (arith, ints, small c) in
    let h : SFits w64 c.product.result = omega (arith, ints, small c) in
    let e : to_z w64 (of_z w64 (to_z mir.Syntax.w128 (of_z mir.Syntax.w128 c.product.result))) ≡ c.product.result = simp to_z-of_z in
    subst (λ (z : ℤ). nat_abs z ≤ 9007199254740992) (sym e) (small c)

pub returns-clause-value : goal.returns-clause-value
returns-clause-value c =
    let g : SFits mir.Syntax.w128 c.product.result = omega (arith, ints, small c) in
    let h : SFits w64 c.product.result = omega (arith, ints, small c) in
    let e : to_z w64 (of_z w64 (to_z mir.Syntax.w128 (of_z mir.Syntax.w128 c.product.result))) ≡ c.product.result = simp to_z-of_z in
    e ∙ product_is c
