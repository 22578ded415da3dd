use Rattle.std.proofs.Common.{◌≡◌, ◌+ℤ◌, ℤ, arith, ap, ◌∙◌, w64, SFits, to_z, of_z, to_z-of_z}
use mir.Syntax.{w128}
use Rattle.std.proofs.lemmas.Int.{ints}
use Rattle.lin_term.proofs.wide_move.wide_constant.Goals as goal

pub returns : goal.returns
returns c =
    let fp : SFits w64 c.args.p = c.ranges.p in
    let fa : SFits w64 c.args.a = c.ranges.a in
    let fq : SFits w64 c.args.q = c.ranges.q in
    let fb : SFits w64 c.args.b = c.ranges.b in
    let fc : SFits w128 c.args.c = c.ranges.c in
    let v = simp to_z-of_z at c.sum_of_products-sum.ensures.value in
    let fs : SFits w128 c.sum_of_products-sum.result = omega (arith, ints, c.sum_of_products-sum.ensures.size) in
    let ft : SFits w128 (c.sum_of_products-sum.result +ℤ c.args.c) = omega (arith, ints, c.sum_of_products-sum.ensures.size, c.requires.c_size) in
    let e : to_z w128 (of_z w128 (to_z w128 (of_z w128 c.sum_of_products-sum.result) +ℤ to_z w128 (of_z w128 c.args.c))) ≡ c.sum_of_products-sum.result +ℤ c.args.c = simp to_z-of_z in
    e ∙ ap (λ (z : ℤ). z +ℤ c.args.c) v
