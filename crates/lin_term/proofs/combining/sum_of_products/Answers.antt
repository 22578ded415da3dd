use Rattle.std.proofs.Common.{arith, w64, SFits, to_z-of_z}
use Rattle.std.proofs.lemmas.Int.{ints}
use Rattle.lin_term.proofs.combining.sum_of_products.Goals as goal

pub returns-clause-value : goal.returns-clause-value
returns-clause-value c =
    let fp : SFits w64 c.args.p = c.ranges.p in
    let fa : SFits w64 c.args.a = c.ranges.a in
    let fq : SFits w64 c.args.q = c.ranges.q in
    let fb : SFits w64 c.args.b = c.ranges.b in
    let e = simp to_z-of_z at c.product-left.ensures.value in
    let f = simp to_z-of_z at c.product-right.ensures.value in
    omega (arith, ints, c.product-left.ensures.size, c.product-right.ensures.size)
