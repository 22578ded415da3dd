use Rattle.std.proofs.Common.{arith, w64, SFits, to_z-of_z}
use mir.Syntax.{w128}
use Rattle.std.proofs.lemmas.Int.{ints}
use Rattle.lin_term.proofs.putting.put_constant.Goals as goal

pub returns-clause-value : goal.returns-clause-value
returns-clause-value c =
    let fc : SFits w64 c.args.c = c.ranges.c in
    let ft : SFits w128 c.args.t = c.ranges.t in
    let fa : SFits w64 c.args.a = c.ranges.a in
    let fr : SFits w64 c.args.r = c.ranges.r in
    let e = simp to_z-of_z at c.wide_product-left.ensures.value in
    let f = simp to_z-of_z at c.product-right.ensures.value in
    omega (arith, ints, c.wide_product-left.ensures.size, c.product-right.ensures.size)
