use Rattle.std.proofs.Common.{arith, w64, SFits, to_z-of_z}
use mir.Syntax.{w128}
use Rattle.std.proofs.lemmas.Int.{ints}
use Rattle.dom_core.proofs.nearest.raised.Goals as goal

pub returns-clause-value : goal.returns-clause-value
returns-clause-value c =
    let fk : SFits w64 c.args.k = c.ranges.k in
    let fd : SFits w64 c.args.den = c.ranges.den in
    let fr : SFits w128 c.args.rest = c.ranges.rest in
    let e = simp to_z-of_z at c.product-above.ensures.value in
    omega (arith, ints, c.product-above.ensures.size, c.requires.rest_size)

pub returns-clause-size : goal.returns-clause-size
returns-clause-size c =
    let fr : SFits w128 c.args.rest = c.ranges.rest in
    omega (arith, ints, c.product-above.ensures.size, c.requires.rest_size)
