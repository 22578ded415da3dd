use Rattle.std.proofs.Common.{arith, w64, SFits, to_z-of_z}
use mir.Syntax.{w128}
use Rattle.std.proofs.lemmas.Int.{ints}
use Rattle.lin_term.proofs.Fractions.{dens_least}
use Rattle.dom_rat.proofs.picking.twice_product.Goals as goal

pub returns-clause-least : goal.returns-clause-least
returns-clause-least c =
    let fa : SFits w64 c.args.a = c.ranges.a in
    let fb : SFits w64 c.args.b = c.ranges.b in
    let e = simp to_z-of_z at c.product-once.ensures.value in
    let d = dens_least c.args.a c.args.b c.requires.a_least c.requires.b_least in
    omega (arith, ints, e, d, c.product-once.ensures.size)
