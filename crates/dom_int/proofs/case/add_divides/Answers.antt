use Rattle.std.proofs.Common.{nat_abs, w64, SFits, to_z-of_z}
use mir.Syntax.{w128}
use Rattle.lin_term.specs.declared.Sort.TheVariants.{Int}
use Rattle.lin_term.specs.declared.Lit.TheVariants.{Divides}
use Rattle.lin_term.specs.Literal.{prim}
use Rattle.dom_int.proofs.case.add_divides.Goals as goal

pub returns : goal.returns
returns c =
    let fc : SFits w128 c.args.constant = c.ranges.constant in
    let fd : SFits w64 c.args.div = c.ranges.div in
    let made = simp to_z-of_z at c.divides_in.ensures in
    c.add_made.ensures.adds (prim Int (Divides (nat_abs c.args.div) (record { terms = c.args.terms.now; constant = c.args.constant }))) made
