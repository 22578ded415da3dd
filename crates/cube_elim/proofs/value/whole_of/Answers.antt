use Rattle.std.proofs.Common.{SFits, to_z-of_z, subst}
use mir.Syntax.{w128}
use Rattle.lin_term.specs.Fraction.{value_numbers}
use Rattle.lin_term.specs.Linear.{Value}
use Rattle.lin_term.specs.Wide.{CappedWide}
use Rattle.cube_elim.proofs.Lowest.{whole_lowest}
use Rattle.cube_elim.proofs.value.whole_of.Goals as goal

pub returns : goal.returns
returns c =
    let f : SFits w128 c.args.z = c.ranges.z in
    let e = simp to_z-of_z at c.make.ensures in
    subst (λ (v : Value). CappedWide (value_numbers v) v c.make.result) (whole_lowest c.args.z) e
