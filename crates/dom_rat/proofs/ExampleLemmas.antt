-- The example's literals are primitive.
use Rattle.std.proofs.Common.{refl}
use Rattle.lin_term.specs.declared.Sort.TheVariants.{Rat}
use Rattle.lin_term.specs.Literal.{gcd}
use Rattle.dom_core.specs.Cube.{IsPrimitiveCube}
use Rattle.dom_rat.specs.Example.{between}

pub between_primitive : IsPrimitiveCube Rat between
unfolding gcd
between_primitive = ((tt, refl), tt, ((tt, refl), tt, ((tt, refl), tt, tt)))
