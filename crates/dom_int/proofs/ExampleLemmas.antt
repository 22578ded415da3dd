-- The example's literals are primitive.
use Rattle.std.specs.Prelude.{◌≤◌}
use Rattle.std.proofs.Common.{arith, refl}
use Rattle.lin_term.specs.declared.Sort.TheVariants.{Int}
use Rattle.lin_term.specs.Literal.{gcd}
use Rattle.dom_core.specs.Cube.{IsPrimitiveCube}
use Rattle.dom_int.specs.Example.{even_and_odd}

pub even_and_odd_primitive : IsPrimitiveCube Int even_and_odd
unfolding gcd
even_and_odd_primitive =
    ((omega arith, refl), (omega arith, omega arith), ((omega arith, refl), (omega arith, omega arith), tt))
