-- The literal of the example is primitive.
use Rattle.std.specs.Prelude.{◌≡◌}
use Rattle.std.proofs.Common.{refl, subst, sym}
use Rattle.lin_term.specs.declared.Sort.TheVariants.{Rat}
use Rattle.lin_term.specs.Literal.{prim, gcd}
use Rattle.dom_core.specs.Game.{Matrix, lit}
use Rattle.dom_core.specs.Negation.{IsPrimitiveMatrix}
use Rattle.strat_check.specs.Example.{second_above_first}

example_prim : prim Rat second_above_first ≡ second_above_first
unfolding gcd
example_prim = refl

pub example_primitive : (m : Matrix) → m ≡ lit second_above_first → IsPrimitiveMatrix m Rat
example_primitive m e = subst (λ (x : Matrix). IsPrimitiveMatrix x Rat) (sym e) (tt, example_prim)
