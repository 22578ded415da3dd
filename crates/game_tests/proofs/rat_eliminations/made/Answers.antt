use Rattle.std.proofs.Common.{sym, subst}
use Rattle.lin_term.specs.declared.Sort.TheVariants.{Rat}
use Rattle.dom_core.specs.Cube.{IsPrimitiveCube}
use Rattle.dom_rat.proofs.ExampleLemmas.{between_primitive}
use Rattle.game_tests.proofs.rat_eliminations.made.Goals as goal

pub returns-in-Ok : goal.returns-in-Ok
returns-in-Ok c = subst (IsPrimitiveCube Rat) (sym c.in-Ok.ensures) between_primitive
