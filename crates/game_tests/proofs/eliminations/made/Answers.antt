use Rattle.std.proofs.Common.{sym, subst}
use Rattle.lin_term.specs.declared.Sort.TheVariants.{Int}
use Rattle.dom_core.specs.Cube.{IsPrimitiveCube}
use Rattle.dom_int.proofs.ExampleLemmas.{even_and_odd_primitive}
use Rattle.game_tests.proofs.eliminations.made.Goals as goal

pub returns-in-Ok : goal.returns-in-Ok
returns-in-Ok c = subst (IsPrimitiveCube Int) (sym c.in-Ok.ensures) even_and_odd_primitive
