use Rattle.std.proofs.Common.{List, ◌≡◌, ◌∙◌, subst}
use Rattle.lin_term.specs.declared.Lit.{Lit}
use Rattle.lin_term.specs.declared.Sort.TheVariants.{Int}
use Rattle.dom_core.specs.Cube.{IsPrimitiveCube}
use Rattle.dom_core.specs.Reduced.{AreRows}
use Rattle.dom_int.specs.Target.{Target}
use Rattle.dom_int.proofs.elimination.Elimination.lits.Goals as goal

pub returns-clause-primitive : goal.returns-clause-primitive
returns-clause-primitive c = subst (λ (t : Target). IsPrimitiveCube Int t.cube) c.self.view_is c.self.invariant.primitive

pub returns-clause-rows : goal.returns-clause-rows
returns-clause-rows c =
    subst (λ (t : Target). AreRows t.cube) c.self.view_is (subst AreRows c.lits.ensures.value c.lits.ensures.rows)
