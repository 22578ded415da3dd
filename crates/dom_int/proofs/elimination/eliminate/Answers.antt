use Rattle.std.proofs.Common.{subst}
use Rattle.lin_term.specs.declared.Sort.TheVariants.{Int}
use Rattle.dom_core.specs.Reduced.{AreRows}
use Rattle.dom_core.proofs.Reducing.{answer_reduced}
use Rattle.dom_int.proofs.elimination.eliminate.Goals as goal

pub returns-clause-reduced : goal.returns-clause-reduced
returns-clause-reduced c =
    answer_reduced Int c.args.cube.now c.args.var c.eliminated.result c.requires (subst AreRows c.lits-lits.ensures.value c.lits-lits.ensures.rows) c.eliminated.ensures
