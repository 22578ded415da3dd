use Rattle.std.proofs.Common.{List, subst}
use Rattle.lin_term.specs.declared.Lit.{Lit}
use Rattle.lin_term.specs.declared.Sort.TheVariants.{Rat}
use Rattle.lin_term.specs.Wide.{Capped}
use Rattle.dom_core.specs.Elimination.{eliminated, elimination_numbers}
use Rattle.dom_core.specs.Reduced.{AreRows}
use Rattle.dom_core.proofs.Reducing.{answer_reduced}
use Rattle.dom_rat.proofs.fourier_motzkin.eliminate.Goals as goal

pub returns-clause-reduced : goal.returns-clause-reduced
returns-clause-reduced c =
    answer_reduced Rat c.args.cube.now c.args.var c.eliminated_list.result c.requires (subst AreRows c.lits.ensures.value c.lits.ensures.rows)
    (subst (λ (us : List Lit). Capped (elimination_numbers Rat us c.args.var) (eliminated Rat us c.args.var) c.eliminated_list.result) c.lits.ensures.value c.eliminated_list.ensures)
