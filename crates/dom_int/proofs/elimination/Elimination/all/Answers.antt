use Rattle.lin_term.specs.declared.Sort.TheVariants.{Int}
use Rattle.dom_core.proofs.Reducing.{answer_reduced}
use Rattle.dom_int.proofs.elimination.Elimination.all.Goals as goal

pub returns-clause-reduced : goal.returns-clause-reduced
returns-clause-reduced c =
    let t = c.args.self.now in
    answer_reduced Int t.cube t.variable c.all_built.result c.lits-lits.ensures.primitive c.lits-lits.ensures.rows c.all_built.ensures
