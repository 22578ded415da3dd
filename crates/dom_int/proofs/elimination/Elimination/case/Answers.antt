use Rattle.dom_core.proofs.Reducing.{case_reduced}
use Rattle.dom_int.proofs.elimination.Elimination.case.Goals as goal

pub returns-clause-reduced : goal.returns-clause-reduced
returns-clause-reduced c =
    let t = c.args.self.now in
    case_reduced t.cube t.variable c.args.index c.built.result c.lits-lits.ensures.primitive c.lits-lits.ensures.rows c.requires c.built.ensures
