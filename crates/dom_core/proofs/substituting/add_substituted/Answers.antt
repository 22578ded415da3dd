use Rattle.lin_term.specs.PutIn.{substituted}
use Rattle.dom_core.proofs.substituting.add_substituted.Goals as goal

pub returns : goal.returns
returns c = c.add_made.ensures.adds (substituted c.args.sort c.args.lit.now c.args.var c.args.term.now c.args.residue) c.substitute.ensures
