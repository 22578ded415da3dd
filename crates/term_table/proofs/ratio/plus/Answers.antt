use Rattle.lin_truth.specs.Value.{v_plus}
use Rattle.term_table.proofs.ratio.plus.Goals as goal

pub returns : goal.returns
returns c = c.kept.ensures (v_plus c.args.x c.args.y) c.sum.ensures
