use Rattle.lin_truth.specs.Value.{v_times}
use Rattle.term_table.proofs.ratio.times_each.Goals as goal

pub returns : goal.returns
returns c = c.kept.ensures (v_times c.args.x c.args.y) c.product.ensures
