use Rattle.lin_truth.specs.Value.{v_minus}
use Rattle.term_table.proofs.ratio.minus.Goals as goal

pub returns : goal.returns
returns c = c.kept.ensures (v_minus c.args.x c.args.y) c.difference.ensures
