use Rattle.std.proofs.Common.{◌∙◌, sym}
use Rattle.term_table.specs.Placed.{top}
use Rattle.term_table.specs.Meaning.{at, meanings}
use Rattle.term_table.specs.Entries.{nodes_of}
use Rattle.lin_truth.specs.Constant.{is_constant}
use Rattle.term_table.proofs.Formed.{true_yes}
use Rattle.term_table.proofs.Steady.{constant-used}
use Rattle.term_table.proofs.passing.stand_in.Goals as goal

pub returns-then-is_constant_at : goal.returns-then-is_constant_at
returns-then-is_constant_at c =
    let nodes = nodes_of c.args.entries.now in
    let body = c.args.body in
    (c.requires.body, constant-used nodes body c.args.args.now (true_yes (is_constant (at (meanings nodes) body top 0)) (sym c.is_constant_at.ensures ∙ c.if-is_constant_at.true)))
