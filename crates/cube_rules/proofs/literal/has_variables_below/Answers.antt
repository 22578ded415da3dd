use Rattle.std.proofs.Common.{ap, ◌∙◌}
use Rattle.lin_term.specs.Form.{Form}
use Rattle.cube_rules.specs.Facts.{all_below}
use Rattle.cube_rules.proofs.Comparing.{list_all-below}
use Rattle.cube_rules.proofs.literal.has_variables_below.Goals as goal

pub returns : goal.returns
returns c =
    c.is_below.ensures ∙ list_all-below c.args.n c.coefs.result.now ∙ ap (all_below c.args.n) (c.coefs.ensures.terms ∙ ap (λ (f : Form). f.terms) c.row.ensures)
