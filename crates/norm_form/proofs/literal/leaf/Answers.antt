use Rattle.std.proofs.Common.{◌∙◌, sym}
use Rattle.norm_form.proofs.Shapes.{shape_lit}
use Rattle.norm_form.proofs.Signing.{closed_leaf, open_leaf}
use Rattle.norm_form.proofs.literal.leaf.Goals as goal

pub returns-in-Some : goal.returns-in-Some
returns-in-Some c = c.closed.ensures ∙ closed_leaf c.args.lit c.in-Some.truth (sym c.closed_truth.ensures ∙ c.in-Some.is)

pub returns-in-None : goal.returns-in-None
returns-in-None c = shape_lit c.args.lit ∙ open_leaf c.args.lit (sym c.closed_truth.ensures ∙ c.in-None.is)
