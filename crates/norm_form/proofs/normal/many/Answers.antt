use Rattle.std.proofs.Common.{◌∙◌, ap, sym}
use Rattle.std.specs.Prelude.{Bool}
use Rattle.norm_form.specs.Norm.{joined_by}
use Rattle.norm_form.specs.View.{shapes_of}
use Rattle.norm_form.proofs.Shapes.{shape_and, shape_or, joined_all, joined_some}
use Rattle.norm_form.proofs.normal.many.Goals as goal

pub returns-then-all : goal.returns-then-all
returns-then-all c = shape_and c.args.parts ∙ joined_all c.args.parts c.requires ∙ ap (λ (q : Bool). joined_by q (shapes_of c.args.parts)) (sym c.if-all.true)

pub returns-else-all : goal.returns-else-all
returns-else-all c = shape_or c.args.parts ∙ joined_some c.args.parts c.requires ∙ ap (λ (q : Bool). joined_by q (shapes_of c.args.parts)) (sym c.if-all.false)
