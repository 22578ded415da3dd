use Rattle.norm_form.proofs.Shapes.{joined_one}
use Rattle.norm_form.proofs.normal.only.Goals as goal

pub returns-in-Some : goal.returns-in-Some
returns-in-Some c = joined_one c.args.all c.args.parts c.pop.new.self c.in-Some.part c.requires c.in-Some.ensures
