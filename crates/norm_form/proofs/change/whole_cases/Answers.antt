use Rattle.lin_form.specs.Lin.{lin_variable}
use Rattle.norm_form.proofs.Changing.{variable_stops}
use Rattle.norm_form.proofs.change.whole_cases.Goals as goal

pub returns-in-Err : goal.returns-in-Err
returns-in-Err c = variable_stops c.args.sort c.args.by.now.form.constant c.args.x.now c.args.level (lin_variable c.args.level) c.in-Err.fault c.in-Err.ensures.value
