use Rattle.lin_form.specs.Lin.{lin_minus}
use Rattle.norm_form.specs.Norm.{multiple}
use Rattle.norm_form.proofs.Changing.{bounds_stop}
use Rattle.norm_form.proofs.change.rest_cases.Goals as goal

pub returns-in-Err : goal.returns-in-Err
returns-in-Err c = bounds_stop c.args.sort c.args.by.now.form.constant c.args.x.now c.args.level (lin_minus c.args.x.now (multiple c.args.by.now.form.constant c.args.level)) c.in-Err.fault c.in-Err.ensures.value
