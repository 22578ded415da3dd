use Rattle.norm_form.proofs.Running.{joined_stop, joined_made, turned_choice, turned_quotient}
use Rattle.norm_form.specs.Cases.{joined}
use Rattle.norm_form.proofs.change.joined_case.Goals as goal

pub returns-in-Err : goal.returns-in-Err
returns-in-Err c = joined_stop c.args.step c.args.x.now c.args.case.now c.in-Form.level c.in-Form.y c.in-Err.fault c.in-Form.is c.in-Err.ensures

pub returns-in_ok-one-in-Form : goal.returns-in_ok-one-in-Form
returns-in_ok-one-in-Form c = joined_made c.args.step c.args.x.now c.args.case.now c.in-Form.level c.in-Form.y c.in-Ok.form c.in_ok-one-in-Form.field-0 c.in-Form.is c.in-Ok.ensures c.in_ok-one-in-Form.ensures

pub returns-in_ok-kept_choice-in-Choice : goal.returns-in_ok-kept_choice-in-Choice
returns-in_ok-kept_choice-in-Choice c = turned_choice (joined c.args.step c.args.x.now) c.args.case.now c.in-Choice.test c.in-Choice.untest c.in_ok-kept_choice-in-Choice.field-0 c.in-Choice.is c.in_ok-kept_choice-in-Choice.ensures

pub returns-in_ok-kept_quotient-in-Quotient : goal.returns-in_ok-kept_quotient-in-Quotient
returns-in_ok-kept_quotient-in-Quotient c = turned_quotient (joined c.args.step c.args.x.now) c.args.case.now c.in-Quotient.low c.in-Quotient.high c.in_ok-kept_quotient-in-Quotient.field-0 c.in-Quotient.is c.in_ok-kept_quotient-in-Quotient.ensures
