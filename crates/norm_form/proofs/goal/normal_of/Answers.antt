use Rattle.norm_form.proofs.Answering.{level_stops, level_numbers, answer_is, answer_true, answer_order, answer_levels}
use Rattle.norm_form.specs.View.{shape_of}
use Rattle.norm_form.proofs.goal.normal_of.Goals as goal

pub returns-in-Err-clause-form : goal.returns-in-Err-clause-form
returns-in-Err-clause-form c = level_stops c.args.goal.now c.in-Err.fault c.in-Err.ensures.form

pub in_preorder-requires : goal.in_preorder-requires
in_preorder-requires c = level_numbers c.args.goal.now c.in-Ok.form c.in-Ok.ensures.kept c.in-Ok.ensures.form

pub returns-clause-form : goal.returns-clause-form
returns-clause-form c = answer_is c.args.goal.now c.in-Ok.form c.in_ok-in_preorder.field-0 c.in-Ok.ensures.form c.in_ok-in_preorder.ensures

pub returns-clause-truth : goal.returns-clause-truth
returns-clause-truth c = answer_true c.args.goal.now c.in-Ok.form c.in_ok-in_preorder.field-0 c.in-Ok.ensures.kept c.in-Ok.ensures.form c.in_ok-in_preorder.ensures

pub returns-clause-order : goal.returns-clause-order
returns-clause-order c = answer_order (shape_of c.in-Ok.form) c.in_ok-in_preorder.field-0 c.in_ok-in_preorder.ensures

pub returns-clause-levels : goal.returns-clause-levels
returns-clause-levels c = answer_levels c.args.goal.now c.in-Ok.form c.in_ok-in_preorder.field-0 c.in-Ok.ensures.kept c.in-Ok.ensures.form c.in_ok-in_preorder.ensures
