use Rattle.lin_truth.specs.View.{tree_of}
use Rattle.norm_form.specs.Cap.{capped}
use Rattle.norm_form.specs.View.{shape_of}
use Rattle.prenex_form.specs.Whole.{form_of_goal}
use Rattle.prenex_form.proofs.Problems.{built_form, level_fault, form_closed, form_few, written_form, written_kept, written_true}
use Rattle.prenex_form.proofs.problem.goal_prenex.Goals as goal

pub returns-in-Err-clause-fault : goal.returns-in-Err-clause-fault
returns-in-Err-clause-fault c = level_fault c.args.goal.now c.in-Err.fault c.in-Err.ensures.form

pub prenexed-requires-clause-closed : goal.prenexed-requires-clause-closed
prenexed-requires-clause-closed c =
    let g = c.args.goal.now in
    (g.sort, form_closed g.sort g.consts (tree_of g.body) (shape_of c.in-Ok.form) c.in-Ok.ensures.kept.0 c.in-Ok.ensures.form.2)

pub prenexed-requires-clause-few : goal.prenexed-requires-clause-few
prenexed-requires-clause-few c =
    let g = c.args.goal.now in
    form_few g.sort g.consts (tree_of g.body) (shape_of c.in-Ok.form) c.in-Ok.ensures.form.2 c.in-Ok.ensures.form.1

pub returns-clause-form : goal.returns-clause-form
returns-clause-form c =
    let g = c.args.goal.now in
    let t = tree_of g.body in
    let l = c.in-Ok.ensures.form in
    let p = c.in_ok-prenexed.field-0 in
    written_form (form_of_goal g.sort g.consts t) (capped g.sort g.consts t) (shape_of c.in-Ok.form) p.prefix p.matrix
    (built_form g.sort g.consts t l.0 l.1) l.2 c.in_ok-prenexed.ensures.prefix c.in_ok-prenexed.ensures.matrix

pub returns-clause-kept : goal.returns-clause-kept
returns-clause-kept c =
    let g = c.args.goal.now in
    let t = tree_of g.body in
    let l = c.in-Ok.ensures.form in
    let p = c.in_ok-prenexed.field-0 in
    let n = shape_of c.in-Ok.form in
    written_kept g.sort g.consts t n p.prefix p.matrix c.in-Ok.ensures.kept.0 l.2 (form_few g.sort g.consts t n l.2 l.1)
    c.in_ok-prenexed.ensures.tidy c.in_ok-prenexed.ensures.prefix c.in_ok-prenexed.ensures.matrix

pub returns-clause-truth : goal.returns-clause-truth
returns-clause-truth c =
    let g = c.args.goal.now in
    let p = c.in_ok-prenexed.field-0 in
    written_true g.sort g.consts (tree_of g.body) (shape_of c.in-Ok.form) p.prefix p.matrix c.in-Ok.ensures.kept.0 c.in-Ok.ensures.form.2 c.in_ok-prenexed.ensures.prefix c.in_ok-prenexed.ensures.matrix
