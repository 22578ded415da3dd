use Rattle.norm_form.proofs.Bounding.{multiple_stops, rest_stops, gap_stops, sides_made}
use Rattle.norm_form.proofs.bounds.sides_of.Goals as goal

pub returns-in-Err-clause-value : goal.returns-in-Err-clause-value
returns-in-Err-clause-value c = multiple_stops c.args.by.now.form.constant c.args.x.now c.args.level c.in-Err.fault c.in-Err.ensures.value

pub returns-in-Err-minus-clause-value : goal.returns-in-Err-minus-clause-value
returns-in-Err-minus-clause-value c = rest_stops c.args.by.now.form.constant c.args.x.now c.args.level c.in-Ok.form c.in-Err-minus.fault c.in-Ok.ensures.value c.in-Err-minus.ensures

pub returns-in-Err-gap_of-clause-value : goal.returns-in-Err-gap_of-clause-value
returns-in-Err-gap_of-clause-value c = gap_stops c.args.by.now.form.constant c.args.x.now c.args.level c.in-Ok.form c.in-Ok-minus.form c.in-Err-gap_of.fault c.in-Ok.ensures.value c.in-Ok-minus.ensures (c.in-Err-gap_of.ensures c.args.level c.in-Ok.ensures.value.1)

pub returns-clause-value : goal.returns-clause-value
returns-clause-value c = sides_made c.args.by.now.form.constant c.args.x.now c.args.level c.in-Ok.form (record { rest = c.in-Ok-minus.form; gap = c.in-Ok-gap_of.form }) c.in-Ok.ensures.value c.in-Ok-minus.ensures (c.in-Ok-gap_of.ensures c.args.level c.in-Ok.ensures.value.1)
