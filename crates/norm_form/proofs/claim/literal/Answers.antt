use Rattle.norm_form.proofs.Claiming.{literal_stops}
use Rattle.norm_form.proofs.claim.literal.Goals as goal

pub returns-in-Err : goal.returns-in-Err
returns-in-Err c = literal_stops c.args.sort c.args.truth c.args.lit c.in-Err.fault c.in-Err.ensures
