use Rattle.norm_form.proofs.Claiming.{with_bounds}
use Rattle.norm_form.proofs.claim.with_quotient.Goals as goal

pub returns-in_ok-push-in-Some : goal.returns-in_ok-push-in-Some
returns-in_ok-push-in-Some c =
    with_bounds c.args.stack c.pop.new.self c.push.new.self c.args.low c.args.high c.in-Some.inner c.in_ok-between-in-Some.field-0 c.in-Some.ensures c.in_ok-push-in-Some.ensures.ok c.in_ok-between-in-Some.ensures
