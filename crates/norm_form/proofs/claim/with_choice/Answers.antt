use Rattle.norm_form.proofs.Claiming.{with_two}
use Rattle.norm_form.proofs.claim.with_choice.Goals as goal

pub returns-in_ok-push-in-Some-pop : goal.returns-in_ok-push-in-Some-pop
returns-in_ok-push-in-Some-pop c =
    with_two c.args.stack c.pop.new.self c.pop-in-Some.new.self c.push.new.self c.args.test c.args.untest c.in-Some.a c.in-Some-pop.b c.in_ok-choice-in-Some-pop.field-0 c.in-Some.ensures c.in-Some-pop.ensures c.in_ok-push-in-Some-pop.ensures.ok c.in_ok-choice-in-Some-pop.ensures
