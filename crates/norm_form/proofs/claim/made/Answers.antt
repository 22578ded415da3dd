use Rattle.norm_form.specs.Claim.{claimed}
use Rattle.norm_form.proofs.Claiming.{stands_more, stands_stop, stands_end}
use Rattle.norm_form.proofs.claim.made.Goals as goal

pub returns-in-Err : goal.returns-in-Err
returns-in-Err c = λ g h.
    stands_stop (λ e x. claimed c.args.claim c.args.sort c.args.truth x) c.args.cases c.loop-case.todo c.pop.new.self c.in-Some.case c.loop-case.stack c.in-Err.fault g c.loop-case.invariant c.in-Some.ensures c.in-Err.ensures h

pub loop-case-preserved : goal.loop-case-preserved
loop-case-preserved c =
    stands_more (λ e x. claimed c.args.claim c.args.sort c.args.truth x) c.args.cases c.loop-case.todo c.pop.new.self c.in-Some.case c.loop-case.stack c.in-Ok.stack c.loop-case.invariant c.in-Some.ensures c.in-Ok.ensures

pub returns-in-Some-pop : goal.returns-in-Some-pop
returns-in-Some-pop c = λ g h.
    stands_end (λ e x. claimed c.args.claim c.args.sort c.args.truth x) c.args.cases c.loop-case.todo c.loop-case.stack c.pop-2.new.self c.in-Some-pop.formula g c.loop-case.invariant c.in_default.ensures.0 c.in-Some-pop.ensures h
