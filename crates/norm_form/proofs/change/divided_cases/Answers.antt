use Rattle.std.proofs.Common.{subst, sym}
use Rattle.lin_form.specs.Outcome.{Formed}
use Rattle.norm_form.specs.Cases.{AreCases, divided}
use Rattle.lin_form.specs.Lin.{Lin}
use Rattle.norm_form.specs.declared.change.Division.{Division}
use Rattle.norm_form.specs.declared.change.Division.TheVariants as divisions
use Rattle.norm_form.proofs.Running.{cases_stop, divisor_stops, divisor_kept}
use Rattle.norm_form.specs.Cap.{capped_maker}
use Rattle.norm_form.proofs.change.divided_cases.Goals as goal

pub returns-in-Err : goal.returns-in-Err
returns-in-Err c = λ g xs v h l. cases_stop (λ k e x. capped_maker.formed xs (divided c.args.kind v c.args.sort k e x)) g c.in-Err.fault (subst (λ r. AreCases g r) c.in-Err.is h)

pub returns-in-Err-by : goal.returns-in-Err-by
returns-in-Err-by c = λ g xs v h l. divisor_stops (λ k. divided c.args.kind v c.args.sort k) g c.in-Ok.cases xs v c.in-Err-by.fault (subst (λ r. AreCases g r) c.in-Ok.is h) (subst (λ r. Formed xs v r) c.in-Err-by.is l)

pub returns-in-Over : goal.returns-in-Over
returns-in-Over c = λ g xs v h l.
    let k = subst (λ r. Formed xs v r) c.in-Ok-by.is l in
    subst (λ (d : Division). AreCases (λ k. g (λ e x. capped_maker.formed xs (divided d v c.args.sort k e x))) c.turned.result) (sym c.in-Over.is)
    (divisor_kept (λ k. divided divisions.Over v c.args.sort k) g xs c.turned.result k.0
    (subst (λ (y : Lin). AreCases (λ k. g (divided divisions.Over y c.args.sort k)) c.turned.result) k.1 (c.turned.ensures g (subst (λ r. AreCases g r) c.in-Ok.is h))))

pub returns-in-Whole : goal.returns-in-Whole
returns-in-Whole c = λ g xs v h l.
    let k = subst (λ r. Formed xs v r) c.in-Ok-by.is l in
    subst (λ (d : Division). AreCases (λ k. g (λ e x. capped_maker.formed xs (divided d v c.args.sort k e x))) c.turned-in-Whole.result) (sym c.in-Whole.is)
    (divisor_kept (λ k. divided divisions.Whole v c.args.sort k) g xs c.turned-in-Whole.result k.0
    (subst (λ (y : Lin). AreCases (λ k. g (divided divisions.Whole y c.args.sort k)) c.turned-in-Whole.result) k.1 (c.turned-in-Whole.ensures g (subst (λ r. AreCases g r) c.in-Ok.is h))))

pub returns-in-Rest : goal.returns-in-Rest
returns-in-Rest c = λ g xs v h l.
    let k = subst (λ r. Formed xs v r) c.in-Ok-by.is l in
    subst (λ (d : Division). AreCases (λ k. g (λ e x. capped_maker.formed xs (divided d v c.args.sort k e x))) c.turned-in-Rest.result) (sym c.in-Rest.is)
    (divisor_kept (λ k. divided divisions.Rest v c.args.sort k) g xs c.turned-in-Rest.result k.0
    (subst (λ (y : Lin). AreCases (λ k. g (divided divisions.Rest y c.args.sort k)) c.turned-in-Rest.result) k.1 (c.turned-in-Rest.ensures g (subst (λ r. AreCases g r) c.in-Ok.is h))))
