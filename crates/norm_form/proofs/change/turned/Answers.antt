use Rattle.std.proofs.Common.{subst}
use Rattle.norm_form.specs.Cases.{AreCases, changed}
use Rattle.norm_form.proofs.Running.{cases_stop, turned_cases}
use Rattle.norm_form.proofs.change.turned.Goals as goal

pub returns-in-Err : goal.returns-in-Err
returns-in-Err c = λ g h. cases_stop (λ k. changed c.args.change.now c.args.sort k) g c.in-Err.fault (subst (λ r. AreCases g r) c.in-Err.is h)

pub returns : goal.returns
returns c = λ g h.
    turned_cases (λ k. changed c.args.change.now c.args.sort k) g c.in-Ok.cases c.righted.result (subst (λ r. AreCases g r) c.in-Ok.is h)
    (c.righted.ensures (λ k. changed c.args.change.now c.args.sort k) c.in-Ok.cases c.turned_back-back.ensures)
