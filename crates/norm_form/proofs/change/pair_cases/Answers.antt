use Rattle.std.proofs.Common.{subst}
use Rattle.norm_form.specs.View.{IsBuilt}
use Rattle.norm_form.proofs.Changing.{test_stops, untest_stops}
use Rattle.norm_form.proofs.change.pair_cases.Goals as goal

pub returns-in-Err : goal.returns-in-Err
returns-in-Err c = λ p n h g. test_stops c.args.level c.args.x.now c.args.y.now p n c.in-Err.fault (subst (λ r. IsBuilt p r) c.in-Err.is h)

pub returns-in-Err-no : goal.returns-in-Err-no
returns-in-Err-no c = λ p n h g. untest_stops c.args.level c.args.x.now c.args.y.now p n c.in-Err-no.fault (subst (λ r. IsBuilt n r) c.in-Err-no.is g)
