use Rattle.std.proofs.Common.{List, subst}
use Rattle.norm_form.specs.declared.branches.Case.{Case}
use Rattle.norm_form.specs.Cases.{AreBack, AreBothBack, joined}
use Rattle.norm_form.proofs.Running.{both_back_cases, both_back_stop}
use Rattle.norm_form.proofs.change.joined_back.Goals as goal

pub returns-in-Err : goal.returns-in-Err
returns-in-Err c = λ g h. both_back_stop (joined c.args.step c.args.x.now) g c.in-Err.fault (subst (λ r. AreBack g r) c.in-Err.is h)

pub returns-in-Ok : goal.returns-in-Ok
returns-in-Ok c = λ g h. both_back_cases (joined c.args.step c.args.x.now) g c.in-Ok.cases c.joined_each.result (subst (λ r. AreBack g r) c.in-Ok.is h) (subst (λ (cs : List Case). AreBothBack (joined c.args.step c.args.x.now) cs c.joined_each.result) c.as_slice.ensures c.joined_each.ensures)
