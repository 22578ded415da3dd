use Rattle.std.proofs.Common.{subst, sym}
use Rattle.lin_form.specs.Lin.{lin_neg, lin_over}
use Rattle.lin_form.specs.Operating.{value_of}
use Rattle.norm_form.specs.declared.change.Change.{Change}
use Rattle.norm_form.specs.Cases.{AreBack, changed}
use Rattle.norm_form.proofs.change.changed_cases.Goals as goal

pub returns-in-Negative : goal.returns-in-Negative
returns-in-Negative c =
    subst (λ (z : Change). AreBack (λ k. changed z c.args.sort k c.args.level c.args.x) c.single.result) (sym c.in-Negative.is)
    (c.single.ensures (lin_neg c.args.x) c.negative.ensures.value)

pub returns-in-Over : goal.returns-in-Over
returns-in-Over c =
    subst (λ (z : Change). AreBack (λ k. changed z c.args.sort k c.args.level c.args.x) c.single-in-Over.result) (sym c.in-Over.is)
    (c.single-in-Over.ensures (lin_over c.args.x (value_of c.in-Over.by)) c.over.ensures)
