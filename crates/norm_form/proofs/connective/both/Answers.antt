use Rattle.std.proofs.Common.{subst}
use Rattle.norm_form.specs.Cap.{over2}
use Rattle.norm_form.specs.Norm.{either_by}
use Rattle.norm_form.specs.View.{IsBuilt}
use Rattle.norm_form.proofs.Claiming.{built_stop, first_missing}
use Rattle.norm_form.proofs.connective.both.Goals as goal

pub returns-in-Err : goal.returns-in-Err
returns-in-Err c = λ x y h k. built_stop x (over2 (either_by c.args.all) x y) c.in-Err.fault (first_missing (either_by c.args.all) x y) (subst (λ r. IsBuilt x r) c.in-Err.is h)
