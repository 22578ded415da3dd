use Rattle.std.specs.Prelude.{[], ◌∷◌}
use Rattle.std.proofs.Common.{subst}
use Rattle.lin_form.specs.Operating.{operation}
use Rattle.lin_form.specs.Outcome.{Formed}
use Rattle.lin_form.proofs.Forming.{formed_stop, step_one}
use Rattle.lin_form.proofs.step.stepped.Goals as goal

pub returns-in-Err : goal.returns-in-Err
returns-in-Err c =
    λ ys w k. formed_stop ys (operation c.args.op c.args.x.now w ∷ []) w (operation c.args.op c.args.x.now w) c.in-Err.fault (subst (λ r. Formed ys w r) c.in-Err.is k)

pub returns : goal.returns
returns c =
    λ ys w k. step_one (operation c.args.op c.args.x.now) ys w c.in-Ok.y c.operate.result (subst (λ r. Formed ys w r) c.in-Ok.is k) c.operate.ensures
