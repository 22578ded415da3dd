use Rattle.std.specs.Prelude.{[], ◌∷◌, ◌++◌}
use Rattle.std.proofs.Common.{subst}
use Rattle.lin_form.specs.Operating.{operation}
use Rattle.lin_form.specs.Outcome.{Formed}
use Rattle.lin_form.proofs.Forming.{formed_stop, stop_two, step_two}
use Rattle.lin_form.proofs.step.operated.Goals as goal

pub returns-in-Err : goal.returns-in-Err
returns-in-Err c =
    λ xs ys v w h k. formed_stop xs (ys ++ operation c.args.op v w ∷ []) v (operation c.args.op v w) c.in-Err.fault (subst (λ r. Formed xs v r) c.in-Err.is h)

pub returns-in-Err-y : goal.returns-in-Err-y
returns-in-Err-y c =
    λ xs ys v w h k. stop_two xs ys (operation c.args.op v w ∷ []) v w (operation c.args.op v w) c.in-Ok.x c.in-Err-y.fault (subst (λ r. Formed xs v r) c.in-Ok.is h) (subst (λ r. Formed ys w r) c.in-Err-y.is k)

pub returns : goal.returns
returns c =
    λ xs ys v w h k. step_two (operation c.args.op) xs ys v w c.in-Ok.x c.in-Ok-y.y c.operate.result (subst (λ r. Formed xs v r) c.in-Ok.is h) (subst (λ r. Formed ys w r) c.in-Ok-y.is k) c.operate.ensures
