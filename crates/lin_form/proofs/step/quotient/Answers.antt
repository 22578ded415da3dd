use Rattle.std.specs.Prelude.{[], ◌∷◌, ◌++◌}
use Rattle.std.proofs.Common.{subst}
use Rattle.lin_form.specs.Lin.{Lin, lin_over}
use Rattle.lin_form.specs.Operating.{value_of}
use Rattle.lin_form.specs.Outcome.{Formed}
use Rattle.lin_form.proofs.Forming.{formed_stop, stop_two, step_two}
use Rattle.lin_form.proofs.step.quotient.Goals as goal

pub returns-in-Err : goal.returns-in-Err
returns-in-Err c =
    λ xs ys v w h k. formed_stop xs (ys ++ lin_over v (value_of w) ∷ []) v (lin_over v (value_of w)) c.in-Err.fault (subst (λ r. Formed xs v r) c.in-Err.is h)

pub returns-in-Err-y : goal.returns-in-Err-y
returns-in-Err-y c =
    λ xs ys v w h k. stop_two xs ys (lin_over v (value_of w) ∷ []) v w (lin_over v (value_of w)) c.in-Ok.x c.in-Err-y.fault (subst (λ r. Formed xs v r) c.in-Ok.is h) (subst (λ r. Formed ys w r) c.in-Err-y.is k)

pub returns : goal.returns
returns c =
    λ xs ys v w h k. step_two (λ (a b : Lin). lin_over a (value_of b)) xs ys v w c.in-Ok.x c.in-Ok-y.y c.over.result (subst (λ r. Formed xs v r) c.in-Ok.is h) (subst (λ r. Formed ys w r) c.in-Ok-y.is k) c.over.ensures
