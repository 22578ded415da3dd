use Rattle.std.proofs.Common.{subst, ap, arith, refl, ◌≡◌, ◌∙◌, ◌+◌, ℕ}
use Rattle.std.specs.Prelude.{length, Some}
use Rattle.norm_form.specs.View.{IsBuilt, shape_of}
use Rattle.norm_form.specs.Walk.{wrapped}
use Rattle.norm_form.proofs.Wrapping.{wrapped_stops, wrapped_more}
use Rattle.norm_form.proofs.scope.wrapped.Goals as goal

pub returns-in-Err : goal.returns-in-Err
returns-in-Err c = λ o h. wrapped_stops c.args.every (length c.args.sorts.now) o c.in-Err.fault (subst (λ r. IsBuilt o r) c.in-Err.is h)

pub returns : goal.returns
returns c = λ o h.
    let e : length c.args.sorts.now ≡ c.loop-depth._depth = omega (arith, c.loop-depth-test.false, c.loop-depth.auto._depth-end) in
    let f : o ≡ Some (shape_of c.in-Ok.formula) = subst (λ r. IsBuilt o r) c.in-Ok.is h in
    ap (λ (n : ℕ). wrapped c.args.every n o) e ∙ ap (wrapped c.args.every c.loop-depth._depth) f ∙ c.loop-depth.invariant

pub loop-depth-preserved : goal.loop-depth-preserved
loop-depth-preserved c = wrapped_more c.args.every c.loop-depth._depth (c.loop-depth._depth + 1) (Some (shape_of c.in-Ok.formula)) c.loop-depth.formula c.in_ok-formula.formula refl c.loop-depth.invariant c.in_ok-formula.ensures
