use Rattle.std.specs.Prelude.{◌≡◌, Some}
use Rattle.norm_form.specs.View.{shape_of}
use Rattle.norm_form.specs.Walk.{wrapped}
use Rattle.norm_form.proofs.scope.wrapped.Given as goal

abbrev pub invariant-loop-depth : goal.invariant-loop-depth
invariant-loop-depth l = wrapped l.every l._depth (Some (shape_of l.initial.formula)) ≡ Some (shape_of l.formula)
