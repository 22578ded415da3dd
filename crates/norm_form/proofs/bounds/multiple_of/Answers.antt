use Rattle.std.proofs.Common.{ℤ, subst, [], ◌∷◌, arith, w64, SFits, to_z-of_z}
use Rattle.std.proofs.lemmas.Int.{ints}
use Rattle.lin_form.specs.Lin.{Lin, lin_variable, lin_scale}
use Rattle.lin_form.specs.Outcome.{Formed}
use Rattle.lin_form.proofs.Forming.{formed_after, formed_stop}
use Rattle.norm_form.specs.Norm.{multiple}
use Rattle.norm_form.proofs.bounds.multiple_of.Goals as goal

pub returns-in-Err-clause-value : goal.returns-in-Err-clause-value
returns-in-Err-clause-value c = formed_stop (lin_variable c.args.level ∷ []) (multiple c.args.by.now.form.constant c.args.level ∷ []) (lin_variable c.args.level) (multiple c.args.by.now.form.constant c.args.level) c.in-Err.fault c.in-Err.ensures.value

pub returns-clause-value : goal.returns-clause-value
returns-clause-value c =
    let f : SFits w64 c.constant.result = omega (arith, ints, c.constant.ensures.kept) in
    let h : Formed (lin_scale c.constant.result 1 c.in-Ok.form ∷ []) (lin_scale c.constant.result 1 c.in-Ok.form) c.scaled.result = simp to_z-of_z at c.scaled.ensures in
    formed_after (lin_variable c.args.level ∷ []) (multiple c.args.by.now.form.constant c.args.level ∷ []) (multiple c.args.by.now.form.constant c.args.level) c.scaled.result c.in-Ok.ensures.value.0
    (subst (λ (y : Lin). Formed (lin_scale c.args.by.now.form.constant 1 y ∷ []) (lin_scale c.args.by.now.form.constant 1 y) c.scaled.result) c.in-Ok.ensures.value.1
    (subst (λ (z : ℤ). Formed (lin_scale z 1 c.in-Ok.form ∷ []) (lin_scale z 1 c.in-Ok.form) c.scaled.result) c.constant.ensures.value h))
