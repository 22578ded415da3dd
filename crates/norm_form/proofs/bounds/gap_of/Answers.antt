use Rattle.std.specs.Prelude.{Ok, Err}
use Rattle.std.proofs.Common.{◌≡◌, ap₂, subst, [], ◌∷◌}
use Rattle.lin_form.specs.Lin.{Lin, lin_plus, lin_minus}
use Rattle.lin_form.specs.Outcome.{Formed}
use Rattle.lin_form.proofs.Forming.{formed_after, formed_stop}
use Rattle.norm_form.specs.Norm.{div_top}
use Rattle.norm_form.proofs.bounds.gap_of.Goals as goal

pub returns-in-Err : goal.returns-in-Err
returns-in-Err c =
    λ d e. formed_stop (div_top c.args.by.now.form.constant d ∷ []) (lin_minus (div_top c.args.by.now.form.constant d) c.args.x.now ∷ []) (div_top c.args.by.now.form.constant d) (lin_minus (div_top c.args.by.now.form.constant d) c.args.x.now) c.in-Err.fault
    (subst (λ (y : Lin). Formed (y ∷ []) y (Err c.in-Err.fault)) (ap₂ lin_plus e c.greatest_rest-last.ensures) c.in-Err.ensures)

pub returns : goal.returns
returns c =
    λ d e. let p : lin_plus c.args.multiple.now c.greatest_rest-last.result ≡ div_top c.args.by.now.form.constant d = ap₂ lin_plus e c.greatest_rest-last.ensures in
    let h = subst (λ (y : Lin). Formed (y ∷ []) y (Ok c.in-Ok.form)) p c.in-Ok.ensures in
    formed_after (div_top c.args.by.now.form.constant d ∷ []) (lin_minus (div_top c.args.by.now.form.constant d) c.args.x.now ∷ []) (lin_minus (div_top c.args.by.now.form.constant d) c.args.x.now) c.minus.result h.0
    (subst (λ (y : Lin). Formed (lin_minus y c.args.x.now ∷ []) (lin_minus y c.args.x.now) c.minus.result) h.1 c.minus.ensures)
