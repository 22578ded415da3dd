use Rattle.std.proofs.Common.{subst, sym}
use Rattle.std.specs.Prelude.{Bool, true, false}
use Rattle.norm_form.specs.Cap.{over2, over4}
use Rattle.norm_form.specs.Norm.{either_by, same_form}
use Rattle.norm_form.specs.View.{IsBuilt}
use Rattle.norm_form.proofs.Claiming.{built_same, same_is, other_is}
use Rattle.norm_form.proofs.connective.same_of.Goals as goal

pub returns-then-truth : goal.returns-then-truth
returns-then-truth c = λ x u y w h k l m.
    subst (λ (q : Bool). IsBuilt (over4 (same_form q) x u y w) c.both.result) (sym c.if-truth.true)
    (built_same (over2 (either_by true) (over2 (either_by false) u y) (over2 (either_by false) x w)) (over4 (same_form true) x u y w) c.both.result (same_is x u y w)
    (c.both.ensures (over2 (either_by false) u y) (over2 (either_by false) x w) (c.both-first.ensures u y k l) (c.both-second.ensures x w h m)))

pub returns-else-truth : goal.returns-else-truth
returns-else-truth c = λ x u y w h k l m.
    subst (λ (q : Bool). IsBuilt (over4 (same_form q) x u y w) c.both-else-truth.result) (sym c.if-truth.false)
    (built_same (over2 (either_by false) (over2 (either_by true) x w) (over2 (either_by true) u y)) (over4 (same_form false) x u y w) c.both-else-truth.result (other_is x u y w)
    (c.both-else-truth.ensures (over2 (either_by true) x w) (over2 (either_by true) u y) (c.both-first-else-truth.ensures x w h m) (c.both-second-else-truth.ensures u y k l)))
