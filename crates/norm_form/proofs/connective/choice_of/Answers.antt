use Rattle.std.specs.Prelude.{true, false}
use Rattle.norm_form.specs.Cap.{over2, over4}
use Rattle.norm_form.specs.Norm.{either_by, ite_form}
use Rattle.norm_form.proofs.Claiming.{built_same, ite_is}
use Rattle.norm_form.proofs.connective.choice_of.Goals as goal

pub returns : goal.returns
returns c = λ p n x y h k l m.
    built_same (over2 (either_by true) (over2 (either_by false) n x) (over2 (either_by false) p y)) (over4 ite_form p n x y) c.both.result (ite_is p n x y)
    (c.both.ensures (over2 (either_by false) n x) (over2 (either_by false) p y) (c.both-first.ensures n x k l) (c.both-second.ensures p y h m))
