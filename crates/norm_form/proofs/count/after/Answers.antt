use Rattle.norm_form.proofs.Cutting.{after_is}
use Rattle.norm_form.proofs.count.after.Goals as goal

pub returns-clause-cut : goal.returns-clause-cut
returns-clause-cut c =
    λ x y h k. after_is c.plus.result c.times.result c.times-copies.result c.args.a c.args.b x y c.times-copies.ensures.value c.plus.ensures.value c.times.ensures.value h k
