use Rattle.std.proofs.Common.{refl}
use Rattle.clause_search.proofs.Stacking.{begins}
use Rattle.clause_search.proofs.split.begin.Goals as goal

pub returns : goal.returns
returns g c = begins g.D.Domain.SORT c.args.goal c.args.part c.args.lines.now c.push.new.self _ _ c.is_past_cap.result c.requires refl c.is_past_cap.ensures c.if-is_past_cap.false c.in_ok-push.ensures.ok refl refl refl refl
