use Rattle.std.specs.Prelude.{reverse}
use Rattle.lose_system.proofs.Tabled.{IfOk_with}
use Rattle.clause_search.proofs.Stacking.{takes_point, takes_refuted, takes_wide}
use Rattle.clause_search.proofs.split.take.Goals as goal

pub returns-in-Point : goal.returns-in-Point
returns-in-Point g c = takes_point g.D.Domain.SORT (reverse c.args.splits.now) c.args.split c.args.found c.in-Point.point c.in-Point.is

pub returns-in-Refuted : goal.returns-in-Refuted
returns-in-Refuted g c =
    IfOk_with c.advance.result
    (λ z a. takes_refuted g.D.Domain.SORT (reverse c.args.splits.now) (reverse c.advance.new.splits) c.args.split c.past.result c.args.found z c.in-Refuted.is c.past.ensures a)
    c.advance.ensures

pub returns : goal.returns
returns g c =
    IfOk_with c.advance-in-Wide.result
    (λ z a. takes_wide g.D.Domain.SORT (reverse c.args.splits.now) (reverse c.advance-in-Wide.new.splits) c.args.split c.past_wide.result c.args.found c.in-Wide.cube z c.in-Wide.is c.past_wide.ensures a)
    c.advance-in-Wide.ensures
