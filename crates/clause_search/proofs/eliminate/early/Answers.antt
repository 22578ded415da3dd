use Rattle.clause_search.proofs.Answering.{early_refuted, early_wide, nothing_written, nothing_closed}
use Rattle.clause_search.proofs.eliminate.early.Goals as goal

pub returns-in-Point : goal.returns-in-Point
returns-in-Point g c = nothing_written g.D.Domain.SORT c.args.system.now c.args.goal.now c.in_ok-chosen.chosen.cube c.args.lines.now c.eliminated.new.lines c.in_ok-eliminated.field-0 c.in-Point.field-0 c.in-Point.is c.in_ok-eliminated.ensures

pub returns-in-Refuted : goal.returns-in-Refuted
returns-in-Refuted g c = early_refuted g.D.Domain.SORT c.args.system.now c.args.goal.now c.args.part.now c.in_ok-chosen.chosen.cube c.args.lines.now c.eliminated.new.lines c.in_ok-eliminated.field-0 c.in-Refuted.is c.in_ok-eliminated.ensures

pub returns-then-passes : goal.returns-then-passes
returns-then-passes g c = early_wide g.D.Domain.SORT c.args.system.now c.args.goal.now c.args.part.now c.in_ok-chosen.chosen.cube c.args.lines.now c.eliminated.new.lines c.in_ok-eliminated.field-0 c.in-Wide.cube c.in-Wide.is (c.passes.ensures c.if-passes.true) c.in_ok-eliminated.ensures

pub returns : goal.returns
returns g c = nothing_closed g.D.Domain.SORT c.args.system.now c.args.goal.now c.in_ok-chosen.chosen.cube c.args.lines.now c.eliminated.new.lines c.in_ok-eliminated.field-0 c.in-Wide.cube c.in-Wide.is c.in_ok-eliminated.ensures
