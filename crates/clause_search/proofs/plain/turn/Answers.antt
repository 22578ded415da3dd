use Rattle.std.specs.Prelude.{reverse}
use Rattle.lose_system.proofs.Tabled.{IfOk_with}
use Rattle.clause_search.proofs.Stacking.{open_runs, turned_open, turned_done, turned_first, last_left, turned_ended}
use Rattle.clause_search.proofs.plain.turn.Goals as goal

pub open-requires : goal.open-requires
open-requires g c = open_runs g.D.Domain.SORT c.args.system.now (reverse c.args.splits.now) c.args.state c.in-Open.goal c.in-Open.is c.requires

pub take-requires : goal.take-requires
take-requires g c = last_left g.D.Domain.SORT c.args.system.now c.args.splits.now c.pop.new.self c.in-Some.split c.args.state c.in-Ended.found c.in-Ended.is c.in-Some.ensures c.requires

pub returns-in-Open : goal.returns-in-Open
returns-in-Open g c =
    IfOk_with c.open.result
    (λ z a. turned_open g.D.Domain.SORT c.args.system.now (reverse c.args.splits.now) (reverse c.open.new.splits) c.args.lines.now c.open.new.lines c.args.state z c.in-Open.goal c.in-Open.is a)
    c.open.ensures

pub returns-in-Done : goal.returns-in-Done
returns-in-Done g c = turned_done g.D.Domain.SORT c.args.system.now c.args.splits.now c.args.splits.now c.args.lines.now c.args.state c.in-Done.found c.in-Done.is

pub returns-in-None : goal.returns-in-None
returns-in-None g c = turned_first g.D.Domain.SORT c.args.system.now c.args.splits.now c.pop.new.self c.args.lines.now c.args.state c.in-Ended.found c.in-Ended.is c.in-None.ensures.0

pub returns-in-Some : goal.returns-in-Some
returns-in-Some g c =
    IfOk_with c.take.result
    (λ z a. turned_ended g.D.Domain.SORT c.args.system.now c.args.splits.now c.pop.new.self (reverse c.take.new.splits) c.in-Some.split c.args.lines.now c.args.state z c.in-Ended.found c.in-Ended.is c.in-Some.ensures a)
    c.take.ensures
