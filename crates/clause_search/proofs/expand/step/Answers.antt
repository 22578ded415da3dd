use Rattle.std.specs.Prelude.{IfOk}
use Rattle.std.proofs.Common.{sym, subst}
use Rattle.clause_search.specs.declared.goal.Goal.{Goal}
use Rattle.clause_search.specs.Taken.{IsGoal}
use Rattle.clause_search.specs.Searching.{Progresses}
use Rattle.clause_search.proofs.Parting.{opened_again, same_again, kept_less}
use Rattle.clause_search.proofs.Answering.{path_taken, path_ended}
use Rattle.clause_search.proofs.expand.step.Goals as goal

pub take_path-requires-clause-kept : goal.take_path-requires-clause-kept
take_path-requires-clause-kept g c =
    subst (λ (z : Goal). IsGoal g.D.Domain.SORT c.args.system.now z) (sym (same_again c.args.goal.now c.pop.new.self c.in-None.ensures.0 c.in-None.ensures.1)) c.requires

pub take_path-requires-clause-empty : goal.take_path-requires-clause-empty
take_path-requires-clause-empty g c = c.in-None.ensures.1

pub take_part-requires-clause-kept : goal.take_part-requires-clause-kept
take_part-requires-clause-kept g c =
    let k = kept_less g.D.Domain.SORT c.args.system.now c.args.goal.now c.pop.new.self c.in-Some.part c.in-Some.ensures c.requires in k.0

pub take_part-requires-clause-part : goal.take_part-requires-clause-part
take_part-requires-clause-part g c =
    let k = kept_less g.D.Domain.SORT c.args.system.now c.args.goal.now c.pop.new.self c.in-Some.part c.in-Some.ensures c.requires in k.1

pub returns-then-more : goal.returns-then-more
returns-then-more g c =
    path_taken g.D.Domain.SORT c.args.system.now c.args.goal.now c.pop.new.self c.take_path.new.goal c.args.lines.now c.take_path.new.lines c.in_ok-more-in-None.more c.in-None.ensures.0 c.in-None.ensures.1 c.if-more.true c.in_ok-more-in-None.ensures

pub returns-else-more : goal.returns-else-more
returns-else-more g c =
    path_ended g.D.Domain.SORT c.args.system.now c.args.goal.now c.pop.new.self c.take_path.new.goal c.args.lines.now c.take_path.new.lines c.in_ok-more-in-None.more c.in-None.ensures.0 c.in-None.ensures.1 c.if-more.false c.requires c.in_ok-more-in-None.ensures

pub returns-in-Some : goal.returns-in-Some
returns-in-Some g c =
    subst (λ (z : Goal). IfOk c.take_part.result (Progresses g.D.Domain.SORT c.args.system.now z c.args.lines.now c.take_part.new.goal c.take_part.new.lines)) (opened_again c.args.goal.now c.pop.new.self c.in-Some.part c.in-Some.ensures) c.take_part.ensures
