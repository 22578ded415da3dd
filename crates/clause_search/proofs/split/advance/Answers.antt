use Rattle.std.specs.Prelude.{length, reverse}
use Rattle.std.proofs.Common.{refl}
use Rattle.clause_search.proofs.Parting.{not_below}
use Rattle.clause_search.proofs.Stacking.{advanced}
use Rattle.clause_search.proofs.split.advance.Goals as goal

pub answer-requires : goal.answer-requires
answer-requires g c = not_below c.is_left.result c.args.split.place (length c.args.split.parts.now) c.is_left.ensures c.if-not-is_left.true

pub returns-then-not-is_left : goal.returns-then-not-is_left
returns-then-not-is_left g c = λ w root start before now d o. c.answer.ensures w root start (reverse c.args.splits.now) before now d o

pub returns : goal.returns
returns g c =
    advanced g.D.Domain.SORT c.args.splits.now c.push.new.self c.args.split c.in_ok-goal.goal (record { number = c.args.split.goal.count; path = c.args.split.part.path; matrix = c.part_at-child.result }) c.part_at-child.result.now (c.is_left.ensures.0 c.if-not-is_left.false) c.part_at-child.ensures refl refl refl c.in_ok-goal.ensures c.in_ok-push.ensures.ok
