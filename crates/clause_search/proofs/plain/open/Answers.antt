use Rattle.std.specs.Prelude.{List, reverse}
use Rattle.std.proofs.Common.{subst}
use Rattle.cube_rules.specs.declared.Step.{Step}
use Rattle.lose_system.proofs.Tabled.{IfOk_with}
use Rattle.clause_search.specs.Searching.{with_open}
use Rattle.clause_search.specs.Stacked.{Begins}
use Rattle.clause_search.proofs.Parting.{and_in}
use Rattle.clause_search.proofs.Answering.{forked, all_apart, early_found, early_nothing}
use Rattle.clause_search.proofs.Stacking.{opened, answered}
use Rattle.clause_search.proofs.plain.open.Goals as goal

pub whole-requires-clause-kept : goal.whole-requires-clause-kept
whole-requires-clause-kept g c =
    let k = all_apart g.D.Domain.SORT c.args.system.now c.args.goal c.expand.new.goal c.args.lines.now c.expand.new.lines c.in_ok-part.field-0 c.in_default.is c.in_ok-part.ensures in k.1

pub whole-requires-clause-apart : goal.whole-requires-clause-apart
whole-requires-clause-apart g c =
    let k = all_apart g.D.Domain.SORT c.args.system.now c.args.goal c.expand.new.goal c.args.lines.now c.expand.new.lines c.in_ok-part.field-0 c.in_default.is c.in_ok-part.ensures in k.2

pub whole-requires-clause-paths : goal.whole-requires-clause-paths
whole-requires-clause-paths g c =
    let k = all_apart g.D.Domain.SORT c.args.system.now c.args.goal c.expand.new.goal c.args.lines.now c.expand.new.lines c.in_ok-part.field-0 c.in_default.is c.in_ok-part.ensures in k.3

pub returns-in_default : goal.returns-in_default
returns-in_default g c =
    let k = all_apart g.D.Domain.SORT c.args.system.now c.args.goal c.expand.new.goal c.args.lines.now c.expand.new.lines c.in_ok-part.field-0 c.in_default.is c.in_ok-part.ensures in
    answered g.D.Domain.SORT c.args.system.now (reverse c.args.splits.now) c.args.goal c.expand.new.goal c.args.lines.now c.expand.new.lines c.whole.new.lines c.in_ok-found.found k.0 c.in_ok-found.ensures

pub early-requires : goal.early-requires
early-requires g c =
    let k = forked g.D.Domain.SORT c.args.system.now c.args.goal c.expand.new.goal c.args.lines.now c.expand.new.lines c.in_ok-part.field-0 c.in-Some.part c.in-Some.is c.in_ok-part.ensures in k.1

pub returns-in-Some-2 : goal.returns-in-Some-2
returns-in-Some-2 g c =
    let k = forked g.D.Domain.SORT c.args.system.now c.args.goal c.expand.new.goal c.args.lines.now c.expand.new.lines c.in_ok-part.field-0 c.in-Some.part c.in-Some.is c.in_ok-part.ensures in
    answered g.D.Domain.SORT c.args.system.now (reverse c.args.splits.now) c.args.goal (with_open c.expand.new.goal c.in-Some.part) c.args.lines.now c.expand.new.lines c.early.new.lines c.in-Some-2.found k.0
    (early_found g.D.Domain.SORT c.args.system.now c.expand.new.goal c.in-Some.part c.expand.new.lines c.early.new.lines c.in_ok-found-2.field-0 c.in-Some-2.found c.in-Some-2.is c.in_ok-found-2.ensures)

pub begin-requires : goal.begin-requires
begin-requires g c = and_in c.in-Some.part.matrix.now c.in-And.parts c.as_slice.result.now c.in-And.is c.as_slice.ensures

pub unreachable-requires : goal.unreachable-requires
unreachable-requires g c =
    let k = forked g.D.Domain.SORT c.args.system.now c.args.goal c.expand.new.goal c.args.lines.now c.expand.new.lines c.in_ok-part.field-0 c.in-Some.part c.in-Some.is c.in_ok-part.ensures in
    c.in_default-matrix.not-And k.3.parts k.3.is

pub returns : goal.returns
returns g c =
    let s = g.D.Domain.SORT in
    let k = forked s c.args.system.now c.args.goal c.expand.new.goal c.args.lines.now c.expand.new.lines c.in_ok-part.field-0 c.in-Some.part c.in-Some.is c.in_ok-part.ensures in
    let same = early_nothing s c.args.system.now c.expand.new.goal c.in-Some.part c.expand.new.lines c.early.new.lines c.in_ok-found-2.field-0 c.in_default-2.is c.in_ok-found-2.ensures in
    let begun = subst (λ (ls : List Step). Begins s c.expand.new.goal c.in-Some.part ls c.begin.new.lines c.in_ok-split-in-And.split) same c.in_ok-split-in-And.ensures in
    IfOk_with c.advance.result
    (λ z a. opened s c.args.system.now (reverse c.args.splits.now) (reverse c.advance.new.splits) c.args.goal c.expand.new.goal c.in-Some.part c.args.lines.now c.expand.new.lines c.begin.new.lines c.in_ok-split-in-And.split z k.0 k.1 k.2 begun a)
    c.advance.ensures
