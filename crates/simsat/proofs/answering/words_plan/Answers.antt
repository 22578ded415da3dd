use Rattle.std.proofs.Common.{Option, sym, subst}
use Rattle.solve_words.specs.Words.{Asking}
use Rattle.simsat.specs.Plan.{PlansWords}
use Rattle.simsat.proofs.Fitting.{asked_fits, asked_is}
use Rattle.simsat.proofs.Planned.{never_generated, nothing_counted}
use Rattle.simsat.proofs.answering.words_plan.Goals as goal

pub script_plan-requires : goal.script_plan-requires
script_plan-requires g c =
    let x = c.in-Ok-Some-Solve in
    record { few = (asked_fits _ _ (asked_is x.field-0 x.field-0-0 _ _ x.field-0-is x.field-0-0-is x.ensures)).0 }

pub generated_plan-requires-clause-few : goal.generated_plan-requires-clause-few
generated_plan-requires-clause-few g c =
    let x = c.in-Ok-Some-Generate in
    (asked_fits _ _ (asked_is x.field-0 x.field-0-0 _ _ x.field-0-is x.field-0-0-is x.ensures)).1

pub generated_plan-requires-clause-size : goal.generated_plan-requires-clause-size
generated_plan-requires-clause-size g c =
    let x = c.in-Ok-Some-Generate in
    (asked_fits _ _ (asked_is x.field-0 x.field-0-0 _ _ x.field-0-is x.field-0-0-is x.ensures)).0

pub returns-in-Ok-Some-Generate-clause-plan : goal.returns-in-Ok-Some-Generate-clause-plan
returns-in-Ok-Some-Generate-clause-plan g c =
    let x = c.in-Ok-Some-Generate in
    subst (λ (a : Option Asking). PlansWords (g.S.Shelf.files c.args.shelf.now) a c.generated_plan.result) (sym (asked_is x.field-0 x.field-0-0 _ _ x.field-0-is x.field-0-0-is x.ensures))
    (c.generated_plan.ensures (g.S.Shelf.files c.args.shelf.now))

pub returns-in-Ok-Some-Generate-clause-counts : goal.returns-in-Ok-Some-Generate-clause-counts
returns-in-Ok-Some-Generate-clause-counts g c =
    nothing_counted _ (g.S.Shelf.faults c.args.shelf.now) _
    (never_generated (g.S.Shelf.files c.args.shelf.now) c.in-Ok-Some-Generate.size c.in-Ok-Some-Generate.rounds c.generated_plan.result (c.generated_plan.ensures (g.S.Shelf.files c.args.shelf.now)))
