use Rattle.std.proofs.Common.{ap, ◌∙◌, sym, [], ◌∷◌, ◌++◌, take}
use Rattle.std.proofs.lemmas.List.{take_more}
use Rattle.norm_form.specs.declared.branches.Case.{Case}
use Rattle.norm_form.specs.Cases.{joined}
use Rattle.norm_form.proofs.Running.{both_more, both_stop, both_end}
use Rattle.norm_form.proofs.change.joined_each.Goals as goal

pub returns-in-Err : goal.returns-in-Err
returns-in-Err c =
    both_stop (joined c.args.step c.args.x.now) c.args.cases.now c.loop-case.case-index c.case-item.result c.in-Err.fault
    (take_more c.args.cases.now c.loop-case.case-index c.case-item.result c.loop-case-test.true ∙ ap (λ (z : Case). take c.loop-case.case-index c.args.cases.now ++ z ∷ []) (sym c.case-item.is)) c.in-Err.ensures

pub loop-case-preserved : goal.loop-case-preserved
loop-case-preserved c =
    both_more (joined c.args.step c.args.x.now) c.args.cases.now c.loop-case.out c.in-Ok.more c.append.new.self c.loop-case.case-index c.case-item.result c.loop-case.invariant
    (take_more c.args.cases.now c.loop-case.case-index c.case-item.result c.loop-case-test.true ∙ ap (λ (z : Case). take c.loop-case.case-index c.args.cases.now ++ z ∷ []) (sym c.case-item.is)) c.in_ok-append-in-Ok.ensures c.in-Ok.ensures

pub returns : goal.returns
returns c = both_end (joined c.args.step c.args.x.now) c.args.cases.now c.loop-case.out c.loop-case.case-index c.loop-case.invariant c.loop-case-test.false
