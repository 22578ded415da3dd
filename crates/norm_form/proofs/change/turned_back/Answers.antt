use Rattle.std.proofs.Common.{ap, subst, sym, ◌∙◌, [], ◌∷◌, ◌++◌}
use Rattle.std.specs.Prelude.{List}
use Rattle.norm_form.specs.declared.branches.Case.{Case}
use Rattle.norm_form.specs.Cases.{changed}
use Rattle.norm_form.proofs.Running.{GoesOn, goes_form, goes_choice, goes_quotient, goes_stop}
use Rattle.norm_form.proofs.change.turned_back.Goals as goal

pub returns-in-Err : goal.returns-in-Err
returns-in-Err c =
    goes_stop (λ k. changed c.args.change.now c.args.sort k) c.args.cases c.loop-case.todo c.pop.new.self c.loop-case.out c.in-Form.level c.in-Form.x c.in-Err.fault c.loop-case.invariant
    (c.in-Some.ensures ∙ ap (λ (z : Case). c.pop.new.self ++ z ∷ []) c.in-Form.is) c.in-Err.ensures

pub loop-case-preserved-in-Continue-1 : goal.loop-case-preserved-in-Continue-1
loop-case-preserved-in-Continue-1 c =
    subst (λ (o : List Case). GoesOn (λ k. changed c.args.change.now c.args.sort k) c.args.cases c.pop.new.self o) (sym c.in_ok-append-in-Form.ensures)
    (goes_form (λ k. changed c.args.change.now c.args.sort k) c.args.cases c.loop-case.todo c.pop.new.self c.loop-case.out c.in-Ok.more c.in-Form.level c.in-Form.x c.loop-case.invariant
    (c.in-Some.ensures ∙ ap (λ (z : Case). c.pop.new.self ++ z ∷ []) c.in-Form.is) c.in-Ok.ensures)

pub loop-case-preserved-in-Continue-branch-2 : goal.loop-case-preserved-in-Continue-branch-2
loop-case-preserved-in-Continue-branch-2 c =
    subst (λ (o : List Case). GoesOn (λ k. changed c.args.change.now c.args.sort k) c.args.cases c.pop.new.self o) (sym c.in_ok-push-in-Choice.ensures.ok)
    (goes_choice (λ k. changed c.args.change.now c.args.sort k) c.args.cases c.loop-case.todo c.pop.new.self c.loop-case.out c.in-Choice.test c.in-Choice.untest c.loop-case.invariant
    (c.in-Some.ensures ∙ ap (λ (z : Case). c.pop.new.self ++ z ∷ []) c.in-Choice.is))

pub loop-case-preserved : goal.loop-case-preserved
loop-case-preserved c =
    subst (λ (o : List Case). GoesOn (λ k. changed c.args.change.now c.args.sort k) c.args.cases c.pop.new.self o) (sym c.in_ok-push-in-Quotient.ensures.ok)
    (goes_quotient (λ k. changed c.args.change.now c.args.sort k) c.args.cases c.loop-case.todo c.pop.new.self c.loop-case.out c.in-Quotient.low c.in-Quotient.high c.loop-case.invariant
    (c.in-Some.ensures ∙ ap (λ (z : Case). c.pop.new.self ++ z ∷ []) c.in-Quotient.is))
