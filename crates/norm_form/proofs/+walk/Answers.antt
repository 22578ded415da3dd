use Rattle.std.proofs.lemmas.List.{take_more}
use Rattle.std.proofs.Common.{take, ◌+◌, ◌∙◌, ap, sym, subst, arith, drop, length, List, ℕ, refl, [], ◌∷◌, ◌++◌}
use Rattle.std.specs.Prelude.{true, false, Option, Some, Ok, not, map}
use Rattle.lin_truth.specs.declared.Term.{Term as Written}
use Rattle.lin_truth.specs.Term.{Term, Terms, term_and}
use Rattle.lin_truth.specs.Truth.{is_formula}
use Rattle.lin_truth.specs.Value.{zero_value}
use Rattle.lin_truth.specs.View.{tree_of, trees_of}
use Rattle.lin_form.specs.declared.Bound.{Bound}
use Rattle.lin_form.specs.Lin.{lin_constant, lin_plus, lin_times}
use Rattle.lin_form.specs.Direct.{direct, made}
use Rattle.lin_form.specs.Low.{as_lin, low, steps}
use Rattle.lin_form.specs.Scope.{bound_sort}
use Rattle.lin_form.proofs.Trees.{trees_more, trees_all, tree-Negative, tree-Abs, tree-Minus, tree-Quotient, tree-Div, tree-Mod, tree-Ite, tree-Plus, tree-Times, tree-Divisible, tree-Less, tree-AtMost, tree-Greater, tree-AtLeast, tree-Equal, tree-Xor, tree-Implies}
use Rattle.norm_form.specs.declared.branches.Case.{Case}
use Rattle.norm_form.specs.declared.change.Step.TheVariants as step_kinds
use Rattle.norm_form.specs.Cap.{capped_maker}
use Rattle.norm_form.specs.Cases.{AreCases, AreBack, AreBothBack, joined}
use Rattle.norm_form.specs.Norm.{gnorm, glin, gbind}
use Rattle.norm_form.specs.Normal.{Normal}
use Rattle.norm_form.specs.Pairing.{other_part, test_part, paired_form}
use Rattle.norm_form.specs.View.{IsBuilt}
use Rattle.norm_form.specs.Walk.{all_bound, wrapped}
use Rattle.norm_form.proofs.Choices.{other_else, test_else}
use Rattle.norm_form.proofs.Claiming.{built_same}
use Rattle.norm_form.proofs.Running.{GoesOn, goes_form, goes_choice, goes_quotient, goes_stop, turned_cases, cases_stop, both_back_cases, both_back_stop, both_more, both_stop, both_end, turned_form}
use Rattle.norm_form.proofs.Walking.{SumStands, ProductStands, PartsStand, Stepping, sum_more, sum_stops, product_more, product_stops, parts_more, parts_stop, parts_end, direct_cases, negative_cases, absolute_cases, minus_cases, quotient_cases, div_cases, mod_cases, plus_cases, times_cases, ite_cases, equal_number, equal_truth}
use Rattle.norm_form.proofs.Wrapping.{bind_is}
use Rattle.norm_form.proofs.+walk.Goals as goal

pub number::number-returns-then-is_direct : goal.number::number-returns-then-is_direct
number::number-returns-then-is_direct t c =
    direct_cases (tree_of c.args.term.now) c.args.sort c.args.ctx.now c.args.level c.leaf_cases.result (sym c.if-is_direct.ensures)
    (c.leaf_cases.ensures (made (tree_of c.args.term.now) c.args.ctx.now) (direct (tree_of c.args.term.now) c.args.ctx.now) c.direct_form.ensures)

pub number::number-returns-in-Negative : goal.number::number-returns-in-Negative
number::number-returns-in-Negative t c =
    negative_cases (tree_of c.args.term.now) (tree_of c.get.result.now) c.args.sort c.args.ctx.now c.args.level c.turned.result (tree-Negative c.get.result.now c.in-Negative.t c.args.term.now c.get.ensures c.in-Negative.is) (sym c.if-is_direct.ensures)
    (c.turned.ensures (λ k. glin capped_maker (tree_of c.get.result.now) c.args.sort c.args.ctx.now c.args.level k) c.number-x.ensures)

pub number::number-returns-in-Abs : goal.number::number-returns-in-Abs
number::number-returns-in-Abs t c =
    absolute_cases (tree_of c.args.term.now) (tree_of c.get-in-Abs.result.now) c.args.sort c.args.ctx.now c.args.level c.turned-in-Abs.result (tree-Abs c.get-in-Abs.result.now c.in-Abs.t c.args.term.now c.get-in-Abs.ensures c.in-Abs.is) (sym c.if-is_direct.ensures)
    (c.turned-in-Abs.ensures (λ k. glin capped_maker (tree_of c.get-in-Abs.result.now) c.args.sort c.args.ctx.now c.args.level k) c.number-x-in-Abs.ensures)

pub number::number-returns-in-Minus : goal.number::number-returns-in-Minus
number::number-returns-in-Minus t c =
    minus_cases (tree_of c.args.term.now) (tree_of c.get-in-Minus.result.now) (tree_of c.get-in-Minus-2.result.now) c.args.sort c.args.ctx.now c.args.level c.second.result (tree-Minus c.get-in-Minus.result.now c.get-in-Minus-2.result.now c.in-Minus.a c.in-Minus.b c.args.term.now c.get-in-Minus.ensures c.get-in-Minus-2.ensures c.in-Minus.is) (sym c.if-is_direct.ensures)
    (c.second.ensures (λ k. glin capped_maker (tree_of c.get-in-Minus.result.now) c.args.sort c.args.ctx.now c.args.level k) c.number-x-in-Minus.ensures)

pub number::number-returns-in-Quotient : goal.number::number-returns-in-Quotient
number::number-returns-in-Quotient t c =
    quotient_cases (tree_of c.args.term.now) (tree_of c.get-in-Quotient.result.now) (tree_of c.get-in-Quotient-2.result.now) c.args.sort c.args.ctx.now c.args.level c.divided_cases.result (tree-Quotient c.get-in-Quotient.result.now c.get-in-Quotient-2.result.now c.in-Quotient.a c.in-Quotient.b c.args.term.now c.get-in-Quotient.ensures c.get-in-Quotient-2.ensures c.in-Quotient.is) (sym c.if-is_direct.ensures)
    (c.divided_cases.ensures (λ k. glin capped_maker (tree_of c.get-in-Quotient.result.now) c.args.sort c.args.ctx.now c.args.level k) (steps (tree_of c.get-in-Quotient-2.result.now)) (as_lin (low (tree_of c.get-in-Quotient-2.result.now))) c.number-x-in-Quotient.ensures c.constant_form-by.ensures)

pub number::number-returns-in-Div : goal.number::number-returns-in-Div
number::number-returns-in-Div t c =
    div_cases (tree_of c.args.term.now) (tree_of c.get-in-Div.result.now) (tree_of c.get-in-Div-2.result.now) c.args.sort c.args.ctx.now c.args.level c.divided_cases-in-Div.result (tree-Div c.get-in-Div.result.now c.get-in-Div-2.result.now c.in-Div.a c.in-Div.b c.args.term.now c.get-in-Div.ensures c.get-in-Div-2.ensures c.in-Div.is) (sym c.if-is_direct.ensures)
    (c.divided_cases-in-Div.ensures (λ k. glin capped_maker (tree_of c.get-in-Div.result.now) c.args.sort c.args.ctx.now c.args.level k) (steps (tree_of c.get-in-Div-2.result.now)) (as_lin (low (tree_of c.get-in-Div-2.result.now))) c.number-x-in-Div.ensures c.constant_form-by-in-Div.ensures)

pub number::number-returns-in-Mod : goal.number::number-returns-in-Mod
number::number-returns-in-Mod t c =
    mod_cases (tree_of c.args.term.now) (tree_of c.get-in-Mod.result.now) (tree_of c.get-in-Mod-2.result.now) c.args.sort c.args.ctx.now c.args.level c.divided_cases-in-Mod.result (tree-Mod c.get-in-Mod.result.now c.get-in-Mod-2.result.now c.in-Mod.a c.in-Mod.b c.args.term.now c.get-in-Mod.ensures c.get-in-Mod-2.ensures c.in-Mod.is) (sym c.if-is_direct.ensures)
    (c.divided_cases-in-Mod.ensures (λ k. glin capped_maker (tree_of c.get-in-Mod.result.now) c.args.sort c.args.ctx.now c.args.level k) (steps (tree_of c.get-in-Mod-2.result.now)) (as_lin (low (tree_of c.get-in-Mod-2.result.now))) c.number-x-in-Mod.ensures c.constant_form-by-in-Mod.ensures)

pub number::number-returns-in-Ite : goal.number::number-returns-in-Ite
number::number-returns-in-Ite t c =
    ite_cases (tree_of c.args.term.now) (tree_of c.in-Ite.field-0) (tree_of c.get-in-Ite.result.now) (tree_of c.in-Ite.field-2) c.args.sort c.args.ctx.now c.args.level c.chosen.result
    (tree-Ite c.in-Ite.field-0 c.get-in-Ite.result.now c.in-Ite.field-2 c.in-Ite.field-0 c.in-Ite.a c.in-Ite.field-2 c.args.term.now refl c.get-in-Ite.ensures refl c.in-Ite.is)
    (c.chosen.ensures (λ k. glin capped_maker (tree_of c.get-in-Ite.result.now) c.args.sort c.args.ctx.now c.args.level k) c.number-x-in-Ite.ensures)

pub number::number-returns-in-Plus : goal.number::number-returns-in-Plus
number::number-returns-in-Plus t c =
    plus_cases (tree_of c.args.term.now) (trees_of c.as_slice.result.now) c.args.sort c.args.ctx.now c.args.level c.sum.result (tree-Plus c.as_slice.result.now c.in-Plus.ts c.args.term.now c.as_slice.ensures c.in-Plus.is) (sym c.if-is_direct.ensures) c.sum.ensures

pub number::number-returns-in-Times : goal.number::number-returns-in-Times
number::number-returns-in-Times t c =
    times_cases (tree_of c.args.term.now) (trees_of c.as_slice-in-Times.result.now) c.args.sort c.args.ctx.now c.args.level c.product.result (tree-Times c.as_slice-in-Times.result.now c.in-Times.ts c.args.term.now c.as_slice-in-Times.ensures c.in-Times.is) (sym c.if-is_direct.ensures) c.product.ensures

pub number::second-returns-in-Ok : goal.number::second-returns-in-Ok
number::second-returns-in-Ok t c = λ g h.
    turned_cases (λ k e x. glin capped_maker (tree_of c.args.b.now) c.args.sort c.args.ctx.now e (joined c.args.step x k)) g c.in-Ok.cases c.righted.result (subst (λ r. AreCases g r) c.in-Ok.is h) (c.righted.ensures (λ k e x. glin capped_maker (tree_of c.args.b.now) c.args.sort c.args.ctx.now e (joined c.args.step x k)) c.in-Ok.cases c.second_each.ensures)

pub number::second-returns-in-Err : goal.number::second-returns-in-Err
number::second-returns-in-Err t c = λ g h. cases_stop (λ k e x. glin capped_maker (tree_of c.args.b.now) c.args.sort c.args.ctx.now e (joined c.args.step x k)) g c.in-Err.fault (subst (λ r. AreCases g r) c.in-Err.is h)

pub number::chosen-returns-in-Ok : goal.number::chosen-returns-in-Ok
number::chosen-returns-in-Ok t c = λ g h.
    turned_cases (λ k e x. glin capped_maker (other_part (tree_of c.args.term.now)) c.args.sort c.args.ctx.now e (paired_form (tree_of c.args.term.now) c.args.sort c.args.ctx.now x k)) g c.in-Ok.cases c.righted.result (subst (λ r. AreCases g r) c.in-Ok.is h) (c.righted.ensures (λ k e x. glin capped_maker (other_part (tree_of c.args.term.now)) c.args.sort c.args.ctx.now e (paired_form (tree_of c.args.term.now) c.args.sort c.args.ctx.now x k)) c.in-Ok.cases c.chosen_each.ensures)

pub number::chosen-returns-in-Err : goal.number::chosen-returns-in-Err
number::chosen-returns-in-Err t c = λ g h. cases_stop (λ k e x. glin capped_maker (other_part (tree_of c.args.term.now)) c.args.sort c.args.ctx.now e (paired_form (tree_of c.args.term.now) c.args.sort c.args.ctx.now x k)) g c.in-Err.fault (subst (λ r. AreCases g r) c.in-Err.is h)

pub number::paired-returns-in-Ok : goal.number::paired-returns-in-Ok
number::paired-returns-in-Ok t c = λ e g h. both_back_cases (paired_form (tree_of c.args.term.now) c.args.sort c.args.ctx.now c.args.x.now) g c.in-Ok.cases c.paired_each.result (subst (λ r. AreBack g r) c.in-Ok.is h) (subst (λ (cs : List Case). AreBothBack (paired_form (tree_of c.args.term.now) c.args.sort c.args.ctx.now c.args.x.now) cs c.paired_each.result) c.as_slice.ensures (c.paired_each.ensures e))

pub number::paired-returns-in-Err : goal.number::paired-returns-in-Err
number::paired-returns-in-Err t c = λ e g h. both_back_stop (paired_form (tree_of c.args.term.now) c.args.sort c.args.ctx.now c.args.x.now) g c.in-Err.fault (subst (λ r. AreBack g r) c.in-Err.is h)

pub number::second_over-returns-in-Err : goal.number::second_over-returns-in-Err
number::second_over-returns-in-Err t c = λ h.
    goes_stop (λ k e x. glin capped_maker (tree_of c.args.b.now) c.args.sort c.args.ctx.now e (joined c.args.step x k)) c.args.cases c.loop-case.todo c.pop.new.self c.loop-case.out c.in-Form.level c.in-Form.x c.in-Err.fault (c.loop-case.invariant h)
    (c.in-Some.ensures ∙ ap (λ (z : Case). c.pop.new.self ++ z ∷ []) c.in-Form.is) (c.in-Err.ensures h)

pub number::second_over-loop-case-preserved-in_ok-append-in-Form : goal.number::second_over-loop-case-preserved-in_ok-append-in-Form
number::second_over-loop-case-preserved-in_ok-append-in-Form t c = λ h.
    subst (λ (o : List Case). GoesOn (λ k e x. glin capped_maker (tree_of c.args.b.now) c.args.sort c.args.ctx.now e (joined c.args.step x k)) c.args.cases c.pop.new.self o) (sym c.in_ok-append-in-Form.ensures)
    (goes_form (λ k e x. glin capped_maker (tree_of c.args.b.now) c.args.sort c.args.ctx.now e (joined c.args.step x k)) c.args.cases c.loop-case.todo c.pop.new.self c.loop-case.out c.in-Ok.more c.in-Form.level c.in-Form.x (c.loop-case.invariant h)
    (c.in-Some.ensures ∙ ap (λ (z : Case). c.pop.new.self ++ z ∷ []) c.in-Form.is) (c.in-Ok.ensures h))

pub number::second_over-loop-case-preserved-in_ok-append-in-Form-2 : goal.number::second_over-loop-case-preserved-in_ok-append-in-Form-2
number::second_over-loop-case-preserved-in_ok-append-in-Form-2 t c = λ h.
    subst (λ (o : List Case). GoesOn (λ k e x. glin capped_maker (tree_of c.args.b.now) c.args.sort c.args.ctx.now e (joined c.args.step x k)) c.args.cases c.pop.new.self o) (sym c.in_ok-append-in-Form.ensures)
    (goes_form (λ k e x. glin capped_maker (tree_of c.args.b.now) c.args.sort c.args.ctx.now e (joined c.args.step x k)) c.args.cases c.loop-case.todo c.pop.new.self c.loop-case.out c.in-Ok.more c.in-Form.level c.in-Form.x (c.loop-case.invariant h)
    (c.in-Some.ensures ∙ ap (λ (z : Case). c.pop.new.self ++ z ∷ []) c.in-Form.is) (c.in-Ok.ensures h))

pub number::second_over-loop-case-preserved-in-Continue-branch-2 : goal.number::second_over-loop-case-preserved-in-Continue-branch-2
number::second_over-loop-case-preserved-in-Continue-branch-2 t c = λ h.
    subst (λ (o : List Case). GoesOn (λ k e x. glin capped_maker (tree_of c.args.b.now) c.args.sort c.args.ctx.now e (joined c.args.step x k)) c.args.cases c.pop.new.self o) (sym c.in_ok-push-in-Choice.ensures.ok)
    (goes_choice (λ k e x. glin capped_maker (tree_of c.args.b.now) c.args.sort c.args.ctx.now e (joined c.args.step x k)) c.args.cases c.loop-case.todo c.pop.new.self c.loop-case.out c.in-Choice.test c.in-Choice.untest (c.loop-case.invariant h)
    (c.in-Some.ensures ∙ ap (λ (z : Case). c.pop.new.self ++ z ∷ []) c.in-Choice.is))

pub number::second_over-loop-case-preserved : goal.number::second_over-loop-case-preserved
number::second_over-loop-case-preserved t c = λ h.
    subst (λ (o : List Case). GoesOn (λ k e x. glin capped_maker (tree_of c.args.b.now) c.args.sort c.args.ctx.now e (joined c.args.step x k)) c.args.cases c.pop.new.self o) (sym c.in_ok-push-in-Quotient.ensures.ok)
    (goes_quotient (λ k e x. glin capped_maker (tree_of c.args.b.now) c.args.sort c.args.ctx.now e (joined c.args.step x k)) c.args.cases c.loop-case.todo c.pop.new.self c.loop-case.out c.in-Quotient.low c.in-Quotient.high (c.loop-case.invariant h)
    (c.in-Some.ensures ∙ ap (λ (z : Case). c.pop.new.self ++ z ∷ []) c.in-Quotient.is))

pub number::chosen_over-returns-in-Err : goal.number::chosen_over-returns-in-Err
number::chosen_over-returns-in-Err t c = λ u h.
    goes_stop (λ k e x. glin capped_maker (other_part (tree_of c.args.term.now)) c.args.sort c.args.ctx.now e (paired_form (tree_of c.args.term.now) c.args.sort c.args.ctx.now x k)) c.args.cases c.loop-case.todo c.pop.new.self c.loop-case.out c.in-Form.level c.in-Form.x c.in-Err.fault (c.loop-case.invariant u h)
    (c.in-Some.ensures ∙ ap (λ (z : Case). c.pop.new.self ++ z ∷ []) c.in-Form.is) (c.in-Err.ensures u h)

pub number::chosen_over-loop-case-preserved-in_ok-append-in-Form : goal.number::chosen_over-loop-case-preserved-in_ok-append-in-Form
number::chosen_over-loop-case-preserved-in_ok-append-in-Form t c = λ u h.
    subst (λ (o : List Case). GoesOn (λ k e x. glin capped_maker (other_part (tree_of c.args.term.now)) c.args.sort c.args.ctx.now e (paired_form (tree_of c.args.term.now) c.args.sort c.args.ctx.now x k)) c.args.cases c.pop.new.self o) (sym c.in_ok-append-in-Form.ensures)
    (goes_form (λ k e x. glin capped_maker (other_part (tree_of c.args.term.now)) c.args.sort c.args.ctx.now e (paired_form (tree_of c.args.term.now) c.args.sort c.args.ctx.now x k)) c.args.cases c.loop-case.todo c.pop.new.self c.loop-case.out c.in-Ok.more c.in-Form.level c.in-Form.x (c.loop-case.invariant u h)
    (c.in-Some.ensures ∙ ap (λ (z : Case). c.pop.new.self ++ z ∷ []) c.in-Form.is) (c.in-Ok.ensures u h))

pub number::chosen_over-loop-case-preserved-in_ok-append-in-Form-2 : goal.number::chosen_over-loop-case-preserved-in_ok-append-in-Form-2
number::chosen_over-loop-case-preserved-in_ok-append-in-Form-2 t c = λ u h.
    subst (λ (o : List Case). GoesOn (λ k e x. glin capped_maker (other_part (tree_of c.args.term.now)) c.args.sort c.args.ctx.now e (paired_form (tree_of c.args.term.now) c.args.sort c.args.ctx.now x k)) c.args.cases c.pop.new.self o) (sym c.in_ok-append-in-Form.ensures)
    (goes_form (λ k e x. glin capped_maker (other_part (tree_of c.args.term.now)) c.args.sort c.args.ctx.now e (paired_form (tree_of c.args.term.now) c.args.sort c.args.ctx.now x k)) c.args.cases c.loop-case.todo c.pop.new.self c.loop-case.out c.in-Ok.more c.in-Form.level c.in-Form.x (c.loop-case.invariant u h)
    (c.in-Some.ensures ∙ ap (λ (z : Case). c.pop.new.self ++ z ∷ []) c.in-Form.is) (c.in-Ok.ensures u h))

pub number::chosen_over-loop-case-preserved-in-Continue-branch-2 : goal.number::chosen_over-loop-case-preserved-in-Continue-branch-2
number::chosen_over-loop-case-preserved-in-Continue-branch-2 t c = λ u h.
    subst (λ (o : List Case). GoesOn (λ k e x. glin capped_maker (other_part (tree_of c.args.term.now)) c.args.sort c.args.ctx.now e (paired_form (tree_of c.args.term.now) c.args.sort c.args.ctx.now x k)) c.args.cases c.pop.new.self o) (sym c.in_ok-push-in-Choice.ensures.ok)
    (goes_choice (λ k e x. glin capped_maker (other_part (tree_of c.args.term.now)) c.args.sort c.args.ctx.now e (paired_form (tree_of c.args.term.now) c.args.sort c.args.ctx.now x k)) c.args.cases c.loop-case.todo c.pop.new.self c.loop-case.out c.in-Choice.test c.in-Choice.untest (c.loop-case.invariant u h)
    (c.in-Some.ensures ∙ ap (λ (z : Case). c.pop.new.self ++ z ∷ []) c.in-Choice.is))

pub number::chosen_over-loop-case-preserved : goal.number::chosen_over-loop-case-preserved
number::chosen_over-loop-case-preserved t c = λ u h.
    subst (λ (o : List Case). GoesOn (λ k e x. glin capped_maker (other_part (tree_of c.args.term.now)) c.args.sort c.args.ctx.now e (paired_form (tree_of c.args.term.now) c.args.sort c.args.ctx.now x k)) c.args.cases c.pop.new.self o) (sym c.in_ok-push-in-Quotient.ensures.ok)
    (goes_quotient (λ k e x. glin capped_maker (other_part (tree_of c.args.term.now)) c.args.sort c.args.ctx.now e (paired_form (tree_of c.args.term.now) c.args.sort c.args.ctx.now x k)) c.args.cases c.loop-case.todo c.pop.new.self c.loop-case.out c.in-Quotient.low c.in-Quotient.high (c.loop-case.invariant u h)
    (c.in-Some.ensures ∙ ap (λ (z : Case). c.pop.new.self ++ z ∷ []) c.in-Quotient.is))

pub number::second_each-returns : goal.number::second_each-returns
number::second_each-returns t c =
    c.second_over.ensures (c.turned_round-ys.ensures (λ k. glin capped_maker (tree_of c.args.b.now) c.args.sort c.args.ctx.now c.level_in-known.result k) c.number-worked.ensures)

pub number::chosen_each-returns : goal.number::chosen_each-returns
number::chosen_each-returns t c =
    c.chosen_over.ensures (c.test-by.ensures.yes, c.test-by.ensures.no) (c.turned_round-ys.ensures (λ k. glin capped_maker (other_part (tree_of c.args.term.now)) c.args.sort c.args.ctx.now c.level_in-known.result k) c.other-worked.ensures)

pub number::paired_each-returns-in-Err : goal.number::paired_each-returns-in-Err
number::paired_each-returns-in-Err t c = λ e.
    both_stop (paired_form (tree_of c.args.term.now) c.args.sort c.args.ctx.now c.args.x.now) c.args.cases.now c.loop-case.case-index c.case-item.result c.in-Err.fault
    (take_more c.args.cases.now c.loop-case.case-index c.case-item.result c.loop-case-test.true ∙ ap (λ (z : Case). take c.loop-case.case-index c.args.cases.now ++ z ∷ []) (sym c.case-item.is)) (c.in-Err.ensures e)

pub number::paired_each-loop-case-preserved : goal.number::paired_each-loop-case-preserved
number::paired_each-loop-case-preserved t c = λ e.
    both_more (paired_form (tree_of c.args.term.now) c.args.sort c.args.ctx.now c.args.x.now) c.args.cases.now c.loop-case.out c.in-Ok.more c.append.new.self c.loop-case.case-index c.case-item.result (c.loop-case.invariant e)
    (take_more c.args.cases.now c.loop-case.case-index c.case-item.result c.loop-case-test.true ∙ ap (λ (z : Case). take c.loop-case.case-index c.args.cases.now ++ z ∷ []) (sym c.case-item.is)) c.in_ok-append-in-Ok.ensures (c.in-Ok.ensures e)

pub number::paired_each-returns : goal.number::paired_each-returns
number::paired_each-returns t c = λ e. both_end (paired_form (tree_of c.args.term.now) c.args.sort c.args.ctx.now c.args.x.now) c.args.cases.now c.loop-case.out c.loop-case.case-index (c.loop-case.invariant e) c.loop-case-test.false

pub number::sum-loop-term-preserved : goal.number::sum-loop-term-preserved
number::sum-loop-term-preserved t c =
    sum_more c.args.sort c.args.ctx.now c.args.level (trees_of c.args.terms.now) (trees_of (drop (c.loop-term.term-index + 1) c.args.terms.now)) (tree_of c.term-item.result) c.loop-term.all c.in-Ok.all
    (subst (λ (us : Terms). SumStands c.args.sort c.args.ctx.now c.args.level (trees_of c.args.terms.now) us c.loop-term.all)
    (trees_more (λ (us : Terms). us) c.args.terms.now c.loop-term.term-index c.term-item.result (omega arith) ∙ ap (λ (w : Written). term_and (tree_of w) (trees_of (drop (c.loop-term.term-index + 1) c.args.terms.now))) (sym c.term-item.is)) c.loop-term.invariant)
    (c.in-Ok.ensures (Stepping c.args.sort c.args.ctx.now (tree_of c.term-item.result) lin_plus) c.loop-term.all c.second_each-back.ensures)

pub number::sum-returns-in-Err : goal.number::sum-returns-in-Err
number::sum-returns-in-Err t c =
    sum_stops c.args.sort c.args.ctx.now c.args.level (trees_of c.args.terms.now) (trees_of (drop (c.loop-term.term-index + 1) c.args.terms.now)) (tree_of c.term-item.result) c.loop-term.all c.in-Err.fault
    (subst (λ (us : Terms). SumStands c.args.sort c.args.ctx.now c.args.level (trees_of c.args.terms.now) us c.loop-term.all)
    (trees_more (λ (us : Terms). us) c.args.terms.now c.loop-term.term-index c.term-item.result (omega arith) ∙ ap (λ (w : Written). term_and (tree_of w) (trees_of (drop (c.loop-term.term-index + 1) c.args.terms.now))) (sym c.term-item.is)) c.loop-term.invariant)
    (c.in-Err.ensures (Stepping c.args.sort c.args.ctx.now (tree_of c.term-item.result) lin_plus) c.loop-term.all c.second_each-back.ensures)

pub number::sum-returns : goal.number::sum-returns
number::sum-returns t c =
    subst (λ (us : Terms). SumStands c.args.sort c.args.ctx.now c.args.level (trees_of c.args.terms.now) us c.loop-term.all) (trees_all (λ (us : Terms). us) c.args.terms.now c.loop-term.term-index (omega arith)) c.loop-term.invariant

pub number::product-loop-term-preserved : goal.number::product-loop-term-preserved
number::product-loop-term-preserved t c =
    product_more c.args.sort c.args.ctx.now c.args.level (trees_of c.args.terms.now) (trees_of (drop (c.loop-term.term-index + 1) c.args.terms.now)) (tree_of c.term-item.result) c.loop-term.all c.in-Ok.all
    (subst (λ (us : Terms). ProductStands c.args.sort c.args.ctx.now c.args.level (trees_of c.args.terms.now) us c.loop-term.all)
    (trees_more (λ (us : Terms). us) c.args.terms.now c.loop-term.term-index c.term-item.result (omega arith) ∙ ap (λ (w : Written). term_and (tree_of w) (trees_of (drop (c.loop-term.term-index + 1) c.args.terms.now))) (sym c.term-item.is)) c.loop-term.invariant)
    (c.in-Ok.ensures (Stepping c.args.sort c.args.ctx.now (tree_of c.term-item.result) lin_times) c.loop-term.all c.second_each-back.ensures)

pub number::product-returns-in-Err : goal.number::product-returns-in-Err
number::product-returns-in-Err t c =
    product_stops c.args.sort c.args.ctx.now c.args.level (trees_of c.args.terms.now) (trees_of (drop (c.loop-term.term-index + 1) c.args.terms.now)) (tree_of c.term-item.result) c.loop-term.all c.in-Err.fault
    (subst (λ (us : Terms). ProductStands c.args.sort c.args.ctx.now c.args.level (trees_of c.args.terms.now) us c.loop-term.all)
    (trees_more (λ (us : Terms). us) c.args.terms.now c.loop-term.term-index c.term-item.result (omega arith) ∙ ap (λ (w : Written). term_and (tree_of w) (trees_of (drop (c.loop-term.term-index + 1) c.args.terms.now))) (sym c.term-item.is)) c.loop-term.invariant)
    (c.in-Err.ensures (Stepping c.args.sort c.args.ctx.now (tree_of c.term-item.result) lin_times) c.loop-term.all c.second_each-back.ensures)

pub number::product-returns : goal.number::product-returns
number::product-returns t c =
    subst (λ (us : Terms). ProductStands c.args.sort c.args.ctx.now c.args.level (trees_of c.args.terms.now) us c.loop-term.all) (trees_all (λ (us : Terms). us) c.args.terms.now c.loop-term.term-index (omega arith)) c.loop-term.invariant

pub formula::parts-loop-term-preserved : goal.formula::parts-loop-term-preserved
formula::parts-loop-term-preserved t c =
    parts_more c.args.sort c.args.truth c.args.ctx.now c.args.level (trees_of c.args.terms.now) (trees_of (drop (c.loop-term.term-index + 1) c.args.terms.now)) (tree_of c.term-item.result) c.loop-term.made c.push.new.self c.in-Ok.part
    (subst (λ (us : Terms). PartsStand c.args.sort c.args.truth c.args.ctx.now c.args.level (trees_of c.args.terms.now) us c.loop-term.made)
    (trees_more (λ (us : Terms). us) c.args.terms.now c.loop-term.term-index c.term-item.result (omega arith) ∙ ap (λ (w : Written). term_and (tree_of w) (trees_of (drop (c.loop-term.term-index + 1) c.args.terms.now))) (sym c.term-item.is)) c.loop-term.invariant) c.in_ok-push-in-Ok.ensures.ok c.in-Ok.ensures

pub formula::parts-returns-in-Err : goal.formula::parts-returns-in-Err
formula::parts-returns-in-Err t c =
    parts_stop c.args.sort c.args.truth c.args.ctx.now c.args.level c.args.all (trees_of c.args.terms.now) (trees_of (drop (c.loop-term.term-index + 1) c.args.terms.now)) (tree_of c.term-item.result) c.loop-term.made c.in-Err.fault
    (subst (λ (us : Terms). PartsStand c.args.sort c.args.truth c.args.ctx.now c.args.level (trees_of c.args.terms.now) us c.loop-term.made)
    (trees_more (λ (us : Terms). us) c.args.terms.now c.loop-term.term-index c.term-item.result (omega arith) ∙ ap (λ (w : Written). term_and (tree_of w) (trees_of (drop (c.loop-term.term-index + 1) c.args.terms.now))) (sym c.term-item.is)) c.loop-term.invariant) c.in-Err.ensures

pub formula::parts-returns : goal.formula::parts-returns
formula::parts-returns t c =
    parts_end c.args.sort c.args.truth c.args.ctx.now c.args.level c.args.all (trees_of c.args.terms.now) c.loop-term.made c.joined.result
    (subst (λ (us : Terms). PartsStand c.args.sort c.args.truth c.args.ctx.now c.args.level (trees_of c.args.terms.now) us c.loop-term.made) (trees_all (λ (us : Terms). us) c.args.terms.now c.loop-term.term-index (omega arith)) c.loop-term.invariant) c.joined.ensures

pub formula::bound-returns : goal.formula::bound-returns
formula::bound-returns t c =
    let N : ℕ = c.args.level + length c.args.vars.now in
    let o : Option Normal = gnorm capped_maker (tree_of c.args.body.now) c.args.sort c.args.truth (all_bound c.args.ctx.now c.args.vars.now c.args.level) N in
    built_same (wrapped c.args.every (length c.args.vars.now) o) (gbind capped_maker c.args.every c.args.vars.now (λ m e. gnorm capped_maker (tree_of c.args.body.now) c.args.sort c.args.truth m e) c.args.ctx.now c.args.level) c.wrapped.result
    (sym (bind_is c.args.every c.args.vars.now (λ m e. gnorm capped_maker (tree_of c.args.body.now) c.args.sort c.args.truth m e) c.args.ctx.now c.args.level))
    (c.wrapped.ensures o (subst (λ (m : List Bound). IsBuilt (gnorm capped_maker (tree_of c.args.body.now) c.args.sort c.args.truth m N) c.formula-inner.result) (c.as_slice.ensures ∙ c.in_ok-all.ensures) c.formula-inner.ensures))

pub formula::comparison-returns-in-Divisible : goal.formula::comparison-returns-in-Divisible
formula::comparison-returns-in-Divisible t c =
    subst (λ (u : Term). IsBuilt (gnorm capped_maker u c.args.sort c.args.truth c.args.ctx.now c.args.level) c.atom.result) (sym (tree-Divisible c.in-Divisible.n c.get.result.now c.in-Divisible.t c.args.term.now c.get.ensures c.in-Divisible.is))
    (c.atom.ensures (λ k. glin capped_maker (tree_of c.get.result.now) c.args.sort c.args.ctx.now c.args.level k) c.number-x.ensures)

pub formula::comparison-returns-in-Less : goal.formula::comparison-returns-in-Less
formula::comparison-returns-in-Less t c =
    subst (λ (u : Term). IsBuilt (gnorm capped_maker u c.args.sort c.args.truth c.args.ctx.now c.args.level) c.atom-in-Less.result) (sym (tree-Less c.get-in-Less.result.now c.get-in-Less-2.result.now c.in-Less.a c.in-Less.b c.args.term.now c.get-in-Less.ensures c.get-in-Less-2.ensures c.in-Less.is))
    (c.atom-in-Less.ensures (λ k. glin capped_maker (tree_of c.get-in-Less.result.now) c.args.sort c.args.ctx.now c.args.level (λ e x. glin capped_maker (tree_of c.get-in-Less-2.result.now) c.args.sort c.args.ctx.now e (joined step_kinds.From x k))) (c.second-z.ensures (λ k. glin capped_maker (tree_of c.get-in-Less.result.now) c.args.sort c.args.ctx.now c.args.level k) c.number-x-in-Less.ensures))

pub formula::comparison-returns-in-AtMost : goal.formula::comparison-returns-in-AtMost
formula::comparison-returns-in-AtMost t c =
    subst (λ (u : Term). IsBuilt (gnorm capped_maker u c.args.sort c.args.truth c.args.ctx.now c.args.level) c.atom-in-AtMost.result) (sym (tree-AtMost c.get-in-AtMost.result.now c.get-in-AtMost-2.result.now c.in-AtMost.a c.in-AtMost.b c.args.term.now c.get-in-AtMost.ensures c.get-in-AtMost-2.ensures c.in-AtMost.is))
    (c.atom-in-AtMost.ensures (λ k. glin capped_maker (tree_of c.get-in-AtMost.result.now) c.args.sort c.args.ctx.now c.args.level (λ e x. glin capped_maker (tree_of c.get-in-AtMost-2.result.now) c.args.sort c.args.ctx.now e (joined step_kinds.From x k))) (c.second-z-in-AtMost.ensures (λ k. glin capped_maker (tree_of c.get-in-AtMost.result.now) c.args.sort c.args.ctx.now c.args.level k) c.number-x-in-AtMost.ensures))

pub formula::comparison-returns-in-Greater : goal.formula::comparison-returns-in-Greater
formula::comparison-returns-in-Greater t c =
    subst (λ (u : Term). IsBuilt (gnorm capped_maker u c.args.sort c.args.truth c.args.ctx.now c.args.level) c.atom-in-Greater.result) (sym (tree-Greater c.get-in-Greater.result.now c.get-in-Greater-2.result.now c.in-Greater.a c.in-Greater.b c.args.term.now c.get-in-Greater.ensures c.get-in-Greater-2.ensures c.in-Greater.is))
    (c.atom-in-Greater.ensures (λ k. glin capped_maker (tree_of c.get-in-Greater.result.now) c.args.sort c.args.ctx.now c.args.level (λ e x. glin capped_maker (tree_of c.get-in-Greater-2.result.now) c.args.sort c.args.ctx.now e (joined step_kinds.Minus x k))) (c.second-z-in-Greater.ensures (λ k. glin capped_maker (tree_of c.get-in-Greater.result.now) c.args.sort c.args.ctx.now c.args.level k) c.number-x-in-Greater.ensures))

pub formula::comparison-returns-in-AtLeast : goal.formula::comparison-returns-in-AtLeast
formula::comparison-returns-in-AtLeast t c =
    subst (λ (u : Term). IsBuilt (gnorm capped_maker u c.args.sort c.args.truth c.args.ctx.now c.args.level) c.atom-in-AtLeast.result) (sym (tree-AtLeast c.get-in-AtLeast.result.now c.get-in-AtLeast-2.result.now c.in-AtLeast.a c.in-AtLeast.b c.args.term.now c.get-in-AtLeast.ensures c.get-in-AtLeast-2.ensures c.in-AtLeast.is))
    (c.atom-in-AtLeast.ensures (λ k. glin capped_maker (tree_of c.get-in-AtLeast.result.now) c.args.sort c.args.ctx.now c.args.level (λ e x. glin capped_maker (tree_of c.get-in-AtLeast-2.result.now) c.args.sort c.args.ctx.now e (joined step_kinds.Minus x k))) (c.second-z-in-AtLeast.ensures (λ k. glin capped_maker (tree_of c.get-in-AtLeast.result.now) c.args.sort c.args.ctx.now c.args.level k) c.number-x-in-AtLeast.ensures))

pub formula::by_both_ways-returns-else-is_formula_in : goal.formula::by_both_ways-returns-else-is_formula_in
formula::by_both_ways-returns-else-is_formula_in t c =
    equal_number (tree_of c.args.term.now) (tree_of c.get-in-Equal.result.now) (tree_of c.get-in-Equal-2.result.now) c.args.sort c.args.truth c.args.ctx.now c.args.level c.atom.result
    (tree-Equal c.get-in-Equal.result.now c.get-in-Equal-2.result.now c.in-Equal.a c.in-Equal.b c.args.term.now c.get-in-Equal.ensures c.get-in-Equal-2.ensures c.in-Equal.is)
    (ap (λ (w : Written). is_formula (tree_of w) (map bound_sort c.args.ctx.now)) (c.get-in-Equal.ensures ∙ sym c.get.ensures) ∙ sym c.if-is_formula_in.ensures)
    (c.atom.ensures (λ k. glin capped_maker (tree_of c.get-in-Equal.result.now) c.args.sort c.args.ctx.now c.args.level (λ e x. glin capped_maker (tree_of c.get-in-Equal-2.result.now) c.args.sort c.args.ctx.now e (joined step_kinds.Minus x k)))
    (c.second-z.ensures (λ k. glin capped_maker (tree_of c.get-in-Equal.result.now) c.args.sort c.args.ctx.now c.args.level k) c.number-x.ensures))

pub formula::by_both_ways-returns-then-is_formula_in : goal.formula::by_both_ways-returns-then-is_formula_in
formula::by_both_ways-returns-then-is_formula_in t c =
    equal_truth (tree_of c.args.term.now) (tree_of c.in-Equal.a) (tree_of c.in-Equal.b) c.args.sort c.args.truth c.args.ctx.now c.args.level c.same_of.result
    (tree-Equal c.in-Equal.a c.in-Equal.b c.in-Equal.a c.in-Equal.b c.args.term.now refl refl c.in-Equal.is)
    (ap (λ (w : Written). is_formula (tree_of w) (map bound_sort c.args.ctx.now)) (sym c.get.ensures) ∙ sym c.if-is_formula_in.ensures)
    (c.same_of.ensures (gnorm capped_maker (tree_of c.in-Equal.a) c.args.sort true c.args.ctx.now c.args.level) (gnorm capped_maker (tree_of c.in-Equal.a) c.args.sort false c.args.ctx.now c.args.level) (gnorm capped_maker (tree_of c.in-Equal.b) c.args.sort true c.args.ctx.now c.args.level) (gnorm capped_maker (tree_of c.in-Equal.b) c.args.sort false c.args.ctx.now c.args.level)
    (subst (λ (w : Written). IsBuilt (gnorm capped_maker (tree_of w) c.args.sort true c.args.ctx.now c.args.level) c.both_ways-x.result.yes) c.get-then-is_formula_in.ensures c.both_ways-x.ensures.yes)
    (subst (λ (w : Written). IsBuilt (gnorm capped_maker (tree_of w) c.args.sort false c.args.ctx.now c.args.level) c.both_ways-x.result.no) c.get-then-is_formula_in.ensures c.both_ways-x.ensures.no)
    (subst (λ (w : Written). IsBuilt (gnorm capped_maker (tree_of w) c.args.sort true c.args.ctx.now c.args.level) c.both_ways-y.result.yes) c.get-then-is_formula_in-2.ensures c.both_ways-y.ensures.yes)
    (subst (λ (w : Written). IsBuilt (gnorm capped_maker (tree_of w) c.args.sort false c.args.ctx.now c.args.level) c.both_ways-y.result.no) c.get-then-is_formula_in-2.ensures c.both_ways-y.ensures.no))

pub formula::by_both_ways-returns-in-Xor : goal.formula::by_both_ways-returns-in-Xor
formula::by_both_ways-returns-in-Xor t c =
    subst (λ (u : Term). IsBuilt (gnorm capped_maker u c.args.sort c.args.truth c.args.ctx.now c.args.level) c.same_of-in-Xor.result) (sym (tree-Xor c.in-Xor.a c.in-Xor.b c.in-Xor.a c.in-Xor.b c.args.term.now refl refl c.in-Xor.is))
    (c.same_of-in-Xor.ensures (gnorm capped_maker (tree_of c.in-Xor.a) c.args.sort true c.args.ctx.now c.args.level) (gnorm capped_maker (tree_of c.in-Xor.a) c.args.sort false c.args.ctx.now c.args.level) (gnorm capped_maker (tree_of c.in-Xor.b) c.args.sort true c.args.ctx.now c.args.level) (gnorm capped_maker (tree_of c.in-Xor.b) c.args.sort false c.args.ctx.now c.args.level)
    (subst (λ (w : Written). IsBuilt (gnorm capped_maker (tree_of w) c.args.sort true c.args.ctx.now c.args.level) c.both_ways-x-in-Xor.result.yes) c.get-in-Xor.ensures c.both_ways-x-in-Xor.ensures.yes)
    (subst (λ (w : Written). IsBuilt (gnorm capped_maker (tree_of w) c.args.sort false c.args.ctx.now c.args.level) c.both_ways-x-in-Xor.result.no) c.get-in-Xor.ensures c.both_ways-x-in-Xor.ensures.no)
    (subst (λ (w : Written). IsBuilt (gnorm capped_maker (tree_of w) c.args.sort true c.args.ctx.now c.args.level) c.both_ways-y-in-Xor.result.yes) c.get-in-Xor-2.ensures c.both_ways-y-in-Xor.ensures.yes)
    (subst (λ (w : Written). IsBuilt (gnorm capped_maker (tree_of w) c.args.sort false c.args.ctx.now c.args.level) c.both_ways-y-in-Xor.result.no) c.get-in-Xor-2.ensures c.both_ways-y-in-Xor.ensures.no))

pub formula::formula-returns-in-Implies : goal.formula::formula-returns-in-Implies
formula::formula-returns-in-Implies t c =
    subst (λ (u : Term). IsBuilt (gnorm capped_maker u c.args.sort c.args.truth c.args.ctx.now c.args.level) c.both.result) (sym (tree-Implies c.get-in-Implies.result.now c.get-in-Implies-2.result.now c.in-Implies.a c.in-Implies.b c.args.term.now c.get-in-Implies.ensures c.get-in-Implies-2.ensures c.in-Implies.is))
    (c.both.ensures (gnorm capped_maker (tree_of c.get-in-Implies.result.now) c.args.sort (not c.args.truth) c.args.ctx.now c.args.level) (gnorm capped_maker (tree_of c.get-in-Implies-2.result.now) c.args.sort c.args.truth c.args.ctx.now c.args.level) c.formula-x.ensures c.formula-y.ensures)

pub formula::by_both_ways-returns-in-Ite : goal.formula::by_both_ways-returns-in-Ite
formula::by_both_ways-returns-in-Ite t c =
    subst (λ (u : Term). IsBuilt (gnorm capped_maker u c.args.sort c.args.truth c.args.ctx.now c.args.level) c.choice_of.result) (sym (tree-Ite c.in-Ite.c c.in-Ite.a c.in-Ite.b c.in-Ite.c c.in-Ite.a c.in-Ite.b c.args.term.now refl refl refl c.in-Ite.is))
    (c.choice_of.ensures (gnorm capped_maker (tree_of c.in-Ite.c) c.args.sort true c.args.ctx.now c.args.level) (gnorm capped_maker (tree_of c.in-Ite.c) c.args.sort false c.args.ctx.now c.args.level) (gnorm capped_maker (tree_of c.in-Ite.a) c.args.sort c.args.truth c.args.ctx.now c.args.level) (gnorm capped_maker (tree_of c.in-Ite.b) c.args.sort c.args.truth c.args.ctx.now c.args.level)
    (subst (λ (w : Written). IsBuilt (gnorm capped_maker (tree_of w) c.args.sort true c.args.ctx.now c.args.level) c.both_ways-test.result.yes) c.get-in-Ite.ensures c.both_ways-test.ensures.yes)
    (subst (λ (w : Written). IsBuilt (gnorm capped_maker (tree_of w) c.args.sort false c.args.ctx.now c.args.level) c.both_ways-test.result.no) c.get-in-Ite.ensures c.both_ways-test.ensures.no)
    (subst (λ (w : Written). IsBuilt (gnorm capped_maker (tree_of w) c.args.sort c.args.truth c.args.ctx.now c.args.level) c.formula-x.result) c.get-in-Ite-2.ensures c.formula-x.ensures)
    (subst (λ (w : Written). IsBuilt (gnorm capped_maker (tree_of w) c.args.sort c.args.truth c.args.ctx.now c.args.level) c.formula-y.result) c.get-in-Ite-3.ensures c.formula-y.ensures))

pub number::second_of-returns-then-level-known : goal.number::second_of-returns-then-level-known
number::second_of-returns-then-level-known t c = λ h.
    subst (λ (e : ℕ). AreBack (λ k. glin capped_maker (tree_of c.args.b.now) c.args.sort c.args.ctx.now e (joined c.args.step c.args.x.now k)) c.joined_back.result) (sym c.if-level-known.true)
    (c.joined_back.ensures (λ k. glin capped_maker (tree_of c.args.b.now) c.args.sort c.args.ctx.now c.args.known k) h)

pub number::second_of-returns : goal.number::second_of-returns
number::second_of-returns t c = λ h.
    c.joined_back-2.ensures (λ k. glin capped_maker (tree_of c.args.b.now) c.args.sort c.args.ctx.now c.args.level k)
    (c.turned_round-own.ensures (λ k. glin capped_maker (tree_of c.args.b.now) c.args.sort c.args.ctx.now c.args.level k) c.number-worked.ensures)

pub number::chosen_of-returns-then-level-known : goal.number::chosen_of-returns-then-level-known
number::chosen_of-returns-then-level-known t c = λ u h.
    subst (λ (e : ℕ). AreBack (λ k. glin capped_maker (other_part (tree_of c.args.term.now)) c.args.sort c.args.ctx.now e (paired_form (tree_of c.args.term.now) c.args.sort c.args.ctx.now c.args.x.now k)) c.paired.result) (sym c.if-level-known.true)
    (c.paired.ensures u (λ k. glin capped_maker (other_part (tree_of c.args.term.now)) c.args.sort c.args.ctx.now c.args.known k) h)

pub number::chosen_of-returns : goal.number::chosen_of-returns
number::chosen_of-returns t c = λ u h.
    c.paired-2.ensures u (λ k. glin capped_maker (other_part (tree_of c.args.term.now)) c.args.sort c.args.ctx.now c.args.level k)
    (c.turned_round-own.ensures (λ k. glin capped_maker (other_part (tree_of c.args.term.now)) c.args.sort c.args.ctx.now c.args.level k) c.other-worked.ensures)

pub number::pair_of-returns-then-level-deep : goal.number::pair_of-returns-then-level-deep
number::pair_of-returns-then-level-deep t c = λ u.
    c.pair_cases.ensures (gnorm capped_maker (test_part (tree_of c.args.term.now)) c.args.sort true c.args.ctx.now c.args.level) (gnorm capped_maker (test_part (tree_of c.args.term.now)) c.args.sort false c.args.ctx.now c.args.level)
    (subst (λ (e : ℕ). IsBuilt (gnorm capped_maker (test_part (tree_of c.args.term.now)) c.args.sort true c.args.ctx.now e) c.args.by.now.yes) (sym c.if-level-deep.true) u.0)
    (subst (λ (e : ℕ). IsBuilt (gnorm capped_maker (test_part (tree_of c.args.term.now)) c.args.sort false c.args.ctx.now e) c.args.by.now.no) (sym c.if-level-deep.true) u.1)

pub number::pair_of-returns : goal.number::pair_of-returns
number::pair_of-returns t c = λ u.
    c.pair_cases-2.ensures (gnorm capped_maker (test_part (tree_of c.args.term.now)) c.args.sort true c.args.ctx.now c.args.level) (gnorm capped_maker (test_part (tree_of c.args.term.now)) c.args.sort false c.args.ctx.now c.args.level) c.test-own.ensures.yes c.test-own.ensures.no

pub number::pair_case-returns-in-Form : goal.number::pair_case-returns-in-Form
number::pair_case-returns-in-Form t c = λ u.
    turned_form (paired_form (tree_of c.args.term.now) c.args.sort c.args.ctx.now c.args.x.now) c.args.case.now c.in-Form.level c.in-Form.y c.pair_of.result c.in-Form.is (c.pair_of.ensures u)

pub number::other-returns-in_default : goal.number::other-returns-in_default
number::other-returns-in_default t c =
    subst (λ (u : Term). AreCases (λ k. glin capped_maker u c.args.sort c.args.ctx.now c.args.level k) c.leaf_cases.result) (sym (other_else c.args.term.now c.in_default.not-Ite))
    (c.leaf_cases.ensures (lin_constant zero_value ∷ []) (lin_constant zero_value) c.lowest_value.ensures)

pub number::test-returns-in_default-clause-yes : goal.number::test-returns-in_default-clause-yes
number::test-returns-in_default-clause-yes t c =
    subst (λ (u : Term). IsBuilt (gnorm capped_maker u c.args.sort true c.args.ctx.now c.args.level) (Ok c.closed.result)) (sym (test_else c.args.term.now c.in_default.not-Ite)) (ap Some (sym c.closed.ensures))

pub number::test-returns-in_default-clause-no : goal.number::test-returns-in_default-clause-no
number::test-returns-in_default-clause-no t c =
    subst (λ (u : Term). IsBuilt (gnorm capped_maker u c.args.sort false c.args.ctx.now c.args.level) (Ok c.closed-in_default.result)) (sym (test_else c.args.term.now c.in_default.not-Ite)) (ap Some (sym c.closed-in_default.ensures))
