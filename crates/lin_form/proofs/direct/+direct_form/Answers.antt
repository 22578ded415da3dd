use Rattle.std.specs.Prelude.{◌≡◌, Result, Ok, false, ◌&&◌}
use Rattle.std.proofs.Common.{◌∙◌, ap, sym, subst, arith, drop, refl, List, [], ◌∷◌, ◌++◌, ◌+◌, ℕ}
use Rattle.lin_truth.specs.declared.Term.{Term as Written}
use Rattle.lin_truth.specs.Term.{Term, Terms, term_and}
use Rattle.lin_truth.specs.Value.{zero_value, one_value}
use Rattle.lin_truth.specs.View.{tree_of, trees_of}
use Rattle.lin_form.specs.declared.fault.FormFault.{FormFault}
use Rattle.lin_truth.specs.Constant.{is_constant}
use Rattle.lin_form.specs.Lin.{Lin, lin_plus, lin_times, lin_variable}
use Rattle.lin_form.specs.Low.{as_lin, low, steps}
use Rattle.lin_form.specs.Direct.{direct, direct_sum, direct_product, made, made_sum, made_product}
use Rattle.lin_form.specs.Outcome.{Formed}
use Rattle.lin_form.proofs.Directs.{direct_negative, made_negative, direct_minus, made_minus, direct_plus, made_plus, direct_times, made_times, constant_direct, constant_made, direct_over, made_over}
use Rattle.lin_form.proofs.Lists.{GoesOn, goes_more, goes_stop}
use Rattle.lin_form.proofs.Trees.{trees_more, trees_all, tree-Var, tree-Negative, tree-Abs, tree-Minus, tree-Quotient, tree-Div, tree-Mod, tree-Plus, tree-Times}
use Rattle.lin_form.proofs.direct.+direct_form.Goals as goal

-- forms and a form that are the same
moved : (xs ys : List Lin) (x y : Lin) (r : Result Lin FormFault) → xs ≡ ys → x ≡ y → Formed xs x r → Formed ys y r
moved xs ys x y r e f h = subst (λ (z : Lin). Formed ys z r) f (subst (λ (zs : List Lin). Formed zs x r) e h)

pub direct_form-returns-in-Var : goal.direct_form-returns-in-Var
direct_form-returns-in-Var t c =
    subst (λ (u : Term). Formed (made u c.args.ctx.now) (direct u c.args.ctx.now) c.variable.result) (sym (tree-Var c.in-Var.i c.args.term.now c.in-Var.is))
    (subst (λ (n : ℕ). Formed (lin_variable n ∷ []) (lin_variable n) c.variable.result) c.level_of.ensures c.variable.ensures.value)

pub direct_form-returns-in-Negative : goal.direct_form-returns-in-Negative
direct_form-returns-in-Negative t c =
    let g = c.args.ctx.now in
    let A : Term = tree_of c.get.result.now in
    subst (λ (u : Term). Formed (made u g) (direct u g) c.negated.result) (sym (tree-Negative c.get.result.now c.in-Negative.t c.args.term.now c.get.ensures c.in-Negative.is))
    (moved _ _ _ _ c.negated.result (sym (made_negative A g)) (sym (direct_negative A g)) (c.negated.ensures (made A g) (direct A g) c.direct_form-x.ensures))

pub direct_form-returns-in-Minus : goal.direct_form-returns-in-Minus
direct_form-returns-in-Minus t c =
    let g = c.args.ctx.now in
    let A : Term = tree_of c.get-in-Minus.result.now in
    let B : Term = tree_of c.get-in-Minus-2.result.now in
    subst (λ (u : Term). Formed (made u g) (direct u g) c.operated.result) (sym (tree-Minus c.get-in-Minus.result.now c.get-in-Minus-2.result.now c.in-Minus.a c.in-Minus.b c.args.term.now c.get-in-Minus.ensures c.get-in-Minus-2.ensures c.in-Minus.is))
    (moved _ _ _ _ c.operated.result (sym (made_minus A B g)) (sym (direct_minus A B g)) (c.operated.ensures (made A g) (made B g) (direct A g) (direct B g) c.direct_form-x-in-Minus.ensures c.direct_form-y.ensures))

pub direct_form-returns-then-is_constant : goal.direct_form-returns-then-is_constant
direct_form-returns-then-is_constant t c =
    let g = c.args.ctx.now in
    let T : Term = tree_of c.args.term.now in
    moved _ _ _ _ c.constant_form.result (sym (constant_made T g (sym c.if-is_constant.ensures))) (sym (constant_direct T g (sym c.if-is_constant.ensures))) c.constant_form.ensures

pub direct_form-returns-else-is_constant : goal.direct_form-returns-else-is_constant
direct_form-returns-else-is_constant t c =
    let g = c.args.ctx.now in
    let A : Term = tree_of c.get-in-Quotient.result.now in
    let B : Term = tree_of c.get-in-Quotient-2.result.now in
    let e = tree-Quotient c.get-in-Quotient.result.now c.get-in-Quotient-2.result.now c.in-Quotient.a c.in-Quotient.b c.args.term.now c.get-in-Quotient.ensures c.get-in-Quotient-2.ensures c.in-Quotient.is in
    let n : is_constant A && is_constant B ≡ false = ap is_constant (sym e) ∙ sym c.if-is_constant.ensures in
    subst (λ (u : Term). Formed (made u g) (direct u g) c.quotient.result) (sym e)
    (moved _ _ _ _ c.quotient.result (sym (made_over A B g n)) (sym (direct_over A B g n)) (c.quotient.ensures (made A g) (steps B) (direct A g) (as_lin (low B)) c.direct_form-x-in-Quotient.ensures c.constant_form-y.ensures))

pub direct_form-returns-in-Plus : goal.direct_form-returns-in-Plus
direct_form-returns-in-Plus t c =
    let g = c.args.ctx.now in
    let ts : Terms = trees_of c.as_slice.result.now in
    subst (λ (u : Term). Formed (made u g) (direct u g) c.direct_sum.result) (sym (tree-Plus c.as_slice.result.now c.in-Plus.ts c.args.term.now c.as_slice.ensures c.in-Plus.is))
    (moved _ _ _ _ c.direct_sum.result (sym (made_plus ts g)) (sym (direct_plus ts g)) c.direct_sum.ensures)

pub direct_form-returns-in-Times : goal.direct_form-returns-in-Times
direct_form-returns-in-Times t c =
    let g = c.args.ctx.now in
    let ts : Terms = trees_of c.as_slice-in-Times.result.now in
    subst (λ (u : Term). Formed (made u g) (direct u g) c.direct_product.result) (sym (tree-Times c.as_slice-in-Times.result.now c.in-Times.ts c.args.term.now c.as_slice-in-Times.ensures c.in-Times.is))
    (moved _ _ _ _ c.direct_product.result (sym (made_times ts g)) (sym (direct_times ts g)) c.direct_product.ensures)

pub direct_form-returns-in-Abs : goal.direct_form-returns-in-Abs
direct_form-returns-in-Abs t c =
    let e = tree-Abs c.in-Abs.field-0 c.in-Abs.field-0 c.args.term.now refl c.in-Abs.is in
    subst (λ (u : Term). Formed (made u c.args.ctx.now) (direct u c.args.ctx.now) c.constant_form-in-Abs.result) (sym e)
    (subst (λ (u : Term). Formed (steps u) (as_lin (low u)) c.constant_form-in-Abs.result) e c.constant_form-in-Abs.ensures)

pub direct_form-returns-in-Div : goal.direct_form-returns-in-Div
direct_form-returns-in-Div t c =
    let e = tree-Div c.in-Div.field-0 c.in-Div.field-1 c.in-Div.field-0 c.in-Div.field-1 c.args.term.now refl refl c.in-Div.is in
    subst (λ (u : Term). Formed (made u c.args.ctx.now) (direct u c.args.ctx.now) c.constant_form-in-Div.result) (sym e)
    (subst (λ (u : Term). Formed (steps u) (as_lin (low u)) c.constant_form-in-Div.result) e c.constant_form-in-Div.ensures)

pub direct_form-returns-in-Mod : goal.direct_form-returns-in-Mod
direct_form-returns-in-Mod t c =
    let e = tree-Mod c.in-Mod.field-0 c.in-Mod.field-1 c.in-Mod.field-0 c.in-Mod.field-1 c.args.term.now refl refl c.in-Mod.is in
    subst (λ (u : Term). Formed (made u c.args.ctx.now) (direct u c.args.ctx.now) c.constant_form-in-Mod.result) (sym e)
    (subst (λ (u : Term). Formed (steps u) (as_lin (low u)) c.constant_form-in-Mod.result) e c.constant_form-in-Mod.ensures)

pub direct_sum-loop-term-preserved : goal.direct_sum-loop-term-preserved
direct_sum-loop-term-preserved t c =
    let ts = c.args.terms.now in
    let i = c.loop-term.term-index in
    let g = c.args.ctx.now in
    let A : Term = tree_of c.term-item.result in
    goes_more (λ us x. made_sum us g x) (λ us x. direct_sum us g x) (as_lin zero_value) (trees_of ts) (trees_of (drop (i + 1) ts)) (made A g) (lin_plus c.loop-term.total (direct A g)) c.in-Ok.total
    (subst (λ (us : Terms). GoesOn (λ vs x. made_sum vs g x) (λ vs x. direct_sum vs g x) (as_lin zero_value) (trees_of ts) us c.loop-term.total)
    (trees_more (λ (us : Terms). us) ts i c.term-item.result (omega arith) ∙ ap (λ (w : Written). term_and (tree_of w) (trees_of (drop (i + 1) ts))) (sym c.term-item.is)) c.loop-term.invariant)
    (subst (λ r. Formed (made A g ++ lin_plus c.loop-term.total (direct A g) ∷ []) (lin_plus c.loop-term.total (direct A g)) r) c.in-Ok.is
    (c.stepped.ensures (made A g) (direct A g) c.direct_form-next.ensures))

pub direct_sum-returns-in-Err : goal.direct_sum-returns-in-Err
direct_sum-returns-in-Err t c =
    let ts = c.args.terms.now in
    let i = c.loop-term.term-index in
    let g = c.args.ctx.now in
    let A : Term = tree_of c.term-item.result in
    goes_stop (λ us x. made_sum us g x) (λ us x. direct_sum us g x) (as_lin zero_value) (trees_of ts) (trees_of (drop (i + 1) ts)) (made A g) (lin_plus c.loop-term.total (direct A g)) c.in-Err.fault
    (subst (λ (us : Terms). GoesOn (λ vs x. made_sum vs g x) (λ vs x. direct_sum vs g x) (as_lin zero_value) (trees_of ts) us c.loop-term.total)
    (trees_more (λ (us : Terms). us) ts i c.term-item.result (omega arith) ∙ ap (λ (w : Written). term_and (tree_of w) (trees_of (drop (i + 1) ts))) (sym c.term-item.is)) c.loop-term.invariant)
    (subst (λ r. Formed (made A g ++ lin_plus c.loop-term.total (direct A g) ∷ []) (lin_plus c.loop-term.total (direct A g)) r) c.in-Err.is
    (c.stepped.ensures (made A g) (direct A g) c.direct_form-next.ensures))

pub direct_sum-returns : goal.direct_sum-returns
direct_sum-returns t c =
    let ts = c.args.terms.now in
    let g = c.args.ctx.now in
    let h = subst (λ (us : Terms). GoesOn (λ vs x. made_sum vs g x) (λ vs x. direct_sum vs g x) (as_lin zero_value) (trees_of ts) us c.loop-term.total) (trees_all (λ (us : Terms). us) ts c.loop-term.term-index (omega arith)) c.loop-term.invariant in
    h (Ok c.loop-term.total) (refl, refl)

pub direct_product-loop-term-preserved : goal.direct_product-loop-term-preserved
direct_product-loop-term-preserved t c =
    let ts = c.args.terms.now in
    let i = c.loop-term.term-index in
    let g = c.args.ctx.now in
    let A : Term = tree_of c.term-item.result in
    goes_more (λ us x. made_product us g x) (λ us x. direct_product us g x) (as_lin one_value) (trees_of ts) (trees_of (drop (i + 1) ts)) (made A g) (lin_times c.loop-term.total (direct A g)) c.in-Ok.total
    (subst (λ (us : Terms). GoesOn (λ vs x. made_product vs g x) (λ vs x. direct_product vs g x) (as_lin one_value) (trees_of ts) us c.loop-term.total)
    (trees_more (λ (us : Terms). us) ts i c.term-item.result (omega arith) ∙ ap (λ (w : Written). term_and (tree_of w) (trees_of (drop (i + 1) ts))) (sym c.term-item.is)) c.loop-term.invariant)
    (subst (λ r. Formed (made A g ++ lin_times c.loop-term.total (direct A g) ∷ []) (lin_times c.loop-term.total (direct A g)) r) c.in-Ok.is
    (c.stepped.ensures (made A g) (direct A g) c.direct_form-next.ensures))

pub direct_product-returns-in-Err : goal.direct_product-returns-in-Err
direct_product-returns-in-Err t c =
    let ts = c.args.terms.now in
    let i = c.loop-term.term-index in
    let g = c.args.ctx.now in
    let A : Term = tree_of c.term-item.result in
    goes_stop (λ us x. made_product us g x) (λ us x. direct_product us g x) (as_lin one_value) (trees_of ts) (trees_of (drop (i + 1) ts)) (made A g) (lin_times c.loop-term.total (direct A g)) c.in-Err.fault
    (subst (λ (us : Terms). GoesOn (λ vs x. made_product vs g x) (λ vs x. direct_product vs g x) (as_lin one_value) (trees_of ts) us c.loop-term.total)
    (trees_more (λ (us : Terms). us) ts i c.term-item.result (omega arith) ∙ ap (λ (w : Written). term_and (tree_of w) (trees_of (drop (i + 1) ts))) (sym c.term-item.is)) c.loop-term.invariant)
    (subst (λ r. Formed (made A g ++ lin_times c.loop-term.total (direct A g) ∷ []) (lin_times c.loop-term.total (direct A g)) r) c.in-Err.is
    (c.stepped.ensures (made A g) (direct A g) c.direct_form-next.ensures))

pub direct_product-returns : goal.direct_product-returns
direct_product-returns t c =
    let ts = c.args.terms.now in
    let g = c.args.ctx.now in
    let h = subst (λ (us : Terms). GoesOn (λ vs x. made_product vs g x) (λ vs x. direct_product vs g x) (as_lin one_value) (trees_of ts) us c.loop-term.total) (trees_all (λ (us : Terms). us) ts c.loop-term.term-index (omega arith)) c.loop-term.invariant in
    h (Ok c.loop-term.total) (refl, refl)
