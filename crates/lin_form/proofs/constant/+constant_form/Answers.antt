use Rattle.std.specs.Prelude.{Ok}
use Rattle.std.proofs.Common.{◌∙◌, ap, sym, subst, arith, drop, refl, [], ◌∷◌, ◌++◌, ◌+◌}
use Rattle.lin_truth.specs.declared.Term.{Term as Written}
use Rattle.lin_truth.specs.Term.{Term, Terms, term_and}
use Rattle.lin_truth.specs.Value.{zero_value, one_value}
use Rattle.lin_truth.specs.View.{tree_of, trees_of}
use Rattle.lin_form.specs.Lin.{Lin, lin_plus, lin_times}
use Rattle.lin_form.specs.Low.{as_lin, low, steps}
use Rattle.lin_form.specs.Outcome.{Formed}
use Rattle.lin_form.proofs.Constants.{SumGoesOn, ProductGoesOn, sum_more, sum_stops, product_more, product_stops}
use Rattle.lin_form.proofs.Directs.{neg_step, minus_step}
use Rattle.lin_form.proofs.Trees.{trees_more, trees_all, tree-Negative, tree-Abs, tree-Minus, tree-Quotient, tree-Div, tree-Mod}
use Rattle.lin_form.proofs.constant.+constant_form.Goals as goal

pub constant_form-returns-in-Negative : goal.constant_form-returns-in-Negative
constant_form-returns-in-Negative t c =
    let A : Term = tree_of c.get.result.now in
    subst (λ (u : Term). Formed (steps u) (as_lin (low u)) c.negated.result) (sym (tree-Negative c.get.result.now c.in-Negative.t c.args.term.now c.get.ensures c.in-Negative.is))
    (subst (λ (z : Lin). Formed (steps A ++ z ∷ []) z c.negated.result) (neg_step (low A))
    (c.negated.ensures (steps A) (as_lin (low A)) c.constant_form-x.ensures))

pub constant_form-returns-in-Abs : goal.constant_form-returns-in-Abs
constant_form-returns-in-Abs t c =
    let A : Term = tree_of c.get-in-Abs.result.now in
    subst (λ (u : Term). Formed (steps u) (as_lin (low u)) c.absolute.result) (sym (tree-Abs c.get-in-Abs.result.now c.in-Abs.t c.args.term.now c.get-in-Abs.ensures c.in-Abs.is))
    (c.absolute.ensures (steps A) (as_lin (low A)) c.constant_form-x-in-Abs.ensures)

pub constant_form-returns-in-Minus : goal.constant_form-returns-in-Minus
constant_form-returns-in-Minus t c =
    let A : Term = tree_of c.get-in-Minus.result.now in
    let B : Term = tree_of c.get-in-Minus-2.result.now in
    subst (λ (u : Term). Formed (steps u) (as_lin (low u)) c.operated.result) (sym (tree-Minus c.get-in-Minus.result.now c.get-in-Minus-2.result.now c.in-Minus.a c.in-Minus.b c.args.term.now c.get-in-Minus.ensures c.get-in-Minus-2.ensures c.in-Minus.is))
    (subst (λ (z : Lin). Formed (steps A ++ (steps B ++ z ∷ [])) z c.operated.result) (minus_step (low A) (low B))
    (c.operated.ensures (steps A) (steps B) (as_lin (low A)) (as_lin (low B)) c.constant_form-x-in-Minus.ensures c.constant_form-y.ensures))

pub constant_form-returns-in-Quotient : goal.constant_form-returns-in-Quotient
constant_form-returns-in-Quotient t c =
    let A : Term = tree_of c.get-in-Quotient.result.now in
    let B : Term = tree_of c.get-in-Quotient-2.result.now in
    subst (λ (u : Term). Formed (steps u) (as_lin (low u)) c.operated-in-Quotient.result) (sym (tree-Quotient c.get-in-Quotient.result.now c.get-in-Quotient-2.result.now c.in-Quotient.a c.in-Quotient.b c.args.term.now c.get-in-Quotient.ensures c.get-in-Quotient-2.ensures c.in-Quotient.is))
    (c.operated-in-Quotient.ensures (steps A) (steps B) (as_lin (low A)) (as_lin (low B)) c.constant_form-x-in-Quotient.ensures c.constant_form-y-in-Quotient.ensures)

pub constant_form-returns-in-Div : goal.constant_form-returns-in-Div
constant_form-returns-in-Div t c =
    let A : Term = tree_of c.get-in-Div.result.now in
    let B : Term = tree_of c.get-in-Div-2.result.now in
    subst (λ (u : Term). Formed (steps u) (as_lin (low u)) c.operated-in-Div.result) (sym (tree-Div c.get-in-Div.result.now c.get-in-Div-2.result.now c.in-Div.a c.in-Div.b c.args.term.now c.get-in-Div.ensures c.get-in-Div-2.ensures c.in-Div.is))
    (c.operated-in-Div.ensures (steps A) (steps B) (as_lin (low A)) (as_lin (low B)) c.constant_form-x-in-Div.ensures c.constant_form-y-in-Div.ensures)

pub constant_form-returns-in-Mod : goal.constant_form-returns-in-Mod
constant_form-returns-in-Mod t c =
    let A : Term = tree_of c.get-in-Mod.result.now in
    let B : Term = tree_of c.get-in-Mod-2.result.now in
    subst (λ (u : Term). Formed (steps u) (as_lin (low u)) c.operated-in-Mod.result) (sym (tree-Mod c.get-in-Mod.result.now c.get-in-Mod-2.result.now c.in-Mod.a c.in-Mod.b c.args.term.now c.get-in-Mod.ensures c.get-in-Mod-2.ensures c.in-Mod.is))
    (c.operated-in-Mod.ensures (steps A) (steps B) (as_lin (low A)) (as_lin (low B)) c.constant_form-x-in-Mod.ensures c.constant_form-y-in-Mod.ensures)

pub constant_sum-loop-term-preserved : goal.constant_sum-loop-term-preserved
constant_sum-loop-term-preserved t c =
    let ts = c.args.terms.now in
    let i = c.loop-term.term-index in
    let A : Term = tree_of c.term-item.result in
    sum_more (as_lin zero_value) (trees_of ts) (trees_of (drop (i + 1) ts)) A c.loop-term.total c.in-Ok.total
    (subst (λ (us : Terms). SumGoesOn (as_lin zero_value) (trees_of ts) us c.loop-term.total)
    (trees_more (λ (us : Terms). us) ts i c.term-item.result (omega arith) ∙ ap (λ (w : Written). term_and (tree_of w) (trees_of (drop (i + 1) ts))) (sym c.term-item.is)) c.loop-term.invariant)
    (subst (λ r. Formed (steps A ++ lin_plus c.loop-term.total (as_lin (low A)) ∷ []) (lin_plus c.loop-term.total (as_lin (low A))) r) c.in-Ok.is
    (c.stepped.ensures (steps A) (as_lin (low A)) c.constant_form-next.ensures))

pub constant_sum-returns-in-Err : goal.constant_sum-returns-in-Err
constant_sum-returns-in-Err t c =
    let ts = c.args.terms.now in
    let i = c.loop-term.term-index in
    let A : Term = tree_of c.term-item.result in
    sum_stops (as_lin zero_value) (trees_of ts) (trees_of (drop (i + 1) ts)) A c.loop-term.total c.in-Err.fault
    (subst (λ (us : Terms). SumGoesOn (as_lin zero_value) (trees_of ts) us c.loop-term.total)
    (trees_more (λ (us : Terms). us) ts i c.term-item.result (omega arith) ∙ ap (λ (w : Written). term_and (tree_of w) (trees_of (drop (i + 1) ts))) (sym c.term-item.is)) c.loop-term.invariant)
    (subst (λ r. Formed (steps A ++ lin_plus c.loop-term.total (as_lin (low A)) ∷ []) (lin_plus c.loop-term.total (as_lin (low A))) r) c.in-Err.is
    (c.stepped.ensures (steps A) (as_lin (low A)) c.constant_form-next.ensures))

pub constant_sum-returns : goal.constant_sum-returns
constant_sum-returns t c =
    let ts = c.args.terms.now in
    let h = subst (λ (us : Terms). SumGoesOn (as_lin zero_value) (trees_of ts) us c.loop-term.total) (trees_all (λ (us : Terms). us) ts c.loop-term.term-index (omega arith)) c.loop-term.invariant in
    h.1 (Ok c.loop-term.total) (refl, h.0)

pub constant_product-loop-term-preserved : goal.constant_product-loop-term-preserved
constant_product-loop-term-preserved t c =
    let ts = c.args.terms.now in
    let i = c.loop-term.term-index in
    let A : Term = tree_of c.term-item.result in
    product_more (as_lin one_value) (trees_of ts) (trees_of (drop (i + 1) ts)) A c.loop-term.total c.in-Ok.total
    (subst (λ (us : Terms). ProductGoesOn (as_lin one_value) (trees_of ts) us c.loop-term.total)
    (trees_more (λ (us : Terms). us) ts i c.term-item.result (omega arith) ∙ ap (λ (w : Written). term_and (tree_of w) (trees_of (drop (i + 1) ts))) (sym c.term-item.is)) c.loop-term.invariant)
    (subst (λ r. Formed (steps A ++ lin_times c.loop-term.total (as_lin (low A)) ∷ []) (lin_times c.loop-term.total (as_lin (low A))) r) c.in-Ok.is
    (c.stepped.ensures (steps A) (as_lin (low A)) c.constant_form-next.ensures))

pub constant_product-returns-in-Err : goal.constant_product-returns-in-Err
constant_product-returns-in-Err t c =
    let ts = c.args.terms.now in
    let i = c.loop-term.term-index in
    let A : Term = tree_of c.term-item.result in
    product_stops (as_lin one_value) (trees_of ts) (trees_of (drop (i + 1) ts)) A c.loop-term.total c.in-Err.fault
    (subst (λ (us : Terms). ProductGoesOn (as_lin one_value) (trees_of ts) us c.loop-term.total)
    (trees_more (λ (us : Terms). us) ts i c.term-item.result (omega arith) ∙ ap (λ (w : Written). term_and (tree_of w) (trees_of (drop (i + 1) ts))) (sym c.term-item.is)) c.loop-term.invariant)
    (subst (λ r. Formed (steps A ++ lin_times c.loop-term.total (as_lin (low A)) ∷ []) (lin_times c.loop-term.total (as_lin (low A))) r) c.in-Err.is
    (c.stepped.ensures (steps A) (as_lin (low A)) c.constant_form-next.ensures))

pub constant_product-returns : goal.constant_product-returns
constant_product-returns t c =
    let ts = c.args.terms.now in
    let h = subst (λ (us : Terms). ProductGoesOn (as_lin one_value) (trees_of ts) us c.loop-term.total) (trees_all (λ (us : Terms). us) ts c.loop-term.term-index (omega arith)) c.loop-term.invariant in
    h.1 (Ok c.loop-term.total) (refl, h.0)
