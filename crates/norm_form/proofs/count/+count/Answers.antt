use Rattle.std.proofs.Common.{ℕ, ◌≡◌, ◌+◌, ◌*◌, ◌∙◌, ap, sym, subst, arith, drop, length, List}
use Rattle.std.specs.Prelude.{min}
use Rattle.lin_truth.specs.declared.Term.{Term as Written}
use Rattle.lin_truth.specs.Term.{Term, Terms}
use Rattle.lin_truth.specs.View.{tree_of, trees_of}
use Rattle.lin_form.proofs.Trees.{tree-Abs, tree-Ite, trees_more, trees_all}
use Rattle.norm_form.specs.Load.{Load, load, loads, number_load, list_load, sum_load, joined_load, after, no_number, limit}
use Rattle.norm_form.specs.Cut.{IsCut}
use Rattle.norm_form.proofs.Cutting.{joined_is, loads_length, listed_step, limited_is}
use Rattle.norm_form.proofs.Remaining.{node_load, formula_load}
use Rattle.norm_form.proofs.Plain.{absolute_load, divided_load}
use Rattle.norm_form.proofs.count.+count.Goals as goal

pub joined-returns : goal.joined-returns
joined-returns t c =
    let r = c.args.rate in
    let s = c.args.scope.now in
    let ps = c.args.parts.now in
    let ns : List ℕ = loads (trees_of ps) r s in
    let e : joined_load ns r ≡ c.own_node-sum.result + sum_load ns = joined_is ns r (length ps) c.own_node-sum.result (sym (loads_length ps r s)) c.own_node-sum.ensures.one c.own_node-sum.ensures.more in
    let rest = trees_all (λ (ts : Terms). sum_load (loads ts r s)) ps c.loop-part.part-index c.loop-part-test.false in
    limited_is c.loop-part.sum (joined_load ns r) c.loop-part.invariant.1
    (sym (ap (λ (n : ℕ). min limit (c.loop-part.sum + n)) rest) ∙ c.loop-part.invariant.0 ∙ sym (ap (min limit) e))

pub listed-loop-part-preserved : goal.listed-loop-part-preserved
listed-loop-part-preserved t c =
    let r = c.args.rate in
    let s = c.args.scope.now in
    let ps = c.args.parts.now in
    let i = c.loop-part.part-index in
    let all = c.loop-part.all in
    let l : Load = number_load (tree_of c.part-item.result) r s in
    let rest : Load = list_load (trees_of (drop (i + 1) ps)) r s in
    let whole : Load = list_load (trees_of ps) r s in
    let p : list_load (trees_of (drop i ps)) r s ≡ after l rest =
    trees_more (λ (ts : Terms). list_load ts r s) ps i c.part-item.result (omega arith)
    ∙ ap (λ (w : Written). after (number_load (tree_of w) r s) rest) (sym c.part-item.is) in
    let k = c.after-all.ensures.cut (record { own = all.own; leaves = all.leaves }) l (omega (arith, c.loop-part.invariant.2), omega (arith, c.loop-part.invariant.3)) c.in_ok-share.ensures in
    let step = listed_step all c.after-all.result l rest whole.own whole.leaves k
    (ap (λ (z : Load). min limit (all.own + all.leaves * z.own)) (sym p) ∙ c.loop-part.invariant.0)
    (ap (λ (z : Load). min limit (all.leaves * z.leaves)) (sym p) ∙ c.loop-part.invariant.1) in
    (step.0, step.1, c.after-all.ensures.limited.0, c.after-all.ensures.limited.1)

pub number_count-returns-in_ok-test-in-Ite : goal.number_count-returns-in_ok-test-in-Ite
number_count-returns-in_ok-test-in-Ite t c =
    let r = c.args.rate in
    let s = c.args.scope.now in
    let A : Term = tree_of c.get-in-Ite.result.now in
    let B : Term = tree_of c.get-in-Ite-2.result.now in
    let C : Term = tree_of c.get-in-Ite-3.result.now in
    let x : Load = number_load A r s in
    let y : Load = number_load B r s in
    let k : Load = record { own = 3 * r.node + 2 * load C r s; leaves = 2 } in
    let p : number_load (tree_of c.args.term.now) r s ≡ after x (after y k) =
    ap (λ (u : Term). number_load u r s) (tree-Ite c.get-in-Ite-3.result.now c.get-in-Ite.result.now c.get-in-Ite-2.result.now c.in-Ite.c c.in-Ite.a c.in-Ite.b c.args.term.now c.get-in-Ite-3.ensures c.get-in-Ite.ensures c.get-in-Ite-2.ensures c.in-Ite.is) in
    subst (λ (z : Load). IsCut c.after-in-Ite-2.result z) (sym p)
    (c.after-in-Ite-2.ensures.cut x (after y k) c.in_ok-x-in-Ite.ensures (c.after-in-Ite.ensures.cut y k c.in_ok-y-in-Ite.ensures (c.choice_share.ensures.cut (load C r s) c.in_ok-test-in-Ite.ensures)))

pub compared-returns : goal.compared-returns
compared-returns t c =
    let r = c.args.rate in
    let s = c.args.scope.now in
    let x : Load = number_load (tree_of c.args.a.now) r s in
    let y : Load = number_load (tree_of c.args.b.now) r s in
    c.total.ensures.cut (after x y) (c.after.ensures.cut x y c.in_ok-x.ensures c.in_ok-y.ensures)

pub formula_count-returns-in_default : goal.formula_count-returns-in_default
formula_count-returns-in_default t c =
    let k : c.args.rate.node ≡ min limit c.args.rate.node = omega (arith, c.requires.0) in
    k ∙ ap (min limit) (sym (node_load c.args.term.now c.args.rate c.args.scope.now c.in_default.not-Not c.in_default.not-Divisible c.in_default.not-Less c.in_default.not-AtMost c.in_default.not-Greater c.in_default.not-AtLeast c.in_default.not-Equal c.in_default.not-Xor c.in_default.not-Implies c.in_default.not-Ite c.in_default.not-And c.in_default.not-Or c.in_default.not-Forall c.in_default.not-Exists))

pub number_count-returns-in_ok-x-in-Abs : goal.number_count-returns-in_ok-x-in-Abs
number_count-returns-in_ok-x-in-Abs t c =
    let r = c.args.rate in
    let s = c.args.scope.now in
    let A : Term = tree_of c.get-in-Abs.result.now in
    let x : Load = number_load A r s in
    let k : Load = record { own = 5 * r.node; leaves = 2 } in
    subst (λ (z : Load). IsCut c.after.result z)
    (sym (absolute_load (tree_of c.args.term.now) A r s (tree-Abs c.get-in-Abs.result.now c.in-Abs.t c.args.term.now c.get-in-Abs.ensures c.in-Abs.is) (sym c.if-is_constant.ensures)))
    (c.after.ensures.cut x k c.in_ok-x-in-Abs.ensures c.absolute_share.ensures.cut)

pub number_count-returns-in_default : goal.number_count-returns-in_default
number_count-returns-in_default t c =
    let k : c.args.rate.node ≡ min limit c.args.rate.node = omega (arith, c.requires.0) in
    let e : number_load (tree_of c.args.term.now) c.args.rate c.args.scope.now ≡ no_number c.args.rate =
    formula_load c.args.term.now c.args.rate c.args.scope.now c.in_default.not-Var c.in_default.not-Negative c.in_default.not-Abs c.in_default.not-Minus c.in_default.not-Quotient c.in_default.not-Div c.in_default.not-Mod c.in_default.not-Ite c.in_default.not-Plus c.in_default.not-Times (sym c.if-is_constant.ensures) in
    (k ∙ ap (λ (l : Load). min limit l.own) (sym e), ap (λ (l : Load). min limit l.leaves) (sym e))

pub number_count-returns-in_ok-x-in-Div : goal.number_count-returns-in_ok-x-in-Div
number_count-returns-in_ok-x-in-Div t c =
    let r = c.args.rate in
    let s = c.args.scope.now in
    let A : Written = c.get-in-Div.result.now in
    let x : Load = number_load (tree_of A) r s in
    let k : Load = record { own = 3 * r.node + r.binder; leaves = 1 } in
    subst (λ (z : Load). IsCut c.after-in-Div.result z) (sym (divided_load c.args.term.now c.in-Div.t A r s c.in-Div.is c.get-in-Div.ensures (sym c.if-is_constant.ensures)))
    (c.after-in-Div.ensures.cut x k c.in_ok-x-in-Div.ensures c.division_share.ensures.cut)
