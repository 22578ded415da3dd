use Rattle.std.specs.Prelude.{ℕ, ℤ, ◌≡◌, ◌≤◌, ◌<◌, pos, nat_abs, List, get_or, length}
use Rattle.std.proofs.Common.{ap, ap₂, ◌∙◌, sym, subst, to_z, of_z}
use mir.Syntax.{w64}
use Rattle.lin_term.specs.Form.{cap}
use Rattle.lin_term.specs.Linear.{Value, BelowTerms}
use Rattle.lin_term.specs.Wide.{first_past}
use Rattle.lin_term.proofs.AtNames.{below_index}
use Rattle.lin_term.proofs.Terms.{word_of, term_kept}
use Rattle.game_play.specs.Worth.{whole, sum_worth, sum_steps, row_worth, row_steps}
use Rattle.game_play.proofs.Sums.{at_place, product_past, sum_past, steps_more, worth_more, steps_done, worth_done}
use Rattle.game_play.proofs.worth.row_value.Goals as goal

pub loop-var-init : goal.loop-var-init
loop-var-init c =
    let s : c.whole-sum.result ≡ whole c.args.row.now.constant = c.whole-sum.ensures ∙ ap whole (word_of c.constant_part.result c.constant_part.ensures.kept ∙ c.constant_part.ensures.value) in
    record {
      items = c.coefs-var-items.ensures.terms;
      numbers = ap₂ (λ (x : Value) (ts : List (ℕ × ℤ)). first_past (sum_steps c.args.values.now x ts)) s c.coefs-var-items.ensures.terms;
      worth = ap₂ (λ (x : Value) (ts : List (ℕ × ℤ)). sum_worth c.args.values.now x ts) s c.coefs-var-items.ensures.terms;
    }

pub bounds-values-var : goal.bounds-values-var
bounds-values-var c =
    below_index (length c.args.values.now) c.coefs-var-items.result.now c.loop-var.var-index (subst (λ (ts : List (ℕ × ℤ)). BelowTerms (length c.args.values.now) ts) (sym c.coefs-var-items.ensures.terms) c.requires) c.loop-var-test.true

pub multiple-requires : goal.multiple-requires
multiple-requires c =
    let z : ℤ = (get_or c.coefs-var-items.result.now c.loop-var.var-index (0, pos 0)).1 in
    let k : nat_abs z ≤ cap = term_kept 0 c.coefs-var-items.result.now c.loop-var.var-index (0, pos 0) c.loop-var-test.true c.coefs-var-items.ensures.kept in
    subst (λ (y : ℤ). nat_abs y ≤ cap) (sym (word_of z k)) k

pub returns-in-Err : goal.returns-in-Err
returns-in-Err c =
    let vs = c.args.values.now in
    let ts = c.coefs-var-items.result.now in
    let i : ℕ = c.loop-var.var-index in
    let z : ℤ = (get_or ts i (0, pos 0)).1 in
    let w : to_z w64 (of_z w64 z) ≡ z = word_of z (term_kept 0 ts i (0, pos 0) c.loop-var-test.true c.coefs-var-items.ensures.kept) in
    let b : (get_or ts i (0, pos 0)).0 < length vs = below_index (length vs) ts i (subst (λ (us : List (ℕ × ℤ)). BelowTerms (length vs) us) (sym c.coefs-var-items.ensures.terms) c.requires) c.loop-var-test.true in
    let p = at_place vs (get_or ts i (0, pos 0)).0 c.index-values-var.result _ b c.index-values-var.is in
    product_past vs c.loop-var.sum ts i (to_z w64 (of_z w64 z)) c.index-values-var.result c.in-Err.wide.number (first_past (row_steps vs c.args.row.now)) c.loop-var-test.true w p c.loop-var.invariant.numbers c.in-Err.ensures

pub returns-in-Err-sum : goal.returns-in-Err-sum
returns-in-Err-sum c =
    let vs = c.args.values.now in
    let ts = c.coefs-var-items.result.now in
    let i : ℕ = c.loop-var.var-index in
    let z : ℤ = (get_or ts i (0, pos 0)).1 in
    let w : to_z w64 (of_z w64 z) ≡ z = word_of z (term_kept 0 ts i (0, pos 0) c.loop-var-test.true c.coefs-var-items.ensures.kept) in
    let b : (get_or ts i (0, pos 0)).0 < length vs = below_index (length vs) ts i (subst (λ (us : List (ℕ × ℤ)). BelowTerms (length vs) us) (sym c.coefs-var-items.ensures.terms) c.requires) c.loop-var-test.true in
    let p = at_place vs (get_or ts i (0, pos 0)).0 c.index-values-var.result _ b c.index-values-var.is in
    sum_past vs c.loop-var.sum ts i (to_z w64 (of_z w64 z)) c.index-values-var.result c.in-Ok.next c.in-Err-sum.wide.number (first_past (row_steps vs c.args.row.now)) c.loop-var-test.true w p c.loop-var.invariant.numbers c.in-Ok.ensures c.in-Err-sum.ensures

pub loop-var-preserved : goal.loop-var-preserved
loop-var-preserved c =
    let vs = c.args.values.now in
    let ts = c.coefs-var-items.result.now in
    let i : ℕ = c.loop-var.var-index in
    let z : ℤ = (get_or ts i (0, pos 0)).1 in
    let w : to_z w64 (of_z w64 z) ≡ z = word_of z (term_kept 0 ts i (0, pos 0) c.loop-var-test.true c.coefs-var-items.ensures.kept) in
    let b : (get_or ts i (0, pos 0)).0 < length vs = below_index (length vs) ts i (subst (λ (us : List (ℕ × ℤ)). BelowTerms (length vs) us) (sym c.coefs-var-items.ensures.terms) c.requires) c.loop-var-test.true in
    let p = at_place vs (get_or ts i (0, pos 0)).0 c.index-values-var.result _ b c.index-values-var.is in
    record {
      items = c.loop-var.invariant.items;
      numbers = steps_more vs c.loop-var.sum ts i (to_z w64 (of_z w64 z)) c.index-values-var.result c.in-Ok.next c.in-Ok-sum.sum (first_past (row_steps vs c.args.row.now)) c.loop-var-test.true w p c.loop-var.invariant.numbers c.in-Ok.ensures c.in-Ok-sum.ensures;
      worth = worth_more vs c.loop-var.sum ts i (to_z w64 (of_z w64 z)) c.index-values-var.result c.in-Ok.next c.in-Ok-sum.sum (row_worth vs c.args.row.now) c.loop-var-test.true w p c.loop-var.invariant.worth c.in-Ok.ensures.1 c.in-Ok-sum.ensures.1;
    }

pub returns : goal.returns
returns c = (
  steps_done c.args.values.now c.loop-var.sum c.coefs-var-items.result.now c.loop-var.var-index (first_past (row_steps c.args.values.now c.args.row.now)) c.loop-var-test.false c.loop-var.invariant.numbers,
  worth_done c.args.values.now c.loop-var.sum c.coefs-var-items.result.now c.loop-var.var-index (row_worth c.args.values.now c.args.row.now) c.loop-var-test.false c.loop-var.invariant.worth,
)
