use Rattle.std.specs.Prelude.{ℕ, ℤ, ◌≡◌, ◌≤◌, ◌<◌, ◌+◌, ◌*◌, ◌^◌, ◌+ℤ◌, ◌*ℤ◌, pos, nat_abs, List, get_or, length}
use Rattle.std.proofs.Common.{arith, ap, ap₂, ◌∙◌, sym, subst, SFits, to_z, of_z, to_z-of_z}
use mir.Syntax.{w128}
use Rattle.std.proofs.lemmas.Int.{ints}
use Rattle.lin_term.specs.Form.{cap}
use Rattle.lin_term.specs.Linear.{at, BelowTerms}
use Rattle.lin_term.proofs.AtNames.{below_index}
use Rattle.lin_term.proofs.Points.{at_within, dot_more, few_terms}
use Rattle.lin_term.proofs.Terms.{word_of, wide_of, term_kept}
use Rattle.lin_term.proofs.point.dot.Goals as goal

pub bounds-nums-var : goal.bounds-nums-var
bounds-nums-var c =
    let b = below_index (length c.args.point.now.nums) c.coefs-var-items.result.now c.loop-var.var-index (subst (λ (ts : List (ℕ × ℤ)). BelowTerms (length c.args.point.now.nums) ts) (sym c.coefs-var-items.ensures.terms) c.requires) c.loop-var-test.true in
    subst (λ (ns : List ℤ). (get_or c.coefs-var-items.result.now c.loop-var.var-index (0, pos 0)).0 < length ns) (sym c.nums-nums.ensures.value) b

pub product-sum-requires-in-loop-var-clause-p_kept : goal.product-sum-requires-in-loop-var-clause-p_kept
product-sum-requires-in-loop-var-clause-p_kept c =
    let z : ℤ = (get_or c.coefs-var-items.result.now c.loop-var.var-index (0, pos 0)).1 in
    let k : nat_abs z ≤ cap = term_kept 0 c.coefs-var-items.result.now c.loop-var.var-index (0, pos 0) c.loop-var-test.true c.coefs-var-items.ensures.kept in
    subst (λ (y : ℤ). nat_abs y ≤ cap) (sym (word_of z k)) k

pub product-sum-requires-in-loop-var-clause-a_kept : goal.product-sum-requires-in-loop-var-clause-a_kept
product-sum-requires-in-loop-var-clause-a_kept c =
    let z : ℤ = get_or c.nums-nums.result.now (get_or c.coefs-var-items.result.now c.loop-var.var-index (0, pos 0)).0 (pos 0) in
    let k : nat_abs z ≤ cap = at_within c.nums-nums.result.now (get_or c.coefs-var-items.result.now c.loop-var.var-index (0, pos 0)).0 c.nums-nums.ensures.kept in
    subst (λ (y : ℤ). nat_abs y ≤ cap) (sym (word_of z k)) k

pub overflow_add-sum : goal.overflow_add-sum
overflow_add-sum c =
    let z = c.product-sum-in-loop-var.ensures.size in
    let w = wide_of c.product-sum-in-loop-var.result (omega (arith, z)) in
    let few = few_terms c.coefs-var-items.result.now c.coefs-var-items.ensures.kept in
    let s = c.loop-var.invariant.size in
    let l = c.loop-var-test.true in
    omega (arith, ints)

pub loop-var-preserved : goal.loop-var-preserved
loop-var-preserved c =
    let S : ℤ = to_z w128 c.loop-var.sum-bits in
    let P : ℤ = c.product-sum-in-loop-var.result in
    let ts = c.coefs-var-items.result.now in
    let ns = c.nums-nums.result.now in
    let i : ℕ = c.loop-var.var-index in
    let z = c.product-sum-in-loop-var.ensures.size in
    let w = wide_of P (omega (arith, z)) in
    let few = few_terms ts c.coefs-var-items.ensures.kept in
    let s = c.loop-var.invariant.size in
    let l = c.loop-var-test.true in
    let f : SFits w128 (S +ℤ P) = omega (arith, ints, s, z, few, l) in
    let e : to_z w128 (of_z w128 (S +ℤ to_z w128 (of_z w128 P))) ≡ S +ℤ P = ap (λ (y : ℤ). to_z w128 (of_z w128 (S +ℤ y))) w ∙ to_z-of_z f in
    let u : ℕ × ℤ = get_or ts i (0, pos 0) in
    let a : ℤ = at ns u.0 in
    let k : nat_abs u.1 ≤ cap = term_kept 0 ts i (0, pos 0) l c.coefs-var-items.ensures.kept in
    let j : nat_abs a ≤ cap = at_within ns u.0 c.nums-nums.ensures.kept in
    let v : P ≡ u.1 *ℤ a = c.product-sum-in-loop-var.ensures.value ∙ ap₂ (λ (x y : ℤ). x *ℤ y) (word_of u.1 k) (word_of a j) in
    let m : nat_abs (S +ℤ P) ≤ (i + 1 + 1) * 2 ^ 104 = omega (arith, ints, s, z) in
    record {
      items = c.loop-var.invariant.items;
      value = e ∙ dot_more ts ns i S (c.args.row.now.constant *ℤ pos c.args.point.now.den) P l c.loop-var.invariant.value v;
      size = subst (λ (y : ℤ). nat_abs y ≤ (i + 1 + 1) * 2 ^ 104) (sym e) m;
    }
