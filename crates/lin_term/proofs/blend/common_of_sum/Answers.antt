use Rattle.std.proofs.Common.{ℕ, ◌≡◌, ◌+◌, ◌∙◌, ap, sym, arith, drop, nat_abs, length-drop, to_z, of_z, w64, SFits, to_z-of_z}
use mir.Syntax.{w128}
use Rattle.std.proofs.lemmas.List.{take_rest}
use Rattle.lin_term.specs.Literal.{gcd, gcd_terms}
use Rattle.lin_term.specs.Blend.{reduce_by, residue_by, sum_terms}
use Rattle.lin_term.proofs.Divisors.{gcd_one}
use Rattle.lin_term.proofs.Terms.{are_more, wide_of, two_words}
use Rattle.lin_term.proofs.Reducing.{terms_more, common_more, common_end, nothing_left}
use Rattle.lin_term.proofs.blend.common_of_sum.Goals as goal

pub returns-then-common-eq1 : goal.returns-then-common-eq1
returns-then-common-eq1 c =
    let fm : SFits w128 c.args.modulus = c.ranges.modulus in
    let fp : SFits w64 c.args.p = c.ranges.p in
    let fq : SFits w64 c.args.q = c.ranges.q in
    let s = simp to_z-of_z at c.loop-head.invariant.same in
    sym (gcd_one c.loop-head.common _ c.if-common-eq1.true) ∙ s

pub loop-head-preserved : goal.loop-head-preserved
loop-head-preserved c =
    let i = c.loop-head.invariant in
    let e = c.in-Some.ensures in
    let w = e.within in
    let h = c.in-Some.head in
    let m = nat_abs (to_z w128 (of_z w128 c.args.modulus)) in
    let p = to_z w64 (of_z w64 c.args.p) in
    let q = to_z w64 (of_z w64 c.args.q) in
    let ls = c.args.left.now in
    let rs = c.args.right.now in
    let t = terms_more p ls q rs c.args.skip c.loop-head.i c.loop-head.j h.left h.right h.var h.coef (simp take_rest at e.some) in
    let r : c.unsigned_abs.result ≡ nat_abs (residue_by m h.coef) = c.unsigned_abs.ensures.value ∙ ap nat_abs (two_words c.reduced.result c.reduced.type_inv ∙ c.reduced.ensures ∙ ap (residue_by m) (wide_of h.coef (omega (arith, e.size)))) in
    record {
      same = ap (λ (n : ℕ). gcd n (gcd_terms (reduce_by m (sum_terms p (drop (c.loop-head.i + h.left) ls) q (drop (c.loop-head.j + h.right) rs) c.args.skip)))) c.gcd_of-common.ensures ∙ common_more c.loop-head.common m h.var (gcd c.args.start (gcd_terms (reduce_by m (sum_terms p ls q rs c.args.skip)))) h.coef c.unsigned_abs.result (sum_terms p (drop c.loop-head.i ls) q (drop c.loop-head.j rs) c.args.skip) (sum_terms p (drop (c.loop-head.i + h.left) ls) q (drop (c.loop-head.j + h.right) rs) c.args.skip) t r i.same;
      left_within = omega (arith, length-drop c.loop-head.i c.args.left.now, w);
      right_within = omega (arith, length-drop c.loop-head.j c.args.right.now, w);
      left_kept = are_more c.loop-head.i h.left c.args.left.now i.left_kept;
      right_kept = are_more c.loop-head.j h.right c.args.right.now i.right_kept;
    }

pub returns : goal.returns
returns c =
    let fm : SFits w128 c.args.modulus = c.ranges.modulus in
    let fp : SFits w64 c.args.p = c.ranges.p in
    let fq : SFits w64 c.args.q = c.ranges.q in
    let s = simp to_z-of_z at c.loop-head.invariant.same in
    let n = simp take_rest at c.in_default.ensures.none in
    common_end c.loop-head.common (nat_abs c.args.modulus) _ _ (nothing_left _ _ _ _ _ n.0 n.1) s
