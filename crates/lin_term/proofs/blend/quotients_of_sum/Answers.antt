use Rattle.std.proofs.Common.{ℕ, ℤ, ◌≡◌, ◌+◌, ◌∙◌, ap, sym, arith, drop, List, subst, nat_abs, length-drop, to_z, of_z, w64, SFits, to_z-of_z}
use mir.Syntax.{w128}
use Rattle.std.proofs.lemmas.List.{take_rest}
use Rattle.lin_term.specs.Literal.{quotient_terms}
use Rattle.lin_term.specs.Blend.{reduce_by, residue_by, sum_terms}
use Rattle.std.specs.Prelude.{[], Err}
use Rattle.lin_term.specs.Items.{CappedTerms}
use Rattle.lin_term.specs.Linear.{put_front}
use Rattle.lin_term.specs.Wide.{coefficients, first_past}
use Rattle.lin_term.proofs.Terms.{are_more, wide_of, two_words}
use Rattle.lin_term.proofs.Reducing.{terms_more, quotients_more, quotients_end, fits_more, wide_here, nothing_left, wide_from}
use Rattle.lin_term.proofs.blend.quotients_of_sum.Goals as goal

pub loop-head-preserved : goal.loop-head-preserved
loop-head-preserved c =
    let i = c.loop-head.invariant in
    let e = c.in-Some.ensures in
    let w = e.within in
    let h = c.in-Some.head in
    let m = nat_abs (to_z w128 (of_z w128 c.args.modulus)) in
    let g = nat_abs (to_z w128 (of_z w128 c.args.g)) in
    let p = to_z w64 (of_z w64 c.args.p) in
    let q = to_z w64 (of_z w64 c.args.q) in
    let ls = c.args.left.now in
    let rs = c.args.right.now in
    let t = terms_more p ls q rs c.args.skip c.loop-head.i c.loop-head.j h.left h.right h.var h.coef (simp take_rest at e.some) in
    let r : to_z w128 (of_z w128 c.reduced-coef.result) ≡ residue_by m h.coef = two_words c.reduced-coef.result c.reduced-coef.type_inv ∙ c.reduced-coef.ensures ∙ ap (residue_by m) (wide_of h.coef (omega (arith, e.size))) in
    record {
      sum = quotients_more c.loop-head.out.items c.push_quotient.new.out.items (quotient_terms (reduce_by m (sum_terms p ls q rs c.args.skip)) g) m g h.var h.coef (to_z w128 (of_z w128 c.reduced-coef.result)) (sum_terms p (drop c.loop-head.i ls) q (drop c.loop-head.j rs) c.args.skip) (sum_terms p (drop (c.loop-head.i + h.left) ls) q (drop (c.loop-head.j + h.right) rs) c.args.skip) i.sum t r c.in-Ok.ensures.1;
      fit = fits_more c.loop-head.out.items c.push_quotient.new.out.items (quotient_terms (put_front h.var (to_z w128 (of_z w128 c.reduced-coef.result)) []) g) i.fit c.in-Ok.ensures.0 c.in-Ok.ensures.1;
      left_within = omega (arith, length-drop c.loop-head.i c.args.left.now, w);
      right_within = omega (arith, length-drop c.loop-head.j c.args.right.now, w);
      left_kept = are_more c.loop-head.i h.left c.args.left.now i.left_kept;
      right_kept = are_more c.loop-head.j h.right c.args.right.now i.right_kept;
    }

pub returns : goal.returns
returns c =
    let fm : SFits w128 c.args.modulus = c.ranges.modulus in
    let fg : SFits w128 c.args.g = c.ranges.g in
    let fp : SFits w64 c.args.p = c.ranges.p in
    let fq : SFits w64 c.args.q = c.ranges.q in
    let s = simp to_z-of_z at c.loop-head.invariant.sum in
    let n = simp take_rest at c.in_default.ensures.none in
    let e = quotients_end c.loop-head.out.items _ (nat_abs c.args.modulus) (nat_abs c.args.g) _ (nothing_left _ _ _ _ _ n.0 n.1) s in
    (ap (λ ts. first_past (coefficients ts)) (sym e) ∙ c.loop-head.invariant.fit, e)

pub returns-in-Err : goal.returns-in-Err
returns-in-Err c =
    let fm : SFits w128 c.args.modulus = c.ranges.modulus in
    let fg : SFits w128 c.args.g = c.ranges.g in
    let fp : SFits w64 c.args.p = c.ranges.p in
    let fq : SFits w64 c.args.q = c.ranges.q in
    let i = c.loop-head.invariant in
    let e = c.in-Some.ensures in
    let h = c.in-Some.head in
    let ls = c.args.left.now in
    let rs = c.args.right.now in
    let p = to_z w64 (of_z w64 c.args.p) in
    let q = to_z w64 (of_z w64 c.args.q) in
    let m = nat_abs (to_z w128 (of_z w128 c.args.modulus)) in
    let g = nat_abs (to_z w128 (of_z w128 c.args.g)) in
    let t = terms_more p ls q rs c.args.skip c.loop-head.i c.loop-head.j h.left h.right h.var h.coef (simp take_rest at e.some) in
    let r : to_z w128 (of_z w128 c.reduced-coef.result) ≡ residue_by m h.coef = two_words c.reduced-coef.result c.reduced-coef.type_inv ∙ c.reduced-coef.ensures ∙ ap (residue_by m) (wide_of h.coef (omega (arith, e.size))) in
    let w = wide_from c.in-Err.fault c.loop-head.out c.push_quotient.new.out (quotient_terms (put_front h.var (to_z w128 (of_z w128 c.reduced-coef.result)) []) g) (quotient_terms (reduce_by m (sum_terms p ls q rs c.args.skip)) g) c.in-Err.ensures
    (λ z. wide_here c.loop-head.out.items (quotient_terms (reduce_by m (sum_terms p ls q rs c.args.skip)) g) m g h.var h.coef (to_z w128 (of_z w128 c.reduced-coef.result)) z (sum_terms p (drop c.loop-head.i ls) q (drop c.loop-head.j rs) c.args.skip) (sum_terms p (drop (c.loop-head.i + h.left) ls) q (drop (c.loop-head.j + h.right) rs) c.args.skip) i.sum i.fit t r) in
    let all : quotient_terms (reduce_by m (sum_terms p ls q rs c.args.skip)) g ≡ quotient_terms (reduce_by (nat_abs c.args.modulus) (sum_terms c.args.p ls c.args.q rs c.args.skip)) (nat_abs c.args.g) = simp to_z-of_z in
    subst (λ (ts : List (ℕ × ℤ)). CappedTerms ts (Err c.in-Err.fault)) all w
