use Rattle.std.proofs.Common.{◌≡◌, ◌+◌, ◌-◌, ◌≤◌, length, drop, nat_abs}
use Rattle.lin_term.specs.Form.{AreTerms}
use Rattle.lin_term.specs.Literal.{gcd, gcd_terms}
use Rattle.lin_term.specs.Blend.{reduce_by, sum_terms}
use Rattle.lin_term.proofs.blend.common_of_sum.Given as goal

abbrev pub invariant-loop-head : goal.invariant-loop-head
invariant-loop-head l = record {
  same : gcd l.common (gcd_terms (reduce_by (nat_abs l.modulus) (sum_terms l.p (drop l.i l.left) l.q (drop l.j l.right) l.skip))) ≡ gcd l.fn.start (gcd_terms (reduce_by (nat_abs l.modulus) (sum_terms l.p l.left l.q l.right l.skip)));
  left_within : l.i ≤ length l.left;
  right_within : l.j ≤ length l.right;
  left_kept : AreTerms 0 (drop l.i l.left);
  right_kept : AreTerms 0 (drop l.j l.right);
}

abbrev pub decreases-loop-head : goal.decreases-loop-head
decreases-loop-head l = (length l.left - l.i) + (length l.right - l.j)
