-- A multiple that is rounded down is no larger than both numbers together.
use Rattle.std.proofs.Common.{◌≡◌, ℕ, zero, suc, ◌+◌, ◌/◌, ◌<◌, ◌≤◌, Bool, true, false, ◌&&◌, Some, None, ℤ, pos, negsuc, ◌*◌, ◌*ℤ◌, ◌≤ℤ◌, ◌<ℤ◌, ◌+ℤ◌, neg_ℤ, nat_abs, refl, sym, ap, subst, ◌∙◌, arith}
use lib.Signed.{lt_z}
use Rattle.std.proofs.lemmas.Int.{ints}
use Rattle.std.proofs.Math.IntN.{neg_ℤ-neg_ℤ}
use Rattle.lin_term.specs.Linear.{Value, floor_div}
use Rattle.lin_term.proofs.PrimitiveLemmas.{floor_bounds}
use Rattle.lin_term.proofs.Ring.{neg_mul_ℤ, mul_neg_ℤ}
use Rattle.lin_truth.specs.Value.{zero_value, one_value, whole_div, over_num}
use Rattle.lin_term.specs.Literal.{gcd}
use Rattle.lin_truth.specs.Worked.{kept}

between : (a x : ℤ) (n : ℕ) → x ≤ℤ a → a <ℤ (x +ℤ pos n) → nat_abs x ≤ nat_abs a + n
between a x n p q = omega (arith, ints)

both_signs : (m : ℕ) (f : ℤ) → negsuc m *ℤ neg_ℤ f ≡ pos (suc m) *ℤ f
both_signs m f = neg_mul_ℤ (pos (suc m)) (neg_ℤ f) ∙ ap neg_ℤ (mul_neg_ℤ (pos (suc m)) f) ∙ neg_ℤ-neg_ℤ (pos (suc m) *ℤ f)

none : (a : ℤ) → nat_abs (pos 0 *ℤ a) ≤ nat_abs a + 0
none a = let e : pos 0 *ℤ a ≡ pos 0 = omega (arith, ints) in subst (λ x. nat_abs x ≤ nat_abs a + 0) (sym e) (omega arith)

pub multiple-size : (a n : ℤ) → nat_abs (n *ℤ whole_div a n) ≤ nat_abs a + nat_abs n
multiple-size a (pos zero) = none a
multiple-size a (pos (suc m)) = let b = floor_bounds a (suc m) (omega arith) in between a (pos (suc m) *ℤ floor_div a (suc m)) (suc m) b.0 b.1
multiple-size a (negsuc m) =
    let b = floor_bounds a (suc m) (omega arith) in
    subst (λ x. nat_abs x ≤ nat_abs a + suc m) (sym (both_signs m (floor_div a (suc m)))) (between a (pos (suc m) *ℤ floor_div a (suc m)) (suc m) b.0 b.1)

-- the same numbers
pub kept_at : (n m : ℤ) (d e : ℕ) → n ≡ m → d ≡ e → kept (record { num = n; den = d }) ≡ kept (record { num = m; den = e })
kept_at n m d e p q = λ k. kept (record { num = p k; den = q k })

-- a quotient by 0
pub over-none : (x : Value) (n : ℤ) (e : ℕ) → n ≡ pos 0 → over_num x n e ≡ x
over-none x n e h = ap (λ (z : ℤ). over_num x z e) h

pub zero-kept : kept zero_value ≡ Some zero_value
unfolding gcd
zero-kept = refl

pub one-kept : kept one_value ≡ Some one_value
unfolding gcd
one-kept = refl
