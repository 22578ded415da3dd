-- Remainders: the multiple that is taken away, and its size.
use Rattle.std.specs.Prelude.{ℕ, zero, suc, ◌+◌, ◌*◌, ◌≤◌, ◌≡◌, ℤ, pos, negsuc, ◌+ℤ◌, ◌-ℤ◌, ◌*ℤ◌, ◌≤ℤ◌, ◌<ℤ◌, neg_ℤ, nat_abs}
use Rattle.std.proofs.Common.{arith, ap, ap₂, ◌∙◌}
use Rattle.std.proofs.lemmas.Int.{ints}
use Rattle.lin_term.specs.Linear.{Value, floor_div}
use Rattle.lin_term.proofs.PrimitiveLemmas.{floor_bounds}
use Rattle.lin_term.proofs.Ring.{neg_mul_ℤ, mul_neg_ℤ}
use Rattle.lin_truth.specs.Value.{v_mod, whole_div}

near : (a p : ℤ) (g : ℕ) → p ≤ℤ a → a <ℤ (p +ℤ pos g) → nat_abs p ≤ nat_abs a + g
near a p g h k = omega (arith, ints, h, k)

-- n times the whole quotient of a by n is next to a
pub multiple_small : (a n : ℤ) → nat_abs (n *ℤ whole_div a n) ≤ nat_abs a + nat_abs n
multiple_small a (pos zero) = let e : pos 0 *ℤ a ≡ pos 0 = omega (arith, ints) in omega (arith, ap nat_abs e)
multiple_small a (pos (suc m)) =
    let b = floor_bounds a (suc m) (omega arith) in
    near a (pos (suc m) *ℤ floor_div a (suc m)) (suc m) b.0 b.1
multiple_small a (negsuc m) =
    let b = floor_bounds a (suc m) (omega arith) in
    let f : ℤ = floor_div a (suc m) in
    let e : negsuc m *ℤ neg_ℤ f ≡ pos (suc m) *ℤ f = twice (pos (suc m)) f in
    let h = near a (pos (suc m) *ℤ f) (suc m) b.0 b.1 in
    omega (arith, ap nat_abs e, h)
  where
    twice : (x y : ℤ) → neg_ℤ x *ℤ neg_ℤ y ≡ x *ℤ y
    twice x y = neg_mul_ℤ x (neg_ℤ y) ∙ ap neg_ℤ (mul_neg_ℤ x y) ∙ back (x *ℤ y)
      where
        back : (z : ℤ) → neg_ℤ (neg_ℤ z) ≡ z
        back z = omega (arith, ints)

-- what is left, over both denominators
pub rest_step : (v w : Value) → v_mod v w ≡ record { num = v.num *ℤ pos w.den -ℤ (w.num *ℤ whole_div v.num w.num) *ℤ pos v.den; den = v.den * w.den }
rest_step v w =
    let p : ℤ = w.num *ℤ whole_div v.num w.num in
    let e : neg_ℤ p *ℤ pos v.den ≡ neg_ℤ (p *ℤ pos v.den) = neg_mul_ℤ p (pos v.den) in
    let f : w.den * 1 ≡ w.den = omega arith in
    ap₂ (λ (n : ℕ) (z : ℤ). record { num = v.num *ℤ pos n +ℤ z; den = v.den * n }) f e
    ∙ ap (λ (z : ℤ). record { num = z; den = v.den * w.den }) (taken (v.num *ℤ pos w.den) (p *ℤ pos v.den))
  where
    taken : (x y : ℤ) → x +ℤ neg_ℤ y ≡ x -ℤ y
    taken x y = omega (arith, ints)
