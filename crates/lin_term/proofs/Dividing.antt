-- Sizes of products, and what divides them.
use Prim.Native.Nat.{◌∣◌}
use Rattle.std.specs.Prelude.{ℕ, zero, suc, ◌+◌, ◌-◌, ◌*◌, ◌%◌, ◌≤◌, ◌≡◌, ℤ, pos, negsuc, ◌-ℤ◌, ◌*ℤ◌, neg_ℤ, nat_abs}
use Rattle.std.proofs.Common.{arith, ap, ◌∙◌, sym, subst}
use Rattle.std.proofs.lemmas.Int.{ints}
use Rattle.std.proofs.Math.Nat.{mod-eq-zero_of_dvd, dvd_of_mod-eq-zero, dvd_of_mul-dvd-mul_left, mul-dvd-mul_left, dvd-add, dvd-sub, one-dvd}

pub abs_product : (a : ℕ) (z : ℤ) → nat_abs (pos a *ℤ z) ≡ a * nat_abs z
abs_product a (pos z) = omega (arith, ints)
abs_product zero (negsuc z) = omega (arith, ints)
abs_product (suc a) (negsuc z) = omega (arith, ints)

pub abs_neg : (z : ℤ) → nat_abs (neg_ℤ z) ≡ nat_abs z
abs_neg z = omega (arith, ints)

pub one_den_mod : (z : ℤ) (d n : ℕ) → n ≡ 1 → nat_abs z % (d * n) ≡ nat_abs z % d
one_den_mod z d n e = ap (λ (k : ℕ). nat_abs z % k) (ap (λ (m : ℕ). d * m) e ∙ omega arith)

pub scaled_mod : (a d : ℕ) (u v : ℤ) → u ≡ pos a *ℤ v → nat_abs v % d ≡ 0 → nat_abs u % (a * d) ≡ 0
scaled_mod a d u v e h =
    mod-eq-zero_of_dvd (a * d) (subst (λ (k : ℕ). (a * d) ∣ k) (sym (ap nat_abs e ∙ abs_product a v)) (mul-dvd-mul_left d a (dvd_of_mod-eq-zero d h)))

pub scaled_mod_from : (a d : ℕ) (u v : ℤ) → 1 ≤ a → u ≡ pos a *ℤ v → nat_abs u % (a * d) ≡ 0 → nat_abs v % d ≡ 0
scaled_mod_from a d u v p e h =
    mod-eq-zero_of_dvd d (dvd_of_mul-dvd-mul_left {k = a} d p (subst (λ (k : ℕ). (a * d) ∣ k) (ap nat_abs e ∙ abs_product a v) (dvd_of_mod-eq-zero (a * d) h)))

pub abs_sub_divides : (d : ℕ) (u w : ℤ) → d ∣ nat_abs u → d ∣ nat_abs w → d ∣ nat_abs (u -ℤ w)
abs_sub_divides d (pos a) (pos b) p q =
    subst (λ (k : ℕ). d ∣ k) (let e : (a - b) + (b - a) ≡ nat_abs (pos a -ℤ pos b) = omega (arith, ints) in e) (dvd-add d (dvd-sub d p q) (dvd-sub d q p))
abs_sub_divides d (pos a) (negsuc b) p q =
    subst (λ (k : ℕ). d ∣ k) (let e : a + suc b ≡ nat_abs (pos a -ℤ negsuc b) = omega (arith, ints) in e) (dvd-add d p q)
abs_sub_divides d (negsuc a) (pos b) p q =
    subst (λ (k : ℕ). d ∣ k) (let e : suc a + b ≡ nat_abs (negsuc a -ℤ pos b) = omega (arith, ints) in e) (dvd-add d p q)
abs_sub_divides d (negsuc a) (negsuc b) p q =
    subst (λ (k : ℕ). d ∣ k) (let e : (suc a - suc b) + (suc b - suc a) ≡ nat_abs (negsuc a -ℤ negsuc b) = omega (arith, ints) in e) (dvd-add d (dvd-sub d p q) (dvd-sub d q p))

-- what divides the step divides a number and the number less the step alike
pub divides_down : (d n : ℕ) (c v : ℤ) → d ∣ nat_abs (c *ℤ pos n) → nat_abs v % d ≡ 0 → nat_abs (v -ℤ c *ℤ pos n) % d ≡ 0
divides_down d n c v p h =
    mod-eq-zero_of_dvd d (abs_sub_divides d v (c *ℤ pos n) (dvd_of_mod-eq-zero d h) p)

pub divides_up : (d n : ℕ) (c v : ℤ) → d ∣ nat_abs (c *ℤ pos n) → nat_abs (v -ℤ c *ℤ pos n) % d ≡ 0 → nat_abs v % d ≡ 0
divides_up d n c v p h =
    let q : d ∣ nat_abs (neg_ℤ (c *ℤ pos n)) = subst (λ (k : ℕ). d ∣ k) (sym (abs_neg (c *ℤ pos n))) p in
    let e : (v -ℤ c *ℤ pos n) -ℤ neg_ℤ (c *ℤ pos n) ≡ v = omega (arith, ints) in
    mod-eq-zero_of_dvd d (subst (λ (z : ℤ). d ∣ nat_abs z) e (abs_sub_divides d (v -ℤ c *ℤ pos n) (neg_ℤ (c *ℤ pos n)) (dvd_of_mod-eq-zero d h) q))

pub multiple : (a n : ℕ) (y u : ℤ) → n ≡ 1 → u ≡ pos a *ℤ y → nat_abs u % (a * n) ≡ 0
multiple a n y u o e =
    mod-eq-zero_of_dvd (a * n) (subst (λ (k : ℕ). (a * n) ∣ k) (sym (ap nat_abs e ∙ abs_product a y)) (subst (λ (k : ℕ). (a * k) ∣ (a * nat_abs y)) (sym o) (mul-dvd-mul_left 1 a (one-dvd (nat_abs y)))))
