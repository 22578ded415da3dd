use Rattle.std.specs.Prelude.{◌≡◌, ℕ, zero, suc, ◌*◌, ℤ, pos, negsuc, ◌+ℤ◌, ◌-ℤ◌, ◌*ℤ◌, ◌≤ℤ◌, ◌<ℤ◌}
use Rattle.std.proofs.Common.{arith, ap, ◌∙◌, sym, subst}
use Rattle.std.proofs.lemmas.Int.{ints}
use borrow.Author.Differences.{up, down, sum_is_lem, product_is, neg_is}
use lib.IntN.{neg_ℤ, *ℤ_comm, +ℤ_comm, +ℤ_assoc}

pub distrib_ℤ : (a b c : ℤ) → a *ℤ (b +ℤ c) ≡ a *ℤ b +ℤ a *ℤ c
distrib_ℤ a b c =
    omega (arith, ints, ap (λ (x : ℕ). up a * x) (sum_is_lem b c), ap (λ (x : ℕ). down a * x) (sum_is_lem b c))

pub mul_assoc_ℤ : (a b c : ℤ) → (a *ℤ b) *ℤ c ≡ a *ℤ (b *ℤ c)
mul_assoc_ℤ a b c =
    let p = product_is a b in
    let q = product_is b c in
    omega (arith, ints, ap (λ (x : ℕ). x * up c) p.0, ap (λ (x : ℕ). x * down c) p.0, ap (λ (x : ℕ). x * up c) p.1, ap (λ (x : ℕ). x * down c) p.1, ap (λ (x : ℕ). up a * x) q.0, ap (λ (x : ℕ). down a * x) q.0, ap (λ (x : ℕ). up a * x) q.1, ap (λ (x : ℕ). down a * x) q.1)

pub distrib_right_ℤ : (a b c : ℤ) → (a +ℤ b) *ℤ c ≡ a *ℤ c +ℤ b *ℤ c
distrib_right_ℤ a b c =
    omega (arith, ints, ap (λ (x : ℕ). x * up c) (sum_is_lem a b), ap (λ (x : ℕ). x * down c) (sum_is_lem a b))

pub mul_left_comm_ℤ : (a b c : ℤ) → a *ℤ (b *ℤ c) ≡ b *ℤ (a *ℤ c)
mul_left_comm_ℤ a b c = sym (mul_assoc_ℤ a b c) ∙ ap (λ (x : ℤ). x *ℤ c) (*ℤ_comm a b) ∙ mul_assoc_ℤ b a c

pub neg_mul_ℤ : (a b : ℤ) → neg_ℤ a *ℤ b ≡ neg_ℤ (a *ℤ b)
neg_mul_ℤ a b =
    omega (arith, ints, ap (λ (x : ℕ). x * up b) (neg_is a).0, ap (λ (x : ℕ). x * up b) (neg_is a).1, ap (λ (x : ℕ). x * down b) (neg_is a).0, ap (λ (x : ℕ). x * down b) (neg_is a).1)

pub mul_neg_ℤ : (a b : ℤ) → a *ℤ neg_ℤ b ≡ neg_ℤ (a *ℤ b)
mul_neg_ℤ a b = *ℤ_comm a (neg_ℤ b) ∙ neg_mul_ℤ b a ∙ ap neg_ℤ (*ℤ_comm b a)

pub ruleset ring = (distrib_ℤ, distrib_right_ℤ, mul_assoc_ℤ, *ℤ_comm, mul_left_comm_ℤ, neg_mul_ℤ, mul_neg_ℤ)

pub cross_sum : (n d m e k : ℤ) → k *ℤ (n *ℤ e +ℤ m *ℤ d) ≡ (k *ℤ n) *ℤ e +ℤ (k *ℤ m) *ℤ d
cross_sum n d m e k = simp ring

pub square : (a b : ℤ) → (a -ℤ b) *ℤ (a +ℤ b) ≡ a *ℤ a -ℤ b *ℤ b
square a b = simp ring (omega (arith, ints))

pub nonneg_mul : (a b : ℤ) → pos 0 ≤ℤ a → pos 0 ≤ℤ b → pos 0 ≤ℤ (a *ℤ b)
nonneg_mul (pos a) (pos b) p q = omega (arith, ints)
nonneg_mul (negsuc a) b p q = absurd (omega (arith, ints))
nonneg_mul (pos a) (negsuc b) p q = absurd (omega (arith, ints))

pub pos_mul : (a b : ℤ) → pos 0 <ℤ a → pos 0 <ℤ b → pos 0 <ℤ (a *ℤ b)
pos_mul (pos zero) b p q = absurd (omega (arith, ints))
pos_mul (pos (suc a)) (pos zero) p q = absurd (omega (arith, ints))
pos_mul (pos (suc a)) (pos (suc b)) p q = omega (arith, ints)
pos_mul (negsuc a) b p q = absurd (omega (arith, ints))
pos_mul (pos (suc a)) (negsuc b) p q = absurd (omega (arith, ints))

-- a sign does not change under a positive factor
pub nonneg_from_mul : (a b : ℤ) → pos 0 <ℤ b → pos 0 ≤ℤ (a *ℤ b) → pos 0 ≤ℤ a
nonneg_from_mul (pos a) b p q = omega (arith, ints)
nonneg_from_mul (negsuc a) (pos zero) p q = absurd (omega (arith, ints))
nonneg_from_mul (negsuc a) (pos (suc b)) p q = absurd (omega (arith, ints))
nonneg_from_mul (negsuc a) (negsuc b) p q = absurd (omega (arith, ints))

pub pos_from_mul : (a b : ℤ) → pos 0 <ℤ b → pos 0 <ℤ (a *ℤ b) → pos 0 <ℤ a
pos_from_mul (pos zero) b p q = absurd (omega (arith, ints))
pos_from_mul (pos (suc a)) b p q = omega (arith, ints)
pos_from_mul (negsuc a) (pos zero) p q = absurd (omega (arith, ints))
pos_from_mul (negsuc a) (pos (suc b)) p q = absurd (omega (arith, ints))
pos_from_mul (negsuc a) (negsuc b) p q = absurd (omega (arith, ints))

pub zero_from_mul : (a b : ℤ) → pos 0 <ℤ b → a *ℤ b ≡ pos 0 → a ≡ pos 0
zero_from_mul (pos zero) b p q = omega (arith, ints)
zero_from_mul (pos (suc a)) (pos zero) p q = absurd (omega (arith, ints))
zero_from_mul (pos (suc a)) (pos (suc b)) p q = absurd (omega (arith, ints))
zero_from_mul (pos (suc a)) (negsuc b) p q = absurd (omega (arith, ints))
zero_from_mul (negsuc a) (pos zero) p q = absurd (omega (arith, ints))
zero_from_mul (negsuc a) (pos (suc b)) p q = absurd (omega (arith, ints))
zero_from_mul (negsuc a) (negsuc b) p q = absurd (omega (arith, ints))

-- the same sign on both sides of an equation with positive factors
pub nonneg_across : (a b d e : ℤ) → pos 0 <ℤ d → pos 0 <ℤ e → a *ℤ d ≡ b *ℤ e → pos 0 ≤ℤ a → pos 0 ≤ℤ b
nonneg_across a b d e p q s h =
    nonneg_from_mul b e q (subst (λ (x : ℤ). pos 0 ≤ℤ x) s (nonneg_mul a d h (omega (arith, ints))))

pub pos_across : (a b d e : ℤ) → pos 0 <ℤ d → pos 0 <ℤ e → a *ℤ d ≡ b *ℤ e → pos 0 <ℤ a → pos 0 <ℤ b
pos_across a b d e p q s h =
    pos_from_mul b e q (subst (λ (x : ℤ). pos 0 <ℤ x) s (pos_mul a d h p))

-- a positive factor can be cancelled
pub cancel_right_ℤ : (a b c : ℤ) → pos 0 <ℤ c → a *ℤ c ≡ b *ℤ c → a ≡ b
cancel_right_ℤ a b c p e =
    let d : (a +ℤ neg_ℤ b) *ℤ c ≡ pos 0 = simp ring (omega (arith, ints)) in
    let z = zero_from_mul (a +ℤ neg_ℤ b) c p d in
    omega (arith, ints)
