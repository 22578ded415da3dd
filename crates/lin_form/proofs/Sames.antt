-- Steps on equal values give equal values, and a value in lowest terms is the same value.
use Rattle.std.specs.Prelude.{ℕ, zero, suc, ◌*◌, ◌/◌, ◌≤◌, ◌≡◌, ℤ, pos, negsuc, ◌*ℤ◌, ◌<ℤ◌, neg_ℤ}
use Rattle.std.proofs.Common.{arith, ap, ap₂, ◌∙◌, sym, subst, refl}
use Rattle.std.proofs.lemmas.Int.{ints}
use Rattle.lin_term.specs.declared.Sort.{Sort}
use Rattle.lin_term.specs.declared.Sort.TheVariants.{Rat, Int}
use Rattle.lin_term.specs.Linear.{Value, IsValue}
use Rattle.lin_term.proofs.Ring.{ring, cancel_right_ℤ, pos_mul, pos_from_mul, neg_mul_ℤ}
use Rattle.lin_truth.specs.Value.{IsSame, v_neg, v_abs, v_minus, v_times, v_over, over_num, v_div, v_mod, whole_div}
use Rattle.lin_truth.specs.Formed.{IsInt}
use Rattle.lin_form.specs.Lin.{Lin}
use Rattle.lin_form.specs.Low.{lowest}
use Rattle.lin_form.proofs.Lowest.{parts_of, abs_cross, lowest_den, same_plus, same_times}

one_of_product : (g q : ℕ) → g * q ≡ 1 → q ≡ 1
one_of_product g zero e = absurd (omega arith)
one_of_product zero (suc zero) e = absurd (omega arith)
one_of_product (suc g) (suc zero) e = refl
one_of_product zero (suc (suc q)) e = absurd (omega arith)
one_of_product (suc g) (suc (suc q)) e = absurd (omega arith)

pub lowest_value : (s : Sort) (v : Value) → IsValue s v → IsValue s (lowest v)
lowest_value Rat v h = lowest_den v h
lowest_value Int v h =
    let a = parts_of v (omega arith) in
    subst (λ (y : Lin). y.den ≡ 1) (sym a.lin) (one_of_product a.by (v.den / a.by) (a.den ∙ h))

trans_law : (a b c p q r : ℤ) → pos 0 <ℤ q → a *ℤ q ≡ b *ℤ p → b *ℤ r ≡ c *ℤ q → a *ℤ r ≡ c *ℤ p
trans_law a b c p q r h e f =
    let l : (a *ℤ r) *ℤ q ≡ (a *ℤ q) *ℤ r = simp ring in
    let m : (b *ℤ p) *ℤ r ≡ (b *ℤ r) *ℤ p = simp ring in
    let n : (c *ℤ q) *ℤ p ≡ (c *ℤ p) *ℤ q = simp ring in
    cancel_right_ℤ (a *ℤ r) (c *ℤ p) q h (l ∙ ap (λ (t : ℤ). t *ℤ r) e ∙ m ∙ ap (λ (t : ℤ). t *ℤ p) f ∙ n)

over_zero : (n : ℕ) → 1 ≤ n → pos 0 <ℤ pos n
over_zero n h = omega (arith, ints)

pub trans_same : (x y z : Value) → 1 ≤ y.den → IsSame x y → IsSame y z → IsSame x z
trans_same x y z h e f = trans_law x.num y.num z.num (pos x.den) (pos y.den) (pos z.den) (over_zero y.den h) e f

pub same_neg : (x x' : Value) → IsSame x x' → IsSame (v_neg x) (v_neg x')
same_neg x x' e =
    neg_mul_ℤ x.num (pos x'.den) ∙ ap (λ (t : ℤ). neg_ℤ t) e ∙ sym (neg_mul_ℤ x'.num (pos x.den))

pub same_minus : (x x' y y' : Value) → IsSame x x' → IsSame y y' → IsSame (v_minus x y) (v_minus x' y')
same_minus x x' y y' e f = same_plus x x' (v_neg y) (v_neg y') e (same_neg y y' f)

pub same_abs : (x x' : Value) → IsSame x x' → IsSame (v_abs x) (v_abs x')
same_abs x x' e = ap pos (abs_cross x x' e)

-- ---- quotients

pos_agrees : (m m' e e' : ℤ) → pos 0 <ℤ e → pos 0 <ℤ e' → m *ℤ e' ≡ m' *ℤ e → pos 0 <ℤ m → pos 0 <ℤ m'
pos_agrees m m' e e' h h' k l = pos_from_mul m' e h (subst (λ (t : ℤ). pos 0 <ℤ t) k (pos_mul m e' l h'))

neg_agrees : (m m' e e' : ℤ) → pos 0 <ℤ e → pos 0 <ℤ e' → m *ℤ e' ≡ m' *ℤ e → pos 0 <ℤ neg_ℤ m → pos 0 <ℤ neg_ℤ m'
neg_agrees m m' e e' h h' k l =
    pos_agrees (neg_ℤ m) (neg_ℤ m') e e' h h' (neg_mul_ℤ m e' ∙ ap (λ (t : ℤ). neg_ℤ t) k ∙ sym (neg_mul_ℤ m' e)) l

over_law : (a a' p p' m m' e e' : ℤ) → a *ℤ p' ≡ a' *ℤ p → m *ℤ e' ≡ m' *ℤ e → (a *ℤ e) *ℤ (p' *ℤ m') ≡ (a' *ℤ e') *ℤ (p *ℤ m)
over_law a a' p p' m m' e e' f k =
    let l : (a *ℤ e) *ℤ (p' *ℤ m') ≡ (a *ℤ p') *ℤ (m' *ℤ e) = simp ring in
    let r : (a' *ℤ p) *ℤ (m *ℤ e') ≡ (a' *ℤ e') *ℤ (p *ℤ m) = simp ring in
    l ∙ ap₂ (λ (i j : ℤ). i *ℤ j) f (sym k) ∙ r

over_neg_law : (a a' p p' m m' e e' : ℤ) → a *ℤ p' ≡ a' *ℤ p → neg_ℤ m *ℤ e' ≡ neg_ℤ m' *ℤ e → neg_ℤ (a *ℤ e) *ℤ (p' *ℤ m') ≡ neg_ℤ (a' *ℤ e') *ℤ (p *ℤ m)
over_neg_law a a' p p' m m' e e' f k =
    let l : neg_ℤ (a *ℤ e) *ℤ (p' *ℤ m') ≡ (a *ℤ p') *ℤ (neg_ℤ m' *ℤ e) = simp ring in
    let r : (a' *ℤ p) *ℤ (neg_ℤ m *ℤ e') ≡ neg_ℤ (a' *ℤ e') *ℤ (p *ℤ m) = simp ring in
    l ∙ ap₂ (λ (i j : ℤ). i *ℤ j) f (sym k) ∙ r

over_by : (x x' : Value) (m m' : ℤ) (e e' : ℕ) → pos 0 <ℤ pos e → pos 0 <ℤ pos e' → IsSame x x' → m *ℤ pos e' ≡ m' *ℤ pos e → IsSame (over_num x m e) (over_num x' m' e')
over_by x x' (pos zero) (pos zero) e e' h h' s k = s
over_by x x' (pos zero) (pos (suc m')) e e' h h' s k =
    let l = pos_agrees (pos (suc m')) (pos zero) (pos e') (pos e) h' h (sym k) (omega (arith, ints)) in absurd (omega (arith, ints))
over_by x x' (pos zero) (negsuc m') e e' h h' s k =
    let l = neg_agrees (negsuc m') (pos zero) (pos e') (pos e) h' h (sym k) (omega (arith, ints)) in absurd (omega (arith, ints))
over_by x x' (pos (suc m)) (pos zero) e e' h h' s k =
    let l = pos_agrees (pos (suc m)) (pos zero) (pos e) (pos e') h h' k (omega (arith, ints)) in absurd (omega (arith, ints))
over_by x x' (pos (suc m)) (pos (suc m')) e e' h h' s k =
    over_law x.num x'.num (pos x.den) (pos x'.den) (pos (suc m)) (pos (suc m')) (pos e) (pos e') s k
over_by x x' (pos (suc m)) (negsuc m') e e' h h' s k =
    let l = pos_agrees (pos (suc m)) (negsuc m') (pos e) (pos e') h h' k (omega (arith, ints)) in absurd (omega (arith, ints))
over_by x x' (negsuc m) (pos zero) e e' h h' s k =
    let l = neg_agrees (negsuc m) (pos zero) (pos e) (pos e') h h' k (omega (arith, ints)) in absurd (omega (arith, ints))
over_by x x' (negsuc m) (pos (suc m')) e e' h h' s k =
    let l = neg_agrees (negsuc m) (pos (suc m')) (pos e) (pos e') h h' k (omega (arith, ints)) in absurd (omega (arith, ints))
over_by x x' (negsuc m) (negsuc m') e e' h h' s k =
    over_neg_law x.num x'.num (pos x.den) (pos x'.den) (pos (suc m)) (pos (suc m')) (pos e) (pos e') s k

pub same_over : (x x' y y' : Value) → 1 ≤ y.den → 1 ≤ y'.den → IsSame x x' → IsSame y y' → IsSame (v_over x y) (v_over x' y')
same_over x x' y y' h h' e f =
    over_by x x' y.num y'.num y.den y'.den (over_zero y.den h) (over_zero y'.den h') e f

-- ---- whole numbers

times_one : (z : ℤ) → z *ℤ pos 1 ≡ z
times_one z = omega (arith, ints)

pub whole_num : (v w : Value) → IsValue Int v → IsValue Int w → IsSame v w → v.num ≡ w.num
whole_num v w i j e =
    sym (ap (λ (n : ℕ). v.num *ℤ pos n) j ∙ times_one v.num) ∙ e ∙ (ap (λ (n : ℕ). w.num *ℤ pos n) i ∙ times_one w.num)

pub same_div : (s : Sort) (x x' y y' : Value) → IsInt s → IsValue s x → IsValue s x' → IsValue s y → IsValue s y' → IsSame x x' → IsSame y y' → IsSame (v_div x y) (v_div x' y')
same_div Rat x x' y y' n i i' j j' e f = absurd n
same_div Int x x' y y' n i i' j j' e f =
    ap₂ (λ (a b : ℤ). whole_div a b *ℤ pos 1) (whole_num x x' i i' e) (whole_num y y' j j' f)

pub same_mod : (s : Sort) (x x' y y' : Value) → IsInt s → IsValue s x → IsValue s x' → IsValue s y → IsValue s y' → IsSame x x' → IsSame y y' → IsSame (v_mod x y) (v_mod x' y')
same_mod s x x' y y' n i i' j j' e f =
    same_minus x x' (v_times y (v_div x y)) (v_times y' (v_div x' y')) e
    (same_times y y' (v_div x y) (v_div x' y') f (same_div s x x' y y' n i i' j j' e f))
