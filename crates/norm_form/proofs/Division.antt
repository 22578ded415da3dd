-- div, mod and divisibility.
use Rattle.std.specs.Prelude.{ℕ, zero, suc, ◌*◌, ◌≡◌, ◌<◌, ℤ, pos, negsuc, ◌+ℤ◌, ◌*ℤ◌, neg_ℤ, nat_abs, ◌≤ℤ◌, ◌<ℤ◌, length, map, Bool, true, ◌&&◌}
use Rattle.std.proofs.Common.{arith, ap, ap₂, ◌∙◌, sym, subst, refl}
use Rattle.std.proofs.lemmas.Int.{ints, by_lt_z}
use Rattle.lin_term.specs.declared.Sort.{Sort}
use Rattle.lin_term.specs.declared.Sort.TheVariants.{Rat, Int}
use Rattle.lin_term.specs.Linear.{Point, Value, IsValue, IsPoint, extend, floor_div}
use Rattle.lin_term.proofs.Ring.{ring, nonneg_mul}
use Rattle.lin_term.proofs.Dots.{length-extend}
use Rattle.dom_core.proofs.Contrary.{extend_point}
use Rattle.lin_term.proofs.PrimitiveLemmas.{floor_bounds}
use Rattle.norm_form.proofs.Growing.{grows_trans, grows_extend, HasValue, has_new_value}
use Rattle.norm_form.specs.Normal.{Normal, TrueN}
use Rattle.lin_truth.specs.Term.{Term, div_of, mod_of}
use Rattle.lin_truth.specs.Truth.{Same, ValueIs}
use Rattle.lin_truth.specs.Value.{v_plus, v_minus, v_times, v_div, v_mod, whole_div}
use Rattle.lin_truth.specs.Formed.{IsNotZero}
use Rattle.lin_truth.specs.Constant.{is_constant, constant_value}
use Rattle.lin_form.specs.Low.{as_lin, low}
use Rattle.lin_form.specs.Lin.{Lin, lin_variable, lin_plus, lin_minus}
use Rattle.lin_form.specs.Scope.{bound_sort}
use Rattle.norm_form.specs.Norm.{lin, multiple, div_low, div_high, div_form}
use Rattle.norm_form.proofs.Forms.{gives_value, Gives, gives_grows, gives_plus, gives_minus, gives_variable, gives_scale, v_times_is}
use Rattle.norm_form.proofs.Leaves.{Sign, same_trans, same_sign, stable_normal}
use Rattle.norm_form.proofs.Cases.{LinOk, at_least_leaf}
use Rattle.lin_form.proofs.Sames.{whole_num}
use Rattle.norm_form.proofs.Numbers.{low_is, const_same, const_is, const_kont, lin_of_same}

pub times_one : (z : ℤ) → z *ℤ pos 1 ≡ z
times_one z = omega (arith, ints)

negsuc_mul : (k : ℕ) (a : ℤ) → negsuc k *ℤ a ≡ pos (suc k) *ℤ neg_ℤ a
negsuc_mul k a = let e : neg_ℤ (pos (suc k)) *ℤ a ≡ pos (suc k) *ℤ neg_ℤ a = simp ring in e

twice_neg : (k : ℕ) (a : ℤ) → negsuc k *ℤ neg_ℤ a ≡ pos (suc k) *ℤ a
twice_neg k a = negsuc_mul k (neg_ℤ a) ∙ ap (λ (z : ℤ). pos (suc k) *ℤ z) (let e : neg_ℤ (neg_ℤ a) ≡ a = omega (arith, ints) in e)

-- ---- the quotient: n*q <= m and m <= n*q + |n| - 1

pub div_bounds : (m n : ℤ) → IsNotZero n → ((n *ℤ whole_div m n) ≤ℤ m) × (m ≤ℤ (n *ℤ whole_div m n +ℤ (pos (nat_abs n) +ℤ negsuc 0)))
div_bounds m (pos zero) o = absurd o
div_bounds m (pos (suc n)) o =
    let b = floor_bounds m (suc n) (omega arith) in (b.0, (let u = b.1 in omega (arith, ints)))
div_bounds m (negsuc n) o =
    let b = floor_bounds m (suc n) (omega arith) in
    let e : negsuc n *ℤ neg_ℤ (floor_div m (suc n)) ≡ pos (suc n) *ℤ floor_div m (suc n) = twice_neg n (floor_div m (suc n)) in
    ((let u = b.0 in omega (arith, ints)), (let u = b.1 in omega (arith, ints)))

-- two quotients of one number
not_above : (n a b : ℤ) (k : ℕ) → (pos (suc k) *ℤ a) ≤ℤ n → n ≤ℤ (pos (suc k) *ℤ b +ℤ (pos (suc k) +ℤ negsuc 0)) → b <ℤ a → ⊥
not_above n a b k h l c =
    let m = nonneg_mul (pos (suc k)) (a +ℤ neg_ℤ b +ℤ negsuc 0) (omega (arith, ints)) (omega (arith, ints)) in
    let e : pos (suc k) *ℤ (a +ℤ neg_ℤ b +ℤ negsuc 0) ≡ pos (suc k) *ℤ a +ℤ neg_ℤ (pos (suc k) *ℤ b) +ℤ neg_ℤ (pos (suc k)) = simp ring (omega (arith, ints)) in
    omega (arith, ints)

unique_pos : (m a b : ℤ) (k : ℕ) → (pos (suc k) *ℤ a) ≤ℤ m → m ≤ℤ (pos (suc k) *ℤ a +ℤ (pos (suc k) +ℤ negsuc 0)) → (pos (suc k) *ℤ b) ≤ℤ m → m ≤ℤ (pos (suc k) *ℤ b +ℤ (pos (suc k) +ℤ negsuc 0)) → a ≡ b
unique_pos m a b k h l h' l' =
    by_lt_z a b (λ c. absurd (not_above m b a k h' l c)) (λ c. by_lt_z b a (λ c'. absurd (not_above m a b k h l' c')) (λ c'. omega (arith, ints)))

pub unique_div : (m n a b : ℤ) → IsNotZero n → (n *ℤ a) ≤ℤ m → m ≤ℤ (n *ℤ a +ℤ (pos (nat_abs n) +ℤ negsuc 0)) → (n *ℤ b) ≤ℤ m → m ≤ℤ (n *ℤ b +ℤ (pos (nat_abs n) +ℤ negsuc 0)) → a ≡ b
unique_div m (pos zero) a b o h l h' l' = absurd o
unique_div m (pos (suc k)) a b o h l h' l' = unique_pos m a b k h l h' l'
unique_div m (negsuc k) a b o h l h' l' =
    let e = negsuc_mul k a in
    let f = negsuc_mul k b in
    let z = unique_pos m (neg_ℤ a) (neg_ℤ b) k (omega (arith, ints)) (omega (arith, ints)) (omega (arith, ints)) (omega (arith, ints)) in
    omega (arith, ints)

-- ---- the three parts of a div

-- n times the value w of the variable at e
gives_multiple : (n : ℤ) (e : ℕ) (p : Point) (w : Value) → IsValue Int w → e < length p.nums → HasValue p e w → Gives Int (multiple n e) p (v_times (record { num = n; den = 1 }) w)
gives_multiple n e p w i l h =
    gives_scale Int n 1 (lin_variable e) p w (v_times (record { num = n; den = 1 }) w) (omega arith) (v_times_is Int (record { num = n; den = 1 }) w refl i) refl (gives_variable Int p e w i l h)

-- the value under the new binder
has_new : (p : Point) (e : ℕ) (w : Value) → length p.nums ≡ e → (e < length (extend p w).nums) × HasValue (extend p w) e w
has_new p e w l = ((let k = length-extend p w in omega arith), has_new_value p e w l)

low_part : (n : ℤ) (x : Lin) (e : ℕ) (r : Point) (v w : Value) → IsPoint Int r → length r.nums ≡ e → Gives Int x r v → IsValue Int w → Same ((n *ℤ w.num) ≤ℤ v.num) (TrueN (div_low Int n x e) Int (extend r w))
low_part n x e r v w i l a iw =
    let z = has_new r e w l in
    let u = at_least_leaf true Int (extend r w) (multiple n e) x (v_times (record { num = n; den = 1 }) w) v (extend_point Int r w i iw) (gives_multiple n e (extend r w) w iw z.0 z.1) (gives_grows Int x r (extend r w) v i (grows_extend r w) a) in
    let d : v.den ≡ 1 = a.valued in
    let f : (n *ℤ w.num) *ℤ pos v.den ≡ n *ℤ w.num = ap (λ (k : ℕ). (n *ℤ w.num) *ℤ pos k) d ∙ times_one (n *ℤ w.num) in
    let g : v.num *ℤ pos (1 * w.den) ≡ v.num = ap (λ (k : ℕ). v.num *ℤ pos (1 * k)) iw ∙ times_one v.num in
    same_trans (λ h. subst (λ (t : ℤ). t ≤ℤ (v.num *ℤ pos (1 * w.den))) (sym f) (subst (λ (t : ℤ). (n *ℤ w.num) ≤ℤ t) (sym g) h), λ h. subst (λ (t : ℤ). t ≤ℤ v.num) f (subst (λ (t : ℤ). ((n *ℤ w.num) *ℤ pos v.den) ≤ℤ t) g h)) u

high_part : (n : ℤ) (x : Lin) (e : ℕ) (r : Point) (v w : Value) → IsPoint Int r → length r.nums ≡ e → Gives Int x r v → IsValue Int w → Same (v.num ≤ℤ (n *ℤ w.num +ℤ (pos (nat_abs n) +ℤ negsuc 0))) (TrueN (div_high Int n x e) Int (extend r w))
high_part n x e r v w i l a iw =
    let z = has_new r e w l in
    let c : Value = record { num = pos (nat_abs n) +ℤ negsuc 0; den = 1 } in
    let m : Value = v_times (record { num = n; den = 1 }) w in
    let u = at_least_leaf true Int (extend r w) x (lin_plus (multiple n e) (as_lin c)) v (v_plus m c) (extend_point Int r w i iw) (gives_grows Int x r (extend r w) v i (grows_extend r w) a)
    (gives_plus Int (multiple n e) (as_lin c) (extend r w) m c (gives_multiple n e (extend r w) w iw z.0 z.1) (gives_value Int (extend r w) c c refl refl refl)) in
    let d : v.den ≡ 1 = a.valued in
    let f : v.num *ℤ pos ((1 * w.den) * 1) ≡ v.num = ap (λ (k : ℕ). v.num *ℤ pos ((1 * k) * 1)) iw ∙ times_one v.num in
    let g : ((n *ℤ w.num) *ℤ pos 1 +ℤ (pos (nat_abs n) +ℤ negsuc 0) *ℤ pos (1 * w.den)) *ℤ pos v.den ≡ n *ℤ w.num +ℤ (pos (nat_abs n) +ℤ negsuc 0) =
    ap₂ (λ (j k : ℕ). ((n *ℤ w.num) *ℤ pos 1 +ℤ (pos (nat_abs n) +ℤ negsuc 0) *ℤ pos (1 * j)) *ℤ pos k) iw d ∙ times_one ((n *ℤ w.num) *ℤ pos 1 +ℤ (pos (nat_abs n) +ℤ negsuc 0) *ℤ pos 1) ∙ ap₂ (λ (a b : ℤ). a +ℤ b) (times_one (n *ℤ w.num)) (times_one (pos (nat_abs n) +ℤ negsuc 0)) in
    same_trans (
      λ h. subst (λ (t : ℤ). t ≤ℤ (((n *ℤ w.num) *ℤ pos 1 +ℤ (pos (nat_abs n) +ℤ negsuc 0) *ℤ pos (1 * w.den)) *ℤ pos v.den)) (sym f) (subst (λ (t : ℤ). v.num ≤ℤ t) (sym g) h),
      λ h. subst (λ (t : ℤ). t ≤ℤ (n *ℤ w.num +ℤ (pos (nat_abs n) +ℤ negsuc 0))) f (subst (λ (t : ℤ). (v.num *ℤ pos ((1 * w.den) * 1)) ≤ℤ t) g h),
    ) u

same_value : (v w : Value) → v.num ≡ w.num → v.den ≡ w.den → v ≡ w
same_value v w a b = ap₂ (λ (n : ℤ) (d : ℕ). record { num = n; den = d }) a b

-- the one value of the new variable
div_same : (q : Bool) (n : ℤ) (x : Lin) (e : ℕ) (r : Point) (v : Value) (L : Value → Type 0) (a : Normal) → IsNotZero n → IsPoint Int r → length r.nums ≡ e → Gives Int x r v → ((w : Value) → IsValue Int w → Same (Sign q (L w)) (TrueN a Int (extend r w))) → Same (Sign q (L (record { num = whole_div v.num n; den = 1 }))) (TrueN (div_form Int n x e a) Int r)
div_same q n x e r v L a o i l g f =
    let w : Value = record { num = whole_div v.num n; den = 1 } in
    let b = div_bounds v.num n o in (
      λ h z. z w refl ((low_part n x e r v w i l g refl).0 b.0, ((high_part n x e r v w i l g refl).0 b.1, ((f w refl).0 h, tt))),
      λ h. (f w refl).1 (stable_normal a Int (extend r w) (λ k. h (λ u iu t.
          let y : u.num ≡ w.num = unique_div v.num n u.num w.num o ((low_part n x e r v u i l g iu).1 t.0) ((high_part n x e r v u i l g iu).1 t.1.0) b.0 b.1 in
          k (subst (λ (c : Value). TrueN a Int (extend r c)) (same_value u w y iu) t.1.1.0)))),
    )

same_of : {A B : Type 0} → A ≡ B → Same A B
same_of {A} {B} e = (λ x. subst (λ (T : Type 0). T) e x, λ x. subst (λ (T : Type 0). T) (sym e) x)

pub div_ok : (s : Sort) (a b : Term) → LinOk s a → LinOk s (div_of a b)
div_ok Rat a b oa q env ctx p d K k n h c = absurd n.0
div_ok Int a b oa q env ctx p d K k n h c =
    lin_of_same (is_constant a && is_constant b) q (ValueIs (div_of a b) Int env K) (as_lin (low (div_of a b))) d k (lin a Int ctx d (λ e x. div_form Int (low b).num x e (k (suc e) (lin_variable e)))) Int p
    (const_kont (div_of a b) Int q env ctx p d K k n h c)
    (oa q env ctx p d (λ x. ValueIs b Int env (λ y. K (v_div x y))) (λ e x. div_form Int (low b).num x e (k (suc e) (lin_variable e))) n.1 h
    (λ r e g i l x v ga.
    let u = low_is b Int (map bound_sort ctx) n.3 n.2 in
    let m : (low b).num ≡ (constant_value b).num = whole_num (low b) (constant_value b) u.0 (const_is b Int (map bound_sort ctx) n.3 n.2) u.1 in
    same_trans (same_trans (same_sign q (const_same b Int env (λ y. K (v_div v y)) n.3)) (same_of (ap (λ (z : ℤ). Sign q (K (record { num = whole_div v.num z; den = 1 }))) (sym m))))
    (div_same q (low b).num x e r v K (k (suc e) (lin_variable e)) (subst (λ (z : ℤ). IsNotZero z) (sym m) n.4) i l ga
    (λ w iw.
    let z = has_new r e w l in
    c (extend r w) (suc e) (grows_trans Int p r (extend r w) i g (grows_extend r w)) (extend_point Int r w i iw) (let u = length-extend r w in omega arith) (lin_variable e) w (gives_variable Int (extend r w) e w iw z.0 z.1)))))

pub mod_ok : (s : Sort) (a b : Term) → LinOk s a → LinOk s (mod_of a b)
mod_ok Rat a b oa q env ctx p d K k n h c = absurd n.0
mod_ok Int a b oa q env ctx p d K k n h c =
    lin_of_same (is_constant a && is_constant b) q (ValueIs (mod_of a b) Int env K) (as_lin (low (mod_of a b))) d k (lin a Int ctx d (λ e x. div_form Int (low b).num x e (k (suc e) (lin_minus x (multiple (low b).num e))))) Int p
    (const_kont (mod_of a b) Int q env ctx p d K k n h c)
    (oa q env ctx p d (λ x. ValueIs b Int env (λ y. K (v_mod x y))) (λ e x. div_form Int (low b).num x e (k (suc e) (lin_minus x (multiple (low b).num e)))) n.1 h
    (λ r e g i l x v ga.
    let one : (constant_value b).den ≡ 1 = const_is b Int (map bound_sort ctx) n.3 n.2 in
    let t = low_is b Int (map bound_sort ctx) n.3 n.2 in
    let nm : (low b).num ≡ (constant_value b).num = whole_num (low b) (constant_value b) t.0 one t.1 in
    same_trans (same_trans (same_sign q (const_same b Int env (λ y. K (v_mod v y)) n.3)) (same_of (ap (λ (z : ℤ). Sign q (K (v_minus v (v_times (constant_value b) (record { num = whole_div v.num z; den = 1 }))))) (sym nm))))
    (div_same q (low b).num x e r v (λ w. K (v_minus v (v_times (constant_value b) w))) (k (suc e) (lin_minus x (multiple (low b).num e))) (subst (λ (z : ℤ). IsNotZero z) (sym nm) n.4) i l ga
    (λ w iw.
    let z = has_new r e w l in
    let m = gives_multiple (low b).num e (extend r w) w iw z.0 z.1 in
    let m' : Gives Int (multiple (low b).num e) (extend r w) (v_times (constant_value b) w) =
    subst (λ (u : ℕ). Gives Int (multiple (low b).num e) (extend r w) (v_times (record { num = (constant_value b).num; den = u }) w)) (sym one)
    (subst (λ (z : ℤ). Gives Int (multiple (low b).num e) (extend r w) (v_times (record { num = z; den = 1 }) w)) nm m) in
    c (extend r w) (suc e) (grows_trans Int p r (extend r w) i g (grows_extend r w)) (extend_point Int r w i iw) (let u = length-extend r w in omega arith)
    (lin_minus x (multiple (low b).num e)) (v_minus v (v_times (constant_value b) w))
    (gives_minus Int x (multiple (low b).num e) (extend r w) v (v_times (constant_value b) w) (gives_grows Int x r (extend r w) v i (grows_extend r w) ga) m')))))
