-- The whole numbers that a literal over the rationals allows as the next value.
use lib.IntN.{*ℤ_comm}
use Rattle.std.specs.Prelude.{ℕ, zero, suc, ◌*◌, ◌≤◌, ◌≡◌, ℤ, pos, negsuc, ◌+ℤ◌, ◌-ℤ◌, ◌*ℤ◌, neg_ℤ, nat_abs, ◌≤ℤ◌, ◌<ℤ◌, ◌⊎◌, int_le, int_lt, Bool, true, false, ◌&&◌, cond, Some, None, Option, List, [], ◌∷◌, ◌++◌, length, filter}
use Rattle.std.specs.List.{AllByRecursion, list_all}
use Rattle.std.proofs.Common.{arith, ap, ap₂, ◌∙◌, sym, subst, refl, inl, inr, mul-le-mul}
use Rattle.std.proofs.lemmas.Bool.{and_parts}
use Rattle.std.proofs.lemmas.Int.{ints, by_lt_z}
use Rattle.lin_term.specs.Form.{Form}
use Rattle.lin_term.specs.declared.Sort.TheVariants.{Rat}
use Rattle.lin_term.specs.declared.Lit.{Lit}
use Rattle.lin_term.specs.declared.Lit.TheVariants.{AtLeast, Above, Divides, NotDivides}
use Rattle.lin_term.specs.Linear.{Point, dot, extend, floor_div, scale_all}
use Rattle.lin_term.specs.Literal.{Holds, IsOf, form_of}
use Rattle.lin_term.specs.PutIn.{coef, rest_of}
use Rattle.lin_term.proofs.Ring.{pos_from_mul, nonneg_mul, pos_mul, distrib_right_ℤ, neg_mul_ℤ, mul_left_comm_ℤ}
use Rattle.lin_term.proofs.PrimitiveLemmas.{floor_bounds}
use Rattle.dom_core.specs.Cube.{assign, CubeHolds, IsCube}
use Rattle.dom_core.specs.Elimination.{size_at, is_positive, is_negative, is_zero, is_lower, is_upper, is_free}
use Rattle.dom_core.proofs.Assigning.{dot-assign, dot-assign_free, assign_last}
use Rattle.cube_elim.proofs.Orders.{true_le, false_le, le_true, lt_true, true_lt}
use Rattle.cube_elim.specs.Determined.{whole, holds_at, all_hold_at, lesser}
use Rattle.cube_elim.specs.Values.{with_zeros}
use Rattle.cube_elim.specs.Between.{least_whole, greatest_whole, greater, from_below, from_above, is_above, is_below}

-- ---- a point with 0 for the variable

scale_one : (zs : List ℤ) → scale_all (pos 1) zs ≡ zs
scale_one [] = refl
scale_one (z ∷ zs) = ap₂ (λ (y : ℤ) (ys : List ℤ). y ∷ ys) (let e : z *ℤ pos 1 ≡ z = omega (arith, ints) in e) (scale_one zs)

abbrev point_of : ℕ → List ℤ → Point
point_of d zs = record { den = d; nums = zs }

trial_is : (p : Point) → extend p (whole (pos 0)) ≡ with_zeros p 1
trial_is p =
    ap₂ point_of (let e : p.den * 1 ≡ p.den = omega arith in e)
    (ap₂ (λ (ys : List ℤ) (z : ℤ). ys ++ z ∷ []) (scale_one p.nums) (let e : pos 0 *ℤ pos p.den ≡ pos 0 = omega (arith, ints) in e))

pub trial_rest : (f : Form) (x : ℕ) (p : Point) → length p.nums ≡ x → dot f (with_zeros p 1) ≡ dot (rest_of f x) p
trial_rest f x p l =
    let a = ap (λ (q : Point). dot f q) (sym (trial_is p) ∙ sym (assign_last p x (whole (pos 0)) l)) in
    let b = dot-assign f p (whole (pos 0)) x in
    let c : coef f.terms x *ℤ (pos 0 *ℤ pos p.den) ≡ pos 0 = ap (λ (z : ℤ). coef f.terms x *ℤ z) (let e : pos 0 *ℤ pos p.den ≡ pos 0 = omega (arith, ints) in e) ∙ (let e : coef f.terms x *ℤ pos 0 ≡ pos 0 = omega (arith, ints) in e) in
    omega (arith, ints)

-- the value with a whole number for the variable
placed : (f : Form) (x : ℕ) (p : Point) (z : ℤ) → length p.nums ≡ x → dot f (extend p (whole z)) ≡ coef f.terms x *ℤ (z *ℤ pos p.den) +ℤ dot f (with_zeros p 1)
placed f x p z l =
    let a = ap (λ (q : Point). dot f q) (sym (assign_last p x (whole z) l)) in
    let b = dot-assign f p (whole z) x in
    let c = trial_rest f x p l in
    omega (arith, ints)

-- ---- products with a positive number

bool_same : (a b : Bool) → (a ≡ true → b ≡ true) → (b ≡ true → a ≡ true) → a ≡ b
bool_same true true f g = refl
bool_same true false f g = sym (f refl)
bool_same false true f g = g refl
bool_same false false f g = refl

minus_times : (a b k : ℤ) → (a -ℤ b) *ℤ k ≡ a *ℤ k -ℤ b *ℤ k
minus_times a b k =
    let d = distrib_right_ℤ a (neg_ℤ b) k in
    let n = neg_mul_ℤ b k in
    omega (arith, ints)

scaled_lt : (a b : ℤ) (M : ℕ) → 1 ≤ M → (a *ℤ pos M) <ℤ (b *ℤ pos M) → a <ℤ b
scaled_lt a b M o h =
    let e = minus_times b a (pos M) in
    let p = pos_from_mul (b -ℤ a) (pos M) (omega (arith, ints)) (omega (arith, ints)) in
    omega (arith, ints)

scaled_le : (a b : ℤ) (M : ℕ) → a ≤ℤ b → (a *ℤ pos M) ≤ℤ (b *ℤ pos M)
scaled_le a b M h =
    let e = minus_times b a (pos M) in
    let p = nonneg_mul (b -ℤ a) (pos M) (omega (arith, ints)) (omega (arith, ints)) in
    omega (arith, ints)

pub scaled_lt_is : (a b : ℤ) (M : ℕ) → 1 ≤ M → int_lt (a *ℤ pos M) (b *ℤ pos M) ≡ int_lt a b
scaled_lt_is a b M o =
    bool_same (int_lt (a *ℤ pos M) (b *ℤ pos M)) (int_lt a b)
    (λ h. lt_true a b (scaled_lt a b M o (true_lt (a *ℤ pos M) (b *ℤ pos M) h)))
    (λ h. let e = minus_times b a (pos M) in let u = true_lt a b h in let p = pos_mul (b -ℤ a) (pos M) (omega (arith, ints)) (omega (arith, ints)) in lt_true (a *ℤ pos M) (b *ℤ pos M) (omega (arith, ints)))

next_times : (q : ℤ) (M : ℕ) → (q +ℤ pos 1) *ℤ pos M ≡ q *ℤ pos M +ℤ pos M
next_times q M = let d = distrib_right_ℤ q (pos 1) (pos M) in omega (arith, ints)

-- the quotient rounded down
floors : (D : ℤ) (M : ℕ) → 1 ≤ M → ((floor_div D M *ℤ pos M) ≤ℤ D) × (D <ℤ ((floor_div D M +ℤ pos 1) *ℤ pos M))
floors D M o =
    let b = floor_bounds D M o in
    let c = *ℤ_comm (pos M) (floor_div D M) in
    let n = next_times (floor_div D M) M in
    (omega (arith, ints), omega (arith, ints))

low_weak : (M : ℕ) (D z : ℤ) → 1 ≤ M → int_le (pos 0) (z *ℤ pos M +ℤ D) ≡ int_le (neg_ℤ (floor_div D M)) z
low_weak M D z o =
    let q = floor_div D M in
    let b = floors D M o in
    bool_same (int_le (pos 0) (z *ℤ pos M +ℤ D)) (int_le (neg_ℤ q) z)
    (λ h. let u = true_le (pos 0) (z *ℤ pos M +ℤ D) h in let n = neg_mul_ℤ z (pos M) in let s = scaled_lt (neg_ℤ z) (q +ℤ pos 1) M o (omega (arith, ints)) in le_true (neg_ℤ q) z (omega (arith, ints)))
    (λ h. let u = true_le (neg_ℤ q) z h in let n = neg_mul_ℤ q (pos M) in let s = scaled_le (neg_ℤ q) z M (omega (arith, ints)) in le_true (pos 0) (z *ℤ pos M +ℤ D) (omega (arith, ints)))

low_strict : (M : ℕ) (D z : ℤ) → 1 ≤ M → int_lt (pos 0) (z *ℤ pos M +ℤ D) ≡ int_le (floor_div (neg_ℤ D) M +ℤ pos 1) z
low_strict M D z o =
    let q = floor_div (neg_ℤ D) M in
    let b = floors (neg_ℤ D) M o in
    bool_same (int_lt (pos 0) (z *ℤ pos M +ℤ D)) (int_le (q +ℤ pos 1) z)
    (λ h. let u = true_lt (pos 0) (z *ℤ pos M +ℤ D) h in let s = scaled_lt q z M o (omega (arith, ints)) in le_true (q +ℤ pos 1) z (omega (arith, ints)))
    (λ h. let u = true_le (q +ℤ pos 1) z h in let s = scaled_le (q +ℤ pos 1) z M (omega (arith, ints)) in lt_true (pos 0) (z *ℤ pos M +ℤ D) (omega (arith, ints)))

high_weak : (M : ℕ) (D z : ℤ) → 1 ≤ M → int_le (pos 0) (D -ℤ z *ℤ pos M) ≡ int_le z (floor_div D M)
high_weak M D z o =
    let q = floor_div D M in
    let b = floors D M o in
    bool_same (int_le (pos 0) (D -ℤ z *ℤ pos M)) (int_le z q)
    (λ h. let u = true_le (pos 0) (D -ℤ z *ℤ pos M) h in let s = scaled_lt z (q +ℤ pos 1) M o (omega (arith, ints)) in le_true z q (omega (arith, ints)))
    (λ h. let u = true_le z q h in let s = scaled_le z q M (omega (arith, ints)) in le_true (pos 0) (D -ℤ z *ℤ pos M) (omega (arith, ints)))

high_strict : (M : ℕ) (D z : ℤ) → 1 ≤ M → int_lt (pos 0) (D -ℤ z *ℤ pos M) ≡ int_le z (neg_ℤ (floor_div (neg_ℤ D) M) -ℤ pos 1)
high_strict M D z o =
    let q = floor_div (neg_ℤ D) M in
    let b = floors (neg_ℤ D) M o in
    let n = neg_mul_ℤ q (pos M) in
    bool_same (int_lt (pos 0) (D -ℤ z *ℤ pos M)) (int_le z (neg_ℤ q -ℤ pos 1))
    (λ h. let u = true_lt (pos 0) (D -ℤ z *ℤ pos M) h in let s = scaled_lt z (neg_ℤ q) M o (omega (arith, ints)) in le_true z (neg_ℤ q -ℤ pos 1) (omega (arith, ints)))
    (λ h. let u = true_le z (neg_ℤ q -ℤ pos 1) h in let s = scaled_le z (neg_ℤ q -ℤ pos 1) M (omega (arith, ints)) in let m = minus_times (neg_ℤ q) (pos 1) (pos M) in let k = next_times q M in lt_true (pos 0) (D -ℤ z *ℤ pos M) (omega (arith, ints)))

-- -floor(-D/M) is floor(D/M), or 1 more
pub ceiling : (M : ℕ) (D : ℤ) → 1 ≤ M → (neg_ℤ (floor_div (neg_ℤ D) M) ≡ floor_div D M) ⊎ (neg_ℤ (floor_div (neg_ℤ D) M) ≡ floor_div D M +ℤ pos 1)
ceiling M D o =
    let q = floor_div (neg_ℤ D) M in
    let r = floor_div D M in
    let b = floors (neg_ℤ D) M o in
    let a = floors D M o in
    let n = neg_mul_ℤ q (pos M) in
    let k = neg_mul_ℤ (q +ℤ pos 1) (pos M) in
    let s = scaled_lt r (neg_ℤ q +ℤ pos 1) M o (let m = next_times (neg_ℤ q) M in let g : pos 1 ≤ℤ pos M = omega (arith, ints) in omega (arith, ints)) in
    let t = scaled_lt (neg_ℤ (q +ℤ pos 1)) (r +ℤ pos 1) M o (omega (arith, ints)) in
    one_of (neg_ℤ q) r (omega (arith, ints)) (omega (arith, ints))
  where
    one_of : (u r : ℤ) → r ≤ℤ u → u ≤ℤ (r +ℤ pos 1) → (u ≡ r) ⊎ (u ≡ r +ℤ pos 1)
    one_of u r h k = by_lt_z r u (λ l. inr (omega (arith, ints))) (λ l. inl (omega (arith, ints)))

-- ---- one literal

positive_is : (c : ℤ) → is_positive c ≡ true → (c ≡ pos (nat_abs c)) × (1 ≤ nat_abs c)
positive_is (pos zero) e = absurd (cc)
positive_is (pos (suc n)) e = (refl, omega arith)
positive_is (negsuc n) e = absurd (cc)

negative_is : (c : ℤ) → is_negative c ≡ true → (c ≡ neg_ℤ (pos (nat_abs c))) × (1 ≤ nat_abs c)
negative_is (pos n) e = absurd (cc)
negative_is (negsuc n) e = (omega (arith, ints), omega arith)

zero_is : (c : ℤ) → is_zero c ≡ true → c ≡ pos 0
zero_is (pos zero) e = refl
zero_is (pos (suc n)) e = absurd (cc)
zero_is (negsuc n) e = absurd (cc)

pos_times : (a b : ℕ) → pos (a * b) ≡ pos a *ℤ pos b
pos_times a b = omega (arith, ints)

one_more : (a b : ℕ) → 1 ≤ a → 1 ≤ b → 1 ≤ a * b
one_more a b h k = mul-le-mul h k

above_value : (c z D : ℤ) (E : ℕ) → c ≡ pos (nat_abs c) → c *ℤ (z *ℤ pos E) +ℤ D ≡ z *ℤ pos (nat_abs c * E) +ℤ D
above_value c z D E e =
    ap (λ (y : ℤ). y +ℤ D) (ap (λ (y : ℤ). y *ℤ (z *ℤ pos E)) e ∙ mul_left_comm_ℤ (pos (nat_abs c)) z (pos E) ∙ ap (λ (y : ℤ). z *ℤ y) (sym (pos_times (nat_abs c) E)))

below_value : (c z D : ℤ) (E : ℕ) → c ≡ neg_ℤ (pos (nat_abs c)) → c *ℤ (z *ℤ pos E) +ℤ D ≡ D -ℤ z *ℤ pos (nat_abs c * E)
below_value c z D E e =
    let a : c *ℤ (z *ℤ pos E) ≡ neg_ℤ (pos (nat_abs c)) *ℤ (z *ℤ pos E) = ap (λ (y : ℤ). y *ℤ (z *ℤ pos E)) e in
    let b = neg_mul_ℤ (pos (nat_abs c)) (z *ℤ pos E) in
    let d = mul_left_comm_ℤ (pos (nat_abs c)) z (pos E) ∙ ap (λ (y : ℤ). z *ℤ y) (sym (pos_times (nat_abs c) E)) in
    omega (arith, ints)

pub lower_allows : (x : ℕ) (p : Point) (z : ℤ) (l : Lit) → 1 ≤ p.den → length p.nums ≡ x → is_lower x l ≡ true → holds_at l (extend p (whole z)) ≡ int_le (least_whole x (with_zeros p 1) l) z
lower_allows x p z (AtLeast f) o n e =
    let q = positive_is (coef f.terms x) e in
    ap (λ (y : ℤ). int_le (pos 0) y) (placed f x p z n ∙ above_value (coef f.terms x) z (dot f (with_zeros p 1)) p.den q.0)
    ∙ low_weak (nat_abs (coef f.terms x) * p.den) (dot f (with_zeros p 1)) z (one_more (nat_abs (coef f.terms x)) p.den q.1 o)
lower_allows x p z (Above f) o n e =
    let q = positive_is (coef f.terms x) e in
    ap (λ (y : ℤ). int_lt (pos 0) y) (placed f x p z n ∙ above_value (coef f.terms x) z (dot f (with_zeros p 1)) p.den q.0)
    ∙ low_strict (nat_abs (coef f.terms x) * p.den) (dot f (with_zeros p 1)) z (one_more (nat_abs (coef f.terms x)) p.den q.1 o)
lower_allows x p z (Divides d f) o n e = absurd (cc)
lower_allows x p z (NotDivides d f) o n e = absurd (cc)

pub upper_allows : (x : ℕ) (p : Point) (z : ℤ) (l : Lit) → 1 ≤ p.den → length p.nums ≡ x → is_upper x l ≡ true → holds_at l (extend p (whole z)) ≡ int_le z (greatest_whole x (with_zeros p 1) l)
upper_allows x p z (AtLeast f) o n e =
    let q = negative_is (coef f.terms x) e in
    ap (λ (y : ℤ). int_le (pos 0) y) (placed f x p z n ∙ below_value (coef f.terms x) z (dot f (with_zeros p 1)) p.den q.0)
    ∙ high_weak (nat_abs (coef f.terms x) * p.den) (dot f (with_zeros p 1)) z (one_more (nat_abs (coef f.terms x)) p.den q.1 o)
upper_allows x p z (Above f) o n e =
    let q = negative_is (coef f.terms x) e in
    ap (λ (y : ℤ). int_lt (pos 0) y) (placed f x p z n ∙ below_value (coef f.terms x) z (dot f (with_zeros p 1)) p.den q.0)
    ∙ high_strict (nat_abs (coef f.terms x) * p.den) (dot f (with_zeros p 1)) z (one_more (nat_abs (coef f.terms x)) p.den q.1 o)
upper_allows x p z (Divides d f) o n e = absurd (cc)
upper_allows x p z (NotDivides d f) o n e = absurd (cc)

times_one : (z : ℤ) → z *ℤ pos 1 ≡ z
times_one z = omega (arith, ints)

-- a literal without the variable holds as before
free_dot : (f : Form) (x : ℕ) (p : Point) (z : ℤ) → length p.nums ≡ x → coef f.terms x ≡ pos 0 → dot f (extend p (whole z)) ≡ dot f p
free_dot f x p z n e = ap (λ (q : Point). dot f q) (sym (assign_last p x (whole z) n)) ∙ dot-assign_free f p (whole z) x e ∙ times_one (dot f p)

free_allows : (x : ℕ) (p : Point) (z : ℤ) (l : Lit) → length p.nums ≡ x → IsOf Rat l → is_free x l ≡ true → Holds l p → holds_at l (extend p (whole z)) ≡ true
free_allows x p z (AtLeast f) n o e h = let q = free_dot f x p z n (zero_is (coef f.terms x) e) in le_true (pos 0) (dot f (extend p (whole z))) (omega (arith, ints))
free_allows x p z (Above f) n o e h = let q = free_dot f x p z n (zero_is (coef f.terms x) e) in lt_true (pos 0) (dot f (extend p (whole z))) (omega (arith, ints))
free_allows x p z (Divides d f) n o e h = absurd o
free_allows x p z (NotDivides d f) n o e h = absurd o

-- ---- all literals

and_assoc : (a b c : Bool) → ((a && b) && c) ≡ (a && (b && c))
and_assoc true b c = refl
and_assoc false b c = refl

and_true : (a : Bool) → (a && true) ≡ a
and_true true = refl
and_true false = refl

and_swap : (a b c : Bool) → (a && (b && c)) ≡ (b && (a && c))
and_swap true true c = refl
and_swap true false c = refl
and_swap false true c = refl
and_swap false false c = refl

both_true : (a b : Bool) → a ≡ true → b ≡ true → (a && b) ≡ true
both_true true b e f = f
both_true false b e f = absurd (cc)

greater_le : (a w z : ℤ) → int_le (cond (int_le w a) a w) z ≡ (int_le w z && int_le a z)
greater_le a w z = by (int_le w a) refl
  where
    by : (b : Bool) → int_le w a ≡ b → int_le (cond b a w) z ≡ (int_le w z && int_le a z)
    by true e = bool_same (int_le a z) (int_le w z && int_le a z) (λ h. let u = true_le w a e in let v = true_le a z h in both_true (int_le w z) (int_le a z) (le_true w z (omega (arith, ints))) h) (λ h. (and_parts (int_le w z) (int_le a z) h).1)
    by false e = bool_same (int_le w z) (int_le w z && int_le a z) (λ h. let u = false_le w a e in let v = true_le w z h in both_true (int_le w z) (int_le a z) h (le_true a z (omega (arith, ints)))) (λ h. (and_parts (int_le w z) (int_le a z) h).0)

lesser_le : (b w z : ℤ) → int_le z (cond (int_le b w) b w) ≡ (int_le z w && int_le z b)
lesser_le b w z = by (int_le b w) refl
  where
    by : (t : Bool) → int_le b w ≡ t → int_le z (cond t b w) ≡ (int_le z w && int_le z b)
    by true e = bool_same (int_le z b) (int_le z w && int_le z b) (λ h. let u = true_le b w e in let v = true_le z b h in both_true (int_le z w) (int_le z b) (le_true z w (omega (arith, ints))) h) (λ h. (and_parts (int_le z w) (int_le z b) h).1)
    by false e = bool_same (int_le z w) (int_le z w && int_le z b) (λ h. let u = false_le b w e in let v = true_le z w h in both_true (int_le z w) (int_le z b) h (le_true z b (omega (arith, ints)))) (λ h. (and_parts (int_le z w) (int_le z b) h).0)

above_one : (a : ℤ) (best : Option ℤ) (z : ℤ) → int_le (greater a best) z ≡ (is_above best z && int_le a z)
above_one a None z = refl
above_one a (Some w) z = greater_le a w z

below_one : (b : ℤ) (best : Option ℤ) (z : ℤ) → int_le z (lesser b best) ≡ (is_below best z && int_le z b)
below_one b None z = refl
below_one b (Some w) z = lesser_le b w z

above_all : (x : ℕ) (t : Point) (best : Option ℤ) (ls : List Lit) (z : ℤ) → is_above (from_below x t best ls) z ≡ (is_above best z && list_all (λ l. int_le (least_whole x t l) z) ls)
above_all x t best [] z = sym (and_true (is_above best z))
above_all x t best (l ∷ ls) z =
    above_all x t (Some (greater (least_whole x t l) best)) ls z
    ∙ ap (λ (b : Bool). b && list_all (λ l. int_le (least_whole x t l) z) ls) (above_one (least_whole x t l) best z)
    ∙ and_assoc (is_above best z) (int_le (least_whole x t l) z) (list_all (λ l. int_le (least_whole x t l) z) ls)

below_all : (x : ℕ) (t : Point) (best : Option ℤ) (us : List Lit) (z : ℤ) → is_below (from_above x t best us) z ≡ (is_below best z && list_all (λ l. int_le z (greatest_whole x t l)) us)
below_all x t best [] z = sym (and_true (is_below best z))
below_all x t best (l ∷ ls) z =
    below_all x t (Some (lesser (greatest_whole x t l) best)) ls z
    ∙ ap (λ (b : Bool). b && list_all (λ l. int_le z (greatest_whole x t l)) ls) (below_one (greatest_whole x t l) best z)
    ∙ and_assoc (is_below best z) (int_le z (greatest_whole x t l)) (list_all (λ l. int_le z (greatest_whole x t l)) ls)

-- how a literal bounds the variable
record Kinds (x : ℕ) (l : Lit) (f a b : Bool) : Type 0 where
  free : is_free x l ≡ f
  lower : is_lower x l ≡ a
  upper : is_upper x l ≡ b

kinds_at : (x : ℕ) (f : Form) (d : ℤ) → coef f.terms x ≡ d → Kinds x (AtLeast f) true false false ⊎ (Kinds x (AtLeast f) false true false ⊎ Kinds x (AtLeast f) false false true)
kinds_at x f (pos zero) h = inl (record { free = ap is_zero h; lower = ap is_positive h; upper = ap is_negative h })
kinds_at x f (pos (suc n)) h = inr (inl (record { free = ap is_zero h; lower = ap is_positive h; upper = ap is_negative h }))
kinds_at x f (negsuc n) h = inr (inr (record { free = ap is_zero h; lower = ap is_positive h; upper = ap is_negative h }))

kinds_above : (x : ℕ) (f : Form) (d : ℤ) → coef f.terms x ≡ d → Kinds x (Above f) true false false ⊎ (Kinds x (Above f) false true false ⊎ Kinds x (Above f) false false true)
kinds_above x f (pos zero) h = inl (record { free = ap is_zero h; lower = ap is_positive h; upper = ap is_negative h })
kinds_above x f (pos (suc n)) h = inr (inl (record { free = ap is_zero h; lower = ap is_positive h; upper = ap is_negative h }))
kinds_above x f (negsuc n) h = inr (inr (record { free = ap is_zero h; lower = ap is_positive h; upper = ap is_negative h }))

kinds : (x : ℕ) (l : Lit) → IsOf Rat l → Kinds x l true false false ⊎ (Kinds x l false true false ⊎ Kinds x l false false true)
kinds x (AtLeast f) o = kinds_at x f (coef f.terms x) refl
kinds x (Above f) o = kinds_above x f (coef f.terms x) refl
kinds x (Divides d f) o = absurd o
kinds x (NotDivides d f) o = absurd o

abbrev lows : ℕ → Point → List Lit → ℤ → Bool
lows x t c z = list_all (λ l. int_le (least_whole x t l) z) (filter (is_lower x) c)

abbrev highs : ℕ → Point → List Lit → ℤ → Bool
highs x t c z = list_all (λ l. int_le z (greatest_whole x t l)) (filter (is_upper x) c)

-- the cube holds with the whole number exactly where the lower and the upper literals allow it
pub cube_allows : (x : ℕ) (p : Point) (z : ℤ) (c : List Lit) → 1 ≤ p.den → length p.nums ≡ x → IsCube Rat c → CubeHolds (filter (is_free x) c) p → all_hold_at c (extend p (whole z)) ≡ (lows x (with_zeros p 1) c z && highs x (with_zeros p 1) c z)
cube_allows x p z [] o n i h = refl
cube_allows x p z (l ∷ c) o n i h = by (is_free x l) (is_lower x l) (is_upper x l) refl refl refl (kinds x l i.0) h (λ k. cube_allows x p z c o n i.1 k)
  where
    by : (f a b : Bool) → is_free x l ≡ f → is_lower x l ≡ a → is_upper x l ≡ b → Kinds x l true false false ⊎ (Kinds x l false true false ⊎ Kinds x l false false true) → CubeHolds (cond f (l ∷ filter (is_free x) c) (filter (is_free x) c)) p → (CubeHolds (filter (is_free x) c) p → all_hold_at c (extend p (whole z)) ≡ (lows x (with_zeros p 1) c z && highs x (with_zeros p 1) c z)) → (holds_at l (extend p (whole z)) && all_hold_at c (extend p (whole z))) ≡ (list_all (λ l. int_le (least_whole x (with_zeros p 1) l) z) (cond a (l ∷ filter (is_lower x) c) (filter (is_lower x) c)) && list_all (λ l. int_le z (greatest_whole x (with_zeros p 1) l)) (cond b (l ∷ filter (is_upper x) c) (filter (is_upper x) c)))
    by true false false e f g k h r =
        ap₂ (λ (s t : Bool). s && t) (free_allows x p z l n i.0 e h.0) (r h.1)
    by false true false e f g k h r =
        ap₂ (λ (s t : Bool). s && t) (lower_allows x p z l o n f) (r h)
        ∙ sym (and_assoc (int_le (least_whole x (with_zeros p 1) l) z) (lows x (with_zeros p 1) c z) (highs x (with_zeros p 1) c z))
    by false false true e f g k h r =
        ap₂ (λ (s t : Bool). s && t) (upper_allows x p z l o n g) (r h)
        ∙ and_swap (int_le z (greatest_whole x (with_zeros p 1) l)) (lows x (with_zeros p 1) c z) (highs x (with_zeros p 1) c z)
    by true true b e f g (inl k) h r = absurd (let q = sym f ∙ k.lower in cc)
    by true true b e f g (inr (inl k)) h r = absurd (let q = sym e ∙ k.free in cc)
    by true true b e f g (inr (inr k)) h r = absurd (let q = sym e ∙ k.free in cc)
    by true false true e f g (inl k) h r = absurd (let q = sym g ∙ k.upper in cc)
    by true false true e f g (inr (inl k)) h r = absurd (let q = sym e ∙ k.free in cc)
    by true false true e f g (inr (inr k)) h r = absurd (let q = sym e ∙ k.free in cc)
    by false true true e f g (inl k) h r = absurd (let q = sym e ∙ k.free in cc)
    by false true true e f g (inr (inl k)) h r = absurd (let q = sym g ∙ k.upper in cc)
    by false true true e f g (inr (inr k)) h r = absurd (let q = sym f ∙ k.lower in cc)
    by false false false e f g (inl k) h r = absurd (let q = sym e ∙ k.free in cc)
    by false false false e f g (inr (inl k)) h r = absurd (let q = sym f ∙ k.lower in cc)
    by false false false e f g (inr (inr k)) h r = absurd (let q = sym g ∙ k.upper in cc)

-- the same by the least and the greatest whole number
pub range_allows : (x : ℕ) (p : Point) (c : List Lit) → 1 ≤ p.den → length p.nums ≡ x → IsCube Rat c → CubeHolds (filter (is_free x) c) p → (z : ℤ) → all_hold_at c (extend p (whole z)) ≡ (is_above (from_below x (with_zeros p 1) None (filter (is_lower x) c)) z && is_below (from_above x (with_zeros p 1) None (filter (is_upper x) c)) z)
range_allows x p c o n i h z =
    cube_allows x p z c o n i h
    ∙ ap₂ (λ (s t : Bool). s && t) (sym (above_all x (with_zeros p 1) None (filter (is_lower x) c) z)) (sym (below_all x (with_zeros p 1) None (filter (is_upper x) c) z))
