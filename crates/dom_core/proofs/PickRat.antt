-- In Rat a picked move keeps a cube true.
use Prim.Native.Nat.{◌∣◌}
use lib.IntN.{*ℤ_comm}
use Rattle.std.specs.Prelude.{ℕ, zero, suc, ◌*◌, ◌/◌, ◌≤◌, ◌≡◌, ℤ, pos, negsuc, ◌+ℤ◌, ◌-ℤ◌, ◌*ℤ◌, ◌≤ℤ◌, ◌<ℤ◌, neg_ℤ, nat_abs, int_lt, Bool, true, false, if◌then◌else◌, List, [], ◌∷◌, length}
use Rattle.std.proofs.Common.{arith, ap, ap₂, ◌∙◌, sym, subst, refl, mul-le-mul}
use Rattle.std.proofs.lemmas.Int.{ints}
use Rattle.lin_term.specs.declared.Sort.TheVariants.{Rat}
use Rattle.lin_term.specs.declared.Lit.{Lit}
use Rattle.lin_term.specs.declared.Lit.TheVariants.{AtLeast, Above, Divides, NotDivides}
use Rattle.lin_term.specs.Linear.{Point, Value, dot, times, constant_form, extend}
use Rattle.lin_term.specs.Literal.{Holds, form_of, IsOf}
use Rattle.lin_term.specs.Move.{Move, move_value, move_divisor, lowest}
use Rattle.lin_term.specs.PutIn.{coef, rest_of}
use Rattle.dom_core.specs.Cube.{CubeHolds, assign}
use Rattle.dom_core.specs.Elimination.{is_lower, is_upper, is_positive, is_negative, above_bound}
use Rattle.std.proofs.lemmas.Nat.Gcd.{dvd_trans}
use Rattle.lin_term.specs.Literal.{gcd, gcd_terms}
use Rattle.lin_term.proofs.PrimitiveLemmas.{gcd_is, or_one_divides, dot-quotient}
use Rattle.lin_term.proofs.Lowering.{divisor_of_div, divisor_of_terms, divisor_pos}
use Rattle.lin_term.proofs.Ring.{ring, nonneg_mul, pos_mul, nonneg_from_mul, pos_from_mul}
use Rattle.lin_term.proofs.Dots.{dot-plus, dot-times, dot-constant_form}
use Rattle.dom_core.proofs.Assigning.{dot-assign, dot-assign_free, coef-plus, coef-times}
use Rattle.std.specs.List.{AllByRecursion}
use Rattle.dom_core.specs.Pick.{played}
use Rattle.dom_core.specs.Pick.{lower_bound, upper_bound, lowers, uppers, is_less, greatest_with, greatest, least_with, least, constant_move, moved, middle, between, pick}
use Rattle.dom_core.proofs.Assigning.{assign_last}
use Rattle.dom_core.proofs.Picking.{lower_size, upper_size, whole_div, greatest_has, least_has}
use Rattle.dom_core.proofs.PickInt.{each_map_filter, of_map_filter}
use Rattle.dom_core.proofs.Assigning.{coef-without}

-- ---- what a literal asks of the sign of its form

abbrev Asks : Lit → ℤ → Type 0
Asks (AtLeast f) z = pos 0 ≤ℤ z
Asks (Above f) z = pos 0 <ℤ z
Asks (Divides d f) z = ⊥
Asks (NotDivides d f) z = ⊥

asks_held : (l : Lit) (p : Point) → IsOf Rat l → Holds l p → Asks l (dot (form_of l) p)
asks_held (AtLeast f) p o h = h
asks_held (Above f) p o h = h
asks_held (Divides d f) p o h = absurd o
asks_held (NotDivides d f) p o h = absurd o

held_asks : (l : Lit) (p : Point) → Asks l (dot (form_of l) p) → Holds l p
held_asks (AtLeast f) p h = h
held_asks (Above f) p h = h
held_asks (Divides d f) p h = absurd h
held_asks (NotDivides d f) p h = absurd h

weak : (l : Lit) (z : ℤ) → Asks l z → pos 0 ≤ℤ z
weak (AtLeast f) z h = h
weak (Above f) z h = omega (arith, ints)
weak (Divides d f) z h = absurd h
weak (NotDivides d f) z h = absurd h

strict : (l : Lit) (z : ℤ) → IsOf Rat l → pos 0 <ℤ z → Asks l z
strict (AtLeast f) z o h = omega (arith, ints)
strict (Above f) z o h = h
strict (Divides d f) z o h = absurd o
strict (NotDivides d f) z o h = absurd o

asks_sum : (l : Lit) (y z : ℤ) → pos 0 ≤ℤ y → Asks l z → Asks l (y +ℤ z)
asks_sum (AtLeast f) y z h k = omega (arith, ints)
asks_sum (Above f) y z h k = omega (arith, ints)
asks_sum (Divides d f) y z h k = absurd k
asks_sum (NotDivides d f) y z h k = absurd k

asks_times : (l : Lit) (z : ℤ) (n : ℕ) → 1 ≤ n → Asks l z → Asks l (z *ℤ pos n)
asks_times (AtLeast f) z n o h = nonneg_mul z (pos n) h (omega (arith, ints))
asks_times (Above f) z n o h = pos_mul z (pos n) h (omega (arith, ints))
asks_times (Divides d f) z n o h = absurd h
asks_times (NotDivides d f) z n o h = absurd h

asks_from : (l : Lit) (z : ℤ) (n : ℕ) → 1 ≤ n → Asks l (z *ℤ pos n) → Asks l z
asks_from (AtLeast f) z n o h = nonneg_from_mul z (pos n) (omega (arith, ints)) h
asks_from (Above f) z n o h = pos_from_mul z (pos n) (omega (arith, ints)) h
asks_from (Divides d f) z n o h = absurd h
asks_from (NotDivides d f) z n o h = absurd h

-- ---- a form's sign at N/D; c is the coefficient, R the rest

abbrev sign_at : ℤ → ℤ → ℤ → ℕ → ℤ
sign_at c R N D = c *ℤ N +ℤ R *ℤ pos D

shift_up : (c R N1 N2 D1 D2 : ℤ) → (c *ℤ N2 +ℤ R *ℤ D2) *ℤ D1 ≡ c *ℤ (N2 *ℤ D1 -ℤ N1 *ℤ D2) +ℤ (c *ℤ N1 +ℤ R *ℤ D1) *ℤ D2
shift_up c R N1 N2 D1 D2 = simp ring (omega (arith, ints))

-- with c positive a greater value does as well
more_up : (l : Lit) (c : ℕ) (R N1 N2 : ℤ) (D1 D2 : ℕ) → 1 ≤ D1 → 1 ≤ D2 → (N1 *ℤ pos D2) ≤ℤ (N2 *ℤ pos D1) → Asks l (sign_at (pos c) R N1 D1) → Asks l (sign_at (pos c) R N2 D2)
more_up l c R N1 N2 D1 D2 o p h k =
    let a = nonneg_mul (pos c) (N2 *ℤ pos D1 -ℤ N1 *ℤ pos D2) (omega (arith, ints)) (omega (arith, ints)) in
    asks_from l (sign_at (pos c) R N2 D2) D1 o
    (subst (λ (z : ℤ). Asks l z) (sym (shift_up (pos c) R N1 N2 (pos D1) (pos D2)))
    (asks_sum l (pos c *ℤ (N2 *ℤ pos D1 -ℤ N1 *ℤ pos D2)) (sign_at (pos c) R N1 D1 *ℤ pos D2) a (asks_times l (sign_at (pos c) R N1 D1) D2 p k)))

minus_coef : (k : ℕ) (z : ℤ) → negsuc k *ℤ z ≡ neg_ℤ (pos (suc k) *ℤ z)
minus_coef k z = omega (arith, ints)

turned : (a u v : ℤ) → a *ℤ (v -ℤ u) ≡ neg_ℤ (a *ℤ (u -ℤ v))
turned a u v = simp ring (omega (arith, ints))

nonneg_down : (c : ℕ) (u v : ℤ) → u ≤ℤ v → pos 0 ≤ℤ (negsuc c *ℤ (u -ℤ v))
nonneg_down c u v h =
    let m = nonneg_mul (pos (suc c)) (v -ℤ u) (omega (arith, ints)) (omega (arith, ints)) in
    let t = turned (pos (suc c)) u v in
    let k = minus_coef c (u -ℤ v) in
    omega (arith, ints)

-- with a negative one a smaller value does
less_down : (l : Lit) (c : ℕ) (R N1 N2 : ℤ) (D1 D2 : ℕ) → 1 ≤ D1 → 1 ≤ D2 → (N2 *ℤ pos D1) ≤ℤ (N1 *ℤ pos D2) → Asks l (sign_at (negsuc c) R N1 D1) → Asks l (sign_at (negsuc c) R N2 D2)
less_down l c R N1 N2 D1 D2 o p h k =
    let a = nonneg_down c (N2 *ℤ pos D1) (N1 *ℤ pos D2) h in
    asks_from l (sign_at (negsuc c) R N2 D2) D1 o
    (subst (λ (z : ℤ). Asks l z) (sym (shift_up (negsuc c) R N1 N2 (pos D1) (pos D2)))
    (asks_sum l (negsuc c *ℤ (N2 *ℤ pos D1 -ℤ N1 *ℤ pos D2)) (sign_at (negsuc c) R N1 D1 *ℤ pos D2) a (asks_times l (sign_at (negsuc c) R N1 D1) D2 p k)))

-- ---- bounds in order; e is the point before x has a value

abbrev LE : Point → Move → Move → Type 0
LE e m n = (dot m.numer e *ℤ pos n.div) ≤ℤ (dot n.numer e *ℤ pos m.div)

le_self : (e : Point) (m : Move) → LE e m m
le_self e m = omega (arith, ints)

le_times : (a b : ℤ) (n : ℕ) → a ≤ℤ b → (a *ℤ pos n) ≤ℤ (b *ℤ pos n)
le_times a b n h =
    let k = nonneg_mul (b -ℤ a) (pos n) (omega (arith, ints)) (omega (arith, ints)) in
    let e : (b -ℤ a) *ℤ pos n ≡ b *ℤ pos n -ℤ a *ℤ pos n = simp ring in
    omega (arith, ints)

le_from_times : (a b : ℤ) (n : ℕ) → 1 ≤ n → (a *ℤ pos n) ≤ℤ (b *ℤ pos n) → a ≤ℤ b
le_from_times a b n o h =
    let e : (b -ℤ a) *ℤ pos n ≡ b *ℤ pos n -ℤ a *ℤ pos n = simp ring in
    let k = nonneg_from_mul (b -ℤ a) (pos n) (omega (arith, ints)) (omega (arith, ints)) in
    omega (arith, ints)

swap_last : (a b c : ℤ) → (a *ℤ b) *ℤ c ≡ (a *ℤ c) *ℤ b
swap_last a b c = simp ring

le_trans : (e : Point) (a b c : Move) → 1 ≤ b.div → LE e a b → LE e b c → LE e a c
le_trans e a b c o h k =
    let A = dot a.numer e in
    let B = dot b.numer e in
    let C = dot c.numer e in
    let x = le_times (A *ℤ pos b.div) (B *ℤ pos a.div) c.div h in
    let y = le_times (B *ℤ pos c.div) (C *ℤ pos b.div) a.div k in
    let s = swap_last A (pos b.div) (pos c.div) in
    let t = swap_last B (pos a.div) (pos c.div) in
    let u = swap_last C (pos b.div) (pos a.div) in
    le_from_times (A *ℤ pos c.div) (C *ℤ pos a.div) b.div o (omega (arith, ints))

-- a divisor, and without x
abbrev Sound : ℕ → Move → Type 0
Sound x m = (1 ≤ m.div) × (coef m.numer.terms x ≡ pos 0)

dot_before : (x : ℕ) (m : Move) (e : Point) (v : Value) → length e.nums ≡ x → Sound x m → dot m.numer (extend e v) ≡ dot m.numer e *ℤ pos v.den
dot_before x m e v l s = subst (λ (q : Point). dot m.numer q ≡ dot m.numer e *ℤ pos v.den) (assign_last e x v l) (dot-assign_free m.numer e v x s.1)

regroup : (N w D P : ℤ) → (N *ℤ w) *ℤ (D *ℤ P) ≡ ((N *ℤ D) *ℤ w) *ℤ P
regroup N w D P = simp ring

-- the comparison of two bounds at the point with a value for x
le_at : (x : ℕ) (e : Point) (v : Value) (m n : Move) → length e.nums ≡ x → 1 ≤ e.den → 1 ≤ v.den → Sound x m → Sound x n → (dot m.numer (extend e v) *ℤ pos (n.div * (e.den * v.den))) ≤ℤ (dot n.numer (extend e v) *ℤ pos (m.div * (e.den * v.den))) → LE e m n
le_at x e v m n l oe ov sm sn h =
    let P = e.den * v.den in
    let a = dot_before x m e v l sm in
    let b = dot_before x n e v l sn in
    let c : pos (n.div * P) ≡ pos n.div *ℤ pos P = omega (arith, ints) in
    let d : pos (m.div * P) ≡ pos m.div *ℤ pos P = omega (arith, ints) in
    let s = ap₂ (λ (y z : ℤ). y *ℤ z) a c ∙ regroup (dot m.numer e) (pos v.den) (pos n.div) (pos P) in
    let t = ap₂ (λ (y z : ℤ). y *ℤ z) b d ∙ regroup (dot n.numer e) (pos v.den) (pos m.div) (pos P) in
    le_from_times (dot m.numer e *ℤ pos n.div) (dot n.numer e *ℤ pos m.div) v.den ov
    (le_from_times ((dot m.numer e *ℤ pos n.div) *ℤ pos v.den) ((dot n.numer e *ℤ pos m.div) *ℤ pos v.den) P (mul-le-mul oe ov)
    (subst (λ (z : ℤ). z ≤ℤ (((dot n.numer e *ℤ pos m.div) *ℤ pos v.den) *ℤ pos P)) s (subst (λ (z : ℤ). (dot m.numer (extend e v) *ℤ pos (n.div * P)) ≤ℤ z) t h)))

lt_le : (a b : ℤ) → int_lt a b ≡ true → a ≤ℤ b
lt_le a b e = omega (arith, ints)

not_lt_le : (a b : ℤ) → int_lt a b ≡ false → b ≤ℤ a
not_lt_le a b e = omega (arith, ints)

if_sound : (x : ℕ) (b : Bool) (m n : Move) → Sound x m → Sound x n → Sound x (if b then n else m)
if_sound x true m n s t = t
if_sound x false m n s t = s

-- the one that is kept is at least both
kept_greater : (x : ℕ) (e : Point) (v : Value) (m n : Move) → length e.nums ≡ x → 1 ≤ e.den → 1 ≤ v.den → Sound x m → Sound x n → (b : Bool) → is_less (move_value Rat m (extend e v)) (move_value Rat n (extend e v)) ≡ b → LE e m (if b then n else m) × LE e n (if b then n else m)
kept_greater x e v m n l oe ov s t true u =
    (le_at x e v m n l oe ov s t (lt_le (dot m.numer (extend e v) *ℤ pos (n.div * (e.den * v.den))) (dot n.numer (extend e v) *ℤ pos (m.div * (e.den * v.den))) u), le_self e n)
kept_greater x e v m n l oe ov s t false u =
    (le_self e m, le_at x e v n m l oe ov t s (not_lt_le (dot m.numer (extend e v) *ℤ pos (n.div * (e.den * v.den))) (dot n.numer (extend e v) *ℤ pos (m.div * (e.den * v.den))) u))

greatest_above : (x : ℕ) (e : Point) (v : Value) (m : Move) (ms : List Move) → length e.nums ≡ x → 1 ≤ e.den → 1 ≤ v.den → Sound x m → AllByRecursion (Sound x) ms → LE e m (greatest_with Rat (extend e v) m ms) × AllByRecursion (λ n. LE e n (greatest_with Rat (extend e v) m ms)) ms
greatest_above x e v m [] l oe ov s t = (le_self e m, tt)
greatest_above x e v m (n ∷ ns) l oe ov s t =
    let b = is_less (move_value Rat m (extend e v)) (move_value Rat n (extend e v)) in
    let k = if b then n else m in
    let sk = if_sound x b m n s t.0 in
    let r = greatest_above x e v k ns l oe ov sk t.1 in
    let c = kept_greater x e v m n l oe ov s t.0 b refl in
    let g = greatest_with Rat (extend e v) k ns in
    (le_trans e m k g sk.0 c.0 r.0, (le_trans e n k g sk.0 c.1 r.0, r.1))

kept_less : (x : ℕ) (e : Point) (v : Value) (m n : Move) → length e.nums ≡ x → 1 ≤ e.den → 1 ≤ v.den → Sound x m → Sound x n → (b : Bool) → is_less (move_value Rat n (extend e v)) (move_value Rat m (extend e v)) ≡ b → LE e (if b then n else m) m × LE e (if b then n else m) n
kept_less x e v m n l oe ov s t true u =
    (le_at x e v n m l oe ov t s (lt_le (dot n.numer (extend e v) *ℤ pos (m.div * (e.den * v.den))) (dot m.numer (extend e v) *ℤ pos (n.div * (e.den * v.den))) u), le_self e n)
kept_less x e v m n l oe ov s t false u =
    (le_self e m, le_at x e v m n l oe ov s t (not_lt_le (dot n.numer (extend e v) *ℤ pos (m.div * (e.den * v.den))) (dot m.numer (extend e v) *ℤ pos (n.div * (e.den * v.den))) u))

least_below : (x : ℕ) (e : Point) (v : Value) (m : Move) (ms : List Move) → length e.nums ≡ x → 1 ≤ e.den → 1 ≤ v.den → Sound x m → AllByRecursion (Sound x) ms → LE e (least_with Rat (extend e v) m ms) m × AllByRecursion (λ n. LE e (least_with Rat (extend e v) m ms) n) ms
least_below x e v m [] l oe ov s t = (le_self e m, tt)
least_below x e v m (n ∷ ns) l oe ov s t =
    let b = is_less (move_value Rat n (extend e v)) (move_value Rat m (extend e v)) in
    let k = if b then n else m in
    let sk = if_sound x b m n s t.0 in
    let r = least_below x e v k ns l oe ov sk t.1 in
    let c = kept_less x e v m n l oe ov s t.0 b refl in
    let g = least_with Rat (extend e v) k ns in
    (le_trans e g k m sk.0 r.0 c.0, (le_trans e g k n sk.0 r.0 c.1, r.1))

-- ---- a literal at a picked value: c its coefficient, R its rest, V/w a value at which it holds

own_low : (k : ℕ) (R L : ℤ) → L ≡ negsuc 0 *ℤ R → pos 0 ≤ℤ sign_at (pos (suc k)) R L (suc k)
own_low k R L e =
    let a = ap (λ (z : ℤ). pos (suc k) *ℤ z) e in
    let b : pos (suc k) *ℤ (negsuc 0 *ℤ R) ≡ negsuc 0 *ℤ (R *ℤ pos (suc k)) = turn (pos (suc k)) (negsuc 0) R in
    omega (arith, ints)
  where
    turn : (a n z : ℤ) → a *ℤ (n *ℤ z) ≡ n *ℤ (z *ℤ a)
    turn a n z = simp ring

own_high : (k : ℕ) (R : ℤ) → pos 0 ≤ℤ sign_at (negsuc k) R R (suc k)
own_high k R = let a = minus_coef k R in let b = *ℤ_comm R (pos (suc k)) in omega (arith, ints)

free_good : (l : Lit) (R V N : ℤ) (w D : ℕ) → 1 ≤ w → 1 ≤ D → Asks l (sign_at (pos 0) R V w) → Asks l (sign_at (pos 0) R N D)
free_good l R V N w D o p h =
    let a : sign_at (pos 0) R V w ≡ R *ℤ pos w = omega (arith, ints) in
    let b : sign_at (pos 0) R N D ≡ R *ℤ pos D = omega (arith, ints) in
    subst (λ (z : ℤ). Asks l z) (sym b) (asks_times l R D p (asks_from l R w o (subst (λ (z : ℤ). Asks l z) a h)))

up_weak : (c : ℕ) (R N1 N2 : ℤ) (D1 D2 : ℕ) → 1 ≤ D1 → 1 ≤ D2 → (N1 *ℤ pos D2) ≤ℤ (N2 *ℤ pos D1) → pos 0 ≤ℤ sign_at (pos c) R N1 D1 → pos 0 ≤ℤ sign_at (pos c) R N2 D2
up_weak c R N1 N2 D1 D2 o p h k = more_up (AtLeast (constant_form (pos 0))) c R N1 N2 D1 D2 o p h k

down_weak : (c : ℕ) (R N1 N2 : ℤ) (D1 D2 : ℕ) → 1 ≤ D1 → 1 ≤ D2 → (N2 *ℤ pos D1) ≤ℤ (N1 *ℤ pos D2) → pos 0 ≤ℤ sign_at (negsuc c) R N1 D1 → pos 0 ≤ℤ sign_at (negsuc c) R N2 D2
down_weak c R N1 N2 D1 D2 o p h k = less_down (AtLeast (constant_form (pos 0))) c R N1 N2 D1 D2 o p h k

mid_sign : (c R G H : ℤ) (a b : ℕ) → sign_at c R (pos b *ℤ G +ℤ pos a *ℤ H) (2 * (a * b)) ≡ sign_at c R G a *ℤ pos b +ℤ sign_at c R H b *ℤ pos a
mid_sign c R G H a b =
    let m : pos (2 * (a * b)) ≡ pos a *ℤ pos b +ℤ pos a *ℤ pos b = omega (arith, ints) in
    ap (λ (z : ℤ). c *ℤ (pos b *ℤ G +ℤ pos a *ℤ H) +ℤ R *ℤ z) m ∙ all c R G H (pos a) (pos b)
  where
    all : (c R G H a b : ℤ) → c *ℤ (b *ℤ G +ℤ a *ℤ H) +ℤ R *ℤ (a *ℤ b +ℤ a *ℤ b) ≡ (c *ℤ G +ℤ R *ℤ a) *ℤ b +ℤ (c *ℤ H +ℤ R *ℤ b) *ℤ a
    all c R G H a b = simp ring (omega (arith, ints))

swap_sum : (y z : ℤ) → y +ℤ z ≡ z +ℤ y
swap_sum y z = omega (arith, ints)

mid_good : (l : Lit) (c R V L G H : ℤ) (w a b : ℕ) → 1 ≤ w → 1 ≤ a → 1 ≤ b → L ≡ negsuc 0 *ℤ R → (is_positive c ≡ true → (L *ℤ pos a) ≤ℤ (G *ℤ pos (nat_abs c))) → (is_negative c ≡ true → (H *ℤ pos (nat_abs c)) ≤ℤ (R *ℤ pos b)) → (G *ℤ pos w) ≤ℤ (V *ℤ pos a) → (V *ℤ pos b) ≤ℤ (H *ℤ pos w) → Asks l (sign_at c R V w) → Asks l (sign_at c R (pos b *ℤ G +ℤ pos a *ℤ H) (2 * (a * b)))
mid_good l (pos zero) R V L G H w a b ow oa ob e lo hi gv vh k =
    free_good l R V (pos b *ℤ G +ℤ pos a *ℤ H) w (2 * (a * b)) ow (let m : 1 ≤ a * b = mul-le-mul oa ob in omega arith) k
mid_good l (pos (suc n)) R V L G H w a b ow oa ob e lo hi gv vh k =
    let g = up_weak (suc n) R L G (suc n) a (omega arith) oa (lo refl) (own_low n R L e) in
    let h = more_up l (suc n) R V H w b ow ob vh k in
    subst (λ (z : ℤ). Asks l z) (sym (mid_sign (pos (suc n)) R G H a b))
    (asks_sum l (sign_at (pos (suc n)) R G a *ℤ pos b) (sign_at (pos (suc n)) R H b *ℤ pos a) (nonneg_mul (sign_at (pos (suc n)) R G a) (pos b) g (omega (arith, ints))) (asks_times l (sign_at (pos (suc n)) R H b) a oa h))
mid_good l (negsuc n) R V L G H w a b ow oa ob e lo hi gv vh k =
    let h = down_weak n R R H (suc n) b (omega arith) ob (hi refl) (own_high n R) in
    let g = less_down l n R V G w a ow oa gv k in
    subst (λ (z : ℤ). Asks l z) (sym (mid_sign (negsuc n) R G H a b ∙ swap_sum (sign_at (negsuc n) R G a *ℤ pos b) (sign_at (negsuc n) R H b *ℤ pos a)))
    (asks_sum l (sign_at (negsuc n) R H b *ℤ pos a) (sign_at (negsuc n) R G a *ℤ pos b) (nonneg_mul (sign_at (negsuc n) R H b) (pos a) h (omega (arith, ints))) (asks_times l (sign_at (negsuc n) R G a) b ob g))

off_sign : (c R G z : ℤ) (a : ℕ) → sign_at c R (G +ℤ z) a ≡ sign_at c R G a +ℤ c *ℤ z
off_sign c R G z a = all c R G z (pos a)
  where
    all : (c R G z a : ℤ) → c *ℤ (G +ℤ z) +ℤ R *ℤ a ≡ (c *ℤ G +ℤ R *ℤ a) +ℤ c *ℤ z
    all c R G z a = simp ring (omega (arith, ints))

low_good : (l : Lit) (c R V L G z : ℤ) (w a : ℕ) → IsOf Rat l → 1 ≤ w → 1 ≤ a → pos 0 <ℤ z → L ≡ negsuc 0 *ℤ R → (is_positive c ≡ true → (L *ℤ pos a) ≤ℤ (G *ℤ pos (nat_abs c))) → (is_negative c ≡ true → ⊥) → Asks l (sign_at c R V w) → Asks l (sign_at c R (G +ℤ z) a)
low_good l (pos zero) R V L G z w a i ow oa oz e lo nn k = free_good l R V (G +ℤ z) w a ow oa k
low_good l (pos (suc n)) R V L G z w a i ow oa oz e lo nn k =
    let g = up_weak (suc n) R L G (suc n) a (omega arith) oa (lo refl) (own_low n R L e) in
    let m = pos_mul (pos (suc n)) z (omega (arith, ints)) oz in
    strict l (sign_at (pos (suc n)) R (G +ℤ z) a) i (subst (λ (y : ℤ). pos 0 <ℤ y) (sym (off_sign (pos (suc n)) R G z a)) (omega (arith, ints)))
low_good l (negsuc n) R V L G z w a i ow oa oz e lo nn k = absurd (nn refl)

high_good : (l : Lit) (c R V H z : ℤ) (w b : ℕ) → IsOf Rat l → 1 ≤ w → 1 ≤ b → pos 0 <ℤ z → (is_negative c ≡ true → (H *ℤ pos (nat_abs c)) ≤ℤ (R *ℤ pos b)) → (is_positive c ≡ true → ⊥) → Asks l (sign_at c R V w) → Asks l (sign_at c R (H -ℤ z) b)
high_good l (pos zero) R V H z w b i ow ob oz hi nn k = free_good l R V (H -ℤ z) w b ow ob k
high_good l (pos (suc n)) R V H z w b i ow ob oz hi nn k = absurd (nn refl)
high_good l (negsuc n) R V H z w b i ow ob oz hi nn k =
    let h = down_weak n R R H (suc n) b (omega arith) ob (hi refl) (own_high n R) in
    let m = pos_mul (pos (suc n)) z (omega (arith, ints)) oz in
    let q = minus_coef n z in
    let s : sign_at (negsuc n) R (H -ℤ z) b ≡ sign_at (negsuc n) R H b -ℤ negsuc n *ℤ z = all (negsuc n) R H z (pos b) in
    strict l (sign_at (negsuc n) R (H -ℤ z) b) i (subst (λ (y : ℤ). pos 0 <ℤ y) (sym s) (omega (arith, ints)))
  where
    all : (c R G z a : ℤ) → c *ℤ (G -ℤ z) +ℤ R *ℤ a ≡ (c *ℤ G +ℤ R *ℤ a) -ℤ c *ℤ z
    all c R G z a = simp ring (omega (arith, ints))

none_good : (l : Lit) (c R V N : ℤ) (w D : ℕ) → 1 ≤ w → 1 ≤ D → (is_positive c ≡ true → ⊥) → (is_negative c ≡ true → ⊥) → Asks l (sign_at c R V w) → Asks l (sign_at c R N D)
none_good l (pos zero) R V N w D ow o np nn k = free_good l R V N w D ow o k
none_good l (pos (suc n)) R V N w D ow o np nn k = absurd (np refl)
none_good l (negsuc n) R V N w D ow o np nn k = absurd (nn refl)

-- ---- bounds against the value V/w

low_v : (c R V L : ℤ) (w : ℕ) → L ≡ negsuc 0 *ℤ R → pos 0 ≤ℤ sign_at c R V w → is_positive c ≡ true → (L *ℤ pos w) ≤ℤ (V *ℤ pos (nat_abs c))
low_v (pos zero) R V L w e h p = absurd (cc)
low_v (pos (suc n)) R V L w e h p =
    let a = ap (λ (z : ℤ). z *ℤ pos w) e in
    let b : (negsuc 0 *ℤ R) *ℤ pos w ≡ negsuc 0 *ℤ (R *ℤ pos w) = turn (negsuc 0) R (pos w) in
    let c = *ℤ_comm V (pos (suc n)) in
    omega (arith, ints)
  where
    turn : (n r w : ℤ) → (n *ℤ r) *ℤ w ≡ n *ℤ (r *ℤ w)
    turn n r w = simp ring
low_v (negsuc n) R V L w e h p = absurd (cc)

high_v : (c R V : ℤ) (w : ℕ) → pos 0 ≤ℤ sign_at c R V w → is_negative c ≡ true → (V *ℤ pos (nat_abs c)) ≤ℤ (R *ℤ pos w)
high_v (pos n) R V w h p = absurd (cc)
high_v (negsuc n) R V w h p = let a = minus_coef n V in let c = *ℤ_comm V (pos (suc n)) in omega (arith, ints)

-- ---- the literals of a cube

abbrev sign_of_lit : ℕ → Point → Lit → ℤ → ℕ → ℤ
sign_of_lit x e l N D = sign_at (coef (form_of l).terms x) (dot (rest_of (form_of l) x) e) N D

-- of the sort, and it holds at the value
abbrev HeldAt : ℕ → Point → Value → Lit → Type 0
HeldAt x e v l = IsOf Rat l × Asks l (sign_of_lit x e l (v.num *ℤ pos e.den) v.den)

held_at : (x : ℕ) (c : List Lit) (e : Point) (v : Value) → AllByRecursion (IsOf Rat) c → CubeHolds c (assign e x v) → AllByRecursion (HeldAt x e v) c
held_at x [] e v o h = tt
held_at x (l ∷ c) e v o h =
    ((o.0, subst (λ (z : ℤ). Asks l z) (dot-assign (form_of l) e v x) (asks_held l (assign e x v) o.0 h.0)), held_at x c e v o.1 h.1)

dot_lower : (x : ℕ) (l : Lit) (e : Point) → dot (above_bound x l 0) e ≡ negsuc 0 *ℤ dot (rest_of (form_of l) x) e
dot_lower x l e =
    let a = dot-plus (constant_form (pos 0)) (times (negsuc 0) (rest_of (form_of l) x)) e in
    let b = dot-constant_form (pos 0) e in
    let d = dot-times (negsuc 0) (rest_of (form_of l) x) e in
    omega (arith, ints)

abbrev LowV : Point → Value → Move → Type 0
LowV e v m = (dot m.numer e *ℤ pos v.den) ≤ℤ ((v.num *ℤ pos e.den) *ℤ pos m.div)

abbrev HighV : Point → Value → Move → Type 0
HighV e v m = ((v.num *ℤ pos e.den) *ℤ pos m.div) ≤ℤ (dot m.numer e *ℤ pos v.den)

lit_low : (x : ℕ) (e : Point) (v : Value) (l : Lit) → HeldAt x e v l → is_lower x l ≡ true → LowV e v (lower_bound Rat x l)
lit_low x e v (AtLeast f) h p = low_v (coef f.terms x) (dot (rest_of f x) e) (v.num *ℤ pos e.den) (dot (above_bound x (AtLeast f) 0) e) v.den (dot_lower x (AtLeast f) e) h.1 p
lit_low x e v (Above f) h p = low_v (coef f.terms x) (dot (rest_of f x) e) (v.num *ℤ pos e.den) (dot (above_bound x (Above f) 0) e) v.den (dot_lower x (Above f) e) (weak (Above f) (sign_of_lit x e (Above f) (v.num *ℤ pos e.den) v.den) h.1) p
lit_low x e v (Divides d f) h p = absurd (cc)
lit_low x e v (NotDivides d f) h p = absurd (cc)

lit_high : (x : ℕ) (e : Point) (v : Value) (l : Lit) → HeldAt x e v l → is_upper x l ≡ true → HighV e v (upper_bound x l)
lit_high x e v (AtLeast f) h p = high_v (coef f.terms x) (dot (rest_of f x) e) (v.num *ℤ pos e.den) v.den h.1 p
lit_high x e v (Above f) h p = high_v (coef f.terms x) (dot (rest_of f x) e) (v.num *ℤ pos e.den) v.den (weak (Above f) (sign_of_lit x e (Above f) (v.num *ℤ pos e.den) v.den) h.1) p
lit_high x e v (Divides d f) h p = absurd (cc)
lit_high x e v (NotDivides d f) h p = absurd (cc)

lits_map : (P Q : Lit → Type 0) (c : List Lit) → ((l : Lit) → P l → Q l) → AllByRecursion P c → AllByRecursion Q c
lits_map P Q [] k h = tt
lits_map P Q (l ∷ c) k h = (k l h.0, lits_map P Q c k h.1)

lits_three : (P Q R S : Lit → Type 0) (c : List Lit) → ((l : Lit) → P l → Q l → R l → S l) → AllByRecursion P c → AllByRecursion Q c → AllByRecursion R c → AllByRecursion S c
lits_three P Q R S [] k h g f = tt
lits_three P Q R S (l ∷ c) k h g f = (k l h.0 g.0 f.0, lits_three P Q R S c k h.1 g.1 f.1)

lowers_sound : (x : ℕ) (c : List Lit) → AllByRecursion (Sound x) (lowers Rat x c)
lowers_sound x c = each_map_filter (Sound x) (lower_bound Rat x) (is_lower x) c (any c)
  where
    one : (l : Lit) → coef (above_bound x l 0).terms x ≡ pos 0
    one l =
        coef-plus (constant_form (pos 0)) (times (negsuc 0) (rest_of (form_of l) x)) x
        ∙ (let t = coef-times (negsuc 0) (rest_of (form_of l) x) x in let w = ap (λ (z : ℤ). negsuc 0 *ℤ z) (coef-without (form_of l).terms x) in
        let u : pos 0 +ℤ coef (times (negsuc 0) (rest_of (form_of l) x)).terms x ≡ pos 0 = omega (arith, ints) in u)

    any : (c : List Lit) → AllByRecursion (λ l. is_lower x l ≡ true → Sound x (lower_bound Rat x l)) c
    any [] = tt
    any (l ∷ c) = (λ e. (lower_size x l e, one l), any c)

uppers_sound : (x : ℕ) (c : List Lit) → AllByRecursion (Sound x) (uppers x c)
uppers_sound x c = each_map_filter (Sound x) (upper_bound x) (is_upper x) c (any c)
  where
    any : (c : List Lit) → AllByRecursion (λ l. is_upper x l ≡ true → Sound x (upper_bound x l)) c
    any [] = tt
    any (l ∷ c) = (λ e. (upper_size x l e, coef-without (form_of l).terms x), any c)

-- ---- each literal at the picked move

abbrev Good : ℕ → Point → Move → Lit → Type 0
Good x e m l = Asks l (sign_of_lit x e l (dot m.numer e) m.div)

abbrev UnderG : ℕ → Point → Move → Lit → Type 0
UnderG x e g l = is_lower x l ≡ true → LE e (lower_bound Rat x l) g

abbrev OverH : ℕ → Point → Move → Lit → Type 0
OverH x e h l = is_upper x l ≡ true → LE e h (upper_bound x l)

lit_mid : (x : ℕ) (e : Point) (v : Value) (g h : Move) (l : Lit) → 1 ≤ v.den → 1 ≤ g.div → 1 ≤ h.div → LowV e v g → HighV e v h → HeldAt x e v l → UnderG x e g l → OverH x e h l → Good x e (middle g h) l
lit_mid x e v g h l ov og oh gv vh k lo hi = subst (λ (z : ℤ). Asks l (sign_of_lit x e l z (2 * (g.div * h.div)))) (sym d) (by l k lo hi)
  where
    d : dot (middle g h).numer e ≡ pos h.div *ℤ dot g.numer e +ℤ pos g.div *ℤ dot h.numer e
    d = dot-plus (times (pos h.div) g.numer) (times (pos g.div) h.numer) e ∙ ap₂ (λ (y z : ℤ). y +ℤ z) (dot-times (pos h.div) g.numer e) (dot-times (pos g.div) h.numer e)

    by : (l : Lit) → HeldAt x e v l → UnderG x e g l → OverH x e h l → Asks l (sign_of_lit x e l (pos h.div *ℤ dot g.numer e +ℤ pos g.div *ℤ dot h.numer e) (2 * (g.div * h.div)))
    by (AtLeast f) k lo hi = mid_good (AtLeast f) (coef f.terms x) (dot (rest_of f x) e) (v.num *ℤ pos e.den) (dot (above_bound x (AtLeast f) 0) e) (dot g.numer e) (dot h.numer e) v.den g.div h.div ov og oh (dot_lower x (AtLeast f) e) lo hi gv vh k.1
    by (Above f) k lo hi = mid_good (Above f) (coef f.terms x) (dot (rest_of f x) e) (v.num *ℤ pos e.den) (dot (above_bound x (Above f) 0) e) (dot g.numer e) (dot h.numer e) v.den g.div h.div ov og oh (dot_lower x (Above f) e) lo hi gv vh k.1
    by (Divides d f) k lo hi = absurd k.0
    by (NotDivides d f) k lo hi = absurd k.0

dot_more : (m : Move) (e : Point) → dot (moved m (pos 1)).numer e ≡ dot m.numer e +ℤ (pos m.div *ℤ pos 1) *ℤ pos e.den
dot_more m e = dot-plus m.numer (constant_form (pos m.div *ℤ pos 1)) e ∙ ap (λ (z : ℤ). dot m.numer e +ℤ z) (dot-constant_form (pos m.div *ℤ pos 1) e)

dot_fewer : (m : Move) (e : Point) → dot (moved m (negsuc 0)).numer e ≡ dot m.numer e -ℤ pos m.div *ℤ pos e.den
dot_fewer m e =
    let a = dot-plus m.numer (constant_form (pos m.div *ℤ negsuc 0)) e in
    let b = dot-constant_form (pos m.div *ℤ negsuc 0) e in
    let c : (pos m.div *ℤ negsuc 0) *ℤ pos e.den ≡ negsuc 0 *ℤ (pos m.div *ℤ pos e.den) = turn (pos m.div) (negsuc 0) (pos e.den) in
    omega (arith, ints)
  where
    turn : (b n w : ℤ) → (b *ℤ n) *ℤ w ≡ n *ℤ (b *ℤ w)
    turn b n w = simp ring

step_size : (a d : ℕ) → 1 ≤ a → 1 ≤ d → pos 0 <ℤ (pos a *ℤ pos d)
step_size a d o p = pos_mul (pos a) (pos d) (omega (arith, ints)) (omega (arith, ints))

lit_more : (x : ℕ) (e : Point) (v : Value) (g : Move) (l : Lit) → 1 ≤ e.den → 1 ≤ v.den → 1 ≤ g.div → HeldAt x e v l → UnderG x e g l → (is_upper x l ≡ true → ⊥) → Good x e (moved g (pos 1)) l
lit_more x e v g l oe ov og k lo nn = subst (λ (z : ℤ). Asks l (sign_of_lit x e l z g.div)) (sym (dot_more g e)) (by l k lo nn)
  where
    size : pos 0 <ℤ ((pos g.div *ℤ pos 1) *ℤ pos e.den)
    size = pos_mul (pos g.div *ℤ pos 1) (pos e.den) (omega (arith, ints)) (omega (arith, ints))

    by : (l : Lit) → HeldAt x e v l → UnderG x e g l → (is_upper x l ≡ true → ⊥) → Asks l (sign_of_lit x e l (dot g.numer e +ℤ (pos g.div *ℤ pos 1) *ℤ pos e.den) g.div)
    by (AtLeast f) k lo nn = low_good (AtLeast f) (coef f.terms x) (dot (rest_of f x) e) (v.num *ℤ pos e.den) (dot (above_bound x (AtLeast f) 0) e) (dot g.numer e) ((pos g.div *ℤ pos 1) *ℤ pos e.den) v.den g.div k.0 ov og size (dot_lower x (AtLeast f) e) lo nn k.1
    by (Above f) k lo nn = low_good (Above f) (coef f.terms x) (dot (rest_of f x) e) (v.num *ℤ pos e.den) (dot (above_bound x (Above f) 0) e) (dot g.numer e) ((pos g.div *ℤ pos 1) *ℤ pos e.den) v.den g.div k.0 ov og size (dot_lower x (Above f) e) lo nn k.1
    by (Divides d f) k lo nn = absurd k.0
    by (NotDivides d f) k lo nn = absurd k.0

lit_fewer : (x : ℕ) (e : Point) (v : Value) (h : Move) (l : Lit) → 1 ≤ e.den → 1 ≤ v.den → 1 ≤ h.div → HeldAt x e v l → OverH x e h l → (is_lower x l ≡ true → ⊥) → Good x e (moved h (negsuc 0)) l
lit_fewer x e v h l oe ov oh k hi nn = subst (λ (z : ℤ). Asks l (sign_of_lit x e l z h.div)) (sym (dot_fewer h e)) (by l k hi nn)
  where
    by : (l : Lit) → HeldAt x e v l → OverH x e h l → (is_lower x l ≡ true → ⊥) → Asks l (sign_of_lit x e l (dot h.numer e -ℤ pos h.div *ℤ pos e.den) h.div)
    by (AtLeast f) k hi nn = high_good (AtLeast f) (coef f.terms x) (dot (rest_of f x) e) (v.num *ℤ pos e.den) (dot h.numer e) (pos h.div *ℤ pos e.den) v.den h.div k.0 ov oh (step_size h.div e.den oh oe) hi nn k.1
    by (Above f) k hi nn = high_good (Above f) (coef f.terms x) (dot (rest_of f x) e) (v.num *ℤ pos e.den) (dot h.numer e) (pos h.div *ℤ pos e.den) v.den h.div k.0 ov oh (step_size h.div e.den oh oe) hi nn k.1
    by (Divides d f) k hi nn = absurd k.0
    by (NotDivides d f) k hi nn = absurd k.0

lit_none : (x : ℕ) (e : Point) (v : Value) (l : Lit) → 1 ≤ v.den → HeldAt x e v l → (is_lower x l ≡ true → ⊥) → (is_upper x l ≡ true → ⊥) → Good x e (constant_move (pos 0)) l
lit_none x e v (AtLeast f) ov k nl nu = none_good (AtLeast f) (coef f.terms x) (dot (rest_of f x) e) (v.num *ℤ pos e.den) (dot (constant_form (pos 0)) e) v.den 1 ov (omega arith) nl nu k.1
lit_none x e v (Above f) ov k nl nu = none_good (Above f) (coef f.terms x) (dot (rest_of f x) e) (v.num *ℤ pos e.den) (dot (constant_form (pos 0)) e) v.den 1 ov (omega arith) nl nu k.1
lit_none x e v (Divides d f) ov k nl nu = absurd k.0
lit_none x e v (NotDivides d f) ov k nl nu = absurd k.0

record IsGood (x : ℕ) (c : List Lit) (e : Point) (m : Move) : Type 0 where
  one : 1 ≤ m.div
  each : AllByRecursion (Good x e m) c

good : (x : ℕ) (c : List Lit) (e : Point) (v : Value) → 1 ≤ e.den → 1 ≤ v.den → length e.nums ≡ x → AllByRecursion (HeldAt x e v) c → (los ups : List Move) → los ≡ lowers Rat x c → ups ≡ uppers x c → IsGood x c e (between (greatest Rat (extend e v) los) (least Rat (extend e v) ups))
good x c e v oe ov l k los ups u w = by los ups u w
  where
    p : Point
    p = extend e v

    lows : (ms : List Move) → ms ≡ lowers Rat x c → AllByRecursion (LowV e v) ms
    lows ms u = subst (λ (ks : List Move). AllByRecursion (LowV e v) ks) (sym u) (each_map_filter (LowV e v) (lower_bound Rat x) (is_lower x) c (lits_map (HeldAt x e v) (λ l. is_lower x l ≡ true → LowV e v (lower_bound Rat x l)) c (λ l h. lit_low x e v l h) k))

    highs : (ms : List Move) → ms ≡ uppers x c → AllByRecursion (HighV e v) ms
    highs ms u = subst (λ (ks : List Move). AllByRecursion (HighV e v) ks) (sym u) (each_map_filter (HighV e v) (upper_bound x) (is_upper x) c (lits_map (HeldAt x e v) (λ l. is_upper x l ≡ true → HighV e v (upper_bound x l)) c (λ l h. lit_high x e v l h) k))

    low_sound : (ms : List Move) → ms ≡ lowers Rat x c → AllByRecursion (Sound x) ms
    low_sound ms u = subst (λ (ks : List Move). AllByRecursion (Sound x) ks) (sym u) (lowers_sound x c)

    high_sound : (ms : List Move) → ms ≡ uppers x c → AllByRecursion (Sound x) ms
    high_sound ms u = subst (λ (ks : List Move). AllByRecursion (Sound x) ks) (sym u) (uppers_sound x c)

    unders : (m : Move) (ms : List Move) → (m ∷ ms) ≡ lowers Rat x c → AllByRecursion (UnderG x e (greatest_with Rat p m ms)) c
    unders m ms u =
        let s = low_sound (m ∷ ms) u in
        let a = greatest_above x e v m ms l oe ov s.0 s.1 in
        of_map_filter (λ n. LE e n (greatest_with Rat p m ms)) (lower_bound Rat x) (is_lower x) c (subst (λ (ks : List Move). AllByRecursion (λ n. LE e n (greatest_with Rat p m ms)) ks) u (a.0, a.1))

    overs : (m : Move) (ms : List Move) → (m ∷ ms) ≡ uppers x c → AllByRecursion (OverH x e (least_with Rat p m ms)) c
    overs m ms u =
        let s = high_sound (m ∷ ms) u in
        let a = least_below x e v m ms l oe ov s.0 s.1 in
        of_map_filter (λ n. LE e (least_with Rat p m ms) n) (upper_bound x) (is_upper x) c (subst (λ (ks : List Move). AllByRecursion (λ n. LE e (least_with Rat p m ms) n) ks) u (a.0, a.1))

    no_lower : [] ≡ lowers Rat x c → AllByRecursion (λ l. is_lower x l ≡ true → ⊥) c
    no_lower u = of_map_filter (λ n. ⊥) (lower_bound Rat x) (is_lower x) c (subst (λ (ks : List Move). AllByRecursion (λ n. ⊥) ks) u tt)

    no_upper : [] ≡ uppers x c → AllByRecursion (λ l. is_upper x l ≡ true → ⊥) c
    no_upper u = of_map_filter (λ n. ⊥) (upper_bound x) (is_upper x) c (subst (λ (ks : List Move). AllByRecursion (λ n. ⊥) ks) u tt)

    by : (los ups : List Move) → los ≡ lowers Rat x c → ups ≡ uppers x c → IsGood x c e (between (greatest Rat p los) (least Rat p ups))
    by (m ∷ ms) (n ∷ ns) u w =
        let g = greatest_with Rat p m ms in
        let h = least_with Rat p n ns in
        let sg = greatest_has (Sound x) Rat p (m ∷ ms) (low_sound (m ∷ ms) u) in
        let sh = least_has (Sound x) Rat p (n ∷ ns) (high_sound (n ∷ ns) w) in
        let gv = greatest_has (LowV e v) Rat p (m ∷ ms) (lows (m ∷ ms) u) in
        let vh = least_has (HighV e v) Rat p (n ∷ ns) (highs (n ∷ ns) w) in
        record {
          one = (let a : 1 ≤ g.div * h.div = mul-le-mul sg.0 sh.0 in omega arith);
          each = lits_three (HeldAt x e v) (UnderG x e g) (OverH x e h) (Good x e (middle g h)) c (λ l a b d. lit_mid x e v g h l ov sg.0 sh.0 gv vh a b d) k (unders m ms u) (overs n ns w);
        }
    by (m ∷ ms) [] u w =
        let g = greatest_with Rat p m ms in
        let sg = greatest_has (Sound x) Rat p (m ∷ ms) (low_sound (m ∷ ms) u) in
        record {
          one = sg.0;
          each = lits_three (HeldAt x e v) (UnderG x e g) (λ l. is_upper x l ≡ true → ⊥) (Good x e (moved g (pos 1))) c (λ l a b d. lit_more x e v g l oe ov sg.0 a b d) k (unders m ms u) (no_upper w);
        }
    by [] (n ∷ ns) u w =
        let h = least_with Rat p n ns in
        let sh = least_has (Sound x) Rat p (n ∷ ns) (high_sound (n ∷ ns) w) in
        record {
          one = sh.0;
          each = lits_three (HeldAt x e v) (OverH x e h) (λ l. is_lower x l ≡ true → ⊥) (Good x e (moved h (negsuc 0))) c (λ l a b d. lit_fewer x e v h l oe ov sh.0 a b d) k (overs n ns w) (no_lower u);
        }
    by [] [] u w = record {
      one = omega arith;
      each = lits_three (HeldAt x e v) (λ l. is_lower x l ≡ true → ⊥) (λ l. is_upper x l ≡ true → ⊥) (Good x e (constant_move (pos 0))) c (λ l a b d. lit_none x e v l ov a b d) k (no_lower u) (no_upper w);
    }

-- ---- the lowest form, and the value

divisor_of_constant : (m : Move) → move_divisor Rat m ∣ nat_abs m.numer.constant
divisor_of_constant m =
    let t : ℕ = gcd_terms m.numer.terms in
    let k = gcd_is (nat_abs m.numer.constant) t in
    let h = gcd_is m.div (gcd (nat_abs m.numer.constant) t) in
    let c : ℕ = gcd m.div (gcd (nat_abs m.numer.constant) t) in
    or_one_divides c (nat_abs m.numer.constant) (dvd_trans c h.1 k.0)

factor : (c R N g D : ℤ) → c *ℤ (g *ℤ N) +ℤ R *ℤ (g *ℤ D) ≡ (c *ℤ N +ℤ R *ℤ D) *ℤ g
factor c R N g D = simp ring (omega (arith, ints))

sign_lowest : (c R : ℤ) (m : Move) (e : Point) → sign_at c R (dot m.numer e) m.div ≡ sign_at c R (dot (lowest Rat m).numer e) (lowest Rat m).div *ℤ pos (move_divisor Rat m)
sign_lowest c R m e =
    let g = move_divisor Rat m in
    let d = dot-quotient m.numer g e (divisor_pos Rat m) (divisor_of_terms Rat m) (divisor_of_constant m) in
    let w = whole_div g m.div (divisor_of_div Rat m) in
    let p : pos m.div ≡ pos g *ℤ pos (m.div / g) = ap pos (sym w) ∙ (let u : pos (g * (m.div / g)) ≡ pos g *ℤ pos (m.div / g) = omega (arith, ints) in u) in
    ap₂ (λ (y z : ℤ). c *ℤ y +ℤ R *ℤ z) (sym d) p ∙ factor c R (dot (lowest Rat m).numer e) (pos g) (pos (m.div / g))

value_sign : (c R N D E : ℤ) → c *ℤ (N *ℤ E) +ℤ R *ℤ (D *ℤ E) ≡ (c *ℤ N +ℤ R *ℤ D) *ℤ E
value_sign c R N D E = simp ring (omega (arith, ints))

good_holds : (x : ℕ) (c : List Lit) (e : Point) (m : Move) → 1 ≤ e.den → AllByRecursion (Good x e m) c → CubeHolds c (assign e x (move_value Rat (lowest Rat m) e))
good_holds x [] e m oe h = tt
good_holds x (l ∷ c) e m oe h =
    let k = lowest Rat m in
    let cz = coef (form_of l).terms x in
    let R = dot (rest_of (form_of l) x) e in
    let a = asks_from l (sign_at cz R (dot k.numer e) k.div) (move_divisor Rat m) (divisor_pos Rat m) (subst (λ (z : ℤ). Asks l z) (sign_lowest cz R m e) h.0) in
    let p : pos (k.div * e.den) ≡ pos k.div *ℤ pos e.den = omega (arith, ints) in
    let s = dot-assign (form_of l) e (move_value Rat k e) x ∙ ap (λ (z : ℤ). cz *ℤ (dot k.numer e *ℤ pos e.den) +ℤ R *ℤ z) p ∙ value_sign cz R (dot k.numer e) (pos k.div) (pos e.den) in
    (held_asks l (assign e x (move_value Rat k e)) (subst (λ (z : ℤ). Asks l z) (sym s) (asks_times l (sign_at cz R (dot k.numer e) k.div) e.den oe a)), good_holds x c e m oe h.1)

pub keeps_rat : (x : ℕ) (c : List Lit) (e : Point) (v : Value) → 1 ≤ e.den → 1 ≤ v.den → length e.nums ≡ x → AllByRecursion (IsOf Rat) c → CubeHolds c (extend e v) → CubeHolds c (played Rat (pick Rat x c (extend e v)) e)
keeps_rat x c e v oe ov n o h =
    let k = held_at x c e v o (subst (λ (q : Point). CubeHolds c q) (sym (assign_last e x v n)) h) in
    let f = good x c e v oe ov n k (lowers Rat x c) (uppers x c) refl refl in
    let m = between (greatest Rat (extend e v) (lowers Rat x c)) (least Rat (extend e v) (uppers x c)) in
    subst (λ (q : Point). CubeHolds c q) (assign_last e x (move_value Rat (lowest Rat m) e) n) (good_holds x c e m oe f.each)
