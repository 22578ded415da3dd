-- In Int a picked move keeps a cube true.
use Rattle.std.specs.Prelude.{ℕ, zero, suc, ◌*◌, ◌/◌, ◌-◌, ◌≤◌, ◌≡◌, ℤ, pos, negsuc, ◌+ℤ◌, ◌-ℤ◌, ◌*ℤ◌, ◌≤ℤ◌, ◌<ℤ◌, neg_ℤ, nat_abs, int_lt, Bool, true, false, if◌then◌else◌, List, [], ◌∷◌, map, filter, length}
use Rattle.std.proofs.Common.{arith, ap, ◌∙◌, sym, subst, refl}
use Rattle.std.proofs.lemmas.Int.{ints, by_lt_z}
use Rattle.lin_term.specs.declared.Sort.TheVariants.{Int}
use Rattle.lin_term.specs.declared.Lit.{Lit}
use Rattle.lin_term.specs.declared.Lit.TheVariants.{AtLeast, Above, Divides, NotDivides}
use Rattle.lin_term.specs.Linear.{Point, Value, IsPoint, IsValue, at, dot, dot_terms, times, constant_form, extend, floor_div}
use Rattle.lin_term.specs.Literal.{Holds, form_of, residue, IsOf, quotient, quotient_terms}
use Rattle.lin_term.specs.Move.{Move, move_value, move_divisor, lowest}
use Rattle.lin_term.specs.PutIn.{coef, rest_of}
use Rattle.dom_core.specs.Cube.{CubeHolds, IsCube, assign}
use Rattle.dom_core.specs.Elimination.{size_at, is_lower, is_upper, is_positive, is_negative, above_bound, delta}
use Rattle.lin_term.proofs.Ring.{ring, distrib_ℤ, mul_assoc_ℤ, nonneg_mul, mul_neg_ℤ}
use Rattle.lin_term.proofs.Dots.{dot-plus, dot-times, dot-constant_form, at-extend_new}
use Rattle.lin_term.proofs.PrimitiveLemmas.{dot-quotient_terms, floor_bounds, one_times}
use Rattle.lin_term.proofs.Lowering.{divisor_of_div, divisor_of_terms, divisor_pos}
use Rattle.dom_core.proofs.Assigning.{whole, dot-whole, dot-assign_free, coef-plus, coef-times}
use Rattle.dom_core.proofs.Periods.{Period, delta_period, lit_moved, Bounded}
use Rattle.std.specs.List.{AllByRecursion}
use Rattle.dom_core.specs.Pick.{played}
use Rattle.dom_core.specs.Pick.{lower_bound, upper_bound, lowers, uppers, is_less, greatest_with, greatest, least_with, least, constant_move, moved, congruent, pick}
use Rattle.dom_core.proofs.Assigning.{assign_last}
use Rattle.dom_core.proofs.Putting.{residue_is, floor_unique}
use Rattle.dom_core.proofs.Picking.{lower_size, upper_size, lowest_divisor, whole_div, greatest_has, least_has}
use Rattle.dom_core.proofs.Assigning.{coef-without}

-- the value of a move over the integers
abbrev val : Point → Move → ℤ
val p m = floor_div (dot m.numer p) m.div

-- ---- lists of bounds

pub each_map_filter : (P : Move → Type 0) (g : Lit → Move) (t : Lit → Bool) (c : List Lit) → AllByRecursion (λ l. t l ≡ true → P (g l)) c → AllByRecursion P (map g (filter t c))
each_map_filter P g t [] h = tt
each_map_filter P g t (l ∷ c) h = by (t l) refl (each_map_filter P g t c h.1)
  where
    by : (b : Bool) → t l ≡ b → AllByRecursion P (map g (filter t c)) → AllByRecursion P (map g (if b then l ∷ filter t c else filter t c))
    by true e k = (h.0 e, k)
    by false e k = k

pub of_map_filter : (P : Move → Type 0) (g : Lit → Move) (t : Lit → Bool) (c : List Lit) → AllByRecursion P (map g (filter t c)) → AllByRecursion (λ l. t l ≡ true → P (g l)) c
of_map_filter P g t [] h = tt
of_map_filter P g t (l ∷ c) h = by (t l) refl h (λ k. of_map_filter P g t c k)
  where
    by : (b : Bool) → t l ≡ b → AllByRecursion P (map g (if b then l ∷ filter t c else filter t c)) → (AllByRecursion P (map g (filter t c)) → AllByRecursion (λ k. t k ≡ true → P (g k)) c) → (t l ≡ true → P (g l)) × AllByRecursion (λ k. t k ≡ true → P (g k)) c
    by true e k r = (λ u. k.0, r k.1)
    by false e k r = (λ u. absurd (let f : true ≡ false = sym u ∙ e in cc), r k)

less_true : (a b : ℤ) → int_lt (a *ℤ pos 1) (b *ℤ pos 1) ≡ true → a ≤ℤ b
less_true a b e = omega (arith, ints)

less_false : (a b : ℤ) → int_lt (a *ℤ pos 1) (b *ℤ pos 1) ≡ false → b ≤ℤ a
less_false a b e = omega (arith, ints)

greatest_above : (p : Point) (m : Move) (ms : List Move) → (val p m ≤ℤ val p (greatest_with Int p m ms)) × AllByRecursion (λ n. val p n ≤ℤ val p (greatest_with Int p m ms)) ms
greatest_above p m [] = (omega (arith, ints), tt)
greatest_above p m (n ∷ ns) = by (is_less (move_value Int m p) (move_value Int n p)) refl (greatest_above p n ns) (greatest_above p m ns)
  where
    by : (b : Bool) → is_less (move_value Int m p) (move_value Int n p) ≡ b → (val p n ≤ℤ val p (greatest_with Int p n ns)) × AllByRecursion (λ k. val p k ≤ℤ val p (greatest_with Int p n ns)) ns → (val p m ≤ℤ val p (greatest_with Int p m ns)) × AllByRecursion (λ k. val p k ≤ℤ val p (greatest_with Int p m ns)) ns → (val p m ≤ℤ val p (greatest_with Int p (if b then n else m) ns)) × AllByRecursion (λ k. val p k ≤ℤ val p (greatest_with Int p (if b then n else m) ns)) (n ∷ ns)
    by true e r q = let l = less_true (val p m) (val p n) e in (omega (arith, ints), (r.0, r.1))
    by false e q r = let l = less_false (val p m) (val p n) e in (r.0, (omega (arith, ints), r.1))

least_below : (p : Point) (m : Move) (ms : List Move) → (val p (least_with Int p m ms) ≤ℤ val p m) × AllByRecursion (λ n. val p (least_with Int p m ms) ≤ℤ val p n) ms
least_below p m [] = (omega (arith, ints), tt)
least_below p m (n ∷ ns) = by (is_less (move_value Int n p) (move_value Int m p)) refl (least_below p n ns) (least_below p m ns)
  where
    by : (b : Bool) → is_less (move_value Int n p) (move_value Int m p) ≡ b → (val p (least_with Int p n ns) ≤ℤ val p n) × AllByRecursion (λ k. val p (least_with Int p n ns) ≤ℤ val p k) ns → (val p (least_with Int p m ns) ≤ℤ val p m) × AllByRecursion (λ k. val p (least_with Int p m ns) ≤ℤ val p k) ns → (val p (least_with Int p (if b then n else m) ns) ≤ℤ val p m) × AllByRecursion (λ k. val p (least_with Int p (if b then n else m) ns) ≤ℤ val p k) (n ∷ ns)
    by true e r q = let l = less_true (val p n) (val p m) e in (omega (arith, ints), (r.0, r.1))
    by false e q r = let l = less_false (val p n) (val p m) e in (r.0, (omega (arith, ints), r.1))

-- ---- products in order

le_times : (a : ℕ) (b c : ℤ) → b ≤ℤ c → (pos a *ℤ b) ≤ℤ (pos a *ℤ c)
le_times a b c h =
    let k = nonneg_mul (pos a) (c -ℤ b) (omega (arith, ints)) (omega (arith, ints)) in
    let e : pos a *ℤ (c -ℤ b) ≡ pos a *ℤ c -ℤ pos a *ℤ b = simp ring in
    omega (arith, ints)

lt_from_times : (a : ℕ) (b c : ℤ) → (pos a *ℤ b) <ℤ (pos a *ℤ c) → b <ℤ c
lt_from_times a b c h = by_lt_z b c (λ k. k) (λ k. let t = le_times a c b k in absurd (omega (arith, ints)))

-- ---- what a bound says of its literal; R is the rest

lower_at : (a : ℕ) (R Z : ℤ) → 1 ≤ a → floor_div (pos (a - 1) +ℤ negsuc 0 *ℤ R) a ≤ℤ Z → pos 0 ≤ℤ (pos a *ℤ Z +ℤ R)
lower_at a R Z o h =
    let f = floor_bounds (pos (a - 1) +ℤ negsuc 0 *ℤ R) a o in
    let t = le_times a (floor_div (pos (a - 1) +ℤ negsuc 0 *ℤ R) a) Z h in
    let s : pos (a - 1) ≡ pos a -ℤ pos 1 = omega (arith, ints) in
    omega (arith, ints)

lower_under : (a : ℕ) (R y : ℤ) → 1 ≤ a → pos 0 ≤ℤ (pos a *ℤ y +ℤ R) → floor_div (pos (a - 1) +ℤ negsuc 0 *ℤ R) a ≤ℤ y
lower_under a R y o h =
    let f = floor_bounds (pos (a - 1) +ℤ negsuc 0 *ℤ R) a o in
    let s : pos (a - 1) ≡ pos a -ℤ pos 1 = omega (arith, ints) in
    let d = distrib_ℤ (pos a) y (pos 1) in
    let t = lt_from_times a (floor_div (pos (a - 1) +ℤ negsuc 0 *ℤ R) a) (y +ℤ pos 1) (omega (arith, ints)) in
    omega (arith, ints)

minus_coef : (k : ℕ) (z : ℤ) → negsuc k *ℤ z ≡ neg_ℤ (pos (suc k) *ℤ z)
minus_coef k z = omega (arith, ints)

upper_at : (b : ℕ) (R Z : ℤ) → 1 ≤ b → Z ≤ℤ floor_div R b → pos 0 ≤ℤ (neg_ℤ (pos b *ℤ Z) +ℤ R)
upper_at b R Z o h = let f = floor_bounds R b o in let t = le_times b Z (floor_div R b) h in omega (arith, ints)

upper_over : (b : ℕ) (R y : ℤ) → 1 ≤ b → pos 0 ≤ℤ (neg_ℤ (pos b *ℤ y) +ℤ R) → y ≤ℤ floor_div R b
upper_over b R y o h =
    let f = floor_bounds R b o in
    let d = distrib_ℤ (pos b) (floor_div R b) (pos 1) in
    let t = lt_from_times b y (floor_div R b +ℤ pos 1) (omega (arith, ints)) in
    omega (arith, ints)

-- ---- both bounds at once; z is the coefficient and R the rest

abbrev IsBetween : ℤ → ℤ → ℤ → Type 0
IsBetween z R y =
    (is_positive z ≡ true → floor_div (pos (nat_abs z - 1) +ℤ negsuc 0 *ℤ R) (nat_abs z) ≤ℤ y) × (is_negative z ≡ true → y ≤ℤ floor_div R (nat_abs z))

between_from : (z R y : ℤ) → pos 0 ≤ℤ (z *ℤ y +ℤ R) → IsBetween z R y
between_from (pos zero) R y h = (λ e. absurd (cc), λ e. absurd (cc))
between_from (pos (suc k)) R y h = (λ e. lower_under (suc k) R y (omega arith) h, λ e. absurd (cc))
between_from (negsuc k) R y h = (λ e. absurd (cc), λ e. upper_over (suc k) R y (omega arith) (let m = minus_coef k y in omega (arith, ints)))

between_to : (z R y v : ℤ) → pos 0 ≤ℤ (z *ℤ y +ℤ R) → IsBetween z R v → pos 0 ≤ℤ (z *ℤ v +ℤ R)
between_to (pos zero) R y v h b = omega (arith, ints)
between_to (pos (suc k)) R y v h b = lower_at (suc k) R v (omega arith) (b.0 refl)
between_to (negsuc k) R y v h b = let m = minus_coef k v in let u = upper_at (suc k) R v (omega arith) (b.1 refl) in omega (arith, ints)

-- ---- the values of bounds

-- a divisor, and without x
abbrev Sound : ℕ → Move → Type 0
Sound x m = (1 ≤ m.div) × (coef m.numer.terms x ≡ pos 0)

lowers_sound : (x : ℕ) (c : List Lit) → AllByRecursion (Sound x) (lowers Int x c)
lowers_sound x c = each_map_filter (Sound x) (lower_bound Int x) (is_lower x) c (any c)
  where
    one : (l : Lit) → coef (above_bound x l (size_at x l - 1)).terms x ≡ pos 0
    one l =
        coef-plus (constant_form (pos (size_at x l - 1))) (times (negsuc 0) (rest_of (form_of l) x)) x
        ∙ (let t = coef-times (negsuc 0) (rest_of (form_of l) x) x in let w = ap (λ (z : ℤ). negsuc 0 *ℤ z) (coef-without (form_of l).terms x) in
        let u : pos 0 +ℤ coef (times (negsuc 0) (rest_of (form_of l) x)).terms x ≡ pos 0 = omega (arith, ints) in u)

    any : (c : List Lit) → AllByRecursion (λ l. is_lower x l ≡ true → Sound x (lower_bound Int x l)) c
    any [] = tt
    any (l ∷ c) = (λ e. (lower_size x l e, one l), any c)

uppers_sound : (x : ℕ) (c : List Lit) → AllByRecursion (Sound x) (uppers x c)
uppers_sound x c = each_map_filter (Sound x) (upper_bound x) (is_upper x) c (any c)
  where
    any : (c : List Lit) → AllByRecursion (λ l. is_upper x l ≡ true → Sound x (upper_bound x l)) c
    any [] = tt
    any (l ∷ c) = (λ e. (upper_size x l e, coef-without (form_of l).terms x), any c)

-- without x the value is the same before x has one
val_before : (x : ℕ) (m : Move) (e : Point) (y : ℤ) → length e.nums ≡ x → Sound x m → val (extend e (whole y)) m ≡ val e m
val_before x m e y l s =
    ap (λ (z : ℤ). floor_div z m.div)
    (subst (λ (q : Point). dot m.numer q ≡ dot m.numer e) (assign_last e x (whole y) l) (dot-assign_free m.numer e (whole y) x s.1 ∙ (let u : dot m.numer e *ℤ pos 1 ≡ dot m.numer e = omega (arith, ints) in u)))

dot_lower : (x : ℕ) (l : Lit) (e : Point) → IsPoint Int e → dot (above_bound x l (size_at x l - 1)) e ≡ pos (size_at x l - 1) +ℤ negsuc 0 *ℤ dot (rest_of (form_of l) x) e
dot_lower x l e i =
    let k = pos (size_at x l - 1) in
    let a = dot-plus (constant_form k) (times (negsuc 0) (rest_of (form_of l) x)) e in
    let b = dot-constant_form k e in
    let c = one_times k e.den i in
    let d = dot-times (negsuc 0) (rest_of (form_of l) x) e in
    omega (arith, ints)

val_lower : (x : ℕ) (l : Lit) (e : Point) → IsPoint Int e → val e (lower_bound Int x l) ≡ floor_div (pos (size_at x l - 1) +ℤ negsuc 0 *ℤ dot (rest_of (form_of l) x) e) (size_at x l)
val_lower x l e i = ap (λ (z : ℤ). floor_div z (size_at x l)) (dot_lower x l e i)

-- y is within the bounds of a literal
abbrev Within : ℕ → Point → ℤ → Lit → Type 0
Within x e y l = (is_lower x l ≡ true → val e (lower_bound Int x l) ≤ℤ y) × (is_upper x l ≡ true → y ≤ℤ val e (upper_bound x l))

le_by : (a b c : ℤ) → a ≡ b → b ≤ℤ c → a ≤ℤ c
le_by a b c e h = omega (arith, ints)

within_from : (x : ℕ) (e : Point) (y : ℤ) (l : Lit) → IsPoint Int e → IsOf Int l → Holds l (assign e x (whole y)) → Within x e y l
within_from x e y (AtLeast f) i o h =
    let b = between_from (coef f.terms x) (dot (rest_of f x) e) y (subst (λ (z : ℤ). pos 0 ≤ℤ z) (dot-whole f e y x i) h) in
    (λ u. le_by (val e (lower_bound Int x (AtLeast f))) (floor_div (pos (size_at x (AtLeast f) - 1) +ℤ negsuc 0 *ℤ dot (rest_of f x) e) (size_at x (AtLeast f))) y (val_lower x (AtLeast f) e i) (b.0 u), b.1)
within_from x e y (Above f) i o h = absurd o
within_from x e y (Divides d f) i o h = (λ u. absurd (cc), λ u. absurd (cc))
within_from x e y (NotDivides d f) i o h = (λ u. absurd (cc), λ u. absurd (cc))

bounded : (x : ℕ) (e : Point) (y v : ℤ) (l : Lit) → IsPoint Int e → IsOf Int l → Holds l (assign e x (whole y)) → Within x e v l → Bounded x v e l
bounded x e y v (AtLeast f) i o h b =
    between_to (coef f.terms x) (dot (rest_of f x) e) y v (subst (λ (z : ℤ). pos 0 ≤ℤ z) (dot-whole f e y x i) h)
    (λ u. le_by (floor_div (pos (size_at x (AtLeast f) - 1) +ℤ negsuc 0 *ℤ dot (rest_of f x) e) (size_at x (AtLeast f))) (val e (lower_bound Int x (AtLeast f))) v (sym (val_lower x (AtLeast f) e i)) (b.0 u), b.1)
bounded x e y v (Above f) i o h b = absurd o
bounded x e y v (Divides d f) i o h b = tt
bounded x e y v (NotDivides d f) i o h b = tt

-- ---- residues

residue_split : (z : ℤ) (n : ℕ) → 1 ≤ n → z ≡ pos (residue z n) +ℤ pos n *ℤ floor_div z n
residue_split z n o = let r = residue_is z n o in let e = r.0 in omega (arith, ints)

residue_at_most : (z : ℤ) (n : ℕ) → 1 ≤ n → pos 0 ≤ℤ z → pos (residue z n) ≤ℤ z
residue_at_most (pos a) n o h =
    let s = residue_split (pos a) n o in
    let k = nonneg_mul (pos n) (pos (a / n)) (omega (arith, ints)) (omega (arith, ints)) in
    omega (arith, ints)
residue_at_most (negsuc a) n o h = absurd (omega (arith, ints))

-- ---- the value of what is picked

val_moved : (m : Move) (j : ℤ) (e : Point) → IsPoint Int e → 1 ≤ m.div → val e (moved m j) ≡ val e m +ℤ j
val_moved m j e i o =
    let b = floor_bounds (dot m.numer e) m.div o in
    let a = dot-plus m.numer (constant_form (pos m.div *ℤ j)) e in
    let c = dot-constant_form (pos m.div *ℤ j) e in
    let d = one_times (pos m.div *ℤ j) e.den i in
    let f = distrib_ℤ (pos m.div) (floor_div (dot m.numer e) m.div) j in
    floor_unique (dot (moved m j).numer e) m.div (floor_div (dot m.numer e) m.div +ℤ j) o (omega (arith, ints)) (omega (arith, ints))

val_constant : (n : ℕ) (e : Point) → IsPoint Int e → val e (constant_move (pos n)) ≡ pos n
val_constant n e i =
    let d = dot-constant_form (pos n) e in
    let w = one_times (pos n) e.den i in
    floor_unique (dot (constant_form (pos n)) e) 1 (pos n) (omega arith) (omega (arith, ints)) (omega (arith, ints))

floor_by : (g q D : ℕ) (Z z y : ℤ) → 1 ≤ g → 1 ≤ q → g * q ≡ D → (pos D *ℤ y) ≤ℤ z → z <ℤ (pos D *ℤ y +ℤ pos D) → (pos g *ℤ Z) ≤ℤ z → z <ℤ (pos g *ℤ Z +ℤ pos g) → floor_div Z q ≡ y
floor_by g q D Z z y og oq e lo hi k k' =
    let a : pos D ≡ pos g *ℤ pos q = ap pos (sym e) ∙ (let u : pos (g * q) ≡ pos g *ℤ pos q = omega (arith, ints) in u) in
    let b : pos D *ℤ y ≡ pos g *ℤ (pos q *ℤ y) = ap (λ (w : ℤ). w *ℤ y) a ∙ mul_assoc_ℤ (pos g) (pos q) y in
    let s = distrib_ℤ (pos g) (pos q *ℤ y) (pos q) in
    floor_unique Z q y oq
    (by_lt_z Z (pos q *ℤ y) (λ h. let t = le_times g (Z +ℤ pos 1) (pos q *ℤ y) (omega (arith, ints)) in let t' = distrib_ℤ (pos g) Z (pos 1) in absurd (omega (arith, ints))) (λ h. h))
    (by_lt_z Z (pos q *ℤ y +ℤ pos q) (λ h. h) (λ h. let t = le_times g (pos q *ℤ y +ℤ pos q) Z h in absurd (omega (arith, ints))))

-- the lowest form rounds to the same value
val_lowest : (m : Move) (e : Point) → IsPoint Int e → 1 ≤ m.div → val e (lowest Int m) ≡ val e m
val_lowest m e i o =
    let g = move_divisor Int m in
    let og = divisor_pos Int m in
    let w = whole_div g m.div (divisor_of_div Int m) in
    let t = dot-quotient_terms m.numer.terms g e.nums og (divisor_of_terms Int m) in
    let b = floor_bounds m.numer.constant g og in
    let f = floor_bounds (dot m.numer e) m.div o in
    let c = one_times m.numer.constant e.den i in
    let c' = one_times (floor_div m.numer.constant g) e.den i in
    let k = distrib_ℤ (pos g) (dot_terms (quotient_terms m.numer.terms g) e.nums) (floor_div m.numer.constant g) in
    let k' : dot (quotient m.numer g) e ≡ dot_terms (quotient_terms m.numer.terms g) e.nums +ℤ floor_div m.numer.constant g = omega (arith, ints) in
    let k'' = ap (λ (z : ℤ). pos g *ℤ z) k' in
    floor_by g (m.div / g) m.div (dot (quotient m.numer g) e) (dot m.numer e) (val e m) og (lowest_divisor Int m o) w f.0 f.1 (omega (arith, ints)) (omega (arith, ints))

-- ---- the picked value is whole periods away, and within all bounds

record IsFound (x n : ℕ) (c : List Lit) (e : Point) (y : ℤ) (m : Move) : Type 0 where
  one : 1 ≤ m.div
  q : ℤ
  periods : y ≡ val e m +ℤ pos n *ℤ q
  low : AllByRecursion (λ k. val e k ≤ℤ val e m) (lowers Int x c)
  high : AllByRecursion (λ k. val e m ≤ℤ val e k) (uppers x c)

pub moves_map : (P Q : Move → Type 0) (ms : List Move) → ((m : Move) → P m → Q m) → AllByRecursion P ms → AllByRecursion Q ms
moves_map P Q [] k h = tt
moves_map P Q (m ∷ ms) k h = (k m h.0, moves_map P Q ms k h.1)

pub moves_two : (P Q R : Move → Type 0) (ms : List Move) → ((m : Move) → P m → Q m → R m) → AllByRecursion P ms → AllByRecursion Q ms → AllByRecursion R ms
moves_two P Q R [] k h g = tt
moves_two P Q R (m ∷ ms) k h g = (k m h.0 g.0, moves_two P Q R ms k h.1 g.1)

-- the values at the point with y in place of those before
before_low : (x : ℕ) (e : Point) (y v : ℤ) (m g : Move) → length e.nums ≡ x → Sound x m → Sound x g → val (extend e (whole y)) m ≤ℤ val (extend e (whole y)) g → val e m ≤ℤ val e g
before_low x e y v m g l s t h = let a = val_before x m e y l s in let b = val_before x g e y l t in omega (arith, ints)

found : (x n : ℕ) (c : List Lit) (e : Point) (y : ℤ) → IsPoint Int e → length e.nums ≡ x → 1 ≤ n → AllByRecursion (λ k. val e k ≤ℤ y) (lowers Int x c) → AllByRecursion (λ k. y ≤ℤ val e k) (uppers x c) → (los ups : List Move) → los ≡ lowers Int x c → ups ≡ uppers x c → IsFound x n c e y (congruent n y (extend e (whole y)) (greatest Int (extend e (whole y)) los) (least Int (extend e (whole y)) ups))
found x n c e y i l o lo hi (m ∷ ms) ups u w =
    let p = extend e (whole y) in
    let g = greatest_with Int p m ms in
    let sl = subst (λ (ks : List Move). AllByRecursion (Sound x) ks) (sym u) (lowers_sound x c) in
    let lo' = subst (λ (ks : List Move). AllByRecursion (λ k. val e k ≤ℤ y) ks) (sym u) lo in
    let s = greatest_has (Sound x) Int p (m ∷ ms) sl in
    let t = greatest_has (λ k. val e k ≤ℤ y) Int p (m ∷ ms) lo' in
    let a = greatest_above p m ms in
    let vb = val_before x g e y l s in
    let d = y -ℤ val p g in
    let r = residue_split d n o in
    let rm = residue_at_most d n o (omega (arith, ints)) in
    let v = val_moved g (pos (residue d n)) e i s.0 in
    record {
      one = s.0;
      q = floor_div d n;
      periods = omega (arith, ints);
      low = subst (λ (ks : List Move). AllByRecursion (λ k. val e k ≤ℤ val e (moved g (pos (residue d n)))) ks) u
          (moves_two (Sound x) (λ k. val p k ≤ℤ val p g) (λ k. val e k ≤ℤ val e (moved g (pos (residue d n)))) (m ∷ ms)
          (λ k sk h. let z = before_low x e y y k g l sk s h in omega (arith, ints)) sl (a.0, a.1));
      high = moves_map (λ k. y ≤ℤ val e k) (λ k. val e (moved g (pos (residue d n))) ≤ℤ val e k) (uppers x c) (λ k h. omega (arith, ints)) hi;
    }
found x n c e y i l o lo hi [] (m ∷ ms) u w =
    let p = extend e (whole y) in
    let g = least_with Int p m ms in
    let su = subst (λ (ks : List Move). AllByRecursion (Sound x) ks) (sym w) (uppers_sound x c) in
    let hi' = subst (λ (ks : List Move). AllByRecursion (λ k. y ≤ℤ val e k) ks) (sym w) hi in
    let s = least_has (Sound x) Int p (m ∷ ms) su in
    let t = least_has (λ k. y ≤ℤ val e k) Int p (m ∷ ms) hi' in
    let a = least_below p m ms in
    let vb = val_before x g e y l s in
    let d = val p g -ℤ y in
    let r = residue_split d n o in
    let v = val_moved g (neg_ℤ (pos (residue d n))) e i s.0 in
    let mm = mul_neg_ℤ (pos n) (floor_div d n) in
    record {
      one = s.0;
      q = neg_ℤ (floor_div d n);
      periods = omega (arith, ints);
      low = subst (λ (ks : List Move). AllByRecursion (λ k. val e k ≤ℤ val e (moved g (neg_ℤ (pos (residue d n))))) ks) u tt;
      high = subst (λ (ks : List Move). AllByRecursion (λ k. val e (moved g (neg_ℤ (pos (residue d n)))) ≤ℤ val e k) ks) w
          (moves_two (Sound x) (λ k. val p g ≤ℤ val p k) (λ k. val e (moved g (neg_ℤ (pos (residue d n)))) ≤ℤ val e k) (m ∷ ms)
          (λ k sk h. let z = before_low x e y y g k l s sk h in omega (arith, ints)) su (a.0, a.1));
    }
found x n c e y i l o lo hi [] [] u w =
    let r = residue_split y n o in
    let v = val_constant (residue y n) e i in
    record {
      one = omega arith;
      q = floor_div y n;
      periods = omega (arith, ints);
      low = subst (λ (ks : List Move). AllByRecursion (λ k. val e k ≤ℤ val e (constant_move (pos (residue y n)))) ks) u tt;
      high = subst (λ (ks : List Move). AllByRecursion (λ k. val e (constant_move (pos (residue y n))) ≤ℤ val e k) ks) w tt;
    }

-- ---- each literal

each_low : (x : ℕ) (c : List Lit) (e : Point) (y : ℤ) → IsPoint Int e → AllByRecursion (IsOf Int) c → CubeHolds c (assign e x (whole y)) → AllByRecursion (λ l. is_lower x l ≡ true → val e (lower_bound Int x l) ≤ℤ y) c × AllByRecursion (λ l. is_upper x l ≡ true → y ≤ℤ val e (upper_bound x l)) c
each_low x [] e y i o h = (tt, tt)
each_low x (l ∷ c) e y i o h =
    let w = within_from x e y l i o.0 h.0 in
    let k = each_low x c e y i o.1 h.1 in
    ((w.0, k.0), (w.1, k.1))

all_moved : (x n : ℕ) (c : List Lit) (e : Point) (y z q : ℤ) → IsPoint Int e → y ≡ z +ℤ pos n *ℤ q → AllByRecursion (Period n x) c → AllByRecursion (IsOf Int) c → CubeHolds c (assign e x (whole y)) → AllByRecursion (λ l. is_lower x l ≡ true → val e (lower_bound Int x l) ≤ℤ z) c → AllByRecursion (λ l. is_upper x l ≡ true → z ≤ℤ val e (upper_bound x l)) c → CubeHolds c (assign e x (whole z))
all_moved x n [] e y z q i eq p o h a b = tt
all_moved x n (l ∷ c) e y z q i eq p o h a b =
    (lit_moved x n y z q e l i eq p.0 h.0 (bounded x e y z l i o.0 h.0 (a.0, b.0)), all_moved x n c e y z q i eq p.1 o.1 h.1 a.1 b.1)

is_cube : (c : List Lit) → AllByRecursion (IsOf Int) c → IsCube Int c
is_cube [] o = tt
is_cube (l ∷ c) o = (o.0, is_cube c o.1)

own_value : (x : ℕ) (e : Point) (y : ℤ) → IsPoint Int e → length e.nums ≡ x → at (extend e (whole y)).nums x ≡ y
own_value x e y i n = ap (λ (j : ℕ). at (extend e (whole y)).nums j) (sym n) ∙ at-extend_new e (whole y) ∙ one_times y e.den i

keeps_whole : (x : ℕ) (c : List Lit) (e : Point) (y : ℤ) → IsPoint Int e → length e.nums ≡ x → AllByRecursion (IsOf Int) c → CubeHolds c (extend e (whole y)) → CubeHolds c (played Int (pick Int x c (extend e (whole y))) e)
keeps_whole x c e y i n o h =
    let p = extend e (whole y) in
    let h' = subst (λ (q : Point). CubeHolds c q) (sym (assign_last e x (whole y) n)) h in
    let b = each_low x c e y i o h' in
    let d = delta_period c x (is_cube c o) in
    let los = lowers Int x c in
    let ups = uppers x c in
    let f = found x (delta c x) c e y i n d.0 (each_map_filter (λ k. val e k ≤ℤ y) (lower_bound Int x) (is_lower x) c b.0) (each_map_filter (λ k. y ≤ℤ val e k) (upper_bound x) (is_upper x) c b.1) los ups refl refl in
    let m = congruent (delta c x) y p (greatest Int p los) (least Int p ups) in
    let r = all_moved x (delta c x) c e y (val e m) f.q i f.periods d.1 o h' (of_map_filter (λ k. val e k ≤ℤ val e m) (lower_bound Int x) (is_lower x) c f.low) (of_map_filter (λ k. val e m ≤ℤ val e k) (upper_bound x) (is_upper x) c f.high) in
    let r' = subst (λ (q : Point). CubeHolds c q) (assign_last e x (whole (val e m)) n) r in
    let r'' = subst (λ (z : ℤ). CubeHolds c (extend e (whole z))) (sym (val_lowest m e i f.one)) r' in
    subst (λ (u : ℤ). CubeHolds c (extend e (whole (val e (lowest Int (congruent (delta c x) u p (greatest Int p los) (least Int p ups))))))) (sym (own_value x e y i n)) r''

pub keeps_int : (x : ℕ) (c : List Lit) (e : Point) (v : Value) → IsPoint Int e → IsValue Int v → length e.nums ≡ x → AllByRecursion (IsOf Int) c → CubeHolds c (extend e v) → CubeHolds c (played Int (pick Int x c (extend e v)) e)
keeps_int x c e v i iv n o h =
    let w : v ≡ whole v.num = ap (λ (d : ℕ). let u : Value = record { num = v.num; den = d } in u) iv in
    subst (λ (u : Value). CubeHolds c (played Int (pick Int x c (extend e u)) e)) (sym w) (keeps_whole x c e v.num i n o (subst (λ (u : Value). CubeHolds c (extend e u)) w h))
