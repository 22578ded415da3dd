-- Over the rationals: the point that a cube determines is one at which it holds.
use Prim.Native.Nat.{◌∣◌}
use Rattle.std.specs.Prelude.{ℕ, zero, suc, ◌*◌, ◌/◌, ◌≤◌, ◌≡◌, ℤ, pos, negsuc, ◌+ℤ◌, ◌-ℤ◌, ◌*ℤ◌, neg_ℤ, nat_abs, int_lt, Bool, true, false, ◌||◌, cond, Option, Some, None, List, [], ◌∷◌, length, map, filter}
use Rattle.std.specs.List.{AllByRecursion, flat_map}
use Rattle.std.proofs.Common.{arith, ap, ap₂, ◌∙◌, sym, subst, refl, length-append, mul-le-mul}
use Rattle.std.proofs.lemmas.Int.{ints}
use Rattle.std.proofs.lemmas.List.{length-map}
use Rattle.std.proofs.lemmas.Nat.Gcd.{dvd_trans}
use Rattle.lin_term.specs.Form.{Form}
use Rattle.lin_term.specs.declared.Sort.TheVariants.{Rat}
use Rattle.lin_term.specs.declared.Lit.{Lit}
use Rattle.lin_term.specs.Fraction.{lowest_value}
use Rattle.lin_term.specs.Linear.{Point, Value, dot, plus, times, constant_form, extend, floor_div, origin}
use Rattle.lin_term.specs.Literal.{IsOf, form_of, gcd, gcd_terms, prim, quotient}
use Rattle.lin_term.specs.Move.{Move, move_value, move_divisor, lowest}
use Rattle.lin_term.specs.PutIn.{coef, rest_of}
use Rattle.lin_term.specs.Sum.{inequality_with, is_strict}
use Rattle.lin_term.proofs.Ring.{ring, nonneg_mul, pos_mul, distrib_right_ℤ, neg_mul_ℤ, mul_assoc_ℤ, mul_left_comm_ℤ}
use Rattle.lin_term.proofs.Dots.{dot-plus, dot-times}
use Rattle.lin_term.proofs.Fractions.{divisor_some, lowest_by, lowest_some}
use Rattle.lin_term.proofs.Lowering.{divisor_pos, divisor_of_div, divisor_of_terms}
use Rattle.lin_term.proofs.PrimitiveLemmas.{gcd_is, whole_div, floor_exact, dot-quotient, or_one_divides}
use Rattle.dom_core.specs.Cube.{assign, CubeHolds, IsCube, HasSolution}
use Rattle.dom_core.specs.Elimination.{size_at, is_lower, is_upper, is_free, above_bound, resolvent, fourier_motzkin}
use Rattle.dom_core.specs.Pick.{lower_bound, upper_bound, lowers, uppers, is_less, greatest_with, greatest, least_with, least, constant_move, moved, middle, between}
use Rattle.dom_core.proofs.Assigning.{coef-plus, coef-times, coef-without, dot-assign_free, assign_last}
use Rattle.dom_core.proofs.Cases.{each_filter}
use Rattle.dom_core.proofs.FourierMotzkin.{fourier_motzkin_from}
use Rattle.dom_core.proofs.PickInt.{each_map_filter}
use Rattle.dom_core.proofs.PickRat.{keeps_rat}
use Rattle.dom_core.proofs.Picking.{HasDivisor, HasIt, lower_size, upper_size, lowest_divisor, greatest_has, least_has}
use Rattle.dom_core.proofs.Reducing.{all_append, all_map, all_true}
use Rattle.cube_rules.proofs.Sound.{some_same}
use Rattle.cube_elim.specs.Determined.{all_hold_at, whole, middle_of, nearest_whole, values_by, rat_values, Determined, last_value, with_value, with_values, next_rat, start, determined}
use Rattle.cube_elim.specs.Deciding.{IsSolution}
use Rattle.cube_elim.proofs.SoundPoints.{all_hold}
use Rattle.cube_elim.proofs.RatValues.{IsSame, cube_alike, nearest_holds}
use Rattle.cube_elim.proofs.RatPoints.{with_value_holds}

-- ---- lowest terms

divided : (n : ℤ) (d g : ℕ) → 1 ≤ g → g ∣ d → g ∣ nat_abs n → n *ℤ pos (d / g) ≡ floor_div n g *ℤ pos d
divided n d g o h k =
    let a = floor_exact n g o k in
    let b = whole_div g d o h in
    ap (λ (z : ℤ). z *ℤ pos (d / g)) (sym a)
    ∙ (let u : (pos g *ℤ floor_div n g) *ℤ pos (d / g) ≡ floor_div n g *ℤ (pos g *ℤ pos (d / g)) = simp ring in u)
    ∙ ap (λ (z : ℤ). floor_div n g *ℤ z) ((let u : pos g *ℤ pos (d / g) ≡ pos (g * (d / g)) = omega (arith, ints) in u) ∙ ap pos b)

minus_times : (a b k : ℤ) → (a -ℤ b) *ℤ k ≡ a *ℤ k -ℤ b *ℤ k
minus_times a b k =
    let d = distrib_right_ℤ a (neg_ℤ b) k in
    let n = neg_mul_ℤ b k in
    omega (arith, ints)

-- a value and its lowest terms
lowest_same : (v : Value) → 1 ≤ v.den → IsSame v (lowest_value v) × (1 ≤ (lowest_value v).den)
lowest_same v o =
    let g : ℕ = gcd v.den (nat_abs v.num) in
    let i = gcd_is v.den (nat_abs v.num) in
    subst (λ (w : Value). IsSame v w × (1 ≤ w.den)) (lowest_by v.num v.den g o refl)
    (divided v.num v.den g (divisor_some v.den (nat_abs v.num) o) i.0 i.1, lowest_some v.num v.den g o refl)

divisor_of_constant : (m : Move) → move_divisor Rat m ∣ nat_abs m.numer.constant
divisor_of_constant m =
    let t : ℕ = gcd_terms m.numer.terms in
    let k = gcd_is (nat_abs m.numer.constant) t in
    let h = gcd_is m.div (gcd (nat_abs m.numer.constant) t) in
    let c : ℕ = gcd m.div (gcd (nat_abs m.numer.constant) t) in
    or_one_divides c (nat_abs m.numer.constant) (dvd_trans c h.1 k.0)

-- a move's value and that of its lowest form
move_same : (m : Move) (e : Point) → IsSame (move_value Rat (lowest Rat m) e) (move_value Rat m e)
move_same m e =
    let g = move_divisor Rat m in
    let o = divisor_pos Rat m in
    let d = dot-quotient m.numer g e o (divisor_of_terms Rat m) (divisor_of_constant m) in
    let w = whole_div g m.div o (divisor_of_div Rat m) in
    scaled (dot (quotient m.numer g) e) (dot m.numer e) g (m.div / g) m.div e.den d w
  where
    scaled : (q n : ℤ) (g k d E : ℕ) → pos g *ℤ q ≡ n → g * k ≡ d → q *ℤ pos (d * E) ≡ n *ℤ pos (k * E)
    scaled q n g k d E a b =
        ap (λ (j : ℕ). q *ℤ pos (j * E)) (sym b)
        ∙ ap (λ (z : ℤ). q *ℤ z) (let u : pos ((g * k) * E) ≡ pos g *ℤ pos (k * E) = omega (arith, ints) in u)
        ∙ (let u : q *ℤ (pos g *ℤ pos (k * E)) ≡ (pos g *ℤ q) *ℤ pos (k * E) = simp ring in u)
        ∙ ap (λ (z : ℤ). z *ℤ pos (k * E)) a

-- ---- the middle

abbrev raw_middle : Value → Value → Value
raw_middle v w = record { num = v.num *ℤ pos w.den +ℤ w.num *ℤ pos v.den; den = 2 * (v.den * w.den) }

mid_same : (a b a' b' md nd E s t : ℤ) → a *ℤ s ≡ a' *ℤ (md *ℤ E) → b *ℤ t ≡ b' *ℤ (nd *ℤ E) → (nd *ℤ a +ℤ md *ℤ b) *ℤ (pos 2 *ℤ (s *ℤ t)) ≡ (a' *ℤ t +ℤ b' *ℤ s) *ℤ ((pos 2 *ℤ (md *ℤ nd)) *ℤ E)
mid_same a b a' b' md nd E s t e f =
    let l : (nd *ℤ a +ℤ md *ℤ b) *ℤ (pos 2 *ℤ (s *ℤ t)) ≡ pos 2 *ℤ ((a *ℤ s) *ℤ (nd *ℤ t)) +ℤ pos 2 *ℤ ((b *ℤ t) *ℤ (md *ℤ s)) = simp ring in
    let r : (a' *ℤ t +ℤ b' *ℤ s) *ℤ ((pos 2 *ℤ (md *ℤ nd)) *ℤ E) ≡ pos 2 *ℤ ((a' *ℤ (md *ℤ E)) *ℤ (nd *ℤ t)) +ℤ pos 2 *ℤ ((b' *ℤ (nd *ℤ E)) *ℤ (md *ℤ s)) = simp ring in
    l ∙ ap₂ (λ (y z : ℤ). pos 2 *ℤ (y *ℤ (nd *ℤ t)) +ℤ pos 2 *ℤ (z *ℤ (md *ℤ s))) e f ∙ sym r

pos_times : (a b : ℕ) → pos (a * b) ≡ pos a *ℤ pos b
pos_times a b = omega (arith, ints)

one_more : (a b : ℕ) → 1 ≤ a → 1 ≤ b → 1 ≤ a * b
one_more a b h k = mul-le-mul h k

dot_middle : (m n : Move) (e : Point) → dot (middle m n).numer e ≡ pos n.div *ℤ dot m.numer e +ℤ pos m.div *ℤ dot n.numer e
dot_middle m n e =
    dot-plus (times (pos n.div) m.numer) (times (pos m.div) n.numer) e
    ∙ ap₂ (λ (y z : ℤ). y +ℤ z) (dot-times (pos n.div) m.numer e) (dot-times (pos m.div) n.numer e)

raw_same : (m n : Move) (e : Point) (v w : Value) → IsSame (move_value Rat m e) v → IsSame (move_value Rat n e) w → IsSame (move_value Rat (middle m n) e) (raw_middle v w)
raw_same m n e v w s t =
    ap₂ (λ (y z : ℤ). y *ℤ z) (dot_middle m n e) (pos_times 2 (v.den * w.den) ∙ ap (λ (z : ℤ). pos 2 *ℤ z) (pos_times v.den w.den))
    ∙ mid_same (dot m.numer e) (dot n.numer e) v.num w.num (pos m.div) (pos n.div) (pos e.den) (pos v.den) (pos w.den)
    (s ∙ ap (λ (z : ℤ). v.num *ℤ z) (pos_times m.div e.den)) (t ∙ ap (λ (z : ℤ). w.num *ℤ z) (pos_times n.div e.den))
    ∙ ap (λ (z : ℤ). (v.num *ℤ pos w.den +ℤ w.num *ℤ pos v.den) *ℤ z)
    (ap (λ (z : ℤ). z *ℤ pos e.den) (ap (λ (z : ℤ). pos 2 *ℤ z) (sym (pos_times m.div n.div)) ∙ sym (pos_times 2 (m.div * n.div))) ∙ sym (pos_times (2 * (m.div * n.div)) e.den))

-- a value is formed in lowest terms
record IsFormed (c : List Lit) (e : Point) (x : ℕ) (v : Value) : Type 0 where
  den : 1 ≤ v.den
  holds : CubeHolds c (assign e x v)

formed_lowest : (c : List Lit) (e : Point) (x : ℕ) (v : Value) → 1 ≤ v.den → CubeHolds c (assign e x v) → IsFormed c e x (lowest_value v)
formed_lowest c e x v o h = let s = lowest_same v o in record { den = s.1; holds = cube_alike c e x v (lowest_value v) o s.1 s.0 h }

middle_holds : (c : List Lit) (e : Point) (x : ℕ) (low up : Option Move) → 1 ≤ e.den → HasIt HasDivisor low → HasIt HasDivisor up → CubeHolds c (assign e x (move_value Rat (between low up) e)) → IsFormed c e x (last_value (whole (pos 0)) (middle_of e low up))
middle_holds c e x (Some m) (Some n) o p q h =
    let a = move_value Rat m e in
    let b = move_value Rat n e in
    let s = lowest_same a (one_more m.div e.den p o) in
    let t = lowest_same b (one_more n.div e.den q o) in
    let r = raw_middle (lowest_value a) (lowest_value b) in
    let d : 1 ≤ r.den = one_more 2 ((lowest_value a).den * (lowest_value b).den) (omega arith) (one_more (lowest_value a).den (lowest_value b).den s.1 t.1) in
    let k : 1 ≤ (2 * (m.div * n.div)) * e.den = one_more (2 * (m.div * n.div)) e.den (one_more 2 (m.div * n.div) (omega arith) (one_more m.div n.div p q)) o in
    formed_lowest c e x r d (cube_alike c e x (move_value Rat (middle m n) e) r k d (raw_same m n e (lowest_value a) (lowest_value b) s.0 t.0) h)
middle_holds c e x (Some m) None o p q h = formed_lowest c e x (move_value Rat (moved m (pos 1)) e) (one_more m.div e.den p o) h
middle_holds c e x None (Some n) o p q h = formed_lowest c e x (move_value Rat (moved n (negsuc 0)) e) (one_more n.div e.den q o) h
middle_holds c e x None None o p q h = formed_lowest c e x (move_value Rat (constant_move (pos 0)) e) (one_more 1 e.den (omega arith) o) h

-- ---- the bounds before the variable has a value

abbrev Sound : ℕ → Move → Type 0
Sound x m = (1 ≤ m.div) × (coef m.numer.terms x ≡ pos 0)

lowers_sound : (x : ℕ) (c : List Lit) → AllByRecursion (Sound x) (lowers Rat x c)
lowers_sound x c = each_map_filter (Sound x) (lower_bound Rat x) (is_lower x) c (any c)
  where
    one : (l : Lit) → coef (above_bound x l 0).terms x ≡ pos 0
    one l =
        coef-plus (constant_form (pos 0)) (times (negsuc 0) (rest_of (form_of l) x)) x
        ∙ (let t = coef-times (negsuc 0) (rest_of (form_of l) x) x in let w = ap (λ (z : ℤ). negsuc 0 *ℤ z) (coef-without (form_of l).terms x) in
        let u : pos 0 +ℤ coef (times (negsuc 0) (rest_of (form_of l) x)).terms x ≡ pos 0 = omega (arith, ints) in u)

    any : (c : List Lit) → AllByRecursion (λ l. is_lower x l ≡ true → Sound x (lower_bound Rat x l)) c
    any [] = tt
    any (l ∷ c) = (λ e. (lower_size x l e, one l), any c)

uppers_sound : (x : ℕ) (c : List Lit) → AllByRecursion (Sound x) (uppers x c)
uppers_sound x c = each_map_filter (Sound x) (upper_bound x) (is_upper x) c (any c)
  where
    any : (c : List Lit) → AllByRecursion (λ l. is_upper x l ≡ true → Sound x (upper_bound x l)) c
    any [] = tt
    any (l ∷ c) = (λ e. (upper_size x l e, coef-without (form_of l).terms x), any c)

divisors : (x : ℕ) (ms : List Move) → AllByRecursion (Sound x) ms → AllByRecursion HasDivisor ms
divisors x [] h = tt
divisors x (m ∷ ms) h = (h.0.0, divisors x ms h.1)

dot_before : (x : ℕ) (m : Move) (e : Point) (v : Value) → length e.nums ≡ x → Sound x m → dot m.numer (extend e v) ≡ dot m.numer e *ℤ pos v.den
dot_before x m e v l s =
    subst (λ (q : Point). dot m.numer q ≡ dot m.numer e *ℤ pos v.den) (assign_last e x v l) (dot-assign_free m.numer e v x s.1)

lt_by : (a b : ℤ) (k : ℕ) (s t : Bool) → 1 ≤ k → int_lt a b ≡ s → int_lt (a *ℤ pos k) (b *ℤ pos k) ≡ t → t ≡ s
lt_by a b k true true o e f = refl
lt_by a b k false false o e f = refl
lt_by a b k true false o e f =
    let p = pos_mul (b -ℤ a) (pos k) (omega (arith, ints)) (omega (arith, ints)) in
    let u : (b -ℤ a) *ℤ pos k ≡ b *ℤ pos k -ℤ a *ℤ pos k = minus_times b a (pos k) in
    absurd (omega (arith, ints))
lt_by a b k false true o e f =
    let p = nonneg_mul (a -ℤ b) (pos k) (omega (arith, ints)) (omega (arith, ints)) in
    let u : (a -ℤ b) *ℤ pos k ≡ a *ℤ pos k -ℤ b *ℤ pos k = minus_times a b (pos k) in
    absurd (omega (arith, ints))

lt_scaled : (a b : ℤ) (k : ℕ) → 1 ≤ k → int_lt (a *ℤ pos k) (b *ℤ pos k) ≡ int_lt a b
lt_scaled a b k o = lt_by a b k (int_lt a b) (int_lt (a *ℤ pos k) (b *ℤ pos k)) o refl refl

quads : (A w D : ℤ) → (A *ℤ w) *ℤ (D *ℤ w) ≡ (A *ℤ D) *ℤ (w *ℤ w)
quads A w D = mul_assoc_ℤ A w (D *ℤ w) ∙ ap (λ (z : ℤ). A *ℤ z) (mul_left_comm_ℤ w D w) ∙ sym (mul_assoc_ℤ A D (w *ℤ w))

regroup : (A : ℤ) (d E w : ℕ) → (A *ℤ pos w) *ℤ pos (d * (E * w)) ≡ (A *ℤ pos (d * E)) *ℤ pos (w * w)
regroup A d E w =
    ap (λ (z : ℤ). (A *ℤ pos w) *ℤ z) ((let u : pos (d * (E * w)) ≡ pos (d * E) *ℤ pos w = omega (arith, ints) in u))
    ∙ quads A (pos w) (pos (d * E))
    ∙ ap (λ (z : ℤ). (A *ℤ pos (d * E)) *ℤ z) (sym (pos_times w w))

less_same : (x : ℕ) (e : Point) (v : Value) (m n : Move) → length e.nums ≡ x → 1 ≤ v.den → Sound x m → Sound x n → is_less (move_value Rat m (extend e v)) (move_value Rat n (extend e v)) ≡ is_less (move_value Rat m e) (move_value Rat n e)
less_same x e v m n l o s t =
    ap₂ (λ (y z : ℤ). int_lt y z)
    (ap (λ (z : ℤ). z *ℤ pos (n.div * (e.den * v.den))) (dot_before x m e v l s) ∙ regroup (dot m.numer e) n.div e.den v.den)
    (ap (λ (z : ℤ). z *ℤ pos (m.div * (e.den * v.den))) (dot_before x n e v l t) ∙ regroup (dot n.numer e) m.div e.den v.den)
    ∙ lt_scaled (dot m.numer e *ℤ pos (n.div * e.den)) (dot n.numer e *ℤ pos (m.div * e.den)) (v.den * v.den) (one_more v.den v.den o o)

chosen : (x : ℕ) (b : Bool) (m n : Move) → Sound x m → Sound x n → Sound x (cond b n m)
chosen x true m n s t = t
chosen x false m n s t = s

greatest_same : (x : ℕ) (e : Point) (v : Value) (m : Move) (ms : List Move) → length e.nums ≡ x → 1 ≤ v.den → Sound x m → AllByRecursion (Sound x) ms → greatest_with Rat (extend e v) m ms ≡ greatest_with Rat e m ms
greatest_same x e v m [] l o s h = refl
greatest_same x e v m (n ∷ ns) l o s h =
    let b = is_less (move_value Rat m e) (move_value Rat n e) in
    ap (λ (t : Bool). greatest_with Rat (extend e v) (cond t n m) ns) (less_same x e v m n l o s h.0)
    ∙ greatest_same x e v (cond b n m) ns l o (chosen x b m n s h.0) h.1

least_same : (x : ℕ) (e : Point) (v : Value) (m : Move) (ms : List Move) → length e.nums ≡ x → 1 ≤ v.den → Sound x m → AllByRecursion (Sound x) ms → least_with Rat (extend e v) m ms ≡ least_with Rat e m ms
least_same x e v m [] l o s h = refl
least_same x e v m (n ∷ ns) l o s h =
    let b = is_less (move_value Rat n e) (move_value Rat m e) in
    ap (λ (t : Bool). least_with Rat (extend e v) (cond t n m) ns) (less_same x e v n m l o h.0 s)
    ∙ least_same x e v (cond b n m) ns l o (chosen x b m n s h.0) h.1

greatest_before : (x : ℕ) (e : Point) (v : Value) (ms : List Move) → length e.nums ≡ x → 1 ≤ v.den → AllByRecursion (Sound x) ms → greatest Rat (extend e v) ms ≡ greatest Rat e ms
greatest_before x e v [] l o h = refl
greatest_before x e v (m ∷ ms) l o h = ap Some (greatest_same x e v m ms l o h.0 h.1)

least_before : (x : ℕ) (e : Point) (v : Value) (ms : List Move) → length e.nums ≡ x → 1 ≤ v.den → AllByRecursion (Sound x) ms → least Rat (extend e v) ms ≡ least Rat e ms
least_before x e v [] l o h = refl
least_before x e v (m ∷ ms) l o h = ap Some (least_same x e v m ms l o h.0 h.1)

between_divides : (low up : Option Move) → HasIt HasDivisor low → HasIt HasDivisor up → HasDivisor (between low up)
between_divides (Some m) (Some n) p q = one_more 2 (m.div * n.div) (omega arith) (one_more m.div n.div p q)
between_divides (Some m) None p q = p
between_divides None (Some n) p q = q
between_divides None None p q = omega arith

-- ---- the next value

next_formed : (x : ℕ) (c : List Lit) (e : Point) → 1 ≤ e.den → length e.nums ≡ x → IsCube Rat c → HasSolution Rat c x e → (r : Option ℤ) → nearest_whole x c e ≡ r → IsFormed c e x (last_value (whole (pos 0)) (values_by x c e r))
next_formed x c e o l k h (Some z) q =
    record { den = omega arith; holds = subst (λ (p : Point). CubeHolds c p) (sym (assign_last e x (whole z) l)) (nearest_holds x c e z q) }
next_formed x c e o l k h None q =
    let v = h.value in
    let los = lowers Rat x c in
    let ups = uppers x c in
    let sl = lowers_sound x c in
    let su = uppers_sound x c in
    let low = greatest Rat e los in
    let up = least Rat e ups in
    let hl = greatest_has HasDivisor Rat e los (divisors x los sl) in
    let hu = least_has HasDivisor Rat e ups (divisors x ups su) in
    let m = between low up in
    let dm = between_divides low up hl hu in
    let held = keeps_rat x c e v o h.is_value l k (subst (λ (p : Point). CubeHolds c p) (assign_last e x v l) h.holds) in
    let same = ap₂ (λ (a b : Option Move). extend e (move_value Rat (lowest Rat (between a b)) e)) (greatest_before x e v los l h.is_value sl) (least_before x e v ups l h.is_value su) in
    let got = subst (λ (p : Point). CubeHolds c p) (same ∙ sym (assign_last e x (move_value Rat (lowest Rat m) e) l)) held in
    middle_holds c e x low up o hl hu
    (cube_alike c e x (move_value Rat (lowest Rat m) e) (move_value Rat m e) (one_more (lowest Rat m).div e.den (lowest_divisor Rat m dm) o) (one_more m.div e.den dm o) (move_same m e) got)

-- ---- the eliminated cube is one

prim_of : (b : Bool) (f : Form) → IsOf Rat (prim Rat (inequality_with b f))
prim_of true f = tt
prim_of false f = tt

resolvent_of : (x : ℕ) (l u : Lit) → IsOf Rat (resolvent x l u)
resolvent_of x l u =
    let g = gcd (size_at x l) (size_at x u) in
    prim_of (is_strict l || is_strict u) (plus (times (pos (size_at x u / g)) (form_of l)) (times (pos (size_at x l / g)) (form_of u)))

sums_of : (x : ℕ) (ls us : List Lit) → IsCube Rat (flat_map (λ l. map (λ u. resolvent x l u) us) ls)
sums_of x [] us = tt
sums_of x (l ∷ ls) us =
    all_append (IsOf Rat) (map (λ u. resolvent x l u) us) (flat_map (λ k. map (λ u. resolvent x k u) us) ls)
    (all_map (IsOf Rat) (λ u. resolvent x l u) us (all_true (λ u. IsOf Rat (resolvent x l u)) us (λ u. resolvent_of x l u))) (sums_of x ls us)

pub fourier_motzkin_is : (x : ℕ) (c : List Lit) → IsCube Rat c → IsCube Rat (fourier_motzkin c x)
fourier_motzkin_is x c o =
    all_append (IsOf Rat) (filter (is_free x) c) (flat_map (λ l. map (λ u. resolvent x l u) (filter (is_upper x) c)) (filter (is_lower x) c))
    (each_filter (IsOf Rat) (IsOf Rat) (is_free x) c (λ l e k. k) o) (sums_of x (filter (is_lower x) c) (filter (is_upper x) c))

-- ---- the point

length-with_value : (e : Point) (v : Value) → length (with_value e v).nums ≡ suc (length e.nums)
length-with_value e v =
    let d = e.den * (v.den / gcd e.den v.den) in
    let a = length-append (map (λ z. z *ℤ pos (d / e.den)) e.nums) ((v.num *ℤ pos (d / v.den)) ∷ []) in
    let b = length-map e.nums (λ z. z *ℤ pos (d / e.den)) in
    omega arith

pub den_some : (d n : ℕ) → 1 ≤ d → 1 ≤ n → 1 ≤ d * (n / gcd d n)
den_some d n o p = one_more d (n / gcd d n) o (some (gcd d n) (n / gcd d n) (whole_div (gcd d n) n (divisor_some d n o) (gcd_is d n).1))
  where
    some : (g q : ℕ) → g * q ≡ n → 1 ≤ q
    some g zero w = absurd (omega arith)
    some g (suc q) w = omega arith

start_rat : (c : List Lit) (d : Determined) (b : Bool) → all_hold_at c origin ≡ b → cond b (Some start) None ≡ Some d → IsSolution Rat 0 c d.point
start_rat c d true e q =
    subst (λ (y : Determined). IsSolution Rat 0 c y.point) (some_same start d q) (record { count = refl; point = omega arith; holds = all_hold c origin e })
start_rat c d false e q = absurd (cc)

pub determined_rat : (n : ℕ) (c : List Lit) (d : Determined) → IsCube Rat c → determined n Rat c ≡ Some d → IsSolution Rat n c d.point
determined_rat zero c d o e = start_rat c d (all_hold_at c origin) refl e
determined_rat (suc x) c d o e = by (determined x Rat (fourier_motzkin c x)) refl e (λ d' q. determined_rat x (fourier_motzkin c x) d' (fourier_motzkin_is x c o) q)
  where
    by : (r : Option Determined) → determined x Rat (fourier_motzkin c x) ≡ r → next_rat x c (r ∷ []) ≡ Some d → ((d' : Determined) → determined x Rat (fourier_motzkin c x) ≡ Some d' → IsSolution Rat x (fourier_motzkin c x) d'.point) → IsSolution Rat (suc x) c d.point
    by None q e k = absurd (cc)
    by (Some d') q e k =
        let s = k d' q in
        let p = d'.point in
        let v = last_value (whole (pos 0)) (rat_values x c p) in
        let f = next_formed x c p s.point s.count o (fourier_motzkin_from c x p s.point o s.holds) (nearest_whole x c p) refl in
        subst (λ (y : Determined). IsSolution Rat (suc x) c y.point) (some_same (with_values d' (rat_values x c p)) d e)
        (record {
          count = length-with_value p v ∙ ap suc s.count;
          point = den_some p.den v.den s.point f.den;
          holds = with_value_holds c p v s.point f.den (subst (λ (y : Point). CubeHolds c y) (assign_last p x v s.count) f.holds);
        })
