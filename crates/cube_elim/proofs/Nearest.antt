-- The whole number nearest to 0 that the bounds allow is the nearest of those beside the bounds.
use Rattle.std.specs.Prelude.{ℕ, zero, suc, ◌*◌, ◌≤◌, ◌≡◌, ℤ, pos, negsuc, ◌+ℤ◌, ◌-ℤ◌, ◌*ℤ◌, neg_ℤ, nat_abs, nat_lt, ◌≤ℤ◌, ◌⊎◌, ⊤, int_le, Bool, true, false, ◌&&◌, cond, Option, Some, None, IfSome, List, [], ◌∷◌, ◌++◌, length, map, filter}
use Rattle.std.specs.List.{AllByRecursion, flat_map}
use Rattle.std.proofs.Common.{arith, ap, ap₂, ◌∙◌, sym, subst, refl, inl, inr, mul-le-mul}
use Rattle.std.proofs.lemmas.Bool.{and_parts, ltb-true, ltb-false}
use Rattle.std.proofs.lemmas.Int.{ints}
use Rattle.lin_term.specs.declared.Sort.TheVariants.{Rat}
use Rattle.lin_term.specs.declared.Lit.{Lit}
use Rattle.lin_term.specs.declared.Lit.TheVariants.{AtLeast, Above, Divides, NotDivides}
use Rattle.lin_term.specs.Linear.{Point, dot, plus, times, constant_form, extend, floor_div}
use Rattle.lin_term.specs.Literal.{form_of}
use Rattle.lin_term.specs.Move.{Move}
use Rattle.lin_term.specs.PutIn.{rest_of}
use Rattle.lin_term.specs.Sum.{is_strict}
use Rattle.lin_term.proofs.Dots.{dot-plus, dot-times, dot-constant_form}
use Rattle.dom_core.specs.Cube.{CubeHolds, IsCube}
use Rattle.dom_core.specs.Elimination.{size_at, above_bound, is_lower, is_upper, is_free}
use Rattle.dom_core.specs.Pick.{lower_bound, upper_bound, lowers, uppers}
use Rattle.dom_core.proofs.Picking.{lower_size, upper_size}
use Rattle.cube_elim.specs.Among.{IsAmong}
use Rattle.cube_elim.specs.Determined.{whole, all_hold_at, beside, nearest_with, nearest, nearest_whole, lesser}
use Rattle.cube_elim.specs.Values.{with_zeros}
use Rattle.cube_elim.specs.Between.{least_whole, greatest_whole, greater, from_below, from_above, is_above, is_below, nearest_from, nearest_up_to, nearest_between}
use Rattle.cube_elim.proofs.Amongs.{among_left, among_right, among_flat, among_map}
use Rattle.cube_elim.proofs.Orders.{true_le, false_le, le_true, le_false}
use Rattle.cube_elim.proofs.WholeBounds.{trial_rest, ceiling, range_allows}

-- ---- the nearest of a list

lt_no : (a b : ℕ) → nat_lt a b ≡ false → b ≤ a
lt_no a b e = omega (arith, ltb-false a b e)

lt_yes : (a b : ℕ) → nat_lt a b ≡ true → a ≤ b
lt_yes a b e = let h = ltb-true a b e in omega arith

chosen_first : (y z : ℤ) → nat_abs (cond (nat_lt (nat_abs y) (nat_abs z)) y z) ≤ nat_abs z
chosen_first y z = by (nat_lt (nat_abs y) (nat_abs z)) refl
  where
    by : (b : Bool) → nat_lt (nat_abs y) (nat_abs z) ≡ b → nat_abs (cond b y z) ≤ nat_abs z
    by true e = lt_yes (nat_abs y) (nat_abs z) e
    by false e = omega arith

chosen_second : (y z : ℤ) → nat_abs (cond (nat_lt (nat_abs y) (nat_abs z)) y z) ≤ nat_abs y
chosen_second y z = by (nat_lt (nat_abs y) (nat_abs z)) refl
  where
    by : (b : Bool) → nat_lt (nat_abs y) (nat_abs z) ≡ b → nat_abs (cond b y z) ≤ nat_abs y
    by true e = omega arith
    by false e = lt_no (nat_abs y) (nat_abs z) e

le_both : (a b c : ℕ) → a ≤ b → b ≤ c → a ≤ c
le_both a b c h k = omega arith

nearest_first : (z : ℤ) (zs : List ℤ) → nat_abs (nearest_with z zs) ≤ nat_abs z
nearest_first z [] = omega arith
nearest_first z (y ∷ ys) =
    let c = cond (nat_lt (nat_abs y) (nat_abs z)) y z in
    le_both (nat_abs (nearest_with c ys)) (nat_abs c) (nat_abs z) (nearest_first c ys) (chosen_first y z)

nearest_least : (z : ℤ) (zs : List ℤ) (w : ℤ) → IsAmong w zs → nat_abs (nearest_with z zs) ≤ nat_abs w
nearest_least z [] w h = absurd h
nearest_least z (y ∷ ys) w (inl h) =
    let c = cond (nat_lt (nat_abs y) (nat_abs z)) y z in
    subst (λ (u : ℤ). nat_abs (nearest_with c ys) ≤ nat_abs u) (sym h) (le_both (nat_abs (nearest_with c ys)) (nat_abs c) (nat_abs y) (nearest_first c ys) (chosen_second y z))
nearest_least z (y ∷ ys) w (inr h) = nearest_least (cond (nat_lt (nat_abs y) (nat_abs z)) y z) ys w h

nearest_has : (P : ℤ → Type 0) (z : ℤ) (zs : List ℤ) → P z → AllByRecursion P zs → P (nearest_with z zs)
nearest_has P z [] h k = h
nearest_has P z (y ∷ ys) h k = nearest_has P (cond (nat_lt (nat_abs y) (nat_abs z)) y z) ys (by (nat_lt (nat_abs y) (nat_abs z))) k.1
  where
    by : (b : Bool) → P (cond b y z)
    by true = k.0
    by false = h

passes : (t : ℤ → Bool) (zs : List ℤ) → AllByRecursion (λ z. t z ≡ true) (filter t zs)
passes t [] = tt
passes t (z ∷ zs) = by (t z) refl (passes t zs)
  where
    by : (b : Bool) → t z ≡ b → AllByRecursion (λ y. t y ≡ true) (filter t zs) → AllByRecursion (λ y. t y ≡ true) (cond b (z ∷ filter t zs) (filter t zs))
    by true e h = (e, h)
    by false e h = h

passing : (t : ℤ → Bool) (zs : List ℤ) (w : ℤ) → t w ≡ true → IsAmong w zs → IsAmong w (filter t zs)
passing t [] w e h = absurd h
passing t (z ∷ zs) w e h = by (t z) refl h (λ k. passing t zs w e k)
  where
    by : (b : Bool) → t z ≡ b → (w ≡ z) ⊎ IsAmong w zs → (IsAmong w zs → IsAmong w (filter t zs)) → IsAmong w (cond b (z ∷ filter t zs) (filter t zs))
    by true q (inl a) k = inl a
    by true q (inr a) k = inr (k a)
    by false q (inl a) k = absurd (let u = sym q ∙ ap t (sym a) ∙ e in cc)
    by false q (inr a) k = k a

nothing_passes : (t : ℤ → Bool) (zs : List ℤ) → ((z : ℤ) → t z ≡ false) → filter t zs ≡ []
nothing_passes t [] h = refl
nothing_passes t (z ∷ zs) h = ap (λ (b : Bool). cond b (z ∷ filter t zs) (filter t zs)) (h z) ∙ nothing_passes t zs h

-- one that passes, to which no other comes as near
only_nearest : (t : ℤ → Bool) (zs : List ℤ) (w : ℤ) → t w ≡ true → IsAmong w zs → ((z : ℤ) → t z ≡ true → nat_abs z ≤ nat_abs w → z ≡ w) → nearest (filter t zs) ≡ Some w
only_nearest t zs w e h k = by (filter t zs) refl (passes t zs) (passing t zs w e h)
  where
    by : (ys : List ℤ) → filter t zs ≡ ys → AllByRecursion (λ y. t y ≡ true) ys → IsAmong w ys → nearest ys ≡ Some w
    by [] q a b = absurd b
    by (y ∷ ys) q a b = ap Some (k (nearest_with y ys) (nearest_has (λ u. t u ≡ true) y ys a.0 a.1) (near b))
      where
        near : (w ≡ y) ⊎ IsAmong w ys → nat_abs (nearest_with y ys) ≤ nat_abs w
        near (inl g) = subst (λ (u : ℤ). nat_abs (nearest_with y ys) ≤ nat_abs u) (sym g) (nearest_first y ys)
        near (inr g) = nearest_least y ys w g

-- ---- between two numbers

abbrev IsIn : Option ℤ → List ℤ → Type 0
IsIn None zs = ⊤
IsIn (Some a) zs = IsAmong a zs

le_cases : (a b : ℤ) → (int_le a b ≡ true) ⊎ (int_le a b ≡ false)
le_cases a b = by (int_le a b)
  where
    by : (t : Bool) → (t ≡ true) ⊎ (t ≡ false)
    by true = inl refl
    by false = inr refl

from_one : (a : ℤ) → ((nearest_from (Some a) ≡ pos 0) × (a ≤ℤ pos 0)) ⊎ ((nearest_from (Some a) ≡ a) × (pos 1 ≤ℤ a))
from_one a = by (int_le a (pos 0)) refl
  where
    by : (t : Bool) → int_le a (pos 0) ≡ t → ((cond t (pos 0) a ≡ pos 0) × (a ≤ℤ pos 0)) ⊎ ((cond t (pos 0) a ≡ a) × (pos 1 ≤ℤ a))
    by true e = inl (refl, true_le a (pos 0) e)
    by false e = inr (refl, let u = false_le a (pos 0) e in omega (arith, ints))

to_one : (b z : ℤ) → ((nearest_up_to (Some b) z ≡ z) × (z ≤ℤ b)) ⊎ ((nearest_up_to (Some b) z ≡ b) × ((b +ℤ pos 1) ≤ℤ z))
to_one b z = by (int_le z b) refl
  where
    by : (t : Bool) → int_le z b ≡ t → ((cond t z b ≡ z) × (z ≤ℤ b)) ⊎ ((cond t z b ≡ b) × ((b +ℤ pos 1) ≤ℤ z))
    by true e = inl (refl, true_le z b e)
    by false e = inr (refl, false_le z b e)

both_true : (a b : Bool) → a ≡ true → b ≡ true → (a && b) ≡ true
both_true true b e f = f
both_true false b e f = absurd (cc)

not_both : (a b : Bool) → (a ≡ true → b ≡ true → ⊥) → (a && b) ≡ false
not_both true true h = absurd (h refl refl)
not_both true false h = refl
not_both false b h = refl

abbrev Unique : Option ℤ → Option ℤ → ℤ → Type 0
Unique low high w = (z : ℤ) → (is_above low z && is_below high z) ≡ true → nat_abs z ≤ nat_abs w → z ≡ w

-- the number that is taken, or that there is none
data Taken (low high : Option ℤ) (zs : List ℤ) : Type 0 where
  one : (w : ℤ) → nearest_between low high ≡ Some w → (is_above low w && is_below high w) ≡ true → IsAmong w zs → Unique low high w → Taken low high zs
  no_one : nearest_between low high ≡ None → ((z : ℤ) → (is_above low z && is_below high z) ≡ false) → Taken low high zs

is_some : (low high : Option ℤ) (w : ℤ) → nearest_up_to high (nearest_from low) ≡ w → is_above low w ≡ true → nearest_between low high ≡ Some w
is_some low high w e f =
    ap (λ (z : ℤ). cond (is_above low z) (Some z) None) e ∙ ap (λ (t : Bool). cond t (Some w) None) f

is_none_ : (low high : Option ℤ) (w : ℤ) → nearest_up_to high (nearest_from low) ≡ w → is_above low w ≡ false → nearest_between low high ≡ None
is_none_ low high w e f =
    ap (λ (z : ℤ). cond (is_above low z) (Some z) None) e ∙ ap (λ (t : Bool). cond t (Some w) None) f

taken : (low high : Option ℤ) (zs : List ℤ) → IsAmong (pos 0) zs → IsIn low zs → IsIn high zs → Taken low high zs
taken None None zs o a b = one (pos 0) refl refl o (λ z h k. omega (arith, ints))
taken None (Some b) zs o i j =
    elim (to_one b (pos 0)) [
      | inl h ↦ one (pos 0) (is_some None (Some b) (pos 0) h.0 refl) (le_true (pos 0) b h.1) o (λ z g k. let u = true_le z b g in omega (arith, ints))
      | inr h ↦ one b (is_some None (Some b) b h.0 refl) (le_true b b (omega (arith, ints))) j (λ z g k. let u = true_le z b g in let l = h.1 in omega (arith, ints))
    ]
taken (Some a) None zs o i j =
    elim (from_one a) [
      | inl h ↦ one (pos 0) (is_some (Some a) None (pos 0) h.0 (le_true a (pos 0) h.1)) (both_true (int_le a (pos 0)) true (le_true a (pos 0) h.1) refl) o (λ z g k. omega (arith, ints))
      | inr h ↦ one a (is_some (Some a) None a h.0 (le_true a a (omega (arith, ints)))) (both_true (int_le a a) true (le_true a a (omega (arith, ints))) refl) i (λ z g k. let p = true_le a z (and_parts (int_le a z) true g).0 in let l = h.1 in omega (arith, ints))
    ]
taken (Some a) (Some b) zs o i j =
    elim (from_one a) [
      | inl h ↦ by_zero h.0 h.1 (to_one b (pos 0))
      | inr h ↦ by_low h.0 h.1 (to_one b a)
    ]
  where
    by_zero : nearest_from (Some a) ≡ pos 0 → a ≤ℤ pos 0 → ((nearest_up_to (Some b) (pos 0) ≡ pos 0) × (pos 0 ≤ℤ b)) ⊎ ((nearest_up_to (Some b) (pos 0) ≡ b) × ((b +ℤ pos 1) ≤ℤ pos 0)) → Taken (Some a) (Some b) zs
    by_zero e h (inl k) =
        one (pos 0) (is_some (Some a) (Some b) (pos 0) (ap (nearest_up_to (Some b)) e ∙ k.0) (le_true a (pos 0) h)) (both_true (int_le a (pos 0)) (int_le (pos 0) b) (le_true a (pos 0) h) (le_true (pos 0) b k.1)) o (λ z g m. omega (arith, ints))
    by_zero e h (inr k) = elim (le_cases a b) [
      | inl q ↦ one b (is_some (Some a) (Some b) b (ap (nearest_up_to (Some b)) e ∙ k.0) q) (both_true (int_le a b) (int_le b b) q (le_true b b (omega (arith, ints)))) j (λ z g m. let p = true_le z b (and_parts (int_le a z) (int_le z b) g).1 in let l = k.1 in omega (arith, ints))
      | inr q ↦ no_one (is_none_ (Some a) (Some b) b (ap (nearest_up_to (Some b)) e ∙ k.0) q) (λ z. not_both (int_le a z) (int_le z b) (λ u v. let f = true_le a z u in let g = true_le z b v in let r = false_le a b q in omega (arith, ints)))
    ]

    by_low : nearest_from (Some a) ≡ a → pos 1 ≤ℤ a → ((nearest_up_to (Some b) a ≡ a) × (a ≤ℤ b)) ⊎ ((nearest_up_to (Some b) a ≡ b) × ((b +ℤ pos 1) ≤ℤ a)) → Taken (Some a) (Some b) zs
    by_low e h (inl k) =
        one a (is_some (Some a) (Some b) a (ap (nearest_up_to (Some b)) e ∙ k.0) (le_true a a (omega (arith, ints)))) (both_true (int_le a a) (int_le a b) (le_true a a (omega (arith, ints))) (le_true a b k.1)) i (λ z g m. let p = true_le a z (and_parts (int_le a z) (int_le z b) g).0 in omega (arith, ints))
    by_low e h (inr k) =
        no_one (is_none_ (Some a) (Some b) b (ap (nearest_up_to (Some b)) e ∙ k.0) (le_false a b k.1)) (λ z. not_both (int_le a z) (int_le z b) (λ u v. let f = true_le a z u in let g = true_le z b v in let l = k.1 in omega (arith, ints)))

nearest_is : (t : ℤ → Bool) (low high : Option ℤ) (zs : List ℤ) → ((z : ℤ) → t z ≡ (is_above low z && is_below high z)) → Taken low high zs → nearest (filter t zs) ≡ nearest_between low high
nearest_is t low high zs h (one w e p a u) =
    only_nearest t zs w (h w ∙ p) a (λ z g k. u z (sym (h z) ∙ g) k) ∙ sym e
nearest_is t low high zs h (no_one e n) =
    ap nearest (nothing_passes t zs (λ z. h z ∙ n z)) ∙ sym e

-- ---- the numbers beside the bounds

pub bound_dot : (x : ℕ) (l : Lit) (p : Point) → length p.nums ≡ x → dot (above_bound x l 0) p ≡ neg_ℤ (dot (form_of l) (with_zeros p 1))
bound_dot x l p n =
    let a = dot-plus (constant_form (pos 0)) (times (negsuc 0) (rest_of (form_of l) x)) p in
    let b = dot-times (negsuc 0) (rest_of (form_of l) x) p in
    let c = dot-constant_form (pos 0) p in
    let d = trial_rest (form_of l) x p n in
    let e : pos 0 *ℤ pos p.den ≡ pos 0 = omega (arith, ints) in
    let m : negsuc 0 *ℤ dot (rest_of (form_of l) x) p ≡ neg_ℤ (dot (rest_of (form_of l) x) p) = minus_coef (dot (rest_of (form_of l) x) p) in
    omega (arith, ints)
  where
    minus_coef : (z : ℤ) → negsuc 0 *ℤ z ≡ neg_ℤ z
    minus_coef (pos zero) = refl
    minus_coef (pos (suc n)) = omega (arith, ints)
    minus_coef (negsuc n) = omega (arith, ints)

one_more : (a b : ℕ) → 1 ≤ a → 1 ≤ b → 1 ≤ a * b
one_more a b h k = mul-le-mul h k

neg_neg : (z : ℤ) → neg_ℤ (neg_ℤ z) ≡ z
neg_neg z = omega (arith, ints)

lower_beside : (x : ℕ) (p : Point) (l : Lit) → 1 ≤ p.den → length p.nums ≡ x → is_lower x l ≡ true → IsAmong (least_whole x (with_zeros p 1) l) (beside p (lower_bound Rat x l))
lower_beside x p l o n e =
    let D = dot (form_of l) (with_zeros p 1) in
    let M = size_at x l * p.den in
    let z = floor_div (neg_ℤ D) M in
    subst (λ (y : ℤ). IsAmong (least_whole x (with_zeros p 1) l) ((floor_div y M -ℤ pos 1) ∷ floor_div y M ∷ (floor_div y M +ℤ pos 1) ∷ [])) (sym (bound_dot x l p n))
    (by (is_strict l) (ceiling M (neg_ℤ D) (one_more (size_at x l) p.den (lower_size x l e) o)))
  where
    by : (b : Bool) → let D = dot (form_of l) (with_zeros p 1) in let M = size_at x l * p.den in let z = floor_div (neg_ℤ D) M in (neg_ℤ (floor_div (neg_ℤ (neg_ℤ D)) M) ≡ z) ⊎ (neg_ℤ (floor_div (neg_ℤ (neg_ℤ D)) M) ≡ z +ℤ pos 1) → IsAmong (cond b (z +ℤ pos 1) (neg_ℤ (floor_div D M))) ((z -ℤ pos 1) ∷ z ∷ (z +ℤ pos 1) ∷ [])
    by true h = inr (inr (inl refl))
    by false (inl h) = inr (inl (ap (λ (y : ℤ). neg_ℤ (floor_div y (size_at x l * p.den))) (sym (neg_neg (dot (form_of l) (with_zeros p 1)))) ∙ h))
    by false (inr h) = inr (inr (inl (ap (λ (y : ℤ). neg_ℤ (floor_div y (size_at x l * p.den))) (sym (neg_neg (dot (form_of l) (with_zeros p 1)))) ∙ h)))

upper_beside : (x : ℕ) (p : Point) (l : Lit) → 1 ≤ p.den → length p.nums ≡ x → is_upper x l ≡ true → IsAmong (greatest_whole x (with_zeros p 1) l) (beside p (upper_bound x l))
upper_beside x p l o n e =
    let D = dot (form_of l) (with_zeros p 1) in
    let M = size_at x l * p.den in
    subst (λ (y : ℤ). IsAmong (greatest_whole x (with_zeros p 1) l) ((floor_div y M -ℤ pos 1) ∷ floor_div y M ∷ (floor_div y M +ℤ pos 1) ∷ [])) (trial_rest (form_of l) x p n)
    (by (is_strict l) (ceiling M D (one_more (size_at x l) p.den (upper_size x l e) o)))
  where
    by : (b : Bool) → let D = dot (form_of l) (with_zeros p 1) in let M = size_at x l * p.den in let z = floor_div D M in (neg_ℤ (floor_div (neg_ℤ D) M) ≡ z) ⊎ (neg_ℤ (floor_div (neg_ℤ D) M) ≡ z +ℤ pos 1) → IsAmong (cond b (neg_ℤ (floor_div (neg_ℤ D) M) -ℤ pos 1) z) ((z -ℤ pos 1) ∷ z ∷ (z +ℤ pos 1) ∷ [])
    by false h = inr (inl refl)
    by true (inl h) = inl (ap (λ (y : ℤ). y -ℤ pos 1) h)
    by true (inr h) = inr (inl (less_one (neg_ℤ (floor_div (neg_ℤ (dot (form_of l) (with_zeros p 1))) (size_at x l * p.den))) (floor_div (dot (form_of l) (with_zeros p 1)) (size_at x l * p.den)) h))
      where
        less_one : (u z : ℤ) → u ≡ z +ℤ pos 1 → u -ℤ pos 1 ≡ z
        less_one u z h = omega (arith, ints)

-- the number that all allow is that of one of them
least_of_one : (x : ℕ) (t : Point) (best : Option ℤ) (ls : List Lit) (zs : List ℤ) → IsIn best zs → AllByRecursion (λ l. IsAmong (least_whole x t l) zs) ls → IsIn (from_below x t best ls) zs
least_of_one x t best [] zs h k = h
least_of_one x t best (l ∷ ls) zs h k = least_of_one x t (Some (greater (least_whole x t l) best)) ls zs (by best h) k.1
  where
    by : (b : Option ℤ) → IsIn b zs → IsAmong (greater (least_whole x t l) b) zs
    by None h = k.0
    by (Some w) h = at (int_le w (least_whole x t l))
      where
        at : (s : Bool) → IsAmong (cond s (least_whole x t l) w) zs
        at true = k.0
        at false = h

greatest_of_one : (x : ℕ) (t : Point) (best : Option ℤ) (ls : List Lit) (zs : List ℤ) → IsIn best zs → AllByRecursion (λ l. IsAmong (greatest_whole x t l) zs) ls → IsIn (from_above x t best ls) zs
greatest_of_one x t best [] zs h k = h
greatest_of_one x t best (l ∷ ls) zs h k = greatest_of_one x t (Some (lesser (greatest_whole x t l) best)) ls zs (by best h) k.1
  where
    by : (b : Option ℤ) → IsIn b zs → IsAmong (lesser (greatest_whole x t l) b) zs
    by None h = k.0
    by (Some w) h = at (int_le (greatest_whole x t l) w)
      where
        at : (s : Bool) → IsAmong (cond s (greatest_whole x t l) w) zs
        at true = k.0
        at false = h

filter_each : (t : Lit → Bool) (F : Lit → Type 0) (c : List Lit) → ((l : Lit) → t l ≡ true → IsAmong l (filter t c) → F l) → AllByRecursion F (filter t c)
filter_each t F c k = go (filter t c) (each_passes t c) (λ l h. h)
  where
    each_passes : (t : Lit → Bool) (c : List Lit) → AllByRecursion (λ l. t l ≡ true) (filter t c)
    each_passes t [] = tt
    each_passes t (l ∷ c) = by (t l) refl (each_passes t c)
      where
        by : (b : Bool) → t l ≡ b → AllByRecursion (λ k. t k ≡ true) (filter t c) → AllByRecursion (λ k. t k ≡ true) (cond b (l ∷ filter t c) (filter t c))
        by true e h = (e, h)
        by false e h = h

    go : (ls : List Lit) → AllByRecursion (λ l. t l ≡ true) ls → ((l : Lit) → IsAmong l ls → IsAmong l (filter t c)) → AllByRecursion F ls
    go [] h s = tt
    go (l ∷ ls) h s = (k l h.0 (s l (inl refl)), go ls h.1 (λ m q. s m (inr q)))

abbrev candidates : ℕ → List Lit → Point → List ℤ
candidates x c p = pos 0 ∷ flat_map (beside p) (lowers Rat x c ++ uppers x c)

low_in : (x : ℕ) (c : List Lit) (p : Point) → 1 ≤ p.den → length p.nums ≡ x → IsIn (from_below x (with_zeros p 1) None (filter (is_lower x) c)) (candidates x c p)
low_in x c p o n =
    least_of_one x (with_zeros p 1) None (filter (is_lower x) c) (candidates x c p) tt
    (filter_each (is_lower x) (λ l. IsAmong (least_whole x (with_zeros p 1) l) (candidates x c p)) c
    (λ l e a. inr (among_flat (beside p) (lowers Rat x c ++ uppers x c) (lower_bound Rat x l) (least_whole x (with_zeros p 1) l)
    (among_left (lowers Rat x c) (uppers x c) (lower_bound Rat x l) (among_map (lower_bound Rat x) (filter (is_lower x) c) l a)) (lower_beside x p l o n e))))

high_in : (x : ℕ) (c : List Lit) (p : Point) → 1 ≤ p.den → length p.nums ≡ x → IsIn (from_above x (with_zeros p 1) None (filter (is_upper x) c)) (candidates x c p)
high_in x c p o n =
    greatest_of_one x (with_zeros p 1) None (filter (is_upper x) c) (candidates x c p) tt
    (filter_each (is_upper x) (λ l. IsAmong (greatest_whole x (with_zeros p 1) l) (candidates x c p)) c
    (λ l e a. inr (among_flat (beside p) (lowers Rat x c ++ uppers x c) (upper_bound x l) (greatest_whole x (with_zeros p 1) l)
    (among_right (lowers Rat x c) (uppers x c) (upper_bound x l) (among_map (upper_bound x) (filter (is_upper x) c) l a)) (upper_beside x p l o n e))))

pub whole_between : (x : ℕ) (c : List Lit) (p : Point) → 1 ≤ p.den → length p.nums ≡ x → IsCube Rat c → CubeHolds (filter (is_free x) c) p → nearest_whole x c p ≡ nearest_between (from_below x (with_zeros p 1) None (filter (is_lower x) c)) (from_above x (with_zeros p 1) None (filter (is_upper x) c))
whole_between x c p o n i h =
    let low = from_below x (with_zeros p 1) None (filter (is_lower x) c) in
    let high = from_above x (with_zeros p 1) None (filter (is_upper x) c) in
    nearest_is (λ z. all_hold_at c (extend p (whole z))) low high (candidates x c p) (range_allows x p c o n i h)
    (taken low high (candidates x c p) (inl refl) (low_in x c p o n) (high_in x c p o n))
