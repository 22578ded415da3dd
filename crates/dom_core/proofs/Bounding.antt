-- Values at a point and their size; the bounds of a list, one literal after the other.
use Rattle.std.specs.Prelude.{ℕ, zero, suc, ◌+◌, ◌-◌, ◌*◌, ◌<◌, ◌≤◌, ◌≡◌, ◌^◌, ℤ, pos, negsuc, ◌-ℤ◌, ◌*ℤ◌, ◌≤ℤ◌, ◌<ℤ◌, neg_ℤ, nat_abs, int_lt, Bool, true, false, cond, if◌then◌else◌, Option, Some, None, IfSome, List, [], ◌∷◌, ◌++◌, length, get_or, drop, map, filter}
use Rattle.std.specs.declared.cmp.Ordering.TheVariants.{Less, Equal, Greater}
use Rattle.std.specs.Ordering.{is_lt}
use Rattle.std.proofs.Common.{arith, ap, ap₂, ◌∙◌, sym, subst, refl, mul-le-mul, w64, SFits, to_z, of_z, to_z-of_z}
use mir.Syntax.{w128}
use Rattle.std.proofs.lemmas.Int.{ints, by_lt_z}
use Rattle.lin_term.specs.declared.Sort.{Sort}
use Rattle.lin_term.specs.declared.Sort.TheVariants.{Rat, Int}
use Rattle.lin_term.specs.declared.Lit.{Lit}
use Rattle.lin_term.specs.declared.Lit.TheVariants.{AtLeast, Above, Divides, NotDivides}
use Rattle.lin_term.specs.Form.{Form, AreTerms, IsRow, cap}
use Rattle.lin_term.specs.Fraction.{value_cmp}
use Rattle.lin_term.specs.Linear.{Point, Value, at, dot_terms, dot, times, constant_form, floor_div}
use Rattle.lin_term.specs.Literal.{form_of}
use Rattle.lin_term.specs.Move.{Move, move_value}
use Rattle.lin_term.specs.Point.{AreWithin, IsKeptPoint}
use Rattle.lin_term.specs.PutIn.{coef, rest_of}
use Rattle.lin_term.proofs.Dividing.{abs_product, abs_neg}
use Rattle.lin_term.proofs.Dots.{dot-plus, dot-times, dot-constant_form}
use Rattle.lin_term.proofs.Points.{at_within, few_terms}
use Rattle.lin_term.proofs.Quotients.{abs-floor_div}
use Rattle.lin_term.proofs.Ring.{ring, pos_from_mul, pos_mul, mul_assoc_ℤ}
use Rattle.lin_term.proofs.Terms.{word_of}
use Rattle.dom_core.specs.Elimination.{size_at, is_positive, is_negative, is_lower, is_upper, above_bound}
use Rattle.dom_core.specs.Pick.{lower_bound, upper_bound, lowers, uppers, is_less, greatest_with, least_with}
use Rattle.dom_core.specs.Bound.{value_with, greater_of, lesser_of, scaled_value, IsScaled, lower_of, upper_of, IsLowerBound, IsUpperBound, greatest_from, least_from}
use Rattle.dom_core.specs.declared.bound.Bound.{Bound}
use Rattle.dom_core.proofs.AddingLemmas.{split_at}
use Rattle.dom_core.proofs.Assigning.{split_dot}

-- ---- sizes

abs_times : (a b : ℤ) → nat_abs (a *ℤ b) ≡ nat_abs a * nat_abs b
abs_times (pos n) b = abs_product n b
abs_times (negsuc n) b = ap (λ (z : ℤ). nat_abs z) (turned b) ∙ abs_neg (pos (suc n) *ℤ b) ∙ abs_product (suc n) b
  where
    turned : (b : ℤ) → negsuc n *ℤ b ≡ neg_ℤ (pos (suc n) *ℤ b)
    turned b = omega (arith, ints)

pub product_size : (a b : ℤ) → nat_abs a ≤ cap → nat_abs b ≤ cap → nat_abs (a *ℤ b) ≤ 2 ^ 104
product_size a b h k = subst (λ (n : ℕ). n ≤ 2 ^ 104) (sym (abs_times a b)) (mul-le-mul h k)

terms_size : (n : ℕ) (ts : List (ℕ × ℤ)) (nums : List ℤ) → AreTerms n ts → AreWithin nums → nat_abs (dot_terms ts nums) ≤ length ts * 2 ^ 104
terms_size n [] nums a w = omega arith
terms_size n (t ∷ ts) nums a w =
    let h = terms_size (t.0 + 1) ts nums a.4 w in
    let k = product_size t.1 (at nums t.0) a.3 (at_within nums t.0 w) in
    omega (arith, ints, h, k)

pub dot_size : (f : Form) (p : Point) → IsRow f → IsKeptPoint p → nat_abs (dot f p) ≤ 2 ^ 124 + 2 ^ 104
dot_size f p r k =
    let h = terms_size 0 f.terms p.nums r.0 k.2 in
    let c = product_size f.constant (pos p.den) r.1 (let d = k.1 in omega (arith, d)) in
    let n = few_terms f.terms r.0 in
    omega (arith, ints, h, c, n)

pub rest_dot : (f : Form) (x : ℕ) (p : Point) (z : ℤ) → z ≡ dot f p -ℤ coef f.terms x *ℤ at p.nums x → z ≡ dot (rest_of f x) p
rest_dot f x p z e = let h = split_dot f x p in omega (arith, ints)

pub rest_size : (f : Form) (x : ℕ) (p : Point) (c : ℤ) → IsRow f → IsKeptPoint p → nat_abs c ≤ cap → nat_abs (dot f p -ℤ c *ℤ at p.nums x) ≤ 2 ^ 125
rest_size f x p c r k s =
    let h = dot_size f p r k in
    let m = product_size c (at p.nums x) s (at_within p.nums x k.2) in
    omega (arith, ints, h, m)

-- a row and a point as they are read
pub row_of : (f : Form) (ts : List (ℕ × ℤ)) (k : ℤ) → ts ≡ f.terms → AreTerms 0 ts → k ≡ f.constant → nat_abs k ≤ cap → IsRow f
row_of f ts k e a q h = (subst (AreTerms 0) e a, subst (λ (z : ℤ). nat_abs z ≤ cap) q h)

pub point_of : (p : Point) (d : ℤ) (ns : List ℤ) → d ≡ pos p.den → pos 1 ≤ℤ d → nat_abs d ≤ cap → ns ≡ p.nums → AreWithin ns → IsKeptPoint p
point_of p d ns e o h q w = (omega (arith, ints, e, o), omega (arith, ints, e, h), subst AreWithin q w)

-- a number of two words
pub wide_word : (z : ℤ) → nat_abs z ≤ 2 ^ 126 → to_z w128 (of_z w128 z) ≡ z
wide_word z h = let f : SFits w128 z = omega (arith, ints, h) in to_z-of_z f

-- a kept number with the other sign
pub neg_word : (z : ℤ) → nat_abs z ≤ cap → to_z w64 (of_z w64 (pos 0 -ℤ to_z w64 (of_z w64 z))) ≡ neg_ℤ z
neg_word z h =
    let f : SFits w64 (pos 0 -ℤ z) = omega (arith, ints, h) in
    let e : pos 0 -ℤ z ≡ neg_ℤ z = omega (arith, ints) in
    ap (λ (y : ℤ). to_z w64 (of_z w64 (pos 0 -ℤ y))) (word_of z h) ∙ to_z-of_z f ∙ e

-- ---- the value of a bound

pub above_dot : (x : ℕ) (l : Lit) (k : ℕ) (p : Point) → dot (above_bound x l k) p ≡ pos k *ℤ pos p.den -ℤ dot (rest_of (form_of l) x) p
above_dot x l k p =
    let a = dot-plus (constant_form (pos k)) (times (negsuc 0) (rest_of (form_of l) x)) p in
    let b = dot-constant_form (pos k) p in
    let c = dot-times (negsuc 0) (rest_of (form_of l) x) p in
    omega (arith, ints)

-- the size of a positive coefficient, and of a negative one with the other sign
pub lower_coef : (x : ℕ) (l : Lit) (a : ℤ) → is_lower x l ≡ true → a ≡ coef (form_of l).terms x → (a ≡ pos (size_at x l)) × (pos 1 ≤ℤ a)
lower_coef x l a e q = by (coef (form_of l).terms x) (positive l e) q
  where
    positive : (l : Lit) → is_lower x l ≡ true → is_positive (coef (form_of l).terms x) ≡ true
    positive (AtLeast f) e = e
    positive (Above f) e = e
    positive (Divides d f) e = absurd (cc)
    positive (NotDivides d f) e = absurd (cc)

    by : (z : ℤ) → is_positive z ≡ true → a ≡ z → (a ≡ pos (nat_abs z)) × (pos 1 ≤ℤ a)
    by (pos zero) e q = absurd (cc)
    by (pos (suc n)) e q = (q, omega (arith, ints))
    by (negsuc n) e q = absurd (cc)

pub upper_coef : (x : ℕ) (l : Lit) (b : ℤ) → is_upper x l ≡ true → b ≡ neg_ℤ (coef (form_of l).terms x) → (b ≡ pos (size_at x l)) × (pos 1 ≤ℤ b)
upper_coef x l b e q = by (coef (form_of l).terms x) (negative l e) q
  where
    negative : (l : Lit) → is_upper x l ≡ true → is_negative (coef (form_of l).terms x) ≡ true
    negative (AtLeast f) e = e
    negative (Above f) e = e
    negative (Divides d f) e = absurd (cc)
    negative (NotDivides d f) e = absurd (cc)

    by : (z : ℤ) → is_negative z ≡ true → b ≡ neg_ℤ z → (b ≡ pos (nat_abs z)) × (pos 1 ≤ℤ b)
    by (pos n) e q = absurd (cc)
    by (negsuc n) e q = (q, omega (arith, ints))

pub lower_positive : (x : ℕ) (l : Lit) (a : ℤ) → is_lower x l ≡ true → a ≡ coef (form_of l).terms x → pos 1 ≤ℤ a
lower_positive x l a e q = (lower_coef x l a e q).1

pub upper_positive : (x : ℕ) (l : Lit) (b : ℤ) → is_upper x l ≡ true → b ≡ neg_ℤ (coef (form_of l).terms x) → pos 1 ≤ℤ b
upper_positive x l b e q = (upper_coef x l b e q).1

pub lower_rat : (x : ℕ) (l : Lit) (p : Point) (a rest num : ℤ) → is_lower x l ≡ true → a ≡ coef (form_of l).terms x → nat_abs a ≤ cap → rest ≡ dot (rest_of (form_of l) x) p → nat_abs rest ≤ 2 ^ 125 → num ≡ neg_ℤ rest → IsScaled Rat (lower_bound Rat x l) p num a
lower_rat x l p a rest num t q k e h n =
    let b = lower_coef x l a t q in
    ((let d = above_dot x l 0 p in omega (arith, ints)), b.0, b.1, k, omega (arith, ints, h, n))

whole_num : (z num : ℤ) (g : ℕ) → nat_abs z ≤ 2 ^ 126 → num ≡ floor_div z g → nat_abs num ≤ 2 ^ 126
whole_num z num g h e = let k = abs-floor_div z g in subst (λ (y : ℤ). nat_abs y ≤ 2 ^ 126) (sym e) (omega (arith, k, h))

pub lower_int : (x : ℕ) (l : Lit) (p : Point) (a k den rest z num : ℤ) → is_lower x l ≡ true → a ≡ coef (form_of l).terms x → k ≡ a -ℤ pos 1 → den ≡ pos p.den → rest ≡ dot (rest_of (form_of l) x) p → z ≡ k *ℤ den -ℤ rest → nat_abs z ≤ 2 ^ 126 → num ≡ floor_div z (nat_abs a) → IsScaled Int (lower_bound Int x l) p num (pos 1)
lower_int x l p a k den rest z num t q j d r e h n =
    let b = lower_coef x l a t q in
    let size : nat_abs a ≡ size_at x l = ap (λ (y : ℤ). nat_abs y) (b.0) in
    let one : k ≡ pos (size_at x l - 1) = omega (arith, ints, b.0, b.1, j) in
    let same : z ≡ dot (above_bound x l (size_at x l - 1)) p = e ∙ ap₂ (λ (y w : ℤ). y -ℤ w) (ap₂ (λ (y w : ℤ). y *ℤ w) one d) r ∙ sym (above_dot x l (size_at x l - 1) p) in
    (n ∙ ap₂ (λ (y : ℤ) (g : ℕ). floor_div y g) same size, refl, omega (arith, ints), omega (arith, ints), whole_num z num (nat_abs a) h n)

pub upper_rat : (x : ℕ) (l : Lit) (p : Point) (b rest : ℤ) → is_upper x l ≡ true → b ≡ neg_ℤ (coef (form_of l).terms x) → nat_abs b ≤ cap → rest ≡ dot (rest_of (form_of l) x) p → nat_abs rest ≤ 2 ^ 125 → IsScaled Rat (upper_bound x l) p rest b
upper_rat x l p b rest t q k e h = let c = upper_coef x l b t q in (e, c.0, c.1, k, omega (arith, h))

pub upper_int : (x : ℕ) (l : Lit) (p : Point) (b rest num : ℤ) → is_upper x l ≡ true → b ≡ neg_ℤ (coef (form_of l).terms x) → rest ≡ dot (rest_of (form_of l) x) p → nat_abs rest ≤ 2 ^ 125 → num ≡ floor_div rest (nat_abs b) → IsScaled Int (upper_bound x l) p num (pos 1)
upper_int x l p b rest num t q e h n =
    let c = upper_coef x l b t q in
    (n ∙ ap₂ (λ (y : ℤ) (g : ℕ). floor_div y g) e (ap (λ (y : ℤ). nat_abs y) c.0), refl, omega (arith, ints), omega (arith, ints), whole_num rest num (nat_abs b) (omega (arith, h)) n)

-- ---- order

less_by : (a b : ℤ) → a <ℤ b → int_lt a b ≡ true
less_by a b h = by (int_lt a b) refl
  where
    by : (t : Bool) → int_lt a b ≡ t → t ≡ true
    by true e = refl
    by false e = absurd (omega (arith, ints))

less_not : (a b : ℤ) → b ≤ℤ a → int_lt a b ≡ false
less_not a b h = by (int_lt a b) refl
  where
    by : (t : Bool) → int_lt a b ≡ t → t ≡ false
    by true e = absurd (omega (arith, ints))
    by false e = refl

scaled_less : (a b : ℤ) (k : ℕ) → 1 ≤ k → int_lt (a *ℤ pos k) (b *ℤ pos k) ≡ int_lt a b
scaled_less a b k o =
    by_lt_z a b
    (λ h. less_by (a *ℤ pos k) (b *ℤ pos k) (more h) ∙ sym (less_by a b h))
    (λ h. less_not (a *ℤ pos k) (b *ℤ pos k) (by_lt_z (a *ℤ pos k) (b *ℤ pos k) (λ u. absurd (let v = pos_from_mul (b -ℤ a) (pos k) (omega (arith, ints)) (let d = apart a b (pos k) in omega (arith, ints)) in omega (arith, ints))) (λ u. u)) ∙ sym (less_not a b h))
  where
    apart : (a b k : ℤ) → (b -ℤ a) *ℤ k ≡ b *ℤ k -ℤ a *ℤ k
    apart a b k = simp ring (omega (arith, ints))

    more : a <ℤ b → (a *ℤ pos k) <ℤ (b *ℤ pos k)
    more h =
        let m = pos_mul (b -ℤ a) (pos k) (omega (arith, ints)) (omega (arith, ints)) in
        let d = apart a b (pos k) in
        omega (arith, ints)

grouped : (a : ℤ) (d k : ℕ) → a *ℤ pos (d * k) ≡ (a *ℤ pos d) *ℤ pos k
grouped a d k = sym (mul_assoc_ℤ a (pos d) (pos k))

-- the point's denominator changes no comparison
pub less_scaled : (s : Sort) (m n : Move) (p : Point) → 1 ≤ p.den → is_less (move_value s m p) (move_value s n p) ≡ is_less (scaled_value s m p) (scaled_value s n p)
less_scaled Rat m n p o =
    ap₂ (λ (y z : ℤ). int_lt y z) (grouped (dot m.numer p) n.div p.den) (grouped (dot n.numer p) m.div p.den)
    ∙ scaled_less (dot m.numer p *ℤ pos n.div) (dot n.numer p *ℤ pos m.div) p.den o
less_scaled Int m n p o = refl

pub less_cmp : (v w : Value) → is_lt (value_cmp v w) ≡ is_less v w
less_cmp v w = by (int_lt (v.num *ℤ pos w.den) (w.num *ℤ pos v.den)) (int_lt (w.num *ℤ pos v.den) (v.num *ℤ pos w.den))
  where
    by : (a b : Bool) → is_lt (cond a Less (cond b Greater Equal)) ≡ a
    by true b = refl
    by false true = refl
    by false false = refl

scaled_is : (s : Sort) (m : Move) (p : Point) (num div : ℤ) → IsScaled s m p num div → value_with num (nat_abs div) ≡ scaled_value s m p
scaled_is s m p num div h = ap₂ (λ (n : ℤ) (d : ℕ). value_with n d) h.0 (ap (λ (z : ℤ). nat_abs z) h.1)

-- the first bound is less than the second
pub bounds_less : (s : Sort) (m n : Move) (p : Point) (a b c d : ℤ) → 1 ≤ p.den → IsScaled s m p a b → IsScaled s n p c d → is_less (value_with a (nat_abs b)) (value_with c (nat_abs d)) ≡ is_less (move_value s m p) (move_value s n p)
bounds_less s m n p a b c d o h k =
    ap₂ (λ (v w : Value). is_less v w) (scaled_is s m p a b h) (scaled_is s n p c d k) ∙ sym (less_scaled s m n p o)

-- ---- one literal more

pub lowers_split : (s : Sort) (x : ℕ) (c : List Lit) (i : ℕ) (l : Lit) → i < length c → l ≡ get_or c i l → lowers s x (drop i c) ≡ lowers s x (l ∷ []) ++ lowers s x (drop (i + 1) c)
lowers_split s x c i l h e = ap (λ (us : List Lit). lowers s x us) (split_at c i l h e) ∙ by (is_lower x l)
  where
    by : (b : Bool) → map (lower_bound s x) (cond b (l ∷ filter (is_lower x) (drop (i + 1) c)) (filter (is_lower x) (drop (i + 1) c))) ≡ map (lower_bound s x) (cond b (l ∷ []) []) ++ lowers s x (drop (i + 1) c)
    by true = refl
    by false = refl

pub uppers_split : (x : ℕ) (c : List Lit) (i : ℕ) (l : Lit) → i < length c → l ≡ get_or c i l → uppers x (drop i c) ≡ uppers x (l ∷ []) ++ uppers x (drop (i + 1) c)
uppers_split x c i l h e = ap (λ (us : List Lit). uppers x us) (split_at c i l h e) ∙ by (is_upper x l)
  where
    by : (b : Bool) → map (upper_bound x) (cond b (l ∷ filter (is_upper x) (drop (i + 1) c)) (filter (is_upper x) (drop (i + 1) c))) ≡ map (upper_bound x) (cond b (l ∷ []) []) ++ uppers x (drop (i + 1) c)
    by true = refl
    by false = refl

greatest_with_append : (s : Sort) (p : Point) (m : Move) (ms ns : List Move) → greatest_with s p m (ms ++ ns) ≡ greatest_with s p (greatest_with s p m ms) ns
greatest_with_append s p m [] ns = refl
greatest_with_append s p m (k ∷ ms) ns = greatest_with_append s p (if is_less (move_value s m p) (move_value s k p) then k else m) ms ns

least_with_append : (s : Sort) (p : Point) (m : Move) (ms ns : List Move) → least_with s p m (ms ++ ns) ≡ least_with s p (least_with s p m ms) ns
least_with_append s p m [] ns = refl
least_with_append s p m (k ∷ ms) ns = least_with_append s p (if is_less (move_value s k p) (move_value s m p) then k else m) ms ns

abbrev made : Move → Option Move
made m = Some m

greatest_append : (s : Sort) (p : Point) (o : Option Move) (ms ns : List Move) → greatest_from s p o (ms ++ ns) ≡ greatest_from s p (greatest_from s p o ms) ns
greatest_append s p None [] ns = refl
greatest_append s p None (m ∷ ms) ns = ap made (greatest_with_append s p m ms ns)
greatest_append s p (Some m) ms ns = ap made (greatest_with_append s p m ms ns)

least_append : (s : Sort) (p : Point) (o : Option Move) (ms ns : List Move) → least_from s p o (ms ++ ns) ≡ least_from s p (least_from s p o ms) ns
least_append s p None [] ns = refl
least_append s p None (m ∷ ms) ns = ap made (least_with_append s p m ms ns)
least_append s p (Some m) ms ns = ap made (least_with_append s p m ms ns)

-- a loop's step
pub greatest_step : (s : Sort) (x : ℕ) (p : Point) (c : List Lit) (i : ℕ) (l : Lit) (o n : Option Move) (all : Option Move) → i < length c → l ≡ get_or c i l → n ≡ greatest_from s p o (lowers s x (l ∷ [])) → greatest_from s p o (lowers s x (drop i c)) ≡ all → greatest_from s p n (lowers s x (drop (i + 1) c)) ≡ all
greatest_step s x p c i l o n all h e k r =
    ap (λ (q : Option Move). greatest_from s p q (lowers s x (drop (i + 1) c))) k
    ∙ sym (ap (λ (ms : List Move). greatest_from s p o ms) (lowers_split s x c i l h e) ∙ greatest_append s p o (lowers s x (l ∷ [])) (lowers s x (drop (i + 1) c)))
    ∙ r

pub least_step : (s : Sort) (x : ℕ) (p : Point) (c : List Lit) (i : ℕ) (l : Lit) (o n : Option Move) (all : Option Move) → i < length c → l ≡ get_or c i l → n ≡ least_from s p o (uppers x (l ∷ [])) → least_from s p o (uppers x (drop i c)) ≡ all → least_from s p n (uppers x (drop (i + 1) c)) ≡ all
least_step s x p c i l o n all h e k r =
    ap (λ (q : Option Move). least_from s p q (uppers x (drop (i + 1) c))) k
    ∙ sym (ap (λ (ms : List Move). least_from s p o ms) (uppers_split x c i l h e) ∙ least_append s p o (uppers x (l ∷ [])) (uppers x (drop (i + 1) c)))
    ∙ r

from_none : (s : Sort) (p : Point) (o : Option Move) → greatest_from s p o [] ≡ o
from_none s p None = refl
from_none s p (Some m) = refl

least_none : (s : Sort) (p : Point) (o : Option Move) → least_from s p o [] ≡ o
least_none s p None = refl
least_none s p (Some m) = refl

pub greatest_end : (s : Sort) (x : ℕ) (p : Point) (ls : List Lit) (o all : Option Move) → ls ≡ [] → greatest_from s p o (lowers s x ls) ≡ all → o ≡ all
greatest_end s x p ls o all e r = sym (ap (λ (us : List Lit). greatest_from s p o (lowers s x us)) e ∙ from_none s p o) ∙ r

pub least_end : (s : Sort) (x : ℕ) (p : Point) (ls : List Lit) (o all : Option Move) → ls ≡ [] → least_from s p o (uppers x ls) ≡ all → o ≡ all
least_end s x p ls o all e r = sym (ap (λ (us : List Lit). least_from s p o (uppers x us)) e ∙ least_none s p o) ∙ r

-- a literal that sets no lower bound
pub lower_passed : (s : Sort) (x : ℕ) (p : Point) (l : Lit) (o : Option Move) → is_lower x l ≡ false → o ≡ greatest_from s p o (lowers s x (l ∷ []))
lower_passed s x p l o e = sym (ap (λ (b : Bool). greatest_from s p o (map (lower_bound s x) (cond b (l ∷ []) []))) e ∙ from_none s p o)

pub upper_passed : (s : Sort) (x : ℕ) (p : Point) (l : Lit) (o : Option Move) → is_upper x l ≡ false → o ≡ least_from s p o (uppers x (l ∷ []))
upper_passed s x p l o e = sym (ap (λ (b : Bool). least_from s p o (map (upper_bound x) (cond b (l ∷ []) []))) e ∙ least_none s p o)

lower_one : (s : Sort) (x : ℕ) (l : Lit) → is_lower x l ≡ true → lowers s x (l ∷ []) ≡ lower_bound s x l ∷ []
lower_one s x l e = ap (λ (b : Bool). map (lower_bound s x) (cond b (l ∷ []) [])) e

upper_one : (x : ℕ) (l : Lit) → is_upper x l ≡ true → uppers x (l ∷ []) ≡ upper_bound x l ∷ []
upper_one x l e = ap (λ (b : Bool). map (upper_bound x) (cond b (l ∷ []) [])) e

-- the first one that does
pub lower_first : (s : Sort) (x : ℕ) (p : Point) (l k : Lit) → is_lower x l ≡ true → k ≡ l → Some (lower_bound s x k) ≡ greatest_from s p None (lowers s x (l ∷ []))
lower_first s x p l k e q = ap (λ (u : Lit). made (lower_bound s x u)) q ∙ sym (ap (λ (ms : List Move). greatest_from s p None ms) (lower_one s x l e))

pub upper_first : (s : Sort) (x : ℕ) (p : Point) (l k : Lit) → is_upper x l ≡ true → k ≡ l → Some (upper_bound x k) ≡ least_from s p None (uppers x (l ∷ []))
upper_first s x p l k e q = ap (λ (u : Lit). made (upper_bound x u)) q ∙ sym (ap (λ (ms : List Move). least_from s p None ms) (upper_one x l e))

-- one of two
chosen_of : (g : Bound → Move) (b : Bool) (old next : Bound) → g (if b then next else old) ≡ (if b then g next else g old)
chosen_of g true old next = refl
chosen_of g false old next = refl

either_is : (P : Bound → Type 0) (b : Bool) (old next : Bound) → P old → P next → P (if b then next else old)
either_is P true old next h k = k
either_is P false old next h k = h

pub lower_next : (s : Sort) (x : ℕ) (p : Point) (l : Lit) (old next best : Bound) → 1 ≤ p.den → is_lower x l ≡ true → next.lit.now ≡ l → IsScaled s (lower_of s x old) p old.num old.div → IsScaled s (lower_bound s x l) p next.num next.div → best ≡ greater_of old next → Some (lower_of s x best) ≡ greatest_from s p (Some (lower_of s x old)) (lowers s x (l ∷ []))
lower_next s x p l old next best o e q h k r =
    let n : IsScaled s (lower_of s x next) p next.num next.div = subst (λ (u : Lit). IsScaled s (lower_bound s x u) p next.num next.div) (sym q) k in
    let t = is_less (move_value s (lower_of s x old) p) (move_value s (lower_of s x next) p) in
    ap made
    (ap (lower_of s x) r ∙ chosen_of (lower_of s x) (is_less (value_with old.num (nat_abs old.div)) (value_with next.num (nat_abs next.div))) old next
    ∙ ap (λ (b : Bool). if b then lower_of s x next else lower_of s x old) (bounds_less s (lower_of s x old) (lower_of s x next) p old.num old.div next.num next.div o h n)
    ∙ ap (λ (u : Lit). if is_less (move_value s (lower_of s x old) p) (move_value s (lower_bound s x u) p) then lower_bound s x u else lower_of s x old) q)
    ∙ sym (ap (λ (ms : List Move). greatest_from s p (Some (lower_of s x old)) ms) (lower_one s x l e))

pub upper_next : (s : Sort) (x : ℕ) (p : Point) (l : Lit) (old next best : Bound) → 1 ≤ p.den → is_upper x l ≡ true → next.lit.now ≡ l → IsScaled s (upper_of x old) p old.num old.div → IsScaled s (upper_bound x l) p next.num next.div → best ≡ lesser_of old next → Some (upper_of x best) ≡ least_from s p (Some (upper_of x old)) (uppers x (l ∷ []))
upper_next s x p l old next best o e q h k r =
    let n : IsScaled s (upper_of x next) p next.num next.div = subst (λ (u : Lit). IsScaled s (upper_bound x u) p next.num next.div) (sym q) k in
    ap made
    (ap (upper_of x) r ∙ chosen_of (upper_of x) (is_less (value_with next.num (nat_abs next.div)) (value_with old.num (nat_abs old.div))) old next
    ∙ ap (λ (b : Bool). if b then upper_of x next else upper_of x old) (bounds_less s (upper_of x next) (upper_of x old) p next.num next.div old.num old.div o n h)
    ∙ ap (λ (u : Lit). if is_less (move_value s (upper_bound x u) p) (move_value s (upper_of x old) p) then upper_bound x u else upper_of x old) q)
    ∙ sym (ap (λ (ms : List Move). least_from s p (Some (upper_of x old)) ms) (upper_one x l e))

pub next_is_lower : (s : Sort) (x : ℕ) (p : Point) (old next best : Bound) → IsLowerBound s x p (Some old) → IsLowerBound s x p (Some next) → best ≡ greater_of old next → IsLowerBound s x p (Some best)
next_is_lower s x p old next best h k r =
    subst (λ (b : Bound). IsLowerBound s x p (Some b)) (sym r) (either_is (λ b. IsLowerBound s x p (Some b)) (is_less (value_with old.num (nat_abs old.div)) (value_with next.num (nat_abs next.div))) old next h k)

pub next_is_upper : (s : Sort) (x : ℕ) (p : Point) (old next best : Bound) → IsUpperBound s x p (Some old) → IsUpperBound s x p (Some next) → best ≡ lesser_of old next → IsUpperBound s x p (Some best)
next_is_upper s x p old next best h k r =
    subst (λ (b : Bound). IsUpperBound s x p (Some b)) (sym r) (either_is (λ b. IsUpperBound s x p (Some b)) (is_less (value_with next.num (nat_abs next.div)) (value_with old.num (nat_abs old.div))) old next h k)

-- a bound's literal in place of an equal one
pub lower_is_bound : (s : Sort) (x : ℕ) (p : Point) (l : Lit) (b : Bound) → is_lower x l ≡ true → b.lit.now ≡ l → IsScaled s (lower_bound s x l) p b.num b.div → IsLowerBound s x p (Some b)
lower_is_bound s x p l b e q h =
    (ap (is_lower x) q ∙ e, subst (λ (u : Lit). IsScaled s (lower_bound s x u) p b.num b.div) (sym q) h)

pub upper_is_bound : (s : Sort) (x : ℕ) (p : Point) (l : Lit) (b : Bound) → is_upper x l ≡ true → b.lit.now ≡ l → IsScaled s (upper_bound x l) p b.num b.div → IsUpperBound s x p (Some b)
upper_is_bound s x p l b e q h =
    (ap (is_upper x) q ∙ e, subst (λ (u : Lit). IsScaled s (upper_bound x u) p b.num b.div) (sym q) h)

pub some_upper : (s : Sort) (x : ℕ) (p : Point) (o : Option Bound) → IsUpperBound s x p o → IfSome o (λ b. is_upper x b.lit.now ≡ true)
some_upper s x p None h = tt
some_upper s x p (Some b) h = h.0
