-- The definition literals of a move hold exactly where its node has the move's value.
use Rattle.std.specs.Prelude.{ℕ, zero, suc, ◌*◌, ◌≤◌, ◌≡◌, ◌↔◌, ℤ, pos, negsuc, ◌+ℤ◌, ◌-ℤ◌, ◌*ℤ◌, ◌≤ℤ◌, ◌<ℤ◌, neg_ℤ, List, [], ◌∷◌, length}
use Rattle.std.proofs.Common.{arith, ap, ap₂, ◌∙◌, sym, subst, refl}
use Rattle.std.proofs.lemmas.Int.{ints}
use Rattle.std.proofs.lemmas.List.{get_or-map}
use Rattle.lin_term.specs.Form.{Form}
use Rattle.lin_term.specs.Linear.{Sort, Rat, Int, Point, Value, IsPoint, at, dot_terms, dot, Below, BelowTerms, rename_terms, rename, plus, times, constant_form, variable_form, floor_div}
use Rattle.lin_term.specs.Literal.{AtLeast, Holds}
use Rattle.lin_term.specs.Move.{Move, move_value}
use Rattle.lin_term.specs.Definition.{upper_form, lower_form, upper_literal, lower_literal, rename_move}
use Rattle.lin_term.specs.Fixing.{HasValue, at_names}
use Rattle.lin_term.proofs.Ring.{ring, cancel_right_ℤ, mul_assoc_ℤ, distrib_ℤ, nonneg_mul}
use Rattle.lin_term.proofs.Dots.{dot-plus, dot-times, dot-constant_form, dot-variable_form}
use Rattle.lin_term.proofs.PrimitiveLemmas.{floor_bounds, one_times, prim_to, prim_from}

-- ---- the values of the two forms

pub dot-upper : (n : Form) (d : ℤ) (v : ℕ) (q : Point) → dot (plus (times (neg_ℤ (pos 1)) n) (variable_form d v)) q ≡ d *ℤ at q.nums v +ℤ negsuc 0 *ℤ dot n q
dot-upper n d v q =
    let a = dot-plus (times (negsuc 0) n) (variable_form d v) q in
    let b = dot-variable_form d v q in
    let c = dot-times (negsuc 0) n q in
    omega (arith, ints)

pub dot-upper_whole : (n : Form) (d k : ℤ) (v : ℕ) (q : Point) → dot (plus (times (neg_ℤ (pos 1)) n) (plus (variable_form d v) (constant_form k))) q ≡ (d *ℤ at q.nums v +ℤ k *ℤ pos q.den) +ℤ negsuc 0 *ℤ dot n q
dot-upper_whole n d k v q =
    let a = dot-plus (times (negsuc 0) n) (plus (variable_form d v) (constant_form k)) q in
    let e = dot-plus (variable_form d v) (constant_form k) q in
    let b = dot-variable_form d v q in
    let c = dot-times (negsuc 0) n q in
    let f = dot-constant_form k q in
    omega (arith, ints)

minus_times : (d : ℕ) (a : ℤ) → neg_ℤ (pos d) *ℤ a ≡ negsuc 0 *ℤ (pos d *ℤ a)
minus_times d a =
    let e : neg_ℤ (pos d) ≡ negsuc 0 *ℤ pos d = omega (arith, ints) in
    ap (λ (k : ℤ). k *ℤ a) e ∙ mul_assoc_ℤ (negsuc 0) (pos d) a

pub dot-lower : (n : Form) (d v : ℕ) (q : Point) → dot (plus n (variable_form (neg_ℤ (pos d)) v)) q ≡ dot n q +ℤ negsuc 0 *ℤ (pos d *ℤ at q.nums v)
dot-lower n d v q =
    let a = dot-plus n (variable_form (neg_ℤ (pos d)) v) q in
    let b = dot-variable_form (neg_ℤ (pos d)) v q in
    let c = minus_times d (at q.nums v) in
    omega (arith, ints)

-- ---- the forms are not negative exactly at the value

over_ℤ : (a b c : ℤ) → a *ℤ (b *ℤ c) ≡ (b *ℤ a) *ℤ c
over_ℤ a b c = simp ring

-- x = r/d, both over one denominator
rat_value : (x d r q : ℤ) → pos 0 <ℤ q → x *ℤ (d *ℤ q) ≡ r *ℤ q → d *ℤ x ≡ r
rat_value x d r q h e = cancel_right_ℤ (d *ℤ x) r q h (sym (over_ℤ x d q) ∙ e)

value_rat : (x d r q : ℤ) → d *ℤ x ≡ r → x *ℤ (d *ℤ q) ≡ r *ℤ q
value_rat x d r q e = over_ℤ x d q ∙ ap (λ (z : ℤ). z *ℤ q) e

-- a multiple of d between -d and d
less_than_one : (d z : ℤ) → pos 0 <ℤ d → (d *ℤ z) <ℤ d → (pos 0 -ℤ d) <ℤ (d *ℤ z) → z ≡ pos 0
less_than_one d (pos zero) o h k = refl
less_than_one d (pos (suc n)) o h k =
    let m = nonneg_mul d (pos n) (omega (arith, ints)) (omega (arith, ints)) in
    let e = distrib_ℤ d (pos n) (pos 1) in
    let s : pos (suc n) ≡ pos n +ℤ pos 1 = omega (arith, ints) in
    let t = ap (λ (y : ℤ). d *ℤ y) s in
    absurd (omega (arith, ints))
less_than_one d (negsuc n) o h k =
    let m = nonneg_mul d (pos n) (omega (arith, ints)) (omega (arith, ints)) in
    let e = distrib_ℤ d (negsuc n) (pos n +ℤ pos 1) in
    let f = distrib_ℤ d (pos n) (pos 1) in
    let s : negsuc n +ℤ (pos n +ℤ pos 1) ≡ pos 0 = omega (arith, ints) in
    let t = ap (λ (y : ℤ). d *ℤ y) s in
    absurd (omega (arith, ints))

-- d*x <= r < d*x + d: x is r/d rounded down
floor_only : (x r : ℤ) (d : ℕ) → 1 ≤ d → (pos d *ℤ x) ≤ℤ r → r <ℤ (pos d *ℤ x +ℤ pos d) → x ≡ floor_div r d
floor_only x r d o h k =
    let b = floor_bounds r d o in
    let e = distrib_ℤ (pos d) (x -ℤ floor_div r d) (floor_div r d) in
    let s : (x -ℤ floor_div r d) +ℤ floor_div r d ≡ x = omega (arith, ints) in
    let t = ap (λ (y : ℤ). pos d *ℤ y) s in
    let z = less_than_one (pos d) (x -ℤ floor_div r d) (omega (arith, ints)) (omega (arith, ints)) (omega (arith, ints)) in
    omega (arith, ints)

-- the two literals hold at the value, and only there
forms_to : (s : Sort) (m : Move) (v : ℕ) (p : Point) → IsPoint s p → 1 ≤ m.div → HasValue p v (move_value s m p) → Holds (AtLeast (upper_form s m v)) p × Holds (AtLeast (lower_form m v)) p
forms_to Rat m v p i o h =
    let e = rat_value (at p.nums v) (pos m.div) (dot m.numer p) (pos p.den) (omega (arith, ints)) h in
    let u = dot-upper m.numer (pos m.div) v p in
    let l = dot-lower m.numer m.div v p in
    (omega (arith, ints), omega (arith, ints))
forms_to Int m v p i o h =
    let x = one_times (at p.nums v) 1 refl in
    let f = one_times (floor_div (dot m.numer p) m.div) p.den i in
    let same : at p.nums v ≡ floor_div (dot m.numer p) m.div = omega (arith, ints) in
    let t = ap (λ (y : ℤ). pos m.div *ℤ y) same in
    let b = floor_bounds (dot m.numer p) m.div o in
    let u = dot-upper_whole m.numer (pos m.div) (pos m.div -ℤ pos 1) v p in
    let k = one_times (pos m.div -ℤ pos 1) p.den i in
    let l = dot-lower m.numer m.div v p in
    (omega (arith, ints), omega (arith, ints))

forms_from : (s : Sort) (m : Move) (v : ℕ) (p : Point) → IsPoint s p → 1 ≤ m.div → Holds (AtLeast (upper_form s m v)) p → Holds (AtLeast (lower_form m v)) p → HasValue p v (move_value s m p)
forms_from Rat m v p i o h k =
    let u = dot-upper m.numer (pos m.div) v p in
    let l = dot-lower m.numer m.div v p in
    value_rat (at p.nums v) (pos m.div) (dot m.numer p) (pos p.den) (let e : pos m.div *ℤ at p.nums v ≡ dot m.numer p = omega (arith, ints) in e)
forms_from Int m v p i o h k =
    let u = dot-upper_whole m.numer (pos m.div) (pos m.div -ℤ pos 1) v p in
    let c = one_times (pos m.div -ℤ pos 1) p.den i in
    let l = dot-lower m.numer m.div v p in
    let same = floor_only (at p.nums v) (dot m.numer p) m.div o (omega (arith, ints)) (omega (arith, ints)) in
    one_times (at p.nums v) 1 refl ∙ same ∙ sym (one_times (floor_div (dot m.numer p) m.div) p.den i)

pub definition_fixes : (s : Sort) (m : Move) (v : ℕ) (p : Point) → IsPoint s p → 1 ≤ m.div → (Holds (upper_literal s m v) p × Holds (lower_literal s m v) p) ↔ HasValue p v (move_value s m p)
definition_fixes s m v p i o = (
  λ h. forms_from s m v p i o (prim_from s (AtLeast (upper_form s m v)) p i h.0) (prim_from s (AtLeast (lower_form m v)) p i h.1),
  λ h. let f = forms_to s m v p i o h in (prim_to s (AtLeast (upper_form s m v)) p i f.0, prim_to s (AtLeast (lower_form m v)) p i f.1),
)

-- ---- read at names

terms-at_names : (names : List ℕ) (p : Point) (ts : List (ℕ × ℤ)) → BelowTerms (length names) ts → dot_terms (rename_terms names ts) p.nums ≡ dot_terms ts (at_names names p).nums
terms-at_names names p [] b = refl
terms-at_names names p (t ∷ ts) b =
    ap₂ (λ (y z : ℤ). t.1 *ℤ y +ℤ z) (sym (get_or-map (λ (i : ℕ). at p.nums i) names t.0 0 (pos 0) b.0)) (terms-at_names names p ts b.1)

dot-at_names : (names : List ℕ) (p : Point) (f : Form) → Below (length names) f → dot (rename names f) p ≡ dot f (at_names names p)
dot-at_names names p f b = ap (λ (z : ℤ). z +ℤ f.constant *ℤ pos p.den) (terms-at_names names p f.terms b)

value-at_names : (s : Sort) (m : Move) (names : List ℕ) (p : Point) → Below (length names) m.numer → move_value s (rename_move names m) p ≡ move_value s m (at_names names p)
value-at_names Rat m names p b = ap (λ (z : ℤ). record { num = z; den = m.div * p.den }) (dot-at_names names p m.numer b)
value-at_names Int m names p b = ap (λ (z : ℤ). record { num = floor_div z m.div; den = 1 }) (dot-at_names names p m.numer b)

-- the literals at names hold exactly where the node has the value of the move at the names' values
pub names_fix : (s : Sort) (m : Move) (names : List ℕ) (v : ℕ) (p : Point) → IsPoint s p → 1 ≤ m.div → Below (length names) m.numer → (Holds (upper_literal s (rename_move names m) v) p × Holds (lower_literal s (rename_move names m) v) p) ↔ HasValue p v (move_value s m (at_names names p))
names_fix s m names v p i o b =
    subst (λ (x : Value). (Holds (upper_literal s (rename_move names m) v) p × Holds (lower_literal s (rename_move names m) v) p) ↔ HasValue p v x) (value-at_names s m names p b) (definition_fixes s (rename_move names m) v p i o)
