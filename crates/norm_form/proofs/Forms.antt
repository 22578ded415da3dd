-- Linear forms and the values that they give.
use Rattle.std.specs.Prelude.{ℕ, zero, suc, ◌*◌, ◌/◌, ◌%◌, ◌≡◌, ◌<◌, ◌≤◌, ℤ, pos, negsuc, ◌+ℤ◌, ◌*ℤ◌, neg_ℤ, nat_abs, ◌<ℤ◌, List, [], ◌∷◌, length}
use Prim.Native.Nat.{◌∣◌}
use Rattle.std.proofs.Common.{arith, ap, ap₂, ◌∙◌, sym, subst, refl, mul-le-mul}
use Rattle.std.proofs.lemmas.Int.{ints}
use Rattle.std.proofs.lemmas.Nat.Gcd.{dvd_trans, mod-eq-zero_of_dvd}
use lib.IntN.{*ℤ_comm}
use Rattle.lin_term.specs.declared.Sort.{Sort}
use Rattle.lin_term.specs.declared.Sort.TheVariants.{Rat, Int}
use Rattle.lin_term.specs.Linear.{Form, Point, Value, IsValue, IsPoint, at, dot, dot_terms, plus, times, constant_form, variable_form, Below, BelowTerms}
use Rattle.lin_term.specs.Literal.{gcd, gcd_terms, or_one, quotient}
use Rattle.lin_term.proofs.Ring.{ring, cancel_right_ℤ, mul_assoc_ℤ, distrib_right_ℤ}
use Rattle.lin_term.proofs.Dots.{dot-plus, dot-times, dot-constant_form}
use Rattle.lin_term.proofs.Holding.{one_den}
use Rattle.lin_term.proofs.PrimitiveLemmas.{gcd_is, gcd_divides, DividesTerms, dot-quotient, or_one_pos}
use Rattle.dom_core.proofs.Renaming.{plus_below, times_below, quotient_below}
use Rattle.norm_form.proofs.Growing.{Grows, HasValue}
use Rattle.lin_form.specs.Low.{as_lin}
use Rattle.lin_form.specs.Lin.{Lin, common, reduced, lin_constant, lin_variable, lin_plus, lin_scale, lin_neg, lin_minus}
use Rattle.lin_truth.specs.Value.{v_plus, v_neg, v_minus, v_times, IsSame}

-- x has the value v at p
pub record Gives (s : Sort) (x : Lin) (p : Point) (v : Value) : Type 0 where
  pub whole : 1 ≤ x.den
  pub below : Below (length p.nums) x.form
  pub is : dot x.form p *ℤ pos v.den ≡ v.num *ℤ pos (x.den * p.den)
  pub valued : IsValue s v

pub value_den : (s : Sort) (v : Value) → IsValue s v → 1 ≤ v.den
value_den Rat v h = h
value_den Int v h = omega arith

pub over_zero : (n : ℕ) → 1 ≤ n → pos 0 <ℤ pos n
over_zero n h = omega (arith, ints)

pub den_over : (s : Sort) (p : Point) → IsPoint s p → pos 0 <ℤ pos p.den
den_over s p h = let o = one_den s p h in omega (arith, ints)

-- ---- lowest terms

divides_less : (g h : ℕ) (ts : List (ℕ × ℤ)) → g ∣ h → DividesTerms h ts → DividesTerms g ts
divides_less g h [] d e = tt
divides_less g h (t ∷ ts) d e = (dvd_trans g d e.0, divides_less g h ts d e.1)

pub or_one_divides : (g n : ℕ) → 1 ≤ n → g ∣ n → (or_one g ≡ g)
or_one_divides zero n h d = let m = mod-eq-zero_of_dvd zero d in absurd (omega arith)
or_one_divides (suc g) n h d = refl

pub exact_quotient : (g n : ℕ) → 1 ≤ g → g ∣ n → g * (n / g) ≡ n
exact_quotient g n h d = let m : n % g ≡ 0 = mod-eq-zero_of_dvd g d in omega arith

pub quotient_pos : (g n m : ℕ) → g * m ≡ n → 1 ≤ n → 1 ≤ m
quotient_pos g n zero e h = absurd (omega arith)
quotient_pos g n (suc m) e h = omega arith

reduce_law : (g Q D vd vn d dn P : ℤ) → pos 0 <ℤ g → g *ℤ Q ≡ D → g *ℤ dn ≡ d → D *ℤ vd ≡ vn *ℤ (d *ℤ P) → Q *ℤ vd ≡ vn *ℤ (dn *ℤ P)
reduce_law g Q D vd vn d dn P h e f k =
    let l : (Q *ℤ vd) *ℤ g ≡ (g *ℤ Q) *ℤ vd = simp ring in
    let r : vn *ℤ ((g *ℤ dn) *ℤ P) ≡ (vn *ℤ (dn *ℤ P)) *ℤ g = simp ring in
    cancel_right_ℤ (Q *ℤ vd) (vn *ℤ (dn *ℤ P)) g h
    (l ∙ ap (λ (t : ℤ). t *ℤ vd) e ∙ k ∙ ap (λ (t : ℤ). vn *ℤ (t *ℤ P)) (sym f) ∙ r)

pub gives_reduced : (s : Sort) (x : Lin) (p : Point) (v : Value) → Gives s x p v → Gives s (reduced x) p v
gives_reduced s x p v h =
    let c = gcd (nat_abs x.form.constant) (gcd_terms x.form.terms) in
    let i = gcd_is (nat_abs x.form.constant) (gcd_terms x.form.terms) in
    let j = gcd_is x.den c in
    let g = gcd x.den c in
    let e : common x ≡ g = or_one_divides g x.den h.whole j.0 in
    let o : 1 ≤ common x = or_one_pos g in
    let dd : common x ∣ x.den = subst (λ (n : ℕ). n ∣ x.den) (sym e) j.0 in
    let dc : common x ∣ nat_abs x.form.constant = subst (λ (n : ℕ). n ∣ nat_abs x.form.constant) (sym e) (dvd_trans g j.1 i.0) in
    let dt : DividesTerms (common x) x.form.terms = subst (λ (n : ℕ). DividesTerms n x.form.terms) (sym e) (divides_less g (gcd_terms x.form.terms) x.form.terms (dvd_trans g j.1 i.1) (gcd_divides x.form.terms)) in
    let q = exact_quotient (common x) x.den o dd in
    let w = dot-quotient x.form (common x) p o dt dc in
    record {
      whole = quotient_pos (common x) x.den (x.den / common x) q h.whole;
      below = quotient_below (length p.nums) x.form.terms (common x) h.below;
      is = reduce_law (pos (common x)) (dot (quotient x.form (common x)) p) (dot x.form p) (pos v.den) v.num (pos x.den) (pos (x.den / common x)) (pos p.den) (over_zero (common x) o) w (ap pos q) h.is;
      valued = h.valued;
    }

-- ---- sums and multiples

plus_law : (X Y vn wn dx dy vd wd P : ℤ) → X *ℤ vd ≡ vn *ℤ (dx *ℤ P) → Y *ℤ wd ≡ wn *ℤ (dy *ℤ P) → (dy *ℤ X +ℤ dx *ℤ Y) *ℤ (vd *ℤ wd) ≡ (vn *ℤ wd +ℤ wn *ℤ vd) *ℤ ((dx *ℤ dy) *ℤ P)
plus_law X Y vn wn dx dy vd wd P e f =
    let l : (dy *ℤ X +ℤ dx *ℤ Y) *ℤ (vd *ℤ wd) ≡ (X *ℤ vd) *ℤ (dy *ℤ wd) +ℤ (Y *ℤ wd) *ℤ (dx *ℤ vd) = simp ring in
    let r : (vn *ℤ (dx *ℤ P)) *ℤ (dy *ℤ wd) +ℤ (wn *ℤ (dy *ℤ P)) *ℤ (dx *ℤ vd) ≡ (vn *ℤ wd +ℤ wn *ℤ vd) *ℤ ((dx *ℤ dy) *ℤ P) = simp ring in
    l ∙ ap₂ (λ (a b : ℤ). a *ℤ (dy *ℤ wd) +ℤ b *ℤ (dx *ℤ vd)) e f ∙ r

pub v_plus_is : (s : Sort) (v w : Value) → IsValue s v → IsValue s w → IsValue s (v_plus v w)
v_plus_is Rat v w a b = mul-le-mul a b
v_plus_is Int v w a b = ap (λ (n : ℕ). n * w.den) a ∙ ap (λ (n : ℕ). 1 * n) b

pub gives_plus : (s : Sort) (x y : Lin) (p : Point) (v w : Value) → Gives s x p v → Gives s y p w → Gives s (lin_plus x y) p (v_plus v w)
gives_plus s x y p v w a b =
    gives_reduced s (record { form = plus (times (pos y.den) x.form) (times (pos x.den) y.form); den = x.den * y.den }) p (v_plus v w)
    (record {
      whole = mul-le-mul a.whole b.whole;
      below = plus_below (length p.nums) (times (pos y.den) x.form).terms (times (pos x.den) y.form).terms (times_below (length p.nums) (pos y.den) x.form.terms a.below) (times_below (length p.nums) (pos x.den) y.form.terms b.below);
      is = ap (λ (t : ℤ). t *ℤ pos (v.den * w.den)) (dot-plus (times (pos y.den) x.form) (times (pos x.den) y.form) p ∙ ap₂ (λ (i j : ℤ). i +ℤ j) (dot-times (pos y.den) x.form p) (dot-times (pos x.den) y.form p)) ∙ plus_law (dot x.form p) (dot y.form p) v.num w.num (pos x.den) (pos y.den) (pos v.den) (pos w.den) (pos p.den) a.is b.is;
      valued = v_plus_is s v w a.valued b.valued;
    })

scale_law : (X vn dx vd wn wd n d P : ℤ) → pos 0 <ℤ vd → X *ℤ vd ≡ vn *ℤ (dx *ℤ P) → wn *ℤ (d *ℤ vd) ≡ (n *ℤ vn) *ℤ wd → (n *ℤ X) *ℤ wd ≡ wn *ℤ ((d *ℤ dx) *ℤ P)
scale_law X vn dx vd wn wd n d P h e f =
    let l : ((n *ℤ X) *ℤ wd) *ℤ vd ≡ (X *ℤ vd) *ℤ (n *ℤ wd) = simp ring in
    let m : (vn *ℤ (dx *ℤ P)) *ℤ (n *ℤ wd) ≡ ((n *ℤ vn) *ℤ wd) *ℤ (dx *ℤ P) = simp ring in
    let r : (wn *ℤ (d *ℤ vd)) *ℤ (dx *ℤ P) ≡ (wn *ℤ ((d *ℤ dx) *ℤ P)) *ℤ vd = simp ring in
    cancel_right_ℤ ((n *ℤ X) *ℤ wd) (wn *ℤ ((d *ℤ dx) *ℤ P)) vd h
    (l ∙ ap (λ (t : ℤ). t *ℤ (n *ℤ wd)) e ∙ m ∙ ap (λ (t : ℤ). t *ℤ (dx *ℤ P)) (sym f) ∙ r)

-- w is n/d times v
pub gives_scale : (s : Sort) (n : ℤ) (d : ℕ) (x : Lin) (p : Point) (v w : Value) → 1 ≤ d → IsValue s w → w.num *ℤ pos (d * v.den) ≡ (n *ℤ v.num) *ℤ pos w.den → Gives s x p v → Gives s (lin_scale n d x) p w
gives_scale s n d x p v w o i e a =
    gives_reduced s (record { form = times n x.form; den = d * x.den }) p w
    (record {
      whole = mul-le-mul o a.whole;
      below = times_below (length p.nums) n x.form.terms a.below;
      is = ap (λ (t : ℤ). t *ℤ pos w.den) (dot-times n x.form p) ∙ scale_law (dot x.form p) v.num (pos x.den) (pos v.den) w.num (pos w.den) n (pos d) (pos p.den) (over_zero v.den (value_den s v a.valued)) a.is e;
      valued = i;
    })

neg_law : (vn vd : ℤ) → neg_ℤ vn *ℤ (pos 1 *ℤ vd) ≡ (negsuc 0 *ℤ vn) *ℤ vd
neg_law vn vd =
    let a : negsuc 0 *ℤ vn ≡ neg_ℤ vn = omega (arith, ints) in
    let b : pos 1 *ℤ vd ≡ vd = omega (arith, ints) in
    ap (λ (t : ℤ). neg_ℤ vn *ℤ t) b ∙ ap (λ (t : ℤ). t *ℤ vd) (sym a)

pub v_neg_is : (s : Sort) (v : Value) → IsValue s v → IsValue s (v_neg v)
v_neg_is Rat v h = h
v_neg_is Int v h = h

pub gives_neg : (s : Sort) (x : Lin) (p : Point) (v : Value) → Gives s x p v → Gives s (lin_neg x) p (v_neg v)
gives_neg s x p v a =
    gives_scale s (negsuc 0) 1 x p v (v_neg v) (omega arith) (v_neg_is s v a.valued) (neg_law v.num (pos v.den)) a

minus_law : (X Y vn wn dx dy vd wd P : ℤ) → X *ℤ vd ≡ vn *ℤ (dx *ℤ P) → Y *ℤ wd ≡ wn *ℤ (dy *ℤ P) → (dy *ℤ X +ℤ neg_ℤ dx *ℤ Y) *ℤ (vd *ℤ wd) ≡ (vn *ℤ wd +ℤ neg_ℤ wn *ℤ vd) *ℤ ((dx *ℤ dy) *ℤ P)
minus_law X Y vn wn dx dy vd wd P e f =
    let a : neg_ℤ dx *ℤ Y ≡ dx *ℤ neg_ℤ Y = simp ring in
    let b : neg_ℤ Y *ℤ wd ≡ neg_ℤ (Y *ℤ wd) = simp ring in
    let c : neg_ℤ (wn *ℤ (dy *ℤ P)) ≡ neg_ℤ wn *ℤ (dy *ℤ P) = simp ring in
    ap (λ (t : ℤ). (dy *ℤ X +ℤ t) *ℤ (vd *ℤ wd)) a ∙ plus_law X (neg_ℤ Y) vn (neg_ℤ wn) dx dy vd wd P e (b ∙ ap (λ (t : ℤ). neg_ℤ t) f ∙ c)

pub gives_minus : (s : Sort) (x y : Lin) (p : Point) (v w : Value) → Gives s x p v → Gives s y p w → Gives s (lin_minus x y) p (v_minus v w)
gives_minus s x y p v w a b =
    gives_reduced s (record { form = plus (times (pos y.den) x.form) (times (neg_ℤ (pos x.den)) y.form); den = x.den * y.den }) p (v_minus v w)
    (record {
      whole = mul-le-mul a.whole b.whole;
      below = plus_below (length p.nums) (times (pos y.den) x.form).terms (times (neg_ℤ (pos x.den)) y.form).terms (times_below (length p.nums) (pos y.den) x.form.terms a.below) (times_below (length p.nums) (neg_ℤ (pos x.den)) y.form.terms b.below);
      is = ap (λ (t : ℤ). t *ℤ pos (v.den * w.den)) (dot-plus (times (pos y.den) x.form) (times (neg_ℤ (pos x.den)) y.form) p ∙ ap₂ (λ (i j : ℤ). i +ℤ j) (dot-times (pos y.den) x.form p) (dot-times (neg_ℤ (pos x.den)) y.form p)) ∙ minus_law (dot x.form p) (dot y.form p) v.num w.num (pos x.den) (pos y.den) (pos v.den) (pos w.den) (pos p.den) a.is b.is;
      valued = v_plus_is s v (v_neg w) a.valued (v_neg_is s w b.valued);
    })

pub gives_constant : (s : Sort) (p : Point) (v : Value) → IsValue s v → Gives s (lin_constant v) p v
gives_constant s p v h =
    gives_reduced s (record { form = constant_form v.num; den = v.den }) p v
    (record {
      whole = value_den s v h;
      below = tt;
      is = let c = dot-constant_form v.num p in
          ap (λ (t : ℤ). t *ℤ pos v.den) c ∙ (let e : (v.num *ℤ pos p.den) *ℤ pos v.den ≡ v.num *ℤ (pos v.den *ℤ pos p.den) = simp ring in e);
      valued = h;
    })

value_law : (c w cd d P : ℤ) → c *ℤ cd ≡ w *ℤ d → (c *ℤ P) *ℤ cd ≡ w *ℤ (d *ℤ P)
value_law c w cd d P e =
    let l : (c *ℤ P) *ℤ cd ≡ (c *ℤ cd) *ℤ P = simp ring in
    let r : (w *ℤ d) *ℤ P ≡ w *ℤ (d *ℤ P) = simp ring in
    l ∙ ap (λ (t : ℤ). t *ℤ P) e ∙ r

-- a value as it stands has each value that it equals
pub gives_value : (s : Sort) (p : Point) (v w : Value) → IsValue s v → IsValue s w → IsSame v w → Gives s (as_lin v) p w
gives_value s p v w h i e = record {
  whole = value_den s v h;
  below = tt;
  is = ap (λ (t : ℤ). t *ℤ pos w.den) (dot-constant_form v.num p) ∙ value_law v.num w.num (pos w.den) (pos v.den) (pos p.den) e;
  valued = i;
}

same_law : (X vn dx vd wn wd P : ℤ) → pos 0 <ℤ vd → X *ℤ vd ≡ vn *ℤ (dx *ℤ P) → vn *ℤ wd ≡ wn *ℤ vd → X *ℤ wd ≡ wn *ℤ (dx *ℤ P)
same_law X vn dx vd wn wd P h e f =
    let l : (X *ℤ wd) *ℤ vd ≡ (X *ℤ vd) *ℤ wd = simp ring in
    let m : (vn *ℤ (dx *ℤ P)) *ℤ wd ≡ (vn *ℤ wd) *ℤ (dx *ℤ P) = simp ring in
    let r : (wn *ℤ vd) *ℤ (dx *ℤ P) ≡ (wn *ℤ (dx *ℤ P)) *ℤ vd = simp ring in
    cancel_right_ℤ (X *ℤ wd) (wn *ℤ (dx *ℤ P)) vd h (l ∙ ap (λ (t : ℤ). t *ℤ wd) e ∙ m ∙ ap (λ (t : ℤ). t *ℤ (dx *ℤ P)) f ∙ r)

-- an equal value
pub gives_same : (s : Sort) (x : Lin) (p : Point) (v w : Value) → IsValue s w → IsSame v w → Gives s x p v → Gives s x p w
gives_same s x p v w i e a = record {
  whole = a.whole;
  below = a.below;
  is = same_law (dot x.form p) v.num (pos x.den) (pos v.den) w.num (pos w.den) (pos p.den) (over_zero v.den (value_den s v a.valued)) a.is e;
  valued = i;
}

pub gives_variable : (s : Sort) (p : Point) (i : ℕ) (v : Value) → IsValue s v → i < length p.nums → HasValue p i v → Gives s (lin_variable i) p v
gives_variable s p i v h l e =
    let d : dot (variable_form (pos 1) i) p ≡ at p.nums i = omega (arith, ints) in
    record {
      whole = omega arith;
      below = (l, tt);
      is = ap (λ (t : ℤ). t *ℤ pos v.den) d ∙ e ∙ ap (λ (t : ℤ). v.num *ℤ t) (let o : pos p.den ≡ pos 1 *ℤ pos p.den = omega (arith, ints) in o);
      valued = h;
    }

-- ---- growth

dot_terms_grows : (p q : Point) → Grows p q → (ts : List (ℕ × ℤ)) → BelowTerms (length p.nums) ts → dot_terms ts p.nums *ℤ pos q.den ≡ dot_terms ts q.nums *ℤ pos p.den
dot_terms_grows p q g [] b = omega (arith, ints)
dot_terms_grows p q g (t ∷ ts) b =
    let h = dot_terms_grows p q g ts b.1 in
    let e = ap (λ (x : ℤ). t.1 *ℤ x) (g.kept t.0 b.0) in
    let d = distrib_right_ℤ (t.1 *ℤ at p.nums t.0) (dot_terms ts p.nums) (pos q.den) in
    let d' = distrib_right_ℤ (t.1 *ℤ at q.nums t.0) (dot_terms ts q.nums) (pos p.den) in
    let m = mul_assoc_ℤ t.1 (at p.nums t.0) (pos q.den) in
    let m' = mul_assoc_ℤ t.1 (at q.nums t.0) (pos p.den) in
    omega (arith, ints)

dot_grows : (p q : Point) → Grows p q → (f : Form) → Below (length p.nums) f → dot f p *ℤ pos q.den ≡ dot f q *ℤ pos p.den
dot_grows p q g f b =
    let h = dot_terms_grows p q g f.terms b in
    let d = distrib_right_ℤ (dot_terms f.terms p.nums) (f.constant *ℤ pos p.den) (pos q.den) in
    let d' = distrib_right_ℤ (dot_terms f.terms q.nums) (f.constant *ℤ pos q.den) (pos p.den) in
    let m = mul_assoc_ℤ f.constant (pos p.den) (pos q.den) in
    let m' = mul_assoc_ℤ f.constant (pos q.den) (pos p.den) in
    let c = ap (λ (x : ℤ). f.constant *ℤ x) (*ℤ_comm (pos p.den) (pos q.den)) in
    omega (arith, ints)

grow_law : (D E vd vn dx P Q : ℤ) → pos 0 <ℤ P → D *ℤ Q ≡ E *ℤ P → D *ℤ vd ≡ vn *ℤ (dx *ℤ P) → E *ℤ vd ≡ vn *ℤ (dx *ℤ Q)
grow_law D E vd vn dx P Q h e f =
    let l : (E *ℤ vd) *ℤ P ≡ (E *ℤ P) *ℤ vd = simp ring in
    let m : (D *ℤ Q) *ℤ vd ≡ (D *ℤ vd) *ℤ Q = simp ring in
    let r : (vn *ℤ (dx *ℤ P)) *ℤ Q ≡ (vn *ℤ (dx *ℤ Q)) *ℤ P = simp ring in
    cancel_right_ℤ (E *ℤ vd) (vn *ℤ (dx *ℤ Q)) P h (l ∙ ap (λ (t : ℤ). t *ℤ vd) (sym e) ∙ m ∙ ap (λ (t : ℤ). t *ℤ Q) f ∙ r)

pub below_more_terms : (n m : ℕ) (ts : List (ℕ × ℤ)) → n ≤ m → BelowTerms n ts → BelowTerms m ts
below_more_terms n m [] h b = tt
below_more_terms n m (t ∷ ts) h b = (omega arith, below_more_terms n m ts h b.1)

pub gives_grows : (s : Sort) (x : Lin) (p q : Point) (v : Value) → IsPoint s p → Grows p q → Gives s x p v → Gives s x q v
gives_grows s x p q v i g a = record {
  whole = a.whole;
  below = below_more_terms (length p.nums) (length q.nums) x.form.terms g.longer a.below;
  is = grow_law (dot x.form p) (dot x.form q) (pos v.den) v.num (pos x.den) (pos p.den) (pos q.den) (den_over s p i) (dot_grows p q g x.form a.below) a.is;
  valued = a.valued;
}

-- ---- products with a constant

constant_law : (c vd vn dx P : ℤ) → pos 0 <ℤ P → (c *ℤ P) *ℤ vd ≡ vn *ℤ (dx *ℤ P) → c *ℤ vd ≡ vn *ℤ dx
constant_law c vd vn dx P h e =
    let l : (c *ℤ vd) *ℤ P ≡ (c *ℤ P) *ℤ vd = simp ring in
    let r : vn *ℤ (dx *ℤ P) ≡ (vn *ℤ dx) *ℤ P = simp ring in
    cancel_right_ℤ (c *ℤ vd) (vn *ℤ dx) P h (l ∙ e ∙ r)

-- the value of a form without variables
pub constant_part : (s : Sort) (x : Lin) (p : Point) (v : Value) → IsPoint s p → Gives s x p v → x.form.terms ≡ [] → x.form.constant *ℤ pos v.den ≡ v.num *ℤ pos x.den
constant_part s x p v i a e =
    let z : dot_terms x.form.terms p.nums ≡ pos 0 = ap (λ (ts : List (ℕ × ℤ)). dot_terms ts p.nums) e in
    let d : dot x.form p ≡ x.form.constant *ℤ pos p.den = omega (arith, ints) in
    constant_law x.form.constant (pos v.den) v.num (pos x.den) (pos p.den) (den_over s p i) (ap (λ (t : ℤ). t *ℤ pos v.den) (sym d) ∙ a.is)

times_law : (c vd vn dx un ud : ℤ) → c *ℤ vd ≡ vn *ℤ dx → (vn *ℤ un) *ℤ (dx *ℤ ud) ≡ (c *ℤ un) *ℤ (vd *ℤ ud)
times_law c vd vn dx un ud e =
    let l : (vn *ℤ un) *ℤ (dx *ℤ ud) ≡ (vn *ℤ dx) *ℤ (un *ℤ ud) = simp ring in
    let r : (c *ℤ vd) *ℤ (un *ℤ ud) ≡ (c *ℤ un) *ℤ (vd *ℤ ud) = simp ring in
    l ∙ ap (λ (t : ℤ). t *ℤ (un *ℤ ud)) (sym e) ∙ r

times_law' : (c vd vn dx un ud : ℤ) → c *ℤ vd ≡ vn *ℤ dx → (un *ℤ vn) *ℤ (dx *ℤ ud) ≡ (c *ℤ un) *ℤ (ud *ℤ vd)
times_law' c vd vn dx un ud e =
    let l : (un *ℤ vn) *ℤ (dx *ℤ ud) ≡ (vn *ℤ dx) *ℤ (un *ℤ ud) = simp ring in
    let r : (c *ℤ vd) *ℤ (un *ℤ ud) ≡ (c *ℤ un) *ℤ (ud *ℤ vd) = simp ring in
    l ∙ ap (λ (t : ℤ). t *ℤ (un *ℤ ud)) (sym e) ∙ r

pub v_times_is : (s : Sort) (v w : Value) → IsValue s v → IsValue s w → IsValue s (v_times v w)
v_times_is Rat v w a b = mul-le-mul a b
v_times_is Int v w a b = ap (λ (n : ℕ). n * w.den) a ∙ ap (λ (n : ℕ). 1 * n) b

-- the left or the right factor has no variables
pub times_left : (s : Sort) (x y : Lin) (p : Point) (v w : Value) → IsPoint s p → Gives s x p v → Gives s y p w → x.form.terms ≡ [] → Gives s (lin_scale x.form.constant x.den y) p (v_times v w)
times_left s x y p v w i a b e =
    gives_scale s x.form.constant x.den y p w (v_times v w) a.whole (v_times_is s v w a.valued b.valued) (times_law x.form.constant (pos v.den) v.num (pos x.den) w.num (pos w.den) (constant_part s x p v i a e)) b

pub times_right : (s : Sort) (x y : Lin) (p : Point) (v w : Value) → IsPoint s p → Gives s x p v → Gives s y p w → y.form.terms ≡ [] → Gives s (lin_scale y.form.constant y.den x) p (v_times v w)
times_right s x y p v w i a b e =
    gives_scale s y.form.constant y.den x p v (v_times v w) b.whole (v_times_is s v w a.valued b.valued) (times_law' y.form.constant (pos w.den) w.num (pos y.den) v.num (pos v.den) (constant_part s y p w i b e)) a
