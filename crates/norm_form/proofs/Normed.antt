-- The normal form of a goal has the goal's truth.
use Rattle.std.specs.Prelude.{ℕ, ◌*◌, ◌/◌, ◌%◌, ◌≡◌, ◌≤◌, ◌⊎◌, ℤ, pos, negsuc, ◌+ℤ◌, ◌*ℤ◌, neg_ℤ, nat_abs, ◌≤ℤ◌, List, [], ◌∷◌, map, ⊤, Bool, true, false, not, ◌&&◌}
use Rattle.std.proofs.Common.{arith, ap, ap₂, ◌∙◌, sym, subst, refl, inl, inr, mul-le-mul}
use Rattle.std.proofs.lemmas.Int.{ints, unsigned_abs-mul}
use Rattle.std.proofs.Math.Nat.{mul-mod_left, mul-mod_right}
use Rattle.lin_term.specs.declared.Sort.{Sort}
use Rattle.lin_term.specs.declared.Sort.TheVariants.{Rat, Int}
use Rattle.lin_term.specs.declared.Lit.TheVariants.{AtLeast, Divides}
use Rattle.lin_term.specs.Linear.{Form, Point, Value, IsPoint, at, dot, plus, constant_form}
use Rattle.lin_term.specs.Literal.{Holds}
use Rattle.lin_term.proofs.Ring.{cancel_right_ℤ}
use Rattle.lin_term.proofs.Dots.{dot-plus, dot-constant_form, dot-variable_form}
use Rattle.norm_form.proofs.Growing.{grows_refl, grows_trans}
use Rattle.norm_form.specs.Normal.{Normal, Normals, no_part, part, TrueN, AllTrue, AllFalse}
use Rattle.lin_truth.specs.Term.{Term, Terms, no_term, term_and, yes, no, amount, variable, negative, absolute, negated, divisible, minus, quotient_of, div_of, mod_of, less, at_most, greater, at_least, equal, xor_of, implies, ite, plus_of, times_of, and_of, or_of, forall_of, exists_of}
use Rattle.lin_truth.specs.Truth.{Datum, Same, Either, EachTrue, NoneTrue, ValueIs, SumIs, ProductIs}
use Rattle.lin_truth.specs.Value.{Yes, v_times, zero_value, one_value}
use Rattle.lin_truth.specs.Formed.{AreFormulas, AreNumbers, OneFree}
use Rattle.lin_truth.specs.Constant.{is_constant, are_constant, constant_value}
use Rattle.lin_form.specs.Low.{as_lin, low, low_sum, low_product}
use Rattle.lin_form.specs.Lin.{Lin, lin_variable, lin_neg, lin_scale, scaled_by, lin_times}
use Rattle.lin_form.specs.declared.Bound.{Bound}
use Rattle.lin_form.specs.Scope.{bound_sort, level_at}
use Rattle.norm_form.specs.Norm.{norms, lin, lin_sum, lin_product, lin_of, signed, each_one, some_one, abs_form}
use Rattle.norm_form.proofs.Forms.{Gives, over_zero, gives_grows, gives_value, times_left, times_right}
use Rattle.norm_form.proofs.Leaves.{Sign, same_refl, same_trans, same_sign, stable_normal, closed_same, closed_not, signed_same}
use Rattle.norm_form.proofs.Here.{Here, here_grows, boolean_here}
use Rattle.norm_form.proofs.Cases.{stable_by, NormOk, Kont, LinOk, true_stable}
use Rattle.norm_form.proofs.Numbers.{gives_low, both, const_same, const_kont, lin_of_same, one_is}
use Rattle.norm_form.proofs.Division.{div_ok, mod_ok, times_one}
use Rattle.norm_form.proofs.Numbers.{gives_low, amount_ok, variable_ok, negative_ok, minus_ok, lin_ite_ok, absolute_ok, quotient_ok, sum_ok}
use Rattle.norm_form.proofs.Cases.{not_ok, less_ok, at_most_ok, greater_ok, at_least_ok, equal_ok, xor_ok, implies_ok, ite_ok, forall_ok, exists_ok}

-- ---- products

lin_of_yes : (b : Bool) (x : Lin) (d : ℕ) (k : ℕ → Lin → Normal) (n : Normal) → Yes b → lin_of b x d k n ≡ k d x
lin_of_yes true x d k n y = refl
lin_of_yes false x d k n y = absurd y

abbrev IsCons : List (ℕ × ℤ) → Type 0
IsCons [] = ⊥
IsCons (t ∷ ts) = ⊤

cons_not_nil : (u : ℕ × ℤ) (us : List (ℕ × ℤ)) → u ∷ us ≡ [] → ⊥
cons_not_nil u us e = subst IsCons e tt

-- a constant term is handed on as its value
const_lin : (t : Term) (s : Sort) (ctx : List Bound) (d : ℕ) (k : ℕ → Lin → Normal) → Yes (is_constant t) → lin t s ctx d k ≡ k d (as_lin (low t))
const_lin (amount v) s ctx d k y = refl
const_lin (negative t) s ctx d k y = lin_of_yes (is_constant t) (as_lin (low (negative t))) d k (lin t s ctx d (λ e x. k e (lin_neg x))) y
const_lin (absolute t) s ctx d k y = lin_of_yes (is_constant t) (as_lin (low (absolute t))) d k (lin t s ctx d (λ e x. abs_form s x (k e x) (k e (lin_neg x)))) y
const_lin (minus a b) s ctx d k y = lin_of_yes (is_constant a && is_constant b) (as_lin (low (minus a b))) d k _ y
const_lin (quotient_of a b) s ctx d k y = lin_of_yes (is_constant a && is_constant b) (as_lin (low (quotient_of a b))) d k _ y
const_lin (div_of a b) s ctx d k y = lin_of_yes (is_constant a && is_constant b) (as_lin (low (div_of a b))) d k _ y
const_lin (mod_of a b) s ctx d k y = lin_of_yes (is_constant a && is_constant b) (as_lin (low (mod_of a b))) d k _ y
const_lin (plus_of ts) s ctx d k y = lin_of_yes (are_constant ts) (as_lin (low (plus_of ts))) d k _ y
const_lin (times_of ts) s ctx d k y = lin_of_yes (are_constant ts) (as_lin (low (times_of ts))) d k _ y
const_lin t s ctx d k y = absurd y

-- no variables in one of the two
times_by : (us : List (ℕ × ℤ)) (s : Sort) (x y : Lin) (p : Point) (v w : Value) → IsPoint s p → Gives s x p v → Gives s y p w → x.form.terms ≡ us → (x.form.terms ≡ []) ⊎ (y.form.terms ≡ []) → Gives s (scaled_by us x y) p (v_times v w)
times_by [] s x y p v w i a b e o = times_left s x y p v w i a b e
times_by (u ∷ us) s x y p v w i a b e (inr z) = times_right s x y p v w i a b z
times_by (u ∷ us) s x y p v w i a b e (inl z) = absurd (cons_not_nil u us (sym e ∙ z))

gives_times : (s : Sort) (x y : Lin) (p : Point) (v w : Value) → IsPoint s p → Gives s x p v → Gives s y p w → (x.form.terms ≡ []) ⊎ (y.form.terms ≡ []) → Gives s (lin_times x y) p (v_times v w)
gives_times s x y p v w i a b o = times_by x.form.terms s x y p v w i a b refl o

-- the product so far is constant, or the rest is
abbrev Free : Lin → Terms → Type 0
Free x ts = ((x.form.terms ≡ []) × OneFree ts) ⊎ Yes (are_constant ts)

abbrev pub AllLin : Sort → Terms → Type 1
AllLin s no_term = Unit {1}
AllLin s (term_and t ts) = LinOk s t × AllLin s ts

scale_nil : (n : ℤ) (d : ℕ) (y : Lin) → y.form.terms ≡ [] → (lin_scale n d y).form.terms ≡ []
scale_nil n d y e = ap (λ (ts : List (ℕ × ℤ)). (lin_scale n d (record { form = record { terms = ts; constant = y.form.constant }; den = y.den })).form.terms) e

scaled_nil : (us : List (ℕ × ℤ)) (x y : Lin) → x.form.terms ≡ [] → y.form.terms ≡ [] → (scaled_by us x y).form.terms ≡ []
scaled_nil [] x y e f = scale_nil x.form.constant x.den y f
scaled_nil (u ∷ us) x y e f = scale_nil y.form.constant y.den x e

pub by_yes : (b : Bool) {P : Type 0} → (Yes b → P) → (Yes (not b) → P) → P
by_yes true {P} f g = f tt
by_yes false {P} f g = g tt

either_yes : (b : Bool) (A B : Type 0) → Yes b → Either b A B → A
either_yes true A B y e = e
either_yes false A B y e = absurd y

either_no : (b : Bool) (A B : Type 0) → Yes (not b) → Either b A B → B
either_no true A B y e = absurd y
either_no false A B y e = e

yes_no : (b : Bool) → Yes b → Yes (not b) → ⊥
yes_no true y z = z
yes_no false y z = y

free_const : (x : Lin) (t : Term) (ts : Terms) → Yes (is_constant t) → Free x (term_and t ts) → Free (lin_times x (as_lin (low t))) ts
free_const x t ts y (inl f) =
    inl (scaled_nil x.form.terms x (as_lin (low t)) f.0 refl, either_yes (is_constant t) (OneFree ts) (Yes (are_constant ts)) y f.1)
free_const x t ts y (inr f) = inr (both (is_constant t) (are_constant ts) f).1

free_last : (x : Lin) (t : Term) (ts : Terms) → Yes (not (is_constant t)) → Free x (term_and t ts) → (x.form.terms ≡ []) × Yes (are_constant ts)
free_last x t ts y (inl f) = (f.0, either_no (is_constant t) (OneFree ts) (Yes (are_constant ts)) y f.1)
free_last x t ts y (inr f) = absurd (yes_no (is_constant t) (both (is_constant t) (are_constant ts) f).0 y)

product_ok : (ts : Terms) (s : Sort) → AllLin s ts → (q : Bool) (env : List Datum) (ctx : List Bound) (p : Point) (d : ℕ) (K : Value → Type 0) (k : ℕ → Lin → Normal) → AreNumbers ts s (map bound_sort ctx) → Here s env ctx p d → Kont s q K k p → (x : Lin) (v : Value) → Gives s x p v → Free x ts → Same (Sign q (ProductIs ts s env v K)) (TrueN (lin_product ts s ctx d x k) s p)
product_ok no_term s o q env ctx p d K k n h c x v a f = c p d (grows_refl p) h.point h.count x v a
product_ok (term_and t ts) s o q env ctx p d K k n h c x v a f =
    by_yes (is_constant t)
    (λ y.
    let z = constant_value t in
    let r = product_ok ts s o.1 q env ctx p d K k n.1 h c (lin_times x (as_lin (low t))) (v_times v z)
    (gives_times s x (as_lin (low t)) p v z h.point a (gives_low t s (map bound_sort ctx) p n.0 y) (inr refl)) (free_const x t ts y f) in
    same_trans (same_sign q (const_same t s env (λ w. ProductIs ts s env (v_times v w) K) y))
    (subst (λ (m : Normal). Same (Sign q (ProductIs ts s env (v_times v z) K)) (TrueN m s p)) (sym (const_lin t s ctx d (λ e w. lin_product ts s ctx e (lin_times x w) k) y)) r))
    (λ y.
    let l = free_last x t ts y f in
    o.0 q env ctx p d (λ w. ProductIs ts s env (v_times v w) K) (λ e w. lin_product ts s ctx e (lin_times x w) k) n.0 h
    (λ r e g i le w u b.
    product_ok ts s o.1 q env ctx r e K k n.1 (here_grows s env ctx p r d e h g i le) (λ r2 e2 g2. c r2 e2 (grows_trans s p r r2 i g g2)) (lin_times x w) (v_times v u)
    (gives_times s x w r v u i (gives_grows s x p r v h.point g a) b (inl l.0)) (inr l.1)))

sums_ok : (ts : Terms) (s : Sort) → AllLin s ts → (q : Bool) (env : List Datum) (ctx : List Bound) (p : Point) (d : ℕ) (K : Value → Type 0) (k : ℕ → Lin → Normal) → AreNumbers ts s (map bound_sort ctx) → Here s env ctx p d → Kont s q K k p → (x : Lin) (v : Value) → Gives s x p v → Same (Sign q (SumIs ts s env v K)) (TrueN (lin_sum ts s ctx d x k) s p)
sums_ok no_term s o q env ctx p d K k n h c x v a = c p d (grows_refl p) h.point h.count x v a
sums_ok (term_and t ts) s o q env ctx p d K k n h c x v a =
    sum_ok s t ts o.0 q env ctx p d K k n.0 h c x v a
    (λ r e g i le y w b. sums_ok ts s o.1 q env ctx r e K k n.1 (here_grows s env ctx p r d e h g i le) (λ r2 e2 g2. c r2 e2 (grows_trans s p r r2 i g g2)) y w b)

plus_ok : (s : Sort) (ts : Terms) → AllLin s ts → LinOk s (plus_of ts)
plus_ok s ts o q env ctx p d K k n h c =
    lin_of_same (are_constant ts) q (ValueIs (plus_of ts) s env K) (as_lin (low_sum ts zero_value)) d k (lin_sum ts s ctx d (as_lin zero_value) k) s p
    (const_kont (plus_of ts) s q env ctx p d K k n h c)
    (sums_ok ts s o q env ctx p d K k n h c (as_lin zero_value) zero_value (gives_value s p zero_value zero_value (one_is s (pos 0)) (one_is s (pos 0)) refl))

times_ok : (s : Sort) (ts : Terms) → AllLin s ts → LinOk s (times_of ts)
times_ok s ts o q env ctx p d K k n h c =
    lin_of_same (are_constant ts) q (ValueIs (times_of ts) s env K) (as_lin (low_product ts one_value)) d k (lin_product ts s ctx d (as_lin one_value) k) s p
    (const_kont (times_of ts) s q env ctx p d K k n h c)
    (product_ok ts s o q env ctx p d K k n.0 h c (as_lin one_value) one_value (gives_value s p one_value one_value (one_is s (pos 1)) (one_is s (pos 1)) refl) (inl (refl, n.1)))

-- ---- divisibility

scale_mod : (a m d : ℕ) → 1 ≤ m → 1 ≤ d → Same (a % m ≡ 0) ((a * d) % (m * d) ≡ 0)
scale_mod a m d h k = (
  λ e.
      let x : a ≡ (a / m) * m = omega arith in
      let y : a * d ≡ (a / m) * (m * d) = ap (λ (n : ℕ). n * d) x ∙ (let z : ((a / m) * m) * d ≡ (a / m) * (m * d) = omega arith in z) in
      ap (λ (n : ℕ). n % (m * d)) y ∙ mul-mod_left (a / m) (m * d),
  λ e.
      let o : 1 ≤ m * d = mul-le-mul h k in
      let x : a * d ≡ (m * d) * ((a * d) / (m * d)) = omega arith in
      let y : a * d ≡ (m * ((a * d) / (m * d))) * d = x ∙ (let z : (m * d) * ((a * d) / (m * d)) ≡ (m * ((a * d) / (m * d))) * d = omega arith in z) in
      let c = cancel_right_ℤ (pos a) (pos (m * ((a * d) / (m * d)))) (pos d) (over_zero d k) (ap pos y) in
      ap (λ (n : ℕ). n % m) (ap nat_abs c) ∙ mul-mod_right m ((a * d) / (m * d)),
)

divides_same : (m : ℕ) (x : Lin) (r : Point) (v : Value) → 1 ≤ m → IsPoint Int r → Gives Int x r v → Same (nat_abs v.num % (m * v.den) ≡ 0) (Holds (Divides (m * x.den) x.form) r)
divides_same m x r v o i a =
    let d : dot x.form r ≡ v.num *ℤ pos x.den =
    sym (times_one (dot x.form r)) ∙ ap (λ (k : ℕ). dot x.form r *ℤ pos k) (sym a.valued) ∙ a.is ∙ ap (λ (k : ℕ). v.num *ℤ pos (x.den * k)) i ∙ ap (λ (k : ℕ). v.num *ℤ pos k) (let e : x.den * 1 ≡ x.den = omega arith in e) in
    let n : nat_abs (dot x.form r) ≡ nat_abs v.num * x.den = ap nat_abs d ∙ unsigned_abs-mul v.num (pos x.den) in
    let l : nat_abs v.num % (m * v.den) ≡ nat_abs v.num % m = ap (λ (k : ℕ). nat_abs v.num % k) (ap (λ (k : ℕ). m * k) a.valued ∙ (let e : m * 1 ≡ m = omega arith in e)) in
    let u : nat_abs (dot x.form r) % ((m * x.den) * r.den) ≡ (nat_abs v.num * x.den) % (m * x.den) = ap₂ (λ (b c : ℕ). b % c) n (ap (λ (k : ℕ). (m * x.den) * k) i ∙ (let e : (m * x.den) * 1 ≡ m * x.den = omega arith in e)) in
    let w = scale_mod (nat_abs v.num) m x.den o a.whole in
    (λ h. u ∙ w.0 (sym l ∙ h), λ h. l ∙ w.1 (sym u ∙ h))

divisible_ok : (s : Sort) (m : ℕ) (t : Term) → LinOk s t → NormOk s (divisible m t)
divisible_ok Rat m t o q env ctx p d f h = absurd f.0
divisible_ok Int m t o q env ctx p d f h =
    o q env ctx p d (λ x. nat_abs x.num % (m * x.den) ≡ 0) (λ e x. signed q Int (Divides (m * x.den) x.form)) f.2 h
    (λ r e g i l x v a. same_trans (same_sign q (divides_same m x r v f.1 i a)) (signed_same q Int r (Divides (m * x.den) x.form) i (mul-le-mul f.1 a.whole)))

-- ---- a Bool variable

boolean_ok : (s : Sort) (i : ℕ) → NormOk s (variable i)
boolean_ok s i q env ctx p d f h =
    let w = boolean_here s env ctx p d i h f.0 f.1 in
    let j = level_at ctx i in
    let g : Form = plus (lin_variable j).form (constant_form (negsuc 0)) in
    let e : dot g p ≡ at p.nums j +ℤ neg_ℤ (pos p.den) =
    (let a = dot-plus (lin_variable j).form (constant_form (negsuc 0)) p in
    let b = dot-variable_form (pos 1) j p in
    let c = dot-constant_form (negsuc 0) p in
    omega (arith, ints)) in
    same_trans (same_sign q (same_trans w.1 (λ l. (let m : pos 0 ≤ℤ dot g p = omega (arith, ints) in m), λ l. (let m : pos 0 ≤ℤ dot g p = l in omega (arith, ints)))))
    (signed_same q s p (AtLeast g) h.point tt)

-- ---- and, or

each_one_same : (ns : Normals) (s : Sort) (p : Point) → Same (AllTrue ns s p) (TrueN (each_one ns) s p)
each_one_same no_part s p = same_refl
each_one_same (part n no_part) s p = (λ h. h.0, λ h. (h, tt))
each_one_same (part n (part m ms)) s p = same_refl

some_one_same : (ns : Normals) (s : Sort) (p : Point) → Same (¬ AllFalse ns s p) (TrueN (some_one ns) s p)
some_one_same no_part s p = same_refl
some_one_same (part n no_part) s p = (λ h. stable_normal n s p (λ k. h (k, tt)), λ h k. k.0 h)
some_one_same (part n (part m ms)) s p = same_refl

abbrev pub AllNorm : Sort → Terms → Type 0
AllNorm s no_term = ⊤
AllNorm s (term_and t ts) = NormOk s t × AllNorm s ts

each_true : (ts : Terms) (s : Sort) → AllNorm s ts → (env : List Datum) (ctx : List Bound) (p : Point) (d : ℕ) → AreFormulas ts s (map bound_sort ctx) → Here s env ctx p d → Same (EachTrue ts s env) (AllTrue (norms ts s true ctx d) s p)
each_true no_term s o env ctx p d f h = same_refl
each_true (term_and t ts) s o env ctx p d f h =
    let a = o.0 true env ctx p d f.0 h in
    let b = each_true ts s o.1 env ctx p d f.1 h in
    (λ x. (a.0 x.0, b.0 x.1), λ x. (a.1 x.0, b.1 x.1))

each_false : (ts : Terms) (s : Sort) → AllNorm s ts → (env : List Datum) (ctx : List Bound) (p : Point) (d : ℕ) → AreFormulas ts s (map bound_sort ctx) → Here s env ctx p d → Same (EachTrue ts s env) (AllFalse (norms ts s false ctx d) s p)
each_false no_term s o env ctx p d f h = same_refl
each_false (term_and t ts) s o env ctx p d f h =
    let a = o.0 false env ctx p d f.0 h in
    let b = each_false ts s o.1 env ctx p d f.1 h in
    (λ x. (λ y. a.1 y x.0, b.0 x.1), λ x. (true_stable s t o.0 env ctx p d f.0 h (λ k. x.0 (a.0 k)), b.1 x.1))

none_true : (ts : Terms) (s : Sort) → AllNorm s ts → (env : List Datum) (ctx : List Bound) (p : Point) (d : ℕ) → AreFormulas ts s (map bound_sort ctx) → Here s env ctx p d → Same (NoneTrue ts s env) (AllTrue (norms ts s false ctx d) s p)
none_true no_term s o env ctx p d f h = same_refl
none_true (term_and t ts) s o env ctx p d f h =
    let a = o.0 false env ctx p d f.0 h in
    let b = none_true ts s o.1 env ctx p d f.1 h in
    (λ x. (a.0 x.0, b.0 x.1), λ x. (a.1 x.0, b.1 x.1))

none_false : (ts : Terms) (s : Sort) → AllNorm s ts → (env : List Datum) (ctx : List Bound) (p : Point) (d : ℕ) → AreFormulas ts s (map bound_sort ctx) → Here s env ctx p d → Same (NoneTrue ts s env) (AllFalse (norms ts s true ctx d) s p)
none_false no_term s o env ctx p d f h = same_refl
none_false (term_and t ts) s o env ctx p d f h =
    let a = o.0 true env ctx p d f.0 h in
    let b = none_false ts s o.1 env ctx p d f.1 h in
    (λ x. (λ y. x.0 (a.1 y), b.0 x.1), λ x. (λ y. x.0 (a.0 y), b.1 x.1))

same_not : {A B : Type 0} → Same A B → Same (¬ A) (¬ B)
same_not {A} {B} f = same_sign false f

and_ok : (s : Sort) (ts : Terms) → AllNorm s ts → NormOk s (and_of ts)
and_ok s ts o true env ctx p d f h =
    same_trans (each_true ts s o env ctx p d f h) (each_one_same (norms ts s true ctx d) s p)
and_ok s ts o false env ctx p d f h =
    same_trans (same_not (each_false ts s o env ctx p d f h)) (some_one_same (norms ts s false ctx d) s p)

or_ok : (s : Sort) (ts : Terms) → AllNorm s ts → NormOk s (or_of ts)
or_ok s ts o true env ctx p d f h =
    same_trans (same_not (none_false ts s o env ctx p d f h)) (some_one_same (norms ts s true ctx d) s p)
or_ok s ts o false env ctx p d f h =
    let a = same_trans (none_true ts s o env ctx p d f h) (each_one_same (norms ts s false ctx d) s p) in
    (λ k. a.0 (stable_by (each_one (norms ts s false ctx d)) s p a k), λ k n. n (a.1 k))

-- ---- the whole

-- one universe for the block
pub record NormAt (s : Sort) (t : Term) : Type 1 where
  pub ok : NormOk s t

pub record AllAt (s : Sort) (ts : Terms) : Type 1 where
  pub ok : AllNorm s ts

mutual
  pub norm_same : (t : Term) (s : Sort) → NormAt s t
  norm_same yes s = record { ok = λ q env ctx p d f h. closed_same q s p }
  norm_same no s = record { ok = λ q env ctx p d f h. closed_not q s p }
  norm_same (amount v) s = record { ok = λ q env ctx p d f h. absurd f }
  norm_same (variable i) s = record { ok = λ q env ctx p d f h. boolean_ok s i q env ctx p d f h }
  norm_same (negative t) s = record { ok = λ q env ctx p d f h. absurd f }
  norm_same (absolute t) s = record { ok = λ q env ctx p d f h. absurd f }
  norm_same (negated t) s = record { ok = λ q env ctx p d f h. not_ok s t (norm_same t s).ok q env ctx p d f h }
  norm_same (divisible m t) s = record { ok = λ q env ctx p d f h. divisible_ok s m t (lin_same t s) q env ctx p d f h }
  norm_same (minus a b) s = record { ok = λ q env ctx p d f h. absurd f }
  norm_same (quotient_of a b) s = record { ok = λ q env ctx p d f h. absurd f }
  norm_same (div_of a b) s = record { ok = λ q env ctx p d f h. absurd f }
  norm_same (mod_of a b) s = record { ok = λ q env ctx p d f h. absurd f }
  norm_same (less a b) s = record { ok = λ q env ctx p d f h. less_ok s a b (lin_same a s) (lin_same b s) q env ctx p d f h }
  norm_same (at_most a b) s = record { ok = λ q env ctx p d f h. at_most_ok s a b (lin_same a s) (lin_same b s) q env ctx p d f h }
  norm_same (greater a b) s = record { ok = λ q env ctx p d f h. greater_ok s a b (lin_same a s) (lin_same b s) q env ctx p d f h }
  norm_same (at_least a b) s = record { ok = λ q env ctx p d f h. at_least_ok s a b (lin_same a s) (lin_same b s) q env ctx p d f h }
  norm_same (equal a b) s = record { ok = λ q env ctx p d f h. equal_ok s a b (norm_same a s).ok (norm_same b s).ok (lin_same a s) (lin_same b s) q env ctx p d f h }
  norm_same (xor_of a b) s = record { ok = λ q env ctx p d f h. xor_ok s a b (norm_same a s).ok (norm_same b s).ok q env ctx p d f h }
  norm_same (implies a b) s = record { ok = λ q env ctx p d f h. implies_ok s a b (norm_same a s).ok (norm_same b s).ok q env ctx p d f h }
  norm_same (ite c a b) s = record { ok = λ q env ctx p d f h. ite_ok s c a b (norm_same c s).ok (norm_same a s).ok (norm_same b s).ok q env ctx p d f h }
  norm_same (plus_of ts) s = record { ok = λ q env ctx p d f h. absurd f }
  norm_same (times_of ts) s = record { ok = λ q env ctx p d f h. absurd f }
  norm_same (and_of ts) s = record { ok = λ q env ctx p d f h. and_ok s ts (norms_same ts s).ok q env ctx p d f h }
  norm_same (or_of ts) s = record { ok = λ q env ctx p d f h. or_ok s ts (norms_same ts s).ok q env ctx p d f h }
  norm_same (forall_of vs t) s = record { ok = λ q env ctx p d f h. forall_ok s vs t (norm_same t s).ok q env ctx p d f h }
  norm_same (exists_of vs t) s = record { ok = λ q env ctx p d f h. exists_ok s vs t (norm_same t s).ok q env ctx p d f h }

  pub norms_same : (ts : Terms) (s : Sort) → AllAt s ts
  norms_same no_term s = record { ok = tt }
  norms_same (term_and t ts) s = record { ok = ((norm_same t s).ok, (norms_same ts s).ok) }

  pub lin_same : (t : Term) (s : Sort) → LinOk s t
  lin_same yes s q env ctx p d K k n h c = absurd n
  lin_same no s q env ctx p d K k n h c = absurd n
  lin_same (amount v) s q env ctx p d K k n h c = amount_ok s v q env ctx p d K k n h c
  lin_same (variable i) s q env ctx p d K k n h c = variable_ok s i q env ctx p d K k n h c
  lin_same (negative t) s q env ctx p d K k n h c = negative_ok s t (lin_same t s) q env ctx p d K k n h c
  lin_same (absolute t) s q env ctx p d K k n h c = absolute_ok s t (lin_same t s) q env ctx p d K k n h c
  lin_same (negated t) s q env ctx p d K k n h c = absurd n
  lin_same (divisible m t) s q env ctx p d K k n h c = absurd n
  lin_same (minus a b) s q env ctx p d K k n h c = minus_ok s a b (lin_same a s) (lin_same b s) q env ctx p d K k n h c
  lin_same (quotient_of a b) s q env ctx p d K k n h c = quotient_ok s a b (lin_same a s) q env ctx p d K k n h c
  lin_same (div_of a b) s q env ctx p d K k n h c = div_ok s a b (lin_same a s) q env ctx p d K k n h c
  lin_same (mod_of a b) s q env ctx p d K k n h c = mod_ok s a b (lin_same a s) q env ctx p d K k n h c
  lin_same (less a b) s q env ctx p d K k n h c = absurd n
  lin_same (at_most a b) s q env ctx p d K k n h c = absurd n
  lin_same (greater a b) s q env ctx p d K k n h c = absurd n
  lin_same (at_least a b) s q env ctx p d K k n h c = absurd n
  lin_same (equal a b) s q env ctx p d K k n h c = absurd n
  lin_same (xor_of a b) s q env ctx p d K k n h c = absurd n
  lin_same (implies a b) s q env ctx p d K k n h c = absurd n
  lin_same (ite t a b) s q env ctx p d K k n h c = lin_ite_ok s t a b (norm_same t s).ok (lin_same a s) (lin_same b s) q env ctx p d K k n h c
  lin_same (plus_of ts) s q env ctx p d K k n h c = plus_ok s ts (lins_same ts s) q env ctx p d K k n h c
  lin_same (times_of ts) s q env ctx p d K k n h c = times_ok s ts (lins_same ts s) q env ctx p d K k n h c
  lin_same (and_of ts) s q env ctx p d K k n h c = absurd n
  lin_same (or_of ts) s q env ctx p d K k n h c = absurd n
  lin_same (forall_of vs t) s q env ctx p d K k n h c = absurd n
  lin_same (exists_of vs t) s q env ctx p d K k n h c = absurd n

  pub lins_same : (ts : Terms) (s : Sort) → AllLin s ts
  lins_same no_term s = tt
  lins_same (term_and t ts) s = (lin_same t s, lins_same ts s)
