-- The normal form of each kind of term has its truth, if those of its parts have.
use Rattle.std.specs.Prelude.{ℕ, ◌≡◌, pos, ◌*ℤ◌, neg_ℤ, ◌≤ℤ◌, ◌<ℤ◌, List, length, map, Bool, true, false, not}
use Rattle.std.proofs.Common.{arith, sym, subst, refl}
use Rattle.std.proofs.lemmas.Int.{ints, by_lt_z}
use Rattle.lin_term.specs.declared.Sort.{Sort}
use Rattle.lin_term.specs.declared.Lit.TheVariants.{AtLeast, Above}
use Rattle.lin_term.specs.Linear.{Point, Value, IsPoint}
use Rattle.lin_term.proofs.Ring.{ring}
use Rattle.norm_form.proofs.Growing.{Grows, grows_trans}
use Rattle.norm_form.specs.Normal.{Normal, each_of, some_of, TrueN}
use Rattle.lin_truth.specs.declared.term.VarSort.{VarSort}
use Rattle.lin_truth.specs.Term.{Term, negated, less, at_most, greater, at_least, equal, xor_of, implies, ite, forall_of, exists_of}
use Rattle.lin_truth.specs.Truth.{Datum, Every, Same, Either, True, ValueIs, is_formula}
use Rattle.lin_truth.specs.Value.{IsBelow, IsUpTo, IsSame, v_neg, v_minus}
use Rattle.lin_truth.specs.Formed.{IsFormula, IsNumber}
use Rattle.lin_form.specs.Lin.{Lin, lin_neg, lin_minus}
use Rattle.lin_form.specs.declared.Bound.{Bound}
use Rattle.lin_form.specs.Scope.{bound_sort}
use Rattle.norm_form.specs.Norm.{norm, lin, signed, same_number, pair, either_by, bind, choose, ite_form, same_form}
use Rattle.norm_form.proofs.Forms.{Gives, gives_grows, gives_neg, gives_minus}
use Rattle.norm_form.proofs.Leaves.{Sign, same_trans, same_sign, stable_normal, signed_same, sign_at_least, sign_above}
use Rattle.norm_form.proofs.Here.{Here, here_grows, bind_same, every_steady}

-- ---- logic

pub stable_by : {A : Type 0} (n : Normal) (s : Sort) (p : Point) → Same A (TrueN n s p) → ¬ (¬ A) → A
stable_by {A} n s p f h = f.1 (stable_normal n s p (λ k. h (λ x. k (f.0 x))))

pub sign_not : (q : Bool) {A : Type 0} → (¬ (¬ A) → A) → Same (Sign q (¬ A)) (Sign (not q) A)
sign_not true {A} st = (λ h. h, λ h. h)
sign_not false {A} st = (λ h. st h, λ h k. k h)

pub same_sym : {A B : Type 0} → Same A B → Same B A
same_sym {A} {B} f = (f.1, f.0)

-- two formulas joined
and_same : {A B : Type 0} (a b : Normal) (s : Sort) (p : Point) → Same A (TrueN a s p) → Same B (TrueN b s p) → Same (A × B) (TrueN (each_of (pair a b)) s p)
and_same {A} {B} a b s p f g = (λ h. (f.0 h.0, (g.0 h.1, tt)), λ h. (f.1 h.0, g.1 h.1.0))

or_same : {A B : Type 0} (a b : Normal) (s : Sort) (p : Point) → Same A (TrueN a s p) → Same B (TrueN b s p) → Same (¬ ((¬ A) × (¬ B))) (TrueN (some_of (pair a b)) s p)
or_same {A} {B} a b s p f g =
    (λ h k. h (λ x. k.0 (f.0 x), λ y. k.1.0 (g.0 y)), λ h k. h (λ x. k.0 (f.1 x), (λ y. k.1 (g.1 y), tt)))

implies_same : (q : Bool) (A B : Type 0) (a b : Normal) (s : Sort) (p : Point) → Same (Sign (not q) A) (TrueN a s p) → Same (Sign q B) (TrueN b s p) → Same (Sign q (A → B)) (TrueN (either_by (not q) a b) s p)
implies_same true A B a b s p f g =
    (λ h k. k.0 (f.0 (λ x. k.1.0 (g.0 (h x)))), λ h x. stable_by b s p g (λ n. h (λ y. f.1 y x, (λ y. n (g.1 y), tt))))
implies_same false A B a b s p f g =
    (λ h. (stable_normal a s p (λ k. h (λ x. absurd (k (f.0 x)))), (g.0 (λ y. h (λ x. y)), tt)), λ h k. g.1 h.1.0 (k (f.1 h.0)))

-- an equivalence: both polarities of each part are there
equal_same : (q : Bool) {A B : Type 0} (a n b m : Normal) (s : Sort) (p : Point) → Same A (TrueN a s p) → Same (¬ A) (TrueN n s p) → Same B (TrueN b s p) → Same (¬ B) (TrueN m s p) → Same (Sign q (Same A B)) (TrueN (same_form q a n b m) s p)
equal_same true {A} {B} a n b m s p f1 f0 g1 g0 = (
  λ h. (λ k. k.0 (f0.0 (λ x. k.1.0 (g1.0 (h.0 x)))), (λ k. k.1.0 (g0.0 (λ y. k.0 (f1.0 (h.1 y)))), tt)),
  λ h. (λ x. stable_by b s p g1 (λ w. h.0 (λ y. f0.1 y x, (λ y. w (g1.1 y), tt))), λ y. stable_by a s p f1 (λ w. h.1.0 (λ x. w (f1.1 x), (λ z. g0.1 z y, tt)))),
)
equal_same false {A} {B} a n b m s p f1 f0 g1 g0 = (
  λ h k. h (λ x. stable_by b s p g1 (λ w. k.0 (f1.0 x, (g0.0 w, tt))), λ y. stable_by a s p f1 (λ w. k.1.0 (f0.0 w, (g1.0 y, tt)))),
  λ h k. h (λ w. g0.1 w.1.0 (k.0 (f1.1 w.0)), (λ w. f0.1 w.0 (k.1 (g1.1 w.1.0)), tt)),
)

-- where the truth of the parts is known in the two cases of c
pub ite_same : (q : Bool) (C A B : Type 0) (c n a b : Normal) (s : Sort) (p : Point) → Same C (TrueN c s p) → Same (¬ C) (TrueN n s p) → (C → Same (Sign q A) (TrueN a s p)) → (¬ C → Same (Sign q B) (TrueN b s p)) → Same (Sign q ((C → A) × (¬ C → B))) (TrueN (ite_form c n a b) s p)
ite_same true C A B c n a b s p f g x y = (
  λ h. (λ k. k.0 (g.0 (λ z. k.1.0 ((x z).0 (h.0 z)))), (λ k. k.0 (stable_normal c s p (λ w. k.1.0 ((y (λ z. w (f.0 z))).0 (h.1 (λ z. w (f.0 z)))))), tt)),
  λ h. (λ z. stable_by a s p (x z) (λ w. h.0 (λ v. g.1 v z, (λ v. w ((x z).1 v), tt))), λ z. stable_by b s p (y z) (λ w. h.1.0 (λ v. z (f.1 v), (λ v. w ((y z).1 v), tt)))),
)
ite_same false C A B c n a b s p f g x y = (
  λ h. (λ k. k.0 (g.0 (λ z. k.1.0 ((x z).0 (λ t. h (λ w. t, λ w. absurd (w z)))))), (λ k. k.0 (stable_normal c s p (λ w. k.1.0 ((y (λ z. w (f.0 z))).0 (λ t. h (λ z. absurd (w (f.0 z)), λ z. t))))), tt)),
  λ h k. h.0 (
    λ v. h.1.0 (λ w. g.1 v (f.1 w), (λ w. (y (g.1 v)).1 w (k.1 (g.1 v)), tt)),
    (
      λ v.
          let nc : ¬ C = λ z. (x z).1 v (k.0 z) in
          h.1.0 (λ w. nc (f.1 w), (λ w. (y nc).1 w (k.1 nc), tt)),
      tt,
    ),
  ),
)

-- ---- what is claimed of a formula and of a number

abbrev pub NormOk : Sort → Term → Type 0
NormOk s t =
    (q : Bool) (env : List Datum) (ctx : List Bound) (p : Point) (d : ℕ) → IsFormula t s (map bound_sort ctx) → Here s env ctx p d → Same (Sign q (True t s env)) (TrueN (norm t s q ctx d) s p)

-- k makes the formula of a form: K of its value
abbrev pub Kont : Sort → Bool → (Value → Type 0) → (ℕ → Lin → Normal) → Point → Type 0
Kont s q K k p =
    (r : Point) (e : ℕ) → Grows p r → IsPoint s r → length r.nums ≡ e → (x : Lin) (v : Value) → Gives s x r v → Same (Sign q (K v)) (TrueN (k e x) s r)

abbrev pub LinOk : Sort → Term → Type 1
LinOk s t =
    (q : Bool) (env : List Datum) (ctx : List Bound) (p : Point) (d : ℕ) (K : Value → Type 0) (k : ℕ → Lin → Normal) → IsNumber t s (map bound_sort ctx) → Here s env ctx p d → Kont s q K k p → Same (Sign q (ValueIs t s env K)) (TrueN (lin t s ctx d k) s p)

pub true_stable : (s : Sort) (t : Term) → NormOk s t → (env : List Datum) (ctx : List Bound) (p : Point) (d : ℕ) → IsFormula t s (map bound_sort ctx) → Here s env ctx p d → ¬ (¬ True t s env) → True t s env
true_stable s t o env ctx p d f h = stable_by (norm t s true ctx d) s p (o true env ctx p d f h)

-- ---- two numbers

abbrev pub Kont2 : Sort → Bool → (Value → Value → Type 0) → (ℕ → Lin → Lin → Normal) → Point → Type 0
Kont2 s q R m p =
    (r : Point) (e : ℕ) → Grows p r → IsPoint s r → length r.nums ≡ e → (x y : Lin) (v w : Value) → Gives s x r v → Gives s y r w → Same (Sign q (R v w)) (TrueN (m e x y) s r)

pub two_ok : (s : Sort) (a b : Term) → LinOk s a → LinOk s b → (q : Bool) (env : List Datum) (ctx : List Bound) (p : Point) (d : ℕ) (R : Value → Value → Type 0) (m : ℕ → Lin → Lin → Normal) → IsNumber a s (map bound_sort ctx) → IsNumber b s (map bound_sort ctx) → Here s env ctx p d → Kont2 s q R m p → Same (Sign q (ValueIs a s env (λ x. ValueIs b s env (λ y. R x y)))) (TrueN (lin a s ctx d (λ e x. lin b s ctx e (λ f y. m f x y))) s p)
two_ok s a b oa ob q env ctx p d R m na nb h c =
    oa q env ctx p d (λ x. ValueIs b s env (λ y. R x y)) (λ e x. lin b s ctx e (λ f y. m f x y)) na h
    (λ r e g ir le x v gx.
    ob q env ctx r e (λ y. R v y) (λ f y. m f x y) nb (here_grows s env ctx p r d e h g ir le)
    (λ r2 e2 g2 ir2 le2 y w gy. c r2 e2 (grows_trans s p r r2 ir g g2) ir2 le2 x y v w (gives_grows s x r r2 v ir g2 gx) gy))

-- ---- comparisons

below_is : (v w : Value) → Same (IsBelow v w) (pos 0 <ℤ (v_minus w v).num)
below_is v w =
    let e : neg_ℤ v.num *ℤ pos w.den ≡ neg_ℤ (v.num *ℤ pos w.den) = simp ring in
    (λ h. omega (arith, ints), λ h. omega (arith, ints))

up_to_is : (v w : Value) → Same (IsUpTo v w) (pos 0 ≤ℤ (v_minus w v).num)
up_to_is v w =
    let e : neg_ℤ v.num *ℤ pos w.den ≡ neg_ℤ (v.num *ℤ pos w.den) = simp ring in
    (λ h. omega (arith, ints), λ h. omega (arith, ints))

pub above_leaf : (q : Bool) (s : Sort) (p : Point) (x y : Lin) (v w : Value) → IsPoint s p → Gives s x p v → Gives s y p w → Same (Sign q (IsBelow v w)) (TrueN (signed q s (Above (lin_minus y x).form)) s p)
above_leaf q s p x y v w i a b =
    same_trans (same_sign q (same_trans (below_is v w) (sign_above s (lin_minus y x) p (v_minus w v) i (gives_minus s y x p w v b a)))) (signed_same q s p (Above (lin_minus y x).form) i tt)

pub at_least_leaf : (q : Bool) (s : Sort) (p : Point) (x y : Lin) (v w : Value) → IsPoint s p → Gives s x p v → Gives s y p w → Same (Sign q (IsUpTo v w)) (TrueN (signed q s (AtLeast (lin_minus y x).form)) s p)
at_least_leaf q s p x y v w i a b =
    same_trans (same_sign q (same_trans (up_to_is v w) (sign_at_least s (lin_minus y x) p (v_minus w v) i (gives_minus s y x p w v b a)))) (signed_same q s p (AtLeast (lin_minus y x).form) i tt)

-- z = x - y
equal_is : (v w : Value) → Same (IsSame v w) ((pos 0 ≤ℤ (v_minus v w).num) × (pos 0 ≤ℤ (v_neg (v_minus v w)).num))
equal_is v w =
    let e : neg_ℤ w.num *ℤ pos v.den ≡ neg_ℤ (w.num *ℤ pos v.den) = simp ring in
    (λ h. (omega (arith, ints), omega (arith, ints)), λ h. let a = h.0 in let b = h.1 in omega (arith, ints))

unequal_is : (v w : Value) → Same (¬ IsSame v w) (¬ ((¬ (pos 0 <ℤ (v_minus v w).num)) × (¬ (pos 0 <ℤ (v_neg (v_minus v w)).num))))
unequal_is v w =
    let e : neg_ℤ w.num *ℤ pos v.den ≡ neg_ℤ (w.num *ℤ pos v.den) = simp ring in (
      λ n k. n (by_lt_z (pos 0) (v_minus v w).num (λ l. absurd (k.0 l)) (λ l. by_lt_z (pos 0) (v_neg (v_minus v w)).num (λ m. absurd (k.1 m)) (λ m. omega (arith, ints)))),
      λ n k. n (λ l. omega (arith, ints), λ l. omega (arith, ints)),
    )

pub equal_leaf : (q : Bool) (s : Sort) (p : Point) (x y : Lin) (v w : Value) → IsPoint s p → Gives s x p v → Gives s y p w → Same (Sign q (IsSame v w)) (TrueN (same_number q s (lin_minus x y)) s p)
equal_leaf true s p x y v w i a b =
    let z = gives_minus s x y p v w a b in
    let nz = gives_neg s (lin_minus x y) p (v_minus v w) z in
    same_trans (equal_is v w)
    (and_same (signed true s (AtLeast (lin_minus x y).form)) (signed true s (AtLeast (lin_neg (lin_minus x y)).form)) s p
    (same_trans (sign_at_least s (lin_minus x y) p (v_minus v w) i z) (signed_same true s p (AtLeast (lin_minus x y).form) i tt))
    (same_trans (sign_at_least s (lin_neg (lin_minus x y)) p (v_neg (v_minus v w)) i nz) (signed_same true s p (AtLeast (lin_neg (lin_minus x y)).form) i tt)))
equal_leaf false s p x y v w i a b =
    let z = gives_minus s x y p v w a b in
    let nz = gives_neg s (lin_minus x y) p (v_minus v w) z in
    same_trans (unequal_is v w)
    (or_same (signed true s (Above (lin_minus x y).form)) (signed true s (Above (lin_neg (lin_minus x y)).form)) s p
    (same_trans (sign_above s (lin_minus x y) p (v_minus v w) i z) (signed_same true s p (Above (lin_minus x y).form) i tt))
    (same_trans (sign_above s (lin_neg (lin_minus x y)) p (v_neg (v_minus v w)) i nz) (signed_same true s p (Above (lin_neg (lin_minus x y)).form) i tt)))

-- ---- formulas

pub not_ok : (s : Sort) (t : Term) → NormOk s t → NormOk s (negated t)
not_ok s t o q env ctx p d f h =
    same_trans (sign_not q (true_stable s t o env ctx p d f h)) (o (not q) env ctx p d f h)

pub less_ok : (s : Sort) (a b : Term) → LinOk s a → LinOk s b → NormOk s (less a b)
less_ok s a b oa ob q env ctx p d f h =
    two_ok s a b oa ob q env ctx p d (λ x y. IsBelow x y) (λ e x y. signed q s (Above (lin_minus y x).form)) f.0 f.1 h
    (λ r e g i l x y v w gx gy. above_leaf q s r x y v w i gx gy)

pub at_most_ok : (s : Sort) (a b : Term) → LinOk s a → LinOk s b → NormOk s (at_most a b)
at_most_ok s a b oa ob q env ctx p d f h =
    two_ok s a b oa ob q env ctx p d (λ x y. IsUpTo x y) (λ e x y. signed q s (AtLeast (lin_minus y x).form)) f.0 f.1 h
    (λ r e g i l x y v w gx gy. at_least_leaf q s r x y v w i gx gy)

pub greater_ok : (s : Sort) (a b : Term) → LinOk s a → LinOk s b → NormOk s (greater a b)
greater_ok s a b oa ob q env ctx p d f h =
    two_ok s a b oa ob q env ctx p d (λ x y. IsBelow y x) (λ e x y. signed q s (Above (lin_minus x y).form)) f.0 f.1 h
    (λ r e g i l x y v w gx gy. above_leaf q s r y x w v i gy gx)

pub at_least_ok : (s : Sort) (a b : Term) → LinOk s a → LinOk s b → NormOk s (at_least a b)
at_least_ok s a b oa ob q env ctx p d f h =
    two_ok s a b oa ob q env ctx p d (λ x y. IsUpTo y x) (λ e x y. signed q s (AtLeast (lin_minus x y).form)) f.0 f.1 h
    (λ r e g i l x y v w gx gy. at_least_leaf q s r y x w v i gy gx)

pub implies_ok : (s : Sort) (a b : Term) → NormOk s a → NormOk s b → NormOk s (implies a b)
implies_ok s a b oa ob q env ctx p d f h =
    implies_same q (True a s env) (True b s env) (norm a s (not q) ctx d) (norm b s q ctx d) s p (oa (not q) env ctx p d f.0 h) (ob q env ctx p d f.1 h)

pub ite_ok : (s : Sort) (c a b : Term) → NormOk s c → NormOk s a → NormOk s b → NormOk s (ite c a b)
ite_ok s c a b oc oa ob q env ctx p d f h =
    ite_same q (True c s env) (True a s env) (True b s env) (norm c s true ctx d) (norm c s false ctx d) (norm a s q ctx d) (norm b s q ctx d) s p
    (oc true env ctx p d f.0 h) (oc false env ctx p d f.0 h) (λ z. oa q env ctx p d f.1 h) (λ z. ob q env ctx p d f.2 h)

bool_equal : (s : Sort) (a b : Term) → NormOk s a → NormOk s b → (q : Bool) (env : List Datum) (ctx : List Bound) (p : Point) (d : ℕ) → IsFormula a s (map bound_sort ctx) → IsFormula b s (map bound_sort ctx) → Here s env ctx p d → Same (Sign q (Same (True a s env) (True b s env))) (TrueN (same_form q (norm a s true ctx d) (norm a s false ctx d) (norm b s true ctx d) (norm b s false ctx d)) s p)
bool_equal s a b oa ob q env ctx p d fa fb h =
    equal_same q (norm a s true ctx d) (norm a s false ctx d) (norm b s true ctx d) (norm b s false ctx d) s p (oa true env ctx p d fa h) (oa false env ctx p d fa h) (ob true env ctx p d fb h) (ob false env ctx p d fb h)

choose_ok : (c q : Bool) (X Y F N : Type 0) (a b : Normal) (s : Sort) (p : Point) → Either c F N → (F → Same (Sign q X) (TrueN a s p)) → (N → Same (Sign q Y) (TrueN b s p)) → Same (Sign q (Either c X Y)) (TrueN (choose c a b) s p)
choose_ok true q X Y F N a b s p e f g = f e
choose_ok false q X Y F N a b s p e f g = g e

pub equal_ok : (s : Sort) (a b : Term) → NormOk s a → NormOk s b → LinOk s a → LinOk s b → NormOk s (equal a b)
equal_ok s a b oa ob la lb q env ctx p d f h =
    subst (λ (vs : List VarSort). Same (Sign q (Either (is_formula a vs) (Same (True a s env) (True b s env)) (ValueIs a s env (λ x. ValueIs b s env (λ y. IsSame x y))))) (TrueN (norm (equal a b) s q ctx d) s p)) (sym h.sorts)
    (choose_ok (is_formula a (map bound_sort ctx)) q (Same (True a s env) (True b s env)) (ValueIs a s env (λ x. ValueIs b s env (λ y. IsSame x y)))
    (IsFormula a s (map bound_sort ctx) × IsFormula b s (map bound_sort ctx)) (IsNumber a s (map bound_sort ctx) × IsNumber b s (map bound_sort ctx))
    (same_form q (norm a s true ctx d) (norm a s false ctx d) (norm b s true ctx d) (norm b s false ctx d))
    (lin a s ctx d (λ e x. lin b s ctx e (λ f' y. same_number q s (lin_minus x y)))) s p f
    (λ w. bool_equal s a b oa ob q env ctx p d w.0 w.1 h)
    (λ w. two_ok s a b la lb q env ctx p d (λ x y. IsSame x y) (λ e x y. same_number q s (lin_minus x y)) w.0 w.1 h
    (λ r e g i l x y v z gx gy. equal_leaf q s r x y v z i gx gy)))

pub xor_ok : (s : Sort) (a b : Term) → NormOk s a → NormOk s b → NormOk s (xor_of a b)
xor_ok s a b oa ob true env ctx p d f h = bool_equal s a b oa ob false env ctx p d f.0 f.1 h
xor_ok s a b oa ob false env ctx p d f h =
    let e = bool_equal s a b oa ob true env ctx p d f.0 f.1 h in
    (λ k. e.0 (stable_by (norm (xor_of a b) s false ctx d) s p e k), λ k n. n (e.1 k))

pub forall_ok : (s : Sort) (vs : List VarSort) (t : Term) → NormOk s t → NormOk s (forall_of vs t)
forall_ok s vs t o q env ctx p d f h =
    bind_same q vs (map bound_sort ctx) s (λ e. True t s e) (λ c e. norm t s q c e) env ctx p d
    (λ env' ctx' p' d' h' e. true_stable s t o env' ctx' p' d' (subst (λ (us : List VarSort). IsFormula t s us) (sym e) f) h')
    (λ env' ctx' p' d' h' e. o q env' ctx' p' d' (subst (λ (us : List VarSort). IsFormula t s us) (sym e) f) h')
    h refl

swap_sign : (q : Bool) (A N : Type 0) → (¬ (¬ A) → A) → Same (Sign q A) N → Same (Sign (not q) (¬ A)) N
swap_sign true A N st f = (λ h. f.0 (st h), λ h k. k (f.1 h))
swap_sign false A N st f = f

unswap_sign : (q : Bool) (E N : Type 0) → (¬ (¬ E) → E) → Same (Sign (not q) E) N → Same (Sign q (¬ E)) N
unswap_sign true E N st f = f
unswap_sign false E N st f = (λ h. f.0 (st h), λ h k. k (f.1 h))

pub exists_ok : (s : Sort) (vs : List VarSort) (t : Term) → NormOk s t → NormOk s (exists_of vs t)
exists_ok s vs t o q env ctx p d f h =
    unswap_sign q (Every vs s (λ e. ¬ True t s e) env) (TrueN (bind (not q) vs (λ c e. norm t s q c e) ctx d) s p)
    (every_steady vs (map bound_sort ctx) s (λ e. ¬ True t s e) env ctx p d (λ env' ctx' p' d' h' e n x. n (λ k. k x)) h refl)
    (bind_same (not q) vs (map bound_sort ctx) s (λ e. ¬ True t s e) (λ c e. norm t s q c e) env ctx p d
    (λ env' ctx' p' d' h' e n x. n (λ k. k x))
    (λ env' ctx' p' d' h' e.
    let w = subst (λ (us : List VarSort). IsFormula t s us) (sym e) f in
    swap_sign q (True t s env') (TrueN (norm t s q ctx' d') s p') (true_stable s t o env' ctx' p' d' w h') (o q env' ctx' p' d' w h'))
    h refl)
