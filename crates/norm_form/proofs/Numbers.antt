-- The forms of numbers: variables, constants, sums, products, absolute values, ite, div and mod.
use Rattle.std.specs.Prelude.{ℕ, zero, suc, ◌≡◌, ◌≤◌, ℤ, pos, negsuc, ◌*ℤ◌, neg_ℤ, nat_abs, ◌≤ℤ◌, List, length, map, Bool, true, false, ◌&&◌}
use Rattle.std.proofs.Common.{arith, subst, refl, mul-le-mul}
use Rattle.std.proofs.lemmas.Int.{ints, by_lt_z}
use Rattle.lin_term.specs.declared.Sort.{Sort}
use Rattle.lin_term.specs.declared.Sort.TheVariants.{Rat, Int}
use Rattle.lin_term.specs.declared.Lit.TheVariants.{AtLeast}
use Rattle.lin_term.specs.Linear.{Point, Value, IsValue, IsPoint}
use Rattle.lin_term.proofs.Ring.{ring}
use Rattle.norm_form.proofs.Growing.{Grows, grows_refl}
use Rattle.norm_form.specs.Normal.{Normal, TrueN}
use Rattle.lin_truth.specs.declared.term.VarSort.{VarSort}
use Rattle.lin_truth.specs.Term.{Term, Terms, no_term, term_and, amount, variable, negative, absolute, minus, quotient_of, div_of, mod_of, ite, plus_of, times_of}
use Rattle.lin_truth.specs.Truth.{Datum, at_place, number_of, Same, True, ValueIs, SumIs, ProductIs}
use Rattle.lin_truth.specs.Value.{Yes, IsSame, v_plus, v_neg, v_minus, v_times, v_over, over_num, v_abs, v_div, v_mod, whole_div, zero_value, one_value}
use Rattle.lin_truth.specs.Formed.{IsNumber, AreNumbers, IsRat}
use Rattle.lin_truth.specs.Constant.{is_constant, are_constant, constant_value, constant_sum, constant_product}
use Rattle.lin_form.specs.Low.{as_lin, low, low_sum, low_product, lowest}
use Rattle.lin_form.proofs.Lowest.{lowest_is, same_plus, same_times}
use Rattle.lin_form.proofs.Sames.{lowest_value, trans_same, same_neg, same_minus, same_abs, same_over, same_div, same_mod}
use Rattle.lin_form.specs.Lin.{Lin, lin_constant, lin_variable, lin_plus, lin_neg, lin_minus, over_constant, lin_over}
use Rattle.lin_form.specs.declared.Bound.{Bound}
use Rattle.lin_form.specs.Scope.{bound_sort, level_at}
use Rattle.norm_form.specs.Norm.{norm, lin, lin_sum, lin_of, signed, abs_form, ite_form}
use Rattle.norm_form.proofs.Forms.{gives_value, gives_same, Gives, value_den, gives_grows, gives_plus, gives_neg, gives_minus, gives_constant, gives_variable, gives_scale, v_plus_is, v_neg_is, v_times_is}
use Rattle.norm_form.proofs.Leaves.{Sign, same_refl, same_trans, same_sign, signed_same, sign_at_least}
use Rattle.norm_form.proofs.Here.{Here, here_grows, number_here}
use Rattle.norm_form.proofs.Cases.{ite_same, NormOk, Kont, LinOk, two_ok}

-- ---- constant terms

pub both : (a b : Bool) → Yes (a && b) → Yes a × Yes b
both true true h = (tt, tt)
both true false h = absurd h
both false b h = absurd h

mutual
  pub const_same : (t : Term) (s : Sort) (env : List Datum) (K : Value → Type 0) → Yes (is_constant t) → Same (ValueIs t s env K) (K (constant_value t))
  const_same (amount v) s env K y = same_refl
  const_same (negative t) s env K y = const_same t s env (λ x. K (v_neg x)) y
  const_same (absolute t) s env K y = const_same t s env (λ x. K (v_abs x)) y
  const_same (minus a b) s env K y =
      let w = both (is_constant a) (is_constant b) y in
      same_trans (const_same a s env (λ x. ValueIs b s env (λ z. K (v_minus x z))) w.0) (const_same b s env (λ z. K (v_minus (constant_value a) z)) w.1)
  const_same (quotient_of a b) s env K y =
      let w = both (is_constant a) (is_constant b) y in
      same_trans (const_same a s env (λ x. ValueIs b s env (λ z. K (v_over x z))) w.0) (const_same b s env (λ z. K (v_over (constant_value a) z)) w.1)
  const_same (div_of a b) s env K y =
      let w = both (is_constant a) (is_constant b) y in
      same_trans (const_same a s env (λ x. ValueIs b s env (λ z. K (v_div x z))) w.0) (const_same b s env (λ z. K (v_div (constant_value a) z)) w.1)
  const_same (mod_of a b) s env K y =
      let w = both (is_constant a) (is_constant b) y in
      same_trans (const_same a s env (λ x. ValueIs b s env (λ z. K (v_mod x z))) w.0) (const_same b s env (λ z. K (v_mod (constant_value a) z)) w.1)
  const_same (plus_of ts) s env K y = sum_same ts s env zero_value K y
  const_same (times_of ts) s env K y = product_same ts s env one_value K y
  const_same t s env K y = absurd y

  pub sum_same : (ts : Terms) (s : Sort) (env : List Datum) (x : Value) (K : Value → Type 0) → Yes (are_constant ts) → Same (SumIs ts s env x K) (K (constant_sum ts x))
  sum_same no_term s env x K y = same_refl
  sum_same (term_and t ts) s env x K y =
      let w = both (is_constant t) (are_constant ts) y in
      same_trans (const_same t s env (λ z. SumIs ts s env (v_plus x z) K) w.0) (sum_same ts s env (v_plus x (constant_value t)) K w.1)

  pub product_same : (ts : Terms) (s : Sort) (env : List Datum) (x : Value) (K : Value → Type 0) → Yes (are_constant ts) → Same (ProductIs ts s env x K) (K (constant_product ts x))
  product_same no_term s env x K y = same_refl
  product_same (term_and t ts) s env x K y =
      let w = both (is_constant t) (are_constant ts) y in
      same_trans (const_same t s env (λ z. ProductIs ts s env (v_times x z) K) w.0) (product_same ts s env (v_times x (constant_value t)) K w.1)

pub v_minus_is : (s : Sort) (v w : Value) → IsValue s v → IsValue s w → IsValue s (v_minus v w)
v_minus_is s v w a b = v_plus_is s v (v_neg w) a (v_neg_is s w b)

v_abs_is : (s : Sort) (v : Value) → IsValue s v → IsValue s (v_abs v)
v_abs_is Rat v h = h
v_abs_is Int v h = h

pub one_is : (s : Sort) (z : ℤ) → IsValue s (record { num = z; den = 1 })
one_is Rat z = omega arith
one_is Int z = refl

over_num_is : (s : Sort) (x : Value) (m : ℤ) (e : ℕ) → IsRat s → IsValue s x → IsValue s (over_num x m e)
over_num_is Rat x (pos zero) e r h = h
over_num_is Rat x (pos (suc m)) e r h = mul-le-mul h (let o : 1 ≤ suc m = omega arith in o)
over_num_is Rat x (negsuc m) e r h = mul-le-mul h (let o : 1 ≤ suc m = omega arith in o)
over_num_is Int x m e r h = absurd r

mutual
  pub const_is : (t : Term) (s : Sort) (vs : List VarSort) → Yes (is_constant t) → IsNumber t s vs → IsValue s (constant_value t)
  const_is (amount v) s vs y n = n
  const_is (negative t) s vs y n = v_neg_is s (constant_value t) (const_is t s vs y n)
  const_is (absolute t) s vs y n = v_abs_is s (constant_value t) (const_is t s vs y n)
  const_is (minus a b) s vs y n =
      let w = both (is_constant a) (is_constant b) y in
      v_minus_is s (constant_value a) (constant_value b) (const_is a s vs w.0 n.0) (const_is b s vs w.1 n.1)
  const_is (quotient_of a b) s vs y n =
      let w = both (is_constant a) (is_constant b) y in
      over_num_is s (constant_value a) (constant_value b).num (constant_value b).den n.0 (const_is a s vs w.0 n.1)
  const_is (div_of a b) s vs y n = one_is s (whole_div (constant_value a).num (constant_value b).num)
  const_is (mod_of a b) s vs y n =
      let w = both (is_constant a) (is_constant b) y in
      v_minus_is s (constant_value a) (v_times (constant_value b) (v_div (constant_value a) (constant_value b))) (const_is a s vs w.0 n.1)
      (v_times_is s (constant_value b) (v_div (constant_value a) (constant_value b)) (const_is b s vs w.1 n.2) (one_is s (whole_div (constant_value a).num (constant_value b).num)))
  const_is (plus_of ts) s vs y n = sum_is ts s vs zero_value y n (one_is s (pos 0))
  const_is (times_of ts) s vs y n = product_is ts s vs one_value y n.0 (one_is s (pos 1))
  const_is t s vs y n = absurd y

  pub sum_is : (ts : Terms) (s : Sort) (vs : List VarSort) (x : Value) → Yes (are_constant ts) → AreNumbers ts s vs → IsValue s x → IsValue s (constant_sum ts x)
  sum_is no_term s vs x y n i = i
  sum_is (term_and t ts) s vs x y n i =
      let w = both (is_constant t) (are_constant ts) y in
      sum_is ts s vs (v_plus x (constant_value t)) w.1 n.1 (v_plus_is s x (constant_value t) i (const_is t s vs w.0 n.0))

  pub product_is : (ts : Terms) (s : Sort) (vs : List VarSort) (x : Value) → Yes (are_constant ts) → AreNumbers ts s vs → IsValue s x → IsValue s (constant_product ts x)
  product_is no_term s vs x y n i = i
  product_is (term_and t ts) s vs x y n i =
      let w = both (is_constant t) (are_constant ts) y in
      product_is ts s vs (v_times x (constant_value t)) w.1 n.1 (v_times_is s x (constant_value t) i (const_is t s vs w.0 n.0))

-- ---- the value in lowest terms

lowered : (s : Sort) (v c : Value) → IsValue s v → IsSame v c → IsValue s (lowest v) × IsSame (lowest v) c
lowered s v c i e = (lowest_value s v i, trans_same (lowest v) v c (value_den s v i) (lowest_is v (value_den s v i)) e)

mutual
  pub low_is : (t : Term) (s : Sort) (vs : List VarSort) → Yes (is_constant t) → IsNumber t s vs → IsValue s (low t) × IsSame (low t) (constant_value t)
  low_is (amount v) s vs y n = lowered s v v n refl
  low_is (negative t) s vs y n =
      let h = low_is t s vs y n in
      lowered s (v_neg (low t)) (v_neg (constant_value t)) (v_neg_is s (low t) h.0) (same_neg (low t) (constant_value t) h.1)
  low_is (absolute t) s vs y n =
      let h = low_is t s vs y n in
      lowered s (v_abs (low t)) (v_abs (constant_value t)) (v_abs_is s (low t) h.0) (same_abs (low t) (constant_value t) h.1)
  low_is (minus a b) s vs y n =
      let w = both (is_constant a) (is_constant b) y in
      let h = low_is a s vs w.0 n.0 in
      let k = low_is b s vs w.1 n.1 in
      lowered s (v_minus (low a) (low b)) (v_minus (constant_value a) (constant_value b)) (v_minus_is s (low a) (low b) h.0 k.0) (same_minus (low a) (constant_value a) (low b) (constant_value b) h.1 k.1)
  low_is (quotient_of a b) s vs y n =
      let w = both (is_constant a) (is_constant b) y in
      let h = low_is a s vs w.0 n.1 in
      let k = low_is b s vs w.1 n.2 in
      lowered s (v_over (low a) (low b)) (v_over (constant_value a) (constant_value b)) (over_num_is s (low a) (low b).num (low b).den n.0 h.0)
      (same_over (low a) (constant_value a) (low b) (constant_value b) (value_den s (low b) k.0) (value_den s (constant_value b) (const_is b s vs w.1 n.2)) h.1 k.1)
  low_is (div_of a b) s vs y n =
      let w = both (is_constant a) (is_constant b) y in
      let h = low_is a s vs w.0 n.1 in
      let k = low_is b s vs w.1 n.2 in
      lowered s (v_div (low a) (low b)) (v_div (constant_value a) (constant_value b)) (one_is s (whole_div (low a).num (low b).num))
      (same_div s (low a) (constant_value a) (low b) (constant_value b) n.0 h.0 (const_is a s vs w.0 n.1) k.0 (const_is b s vs w.1 n.2) h.1 k.1)
  low_is (mod_of a b) s vs y n =
      let w = both (is_constant a) (is_constant b) y in
      let h = low_is a s vs w.0 n.1 in
      let k = low_is b s vs w.1 n.2 in
      lowered s (v_mod (low a) (low b)) (v_mod (constant_value a) (constant_value b))
      (v_minus_is s (low a) (v_times (low b) (v_div (low a) (low b))) h.0 (v_times_is s (low b) (v_div (low a) (low b)) k.0 (one_is s (whole_div (low a).num (low b).num))))
      (same_mod s (low a) (constant_value a) (low b) (constant_value b) n.0 h.0 (const_is a s vs w.0 n.1) k.0 (const_is b s vs w.1 n.2) h.1 k.1)
  low_is (plus_of ts) s vs y n = low_sum_is ts s vs zero_value zero_value y n (one_is s (pos 0)) refl
  low_is (times_of ts) s vs y n = low_product_is ts s vs one_value one_value y n.0 (one_is s (pos 1)) refl
  low_is t s vs y n = absurd y

  pub low_sum_is : (ts : Terms) (s : Sort) (vs : List VarSort) (x c : Value) → Yes (are_constant ts) → AreNumbers ts s vs → IsValue s x → IsSame x c → IsValue s (low_sum ts x) × IsSame (low_sum ts x) (constant_sum ts c)
  low_sum_is no_term s vs x c y n i e = (i, e)
  low_sum_is (term_and t ts) s vs x c y n i e =
      let w = both (is_constant t) (are_constant ts) y in
      let h = low_is t s vs w.0 n.0 in
      let l = lowered s (v_plus x (low t)) (v_plus c (constant_value t)) (v_plus_is s x (low t) i h.0) (same_plus x c (low t) (constant_value t) e h.1) in
      low_sum_is ts s vs (lowest (v_plus x (low t))) (v_plus c (constant_value t)) w.1 n.1 l.0 l.1

  pub low_product_is : (ts : Terms) (s : Sort) (vs : List VarSort) (x c : Value) → Yes (are_constant ts) → AreNumbers ts s vs → IsValue s x → IsSame x c → IsValue s (low_product ts x) × IsSame (low_product ts x) (constant_product ts c)
  low_product_is no_term s vs x c y n i e = (i, e)
  low_product_is (term_and t ts) s vs x c y n i e =
      let w = both (is_constant t) (are_constant ts) y in
      let h = low_is t s vs w.0 n.0 in
      let l = lowered s (v_times x (low t)) (v_times c (constant_value t)) (v_times_is s x (low t) i h.0) (same_times x c (low t) (constant_value t) e h.1) in
      low_product_is ts s vs (lowest (v_times x (low t))) (v_times c (constant_value t)) w.1 n.1 l.0 l.1

-- what a constant term is worked out to has its value
pub gives_low : (t : Term) (s : Sort) (vs : List VarSort) (p : Point) → IsNumber t s vs → Yes (is_constant t) → Gives s (as_lin (low t)) p (constant_value t)
gives_low t s vs p n y =
    let h = low_is t s vs y n in gives_value s p (low t) (constant_value t) h.0 (const_is t s vs y n) h.1

-- a constant term is handed on as its value
pub const_kont : (t : Term) (s : Sort) (q : Bool) (env : List Datum) (ctx : List Bound) (p : Point) (d : ℕ) (K : Value → Type 0) (k : ℕ → Lin → Normal) → IsNumber t s (map bound_sort ctx) → Here s env ctx p d → Kont s q K k p → Yes (is_constant t) → Same (Sign q (ValueIs t s env K)) (TrueN (k d (as_lin (low t))) s p)
const_kont t s q env ctx p d K k n h c y =
    same_trans (same_sign q (const_same t s env K y))
    (c p d (grows_refl p) h.point h.count (as_lin (low t)) (constant_value t) (gives_low t s (map bound_sort ctx) p n y))

pub lin_of_same : (b q : Bool) (V : Type 0) (x : Lin) (d : ℕ) (k : ℕ → Lin → Normal) (n : Normal) (s : Sort) (p : Point) → (Yes b → Same (Sign q V) (TrueN (k d x) s p)) → Same (Sign q V) (TrueN n s p) → Same (Sign q V) (TrueN (lin_of b x d k n) s p)
lin_of_same true q V x d k n s p f g = f tt
lin_of_same false q V x d k n s p f g = g

-- ---- the cases

pub amount_ok : (s : Sort) (v : Value) → LinOk s (amount v)
amount_ok s v q env ctx p d K k n h c =
    c p d (grows_refl p) h.point h.count (lin_constant v) v (gives_constant s p v n)

pub variable_ok : (s : Sort) (i : ℕ) → LinOk s (variable i)
variable_ok s i q env ctx p d K k n h c =
    let w = number_here s env ctx p d i h n.0 n.1 in
    c p d (grows_refl p) h.point h.count (lin_variable (level_at ctx i)) (number_of (at_place env i)) (gives_variable s p (level_at ctx i) (number_of (at_place env i)) w.2 w.0 w.1)

pub negative_ok : (s : Sort) (t : Term) → LinOk s t → LinOk s (negative t)
negative_ok s t o q env ctx p d K k n h c =
    lin_of_same (is_constant t) q (ValueIs (negative t) s env K) (as_lin (low (negative t))) d k (lin t s ctx d (λ e x. k e (lin_neg x))) s p
    (const_kont (negative t) s q env ctx p d K k n h c)
    (o q env ctx p d (λ x. K (v_neg x)) (λ e x. k e (lin_neg x)) n h (λ r e g i l x v a. c r e g i l (lin_neg x) (v_neg v) (gives_neg s x r v a)))

pub minus_ok : (s : Sort) (a b : Term) → LinOk s a → LinOk s b → LinOk s (minus a b)
minus_ok s a b oa ob q env ctx p d K k n h c =
    lin_of_same (is_constant a && is_constant b) q (ValueIs (minus a b) s env K) (as_lin (low (minus a b))) d k (lin a s ctx d (λ e x. lin b s ctx e (λ f y. k f (lin_minus x y)))) s p
    (const_kont (minus a b) s q env ctx p d K k n h c)
    (two_ok s a b oa ob q env ctx p d (λ x y. K (v_minus x y)) (λ f x y. k f (lin_minus x y)) n.0 n.1 h
    (λ r e g i l x y v w ga gb. c r e g i l (lin_minus x y) (v_minus v w) (gives_minus s x y r v w ga gb)))

pub lin_ite_ok : (s : Sort) (t a b : Term) → NormOk s t → LinOk s a → LinOk s b → LinOk s (ite t a b)
lin_ite_ok s t a b o oa ob q env ctx p d K k n h c =
    two_ok s a b oa ob q env ctx p d (λ x y. (True t s env → K x) × (¬ True t s env → K y))
    (λ f x y. ite_form (norm t s true ctx f) (norm t s false ctx f) (k f x) (k f y)) n.1 n.2 h
    (λ r e g i l x y v w ga gb.
    let h' = here_grows s env ctx p r d e h g i l in
    ite_same q (True t s env) (K v) (K w) (norm t s true ctx e) (norm t s false ctx e) (k e x) (k e y) s r
    (o true env ctx r e n.0 h') (o false env ctx r e n.0 h') (λ z. c r e g i l x v ga) (λ z. c r e g i l y w gb))

-- ---- the absolute value

abs_of_pos : (z : ℤ) → pos 0 ≤ℤ z → z ≡ pos (nat_abs z)
abs_of_pos (pos n) h = refl
abs_of_pos (negsuc n) h = absurd (omega (arith, ints))

abs_of_neg : (z : ℤ) → ¬ (pos 0 ≤ℤ z) → neg_ℤ z ≡ pos (nat_abs z)
abs_of_neg (pos n) h = absurd (h (omega (arith, ints)))
abs_of_neg (negsuc n) h = omega (arith, ints)

abs_pos : (s : Sort) (x : Lin) (p : Point) (v : Value) → pos 0 ≤ℤ v.num → Gives s x p v → Gives s x p (v_abs v)
abs_pos s x p v h a = subst (λ (z : ℤ). Gives s x p (record { num = z; den = v.den })) (abs_of_pos v.num h) a

abs_neg : (s : Sort) (x : Lin) (p : Point) (v : Value) → ¬ (pos 0 ≤ℤ v.num) → Gives s x p v → Gives s (lin_neg x) p (v_abs v)
abs_neg s x p v h a = subst (λ (z : ℤ). Gives s (lin_neg x) p (record { num = z; den = v.den })) (abs_of_neg v.num h) (gives_neg s x p v a)

abs_cases : (z : ℤ) {P : Type 0} → Same P ((pos 0 ≤ℤ z → P) × (¬ (pos 0 ≤ℤ z) → P))
abs_cases z {P} =
    (λ x. (λ y. x, λ y. x), λ h. by_lt_z z (pos 0) (λ l. h.1 (λ m. omega (arith, ints))) (λ l. h.0 l))

pub absolute_ok : (s : Sort) (t : Term) → LinOk s t → LinOk s (absolute t)
absolute_ok s t o q env ctx p d K k n h c =
    lin_of_same (is_constant t) q (ValueIs (absolute t) s env K) (as_lin (low (absolute t))) d k (lin t s ctx d (λ e x. abs_form s x (k e x) (k e (lin_neg x)))) s p
    (const_kont (absolute t) s q env ctx p d K k n h c)
    (o q env ctx p d (λ x. K (v_abs x)) (λ e x. abs_form s x (k e x) (k e (lin_neg x))) n h
    (λ r e g i l x v a.
    let w = sign_at_least s x r v i a in
    same_trans (same_sign q (abs_cases v.num))
    (ite_same q (pos 0 ≤ℤ v.num) (K (v_abs v)) (K (v_abs v)) (signed true s (AtLeast x.form)) (signed false s (AtLeast x.form)) (k e x) (k e (lin_neg x)) s r
    (same_trans w (signed_same true s r (AtLeast x.form) i tt))
    (same_trans (same_sign false w) (signed_same false s r (AtLeast x.form) i tt))
    (λ z. c r e g i l x (v_abs v) (abs_pos s x r v z a))
    (λ z. c r e g i l (lin_neg x) (v_abs v) (abs_neg s x r v z a)))))

-- ---- quotients

gives_over : (s : Sort) (x : Lin) (p : Point) (v : Value) (m : ℤ) (e : ℕ) → IsRat s → 1 ≤ e → Gives s x p v → Gives s (over_constant m e x) p (over_num v m e)
gives_over s x p v (pos zero) e r o a = a
gives_over s x p v (pos (suc m)) e r o a =
    gives_scale s (pos e) (suc m) x p v (over_num v (pos (suc m)) e) (omega arith) (over_num_is s v (pos (suc m)) e r a.valued)
    (let w : (v.num *ℤ pos e) *ℤ (pos (suc m) *ℤ pos v.den) ≡ (pos e *ℤ v.num) *ℤ (pos v.den *ℤ pos (suc m)) = simp ring in w) a
gives_over s x p v (negsuc m) e r o a =
    gives_scale s (neg_ℤ (pos e)) (suc m) x p v (over_num v (negsuc m) e) (omega arith) (over_num_is s v (negsuc m) e r a.valued)
    (let w : neg_ℤ (v.num *ℤ pos e) *ℤ (pos (suc m) *ℤ pos v.den) ≡ (neg_ℤ (pos e) *ℤ v.num) *ℤ (pos v.den *ℤ pos (suc m)) = simp ring in w) a

pub quotient_ok : (s : Sort) (a b : Term) → LinOk s a → LinOk s (quotient_of a b)
quotient_ok s a b oa q env ctx p d K k n h c =
    lin_of_same (is_constant a && is_constant b) q (ValueIs (quotient_of a b) s env K) (as_lin (low (quotient_of a b))) d k (lin a s ctx d (λ e x. k e (lin_over x (low b)))) s p
    (const_kont (quotient_of a b) s q env ctx p d K k n h c)
    (oa q env ctx p d (λ x. ValueIs b s env (λ y. K (v_over x y))) (λ e x. k e (lin_over x (low b))) n.1 h
    (λ r e g i l x v ga.
    same_trans (same_sign q (const_same b s env (λ y. K (v_over v y)) n.3))
    (let w = low_is b s (map bound_sort ctx) n.3 n.2 in
    let j = const_is b s (map bound_sort ctx) n.3 n.2 in
    c r e g i l (lin_over x (low b)) (v_over v (constant_value b))
    (gives_same s (lin_over x (low b)) r (v_over v (low b)) (v_over v (constant_value b)) (over_num_is s v (constant_value b).num (constant_value b).den n.0 ga.valued)
    (same_over v v (low b) (constant_value b) (value_den s (low b) w.0) (value_den s (constant_value b) j) refl w.1)
    (gives_over s x r v (low b).num (low b).den n.0 (value_den s (low b) w.0) ga)))))

-- ---- sums

pub sum_ok : (s : Sort) (t : Term) (ts : Terms) → LinOk s t → (q : Bool) (env : List Datum) (ctx : List Bound) (p : Point) (d : ℕ) (K : Value → Type 0) (k : ℕ → Lin → Normal) → IsNumber t s (map bound_sort ctx) → Here s env ctx p d → Kont s q K k p → (x : Lin) (v : Value) → Gives s x p v →
    ((r : Point) (e : ℕ) → Grows p r → IsPoint s r → length r.nums ≡ e → (y : Lin) (w : Value) → Gives s y r w → Same (Sign q (SumIs ts s env w K)) (TrueN (lin_sum ts s ctx e y k) s r)) → Same (Sign q (SumIs (term_and t ts) s env v K)) (TrueN (lin_sum (term_and t ts) s ctx d x k) s p)
sum_ok s t ts o q env ctx p d K k n h c x v a f =
    o q env ctx p d (λ y. SumIs ts s env (v_plus v y) K) (λ e y. lin_sum ts s ctx e (lin_plus x y) k) n h
    (λ r e g i l y w b. f r e g i l (lin_plus x y) (v_plus v w) (gives_plus s x y r v w (gives_grows s x p r v h.point g a) b))
