-- A constant term that was worked out has the value of the term.
use Rattle.std.specs.Prelude.{List, ℕ, zero, suc, ◌*◌, ◌≤◌, ◌≡◌, ℤ, pos, negsuc, ◌+ℤ◌, ◌*ℤ◌, ◌<ℤ◌, neg_ℤ, nat_abs, Bool, true, false, ◌&&◌, if◌then◌else◌, Option, Some, None}
use Rattle.std.proofs.Common.{arith, ap, ◌∙◌, sym, subst, refl}
use Rattle.std.proofs.lemmas.Int.{ints}
use lib.IntN.{*ℤ_comm}
use Rattle.lin_term.specs.declared.row.Sort.{Sort}
use Rattle.lin_term.specs.declared.row.Sort.TheVariants.{Rat, Int}
use Rattle.lin_term.specs.Linear.{Value, IsValue}
use Rattle.lin_term.specs.Literal.{gcd, or_one}
use Rattle.lin_term.proofs.PrimitiveLemmas.{gcd_is, or_one_pos, or_one_divides, floor_exact, whole_div}
use Rattle.lin_term.proofs.Dividing.{abs_product}
use Rattle.lin_term.proofs.Ring.{ring, neg_mul_ℤ, cancel_right_ℤ, zero_from_mul}
use Rattle.lin_truth.specs.declared.term.VarSort.{VarSort}
use Rattle.lin_truth.specs.Value.{zero_value, one_value, v_neg, v_abs, v_plus, v_minus, v_times, over_num, v_over, v_div, v_mod, Yes}
use Rattle.lin_truth.specs.Term.{Term, Terms, yes, no, amount, variable, negative, absolute, negated, divisible, minus, quotient_of, div_of, mod_of, less, at_most, greater, at_least, equal, xor_of, implies, ite, plus_of, times_of, and_of, or_of, forall_of, exists_of, no_term, term_and}
use Rattle.lin_truth.specs.Constant.{is_constant, are_constant, constant_value, constant_sum, constant_product}
use Rattle.lin_truth.specs.Formed.{IsNumber, AreNumbers, IsRat, IsInt, IsNotZero}
use Rattle.lin_truth.specs.Worked.{lowest, is_within, kept, step_one, step_two, worked, worked_sum, worked_product}

-- the same number
abbrev pub SameValue : Sort → Value → Value → Type 0
SameValue Rat v w = (1 ≤ v.den) × (1 ≤ w.den) × (v.num *ℤ pos w.den ≡ w.num *ℤ pos v.den)
SameValue Int v w = (v.den ≡ 1) × (w.den ≡ 1) × (v.num ≡ w.num)

pub same_itself : (s : Sort) (v : Value) → IsValue s v → SameValue s v v
same_itself Rat v is = (is, is, refl)
same_itself Int v is = (is, is, refl)

-- ---- lowest terms

common : Value → ℕ
common v = or_one (gcd v.den (nat_abs v.num))

lowest_num : (v : Value) → pos (common v) *ℤ (lowest v).num ≡ v.num
unfolding common
lowest_num v = floor_exact v.num (common v) (or_one_pos (gcd v.den (nat_abs v.num))) (or_one_divides (gcd v.den (nat_abs v.num)) (nat_abs v.num) (gcd_is v.den (nat_abs v.num)).1)

lowest_den : (v : Value) → common v * (lowest v).den ≡ v.den
unfolding common
lowest_den v = whole_div (common v) v.den (or_one_pos (gcd v.den (nat_abs v.num))) (or_one_divides (gcd v.den (nat_abs v.num)) v.den (gcd_is v.den (nat_abs v.num)).0)

common_pos : (v : Value) → 1 ≤ common v
unfolding common
common_pos v = or_one_pos (gcd v.den (nat_abs v.num))

factor_pos : (g d e : ℕ) → g * d ≡ e → 1 ≤ e → 1 ≤ d
factor_pos g zero e p q = absurd (omega arith)
factor_pos g (suc d) e p q = omega arith

one_factor : (g d : ℕ) → g * d ≡ 1 → (g ≡ 1) × (d ≡ 1)
one_factor zero d e = absurd (omega arith)
one_factor (suc zero) d e = (refl, omega arith)
one_factor (suc (suc g)) zero e = absurd (omega arith)
one_factor (suc (suc g)) (suc d) e = absurd (omega arith)

cross_lowest : (g n m v w d : ℤ) → pos 0 <ℤ g → g *ℤ n ≡ v → g *ℤ m ≡ d → (e : ℤ) → v *ℤ e ≡ w *ℤ d → n *ℤ e ≡ w *ℤ m
cross_lowest g n m v w d positive p q e same =
    cancel_right_ℤ (n *ℤ e) (w *ℤ m) g positive
    (let a : (n *ℤ e) *ℤ g ≡ (g *ℤ n) *ℤ e = simp ring refl in
    let b : w *ℤ (g *ℤ m) ≡ (w *ℤ m) *ℤ g = simp ring refl in
    a ∙ ap (λ x. x *ℤ e) p ∙ same ∙ ap (λ x. w *ℤ x) (sym q) ∙ b)

lowest_same : (s : Sort) (v w : Value) → SameValue s v w → SameValue s (lowest v) w
lowest_same Rat v w same =
    let g = common v in (
      factor_pos g (lowest v).den v.den (lowest_den v) same.0,
      same.1,
      cross_lowest (pos g) (lowest v).num (pos (lowest v).den) v.num w.num (pos v.den) (let o = common_pos v in omega (arith, ints)) (lowest_num v) (ap pos (lowest_den v)) (pos w.den) same.2,
    )
lowest_same Int v w same =
    let one = one_factor (common v) (lowest v).den (lowest_den v ∙ same.0) in (
      one.1,
      same.1,
      (let e : pos 1 *ℤ (lowest v).num ≡ v.num = subst (λ g. pos g *ℤ (lowest v).num ≡ v.num) one.0 (lowest_num v) in
          let f : pos 1 *ℤ (lowest v).num ≡ (lowest v).num = omega (arith, ints) in
          sym f ∙ e ∙ same.2),
    )

kept_is : (v u : Value) (b : Bool) → (if b then Some (lowest v) else None) ≡ Some u → lowest v ≡ u
kept_is v u true e = let f : Option Value → Value = λ o. elim o [ None ↦ u | Some x ↦ x ] in ap f e
kept_is v u false e = cc

pub kept_same : (s : Sort) (v u w : Value) → kept v ≡ Some u → SameValue s v w → SameValue s u w
kept_same s v u w e same = subst (λ x. SameValue s x w) (kept_is v u (is_within (lowest v)) e) (lowest_same s v w same)

-- ---- operations

equal_values : (v w : Value) → v.num ≡ w.num → v.den ≡ w.den → v ≡ w
equal_values v w p q = λ k. record { num = p k; den = q k }

int_equal : (v w : Value) → SameValue Int v w → v ≡ w
int_equal v w same = equal_values v w same.2 (same.0 ∙ sym same.1)

cross_neg : (a b c d : ℤ) → a *ℤ d ≡ c *ℤ b → neg_ℤ a *ℤ d ≡ neg_ℤ c *ℤ b
cross_neg a b c d e = neg_mul_ℤ a d ∙ ap neg_ℤ e ∙ sym (neg_mul_ℤ c b)

neg_same : (s : Sort) (v w : Value) → SameValue s v w → SameValue s (v_neg v) (v_neg w)
neg_same Rat v w same = (same.0, same.1, cross_neg v.num (pos v.den) w.num (pos w.den) same.2)
neg_same Int v w same = (same.0, same.1, ap neg_ℤ same.2)

cross_abs : (a c : ℤ) (b d : ℕ) → a *ℤ pos d ≡ c *ℤ pos b → pos (nat_abs a) *ℤ pos d ≡ pos (nat_abs c) *ℤ pos b
cross_abs a c b d e =
    let p : d * nat_abs a ≡ b * nat_abs c = sym (abs_product d a) ∙ ap nat_abs (*ℤ_comm (pos d) a ∙ e ∙ *ℤ_comm c (pos b)) ∙ abs_product b c in
    omega (arith, ints)

abs_same : (s : Sort) (v w : Value) → SameValue s v w → SameValue s (v_abs v) (v_abs w)
abs_same Rat v w same = (same.0, same.1, cross_abs v.num w.num v.den w.den same.2)
abs_same Int v w same = (same.0, same.1, ap (λ z. pos (nat_abs z)) same.2)

one_one : (a b : ℕ) → 1 ≤ a → 1 ≤ b → 1 ≤ a * b
one_one zero b p q = absurd (omega arith)
one_one (suc a) zero p q = absurd (omega arith)
one_one (suc a) (suc b) p q = omega arith

cross_plus : (a b c d x y z w : ℤ) → a *ℤ y ≡ x *ℤ b → c *ℤ w ≡ z *ℤ d → (a *ℤ d +ℤ c *ℤ b) *ℤ (y *ℤ w) ≡ (x *ℤ w +ℤ z *ℤ y) *ℤ (b *ℤ d)
cross_plus a b c d x y z w p q =
    let left : (a *ℤ d +ℤ c *ℤ b) *ℤ (y *ℤ w) ≡ (a *ℤ y) *ℤ (d *ℤ w) +ℤ (c *ℤ w) *ℤ (b *ℤ y) = simp ring refl in
    let right : (x *ℤ w +ℤ z *ℤ y) *ℤ (b *ℤ d) ≡ (x *ℤ b) *ℤ (d *ℤ w) +ℤ (z *ℤ d) *ℤ (b *ℤ y) = simp ring refl in
    left ∙ (λ k. p k *ℤ (d *ℤ w) +ℤ q k *ℤ (b *ℤ y)) ∙ sym right

cross_times : (a b c d x y z w : ℤ) → a *ℤ y ≡ x *ℤ b → c *ℤ w ≡ z *ℤ d → (a *ℤ c) *ℤ (y *ℤ w) ≡ (x *ℤ z) *ℤ (b *ℤ d)
cross_times a b c d x y z w p q =
    let left : (a *ℤ c) *ℤ (y *ℤ w) ≡ (a *ℤ y) *ℤ (c *ℤ w) = simp ring refl in
    let right : (x *ℤ z) *ℤ (b *ℤ d) ≡ (x *ℤ b) *ℤ (z *ℤ d) = simp ring refl in
    left ∙ (λ k. p k *ℤ q k) ∙ sym right

ap_two : (f : Value → Value → Value) (v w x y : Value) → v ≡ w → x ≡ y → f v x ≡ f w y
ap_two f v w x y p q = λ k. f (p k) (q k)

-- at one value, for whole numbers
whole_same : (v w : Value) → v ≡ w → w.den ≡ 1 → SameValue Int v w
whole_same v w e one = (ap (λ (x : Value). x.den) e ∙ one, one, ap (λ (x : Value). x.num) e)

times_one : (a b : ℕ) → a ≡ 1 → b ≡ 1 → a * b ≡ 1
times_one a b p q = (λ k. p k * q k)

plus_same : (s : Sort) (v w x y : Value) → SameValue s v w → SameValue s x y → SameValue s (v_plus v x) (v_plus w y)
plus_same Rat v w x y p q =
    (one_one v.den x.den p.0 q.0, one_one w.den y.den p.1 q.1, cross_plus v.num (pos v.den) x.num (pos x.den) w.num (pos w.den) y.num (pos y.den) p.2 q.2)
plus_same Int v w x y p q = whole_same (v_plus v x) (v_plus w y) (ap_two v_plus v w x y (int_equal v w p) (int_equal x y q)) (times_one w.den y.den p.1 q.1)

minus_same : (s : Sort) (v w x y : Value) → SameValue s v w → SameValue s x y → SameValue s (v_minus v x) (v_minus w y)
minus_same s v w x y p q = plus_same s v w (v_neg x) (v_neg y) p (neg_same s x y q)

times_same : (s : Sort) (v w x y : Value) → SameValue s v w → SameValue s x y → SameValue s (v_times v x) (v_times w y)
times_same Rat v w x y p q =
    (one_one v.den x.den p.0 q.0, one_one w.den y.den p.1 q.1, cross_times v.num (pos v.den) x.num (pos x.den) w.num (pos w.den) y.num (pos y.den) p.2 q.2)
times_same Int v w x y p q = whole_same (v_times v x) (v_times w y) (ap_two v_times v w x y (int_equal v w p) (int_equal x y q)) (times_one w.den y.den p.1 q.1)

div_same : (s : Sort) (v w x y : Value) → IsInt s → SameValue s v w → SameValue s x y → SameValue s (v_div v x) (v_div w y)
div_same Rat v w x y is p q = absurd is
div_same Int v w x y is p q = whole_same (v_div v x) (v_div w y) (ap_two v_div v w x y (int_equal v w p) (int_equal x y q)) refl

mod_same : (s : Sort) (v w x y : Value) → IsInt s → SameValue s v w → SameValue s x y → SameValue s (v_mod v x) (v_mod w y)
mod_same s v w x y is p q = minus_same s v w (v_times x (v_div v x)) (v_times y (v_div w y)) p (times_same s x y (v_div v x) (v_div w y) q (div_same s v w x y is p q))

cross_over : (a b x y e f m n : ℤ) → a *ℤ y ≡ x *ℤ b → m *ℤ f ≡ n *ℤ e → (a *ℤ e) *ℤ (y *ℤ n) ≡ (x *ℤ f) *ℤ (b *ℤ m)
cross_over a b x y e f m n p q =
    let left : (a *ℤ e) *ℤ (y *ℤ n) ≡ (a *ℤ y) *ℤ (n *ℤ e) = simp ring refl in
    let right : (x *ℤ f) *ℤ (b *ℤ m) ≡ (x *ℤ b) *ℤ (m *ℤ f) = simp ring refl in
    left ∙ (λ k. p k *ℤ sym q k) ∙ sym right

opposite_signs : (m n e f : ℕ) → 1 ≤ e → pos (suc m) *ℤ pos f ≡ negsuc n *ℤ pos e → 1 ≤ f → ⊥
opposite_signs m n zero f p same q = omega arith
opposite_signs m n (suc e) zero p same q = omega arith
opposite_signs m n (suc e) (suc f) p same q = omega (arith, ints)

cross_minus : (m n e f : ℕ) → negsuc m *ℤ pos f ≡ negsuc n *ℤ pos e → pos (suc m) *ℤ pos f ≡ pos (suc n) *ℤ pos e
cross_minus m n e f same =
    cross_neg (negsuc m) (pos e) (negsuc n) (pos f) same

zero_over : (n : ℤ) (e f : ℕ) → 1 ≤ e → pos zero *ℤ pos f ≡ n *ℤ pos e → n ≡ pos 0
zero_over n e f o same = zero_from_mul n (pos e) (omega (arith, ints)) (sym same ∙ omega (arith, ints))

over_nums : (v w : Value) (m n : ℤ) (e f : ℕ) → IsNotZero n → SameValue Rat v w → (1 ≤ e) × (1 ≤ f) × (m *ℤ pos f ≡ n *ℤ pos e)
    → SameValue Rat (over_num v m e) (over_num w n f)
over_nums v w m (pos zero) e f some p q = absurd some
over_nums v w (pos zero) (pos (suc n)) e f some p q = let z = zero_over (pos (suc n)) e f q.0 q.2 in cc
over_nums v w (pos zero) (negsuc n) e f some p q = let z = zero_over (negsuc n) e f q.0 q.2 in cc
over_nums v w (pos (suc m)) (pos (suc n)) e f some p q = (
  one_one v.den (suc m) p.0 (omega arith),
  one_one w.den (suc n) p.1 (omega arith),
  cross_over v.num (pos v.den) w.num (pos w.den) (pos e) (pos f) (pos (suc m)) (pos (suc n)) p.2 q.2,
)
over_nums v w (pos (suc m)) (negsuc n) e f some p q = absurd (opposite_signs m n e f q.0 q.2 q.1)
over_nums v w (negsuc m) (pos (suc n)) e f some p q = absurd (opposite_signs n m f e q.1 (sym q.2) q.0)
over_nums v w (negsuc m) (negsuc n) e f some p q = (
  one_one v.den (suc m) p.0 (omega arith),
  one_one w.den (suc n) p.1 (omega arith),
  cross_neg (v.num *ℤ pos e) (pos (v.den * suc m)) (w.num *ℤ pos f) (pos (w.den * suc n))
      (cross_over v.num (pos v.den) w.num (pos w.den) (pos e) (pos f) (pos (suc m)) (pos (suc n)) p.2 (cross_minus m n e f q.2)),
)

over_same : (s : Sort) (v w x y : Value) → IsRat s → IsNotZero y.num → SameValue s v w → SameValue s x y → SameValue s (v_over v x) (v_over w y)
over_same Rat v w x y is some p q = over_nums v w x.num y.num x.den y.den some p q
over_same Int v w x y is some p q = absurd is

-- ---- steps

some_one : (f : Value → Value) (x : Option Value) (v : Value) → step_one f x ≡ Some v → (w : Value) × (x ≡ Some w) × (kept (f w) ≡ Some v)
some_one f None v e = cc
some_one f (Some w) v e = (w, refl, e)

some_two : (f : Value → Value → Value) (x y : Option Value) (v : Value) → step_two f x y ≡ Some v → (w u : Value) × (x ≡ Some w) × (y ≡ Some u) × (kept (f w u) ≡ Some v)
some_two f None y v e = cc
some_two f (Some w) None v e = cc
some_two f (Some w) (Some u) v e = (w, u, refl, refl, e)

both_yes : (a b : Bool) → Yes (a && b) → Yes a × Yes b
both_yes true true y = (tt, tt)
both_yes true false y = absurd y
both_yes false b y = absurd y

-- ---- the value of a constant term

abbrev Agrees : Sort → Option Value → Value → Type 0
Agrees s x w = (v : Value) → x ≡ Some v → SameValue s v w

one_agrees : (s : Sort) (f : Value → Value) (x : Option Value) (w : Value) → ((v : Value) → SameValue s v w → SameValue s (f v) (f w)) → Agrees s x w → Agrees s (step_one f x) (f w)
one_agrees s f x w keeps agrees v e =
    let is = some_one f x v e in
    kept_same s (f is.0) v (f w) is.2 (keeps is.0 (agrees is.0 is.1))

two_agree : (s : Sort) (f : Value → Value → Value) (x y : Option Value) (w u : Value) → ((v z : Value) → SameValue s v w → SameValue s z u → SameValue s (f v z) (f w u))
    → Agrees s x w → Agrees s y u → Agrees s (step_two f x y) (f w u)
two_agree s f x y w u keeps p q v e =
    let is = some_two f x y v e in
    kept_same s (f is.0 is.1) v (f w u) is.4 (keeps is.0 is.1 (p is.0 is.2) (q is.1 is.3))

some_value : (v w : Value) → Some v ≡ Some w → w ≡ v
some_value v w e = let f : Option Value → Value = λ o. elim o [ None ↦ v | Some x ↦ x ] in sym (ap f e)

started : (s : Sort) (v : Value) → IsValue s v → Agrees s (Some v) v
started s v is w e = subst (λ x. SameValue s x v) (sym (some_value v w e)) (same_itself s v is)

zero_is : (s : Sort) → IsValue s zero_value
zero_is Rat = omega arith
zero_is Int = refl

one_is : (s : Sort) → IsValue s one_value
one_is Rat = omega arith
one_is Int = refl

mutual
  worked_agrees : (t : Term) (s : Sort) (vs : List VarSort) → IsNumber t s vs → Yes (is_constant t) → Agrees s (worked t) (constant_value t)
  worked_agrees (amount v) s vs is c = λ w e. kept_same s v w v e (same_itself s v is)
  worked_agrees (negative t) s vs is c = one_agrees s v_neg (worked t) (constant_value t) (λ v. neg_same s v (constant_value t)) (worked_agrees t s vs is c)
  worked_agrees (absolute t) s vs is c = one_agrees s v_abs (worked t) (constant_value t) (λ v. abs_same s v (constant_value t)) (worked_agrees t s vs is c)
  worked_agrees (minus a b) s vs is c =
      let both = both_yes (is_constant a) (is_constant b) c in
      two_agree s v_minus (worked a) (worked b) (constant_value a) (constant_value b) (λ v z. minus_same s v (constant_value a) z (constant_value b)) (worked_agrees a s vs is.0 both.0) (worked_agrees b s vs is.1 both.1)
  worked_agrees (quotient_of a b) s vs is c =
      let both = both_yes (is_constant a) (is_constant b) c in
      two_agree s v_over (worked a) (worked b) (constant_value a) (constant_value b) (λ v z. over_same s v (constant_value a) z (constant_value b) is.0 is.4) (worked_agrees a s vs is.1 both.0) (worked_agrees b s vs is.2 both.1)
  worked_agrees (div_of a b) s vs is c =
      let both = both_yes (is_constant a) (is_constant b) c in
      two_agree s v_div (worked a) (worked b) (constant_value a) (constant_value b) (λ v z. div_same s v (constant_value a) z (constant_value b) is.0) (worked_agrees a s vs is.1 both.0) (worked_agrees b s vs is.2 both.1)
  worked_agrees (mod_of a b) s vs is c =
      let both = both_yes (is_constant a) (is_constant b) c in
      two_agree s v_mod (worked a) (worked b) (constant_value a) (constant_value b) (λ v z. mod_same s v (constant_value a) z (constant_value b) is.0) (worked_agrees a s vs is.1 both.0) (worked_agrees b s vs is.2 both.1)
  worked_agrees (plus_of ts) s vs is c = sum_agrees ts s vs is c (Some zero_value) zero_value (started s zero_value (zero_is s))
  worked_agrees (times_of ts) s vs is c = product_agrees ts s vs is.0 c (Some one_value) one_value (started s one_value (one_is s))
  worked_agrees yes s vs is c = absurd c
  worked_agrees no s vs is c = absurd c
  worked_agrees (variable i) s vs is c = absurd c
  worked_agrees (negated t) s vs is c = absurd c
  worked_agrees (divisible n t) s vs is c = absurd c
  worked_agrees (less a b) s vs is c = absurd c
  worked_agrees (at_most a b) s vs is c = absurd c
  worked_agrees (greater a b) s vs is c = absurd c
  worked_agrees (at_least a b) s vs is c = absurd c
  worked_agrees (equal a b) s vs is c = absurd c
  worked_agrees (xor_of a b) s vs is c = absurd c
  worked_agrees (implies a b) s vs is c = absurd c
  worked_agrees (ite d a b) s vs is c = absurd c
  worked_agrees (and_of ts) s vs is c = absurd c
  worked_agrees (or_of ts) s vs is c = absurd c
  worked_agrees (forall_of us t) s vs is c = absurd c
  worked_agrees (exists_of us t) s vs is c = absurd c

  sum_agrees : (ts : Terms) (s : Sort) (vs : List VarSort) → AreNumbers ts s vs → Yes (are_constant ts) → (x : Option Value) (w : Value) → Agrees s x w → Agrees s (worked_sum ts x) (constant_sum ts w)
  sum_agrees no_term s vs is c x w agrees = agrees
  sum_agrees (term_and t ts) s vs is c x w agrees =
      let both = both_yes (is_constant t) (are_constant ts) c in
      sum_agrees ts s vs is.1 both.1 (step_two v_plus x (worked t)) (v_plus w (constant_value t))
      (two_agree s v_plus x (worked t) w (constant_value t) (λ v z. plus_same s v w z (constant_value t)) agrees (worked_agrees t s vs is.0 both.0))

  product_agrees : (ts : Terms) (s : Sort) (vs : List VarSort) → AreNumbers ts s vs → Yes (are_constant ts) → (x : Option Value) (w : Value) → Agrees s x w → Agrees s (worked_product ts x) (constant_product ts w)
  product_agrees no_term s vs is c x w agrees = agrees
  product_agrees (term_and t ts) s vs is c x w agrees =
      let both = both_yes (is_constant t) (are_constant ts) c in
      product_agrees ts s vs is.1 both.1 (step_two v_times x (worked t)) (v_times w (constant_value t))
      (two_agree s v_times x (worked t) w (constant_value t) (λ v z. times_same s v w z (constant_value t)) agrees (worked_agrees t s vs is.0 both.0))

-- what was worked out is the term's value
pub worked_is : (t : Term) (s : Sort) (vs : List VarSort) → IsNumber t s vs → Yes (is_constant t) → (v : Value) → worked t ≡ Some v → SameValue s v (constant_value t)
worked_is = worked_agrees

not_zero_same : (s : Sort) (v w : Value) → SameValue s v w → IsNotZero v.num → IsNotZero w.num
not_zero_same Int v w same some = subst IsNotZero same.2 some
not_zero_same Rat v w same some = crossed v.num w.num v.den w.den same.0 same.1 same.2 some
  where
    crossed : (n m : ℤ) (d e : ℕ) → 1 ≤ d → 1 ≤ e → n *ℤ pos e ≡ m *ℤ pos d → IsNotZero n → IsNotZero m
    crossed n (pos zero) d e p q cross some =
        let z : n ≡ pos 0 = zero_from_mul n (pos e) (omega (arith, ints)) (cross ∙ omega (arith, ints)) in
        subst IsNotZero z some
    crossed n (pos (suc m)) d e p q cross some = tt
    crossed n (negsuc m) d e p q cross some = tt

-- a constant term whose worked value is not 0 is not 0
pub worked_not_zero : (t : Term) (s : Sort) (vs : List VarSort) → IsNumber t s vs → Yes (is_constant t) → (v : Value) → worked t ≡ Some v → IsNotZero v.num → IsNotZero (constant_value t).num
worked_not_zero t s vs is c v e some = not_zero_same s v (constant_value t) (worked_agrees t s vs is c v e) some
