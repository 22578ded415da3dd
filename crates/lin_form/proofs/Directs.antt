-- Constant terms are worked out by the same sums and multiples as other terms: the two ways give the same forms.
use Rattle.std.specs.Prelude.{ℕ, ◌*◌, ◌≡◌, ℤ, pos, negsuc, ◌+ℤ◌, ◌-ℤ◌, ◌*ℤ◌, neg_ℤ, Bool, true, false, ◌&&◌, List, [], ◌∷◌, ◌++◌}
use Rattle.std.proofs.Common.{arith, ap, ap₂, ◌∙◌, sym, refl}
use Rattle.std.proofs.lemmas.Int.{ints}
use Rattle.std.proofs.lemmas.Bool.{cond-true, cond-false}
use Rattle.lin_term.specs.Linear.{Value, constant_form}
use Rattle.lin_term.proofs.Ring.{ring}
use Rattle.lin_truth.specs.Value.{zero_value, one_value, v_neg, v_plus, v_minus, v_times, v_mod, whole_div}
use Rattle.lin_truth.specs.Term.{Term, Terms, amount, negative, absolute, minus, quotient_of, div_of, mod_of, plus_of, times_of, no_term, term_and}
use Rattle.lin_truth.specs.Constant.{is_constant, are_constant}
use Rattle.lin_form.specs.declared.scope.Bound.{Bound}
use Rattle.lin_form.specs.Lin.{Lin, reduced, lin_plus, lin_neg, lin_minus, lin_times, lin_over}
use Rattle.lin_form.specs.Low.{as_lin, lowest, low, low_sum, low_product, steps, sum_steps, product_steps}
use Rattle.lin_form.specs.Direct.{direct, direct_sum, direct_product, made, made_sum, made_product}

false_true : false ≡ true → ⊥
false_true h = absurd (cc)

-- ---- a step on values, and on forms without variables

reduced_constant : (z z' : ℤ) (n n' : ℕ) → z ≡ z' → n ≡ n' → reduced (record { form = constant_form z; den = n }) ≡ reduced (record { form = constant_form z'; den = n' })
reduced_constant z z' n n' e f = ap₂ (λ (y : ℤ) (m : ℕ). reduced (record { form = constant_form y; den = m })) e f

pub neg_step : (v : Value) → lin_neg (as_lin v) ≡ as_lin (lowest (v_neg v))
neg_step v = reduced_constant (negsuc 0 *ℤ v.num) (neg_ℤ v.num) (1 * v.den) v.den (omega (arith, ints)) (omega arith)

pub plus_step : (v w : Value) → lin_plus (as_lin v) (as_lin w) ≡ as_lin (lowest (v_plus v w))
plus_step v w =
    reduced_constant (pos w.den *ℤ v.num +ℤ pos v.den *ℤ w.num) (v.num *ℤ pos w.den +ℤ w.num *ℤ pos v.den) (v.den * w.den) (v.den * w.den) (simp ring) refl

pub minus_step : (v w : Value) → lin_minus (as_lin v) (as_lin w) ≡ as_lin (lowest (v_minus v w))
minus_step v w =
    reduced_constant (pos w.den *ℤ v.num +ℤ neg_ℤ (pos v.den) *ℤ w.num) (v.num *ℤ pos w.den +ℤ neg_ℤ w.num *ℤ pos v.den) (v.den * w.den) (v.den * w.den) (simp ring) refl

pub times_step : (v w : Value) → lin_times (as_lin v) (as_lin w) ≡ as_lin (lowest (v_times v w))
times_step v w = refl

-- ---- constant terms

mutual
  pub constant_direct : (t : Term) (ctx : List Bound) → is_constant t ≡ true → direct t ctx ≡ as_lin (low t)
  constant_direct (amount v) ctx h = refl
  constant_direct (negative t) ctx h = cond-true (is_constant t) (as_lin (low (negative t))) (lin_neg (direct t ctx)) h
  constant_direct (absolute t) ctx h = refl
  constant_direct (minus a b) ctx h = cond-true (is_constant a && is_constant b) (as_lin (low (minus a b))) (lin_minus (direct a ctx) (direct b ctx)) h
  constant_direct (quotient_of a b) ctx h = cond-true (is_constant a && is_constant b) (as_lin (low (quotient_of a b))) _ h
  constant_direct (div_of a b) ctx h = refl
  constant_direct (mod_of a b) ctx h = refl
  constant_direct (plus_of ts) ctx h = cond-true (are_constant ts) (as_lin (low_sum ts zero_value)) (direct_sum ts ctx (as_lin zero_value)) h
  constant_direct (times_of ts) ctx h = cond-true (are_constant ts) (as_lin (low_product ts one_value)) (direct_product ts ctx (as_lin one_value)) h
  constant_direct t ctx h = absurd (false_true h)

  pub constant_made : (t : Term) (ctx : List Bound) → is_constant t ≡ true → made t ctx ≡ steps t
  constant_made (amount v) ctx h = refl
  constant_made (negative t) ctx h = cond-true (is_constant t) (steps (negative t)) _ h
  constant_made (absolute t) ctx h = refl
  constant_made (minus a b) ctx h = cond-true (is_constant a && is_constant b) (steps (minus a b)) _ h
  constant_made (quotient_of a b) ctx h = cond-true (is_constant a && is_constant b) (steps (quotient_of a b)) _ h
  constant_made (div_of a b) ctx h = refl
  constant_made (mod_of a b) ctx h = refl
  constant_made (plus_of ts) ctx h = cond-true (are_constant ts) (steps (plus_of ts)) _ h
  constant_made (times_of ts) ctx h = cond-true (are_constant ts) (steps (times_of ts)) _ h
  constant_made t ctx h = absurd (false_true h)

and_left : (a b : Bool) → a && b ≡ true → a ≡ true
and_left true b h = refl
and_left false b h = h

and_right : (a b : Bool) → a && b ≡ true → b ≡ true
and_right true b h = h
and_right false b h = absurd (false_true h)

by_bool : (b : Bool) {P : Type 0} → (b ≡ true → P) → (b ≡ false → P) → P
by_bool true {P} f g = f refl
by_bool false {P} f g = g refl

-- ---- each operation, whether its arguments are constant or not

pub direct_negative : (t : Term) (ctx : List Bound) → direct (negative t) ctx ≡ lin_neg (direct t ctx)
direct_negative t ctx =
    by_bool (is_constant t)
    (λ h. cond-true (is_constant t) (as_lin (low (negative t))) (lin_neg (direct t ctx)) h ∙ sym (ap lin_neg (constant_direct t ctx h) ∙ neg_step (low t)))
    (λ h. cond-false (is_constant t) (as_lin (low (negative t))) (lin_neg (direct t ctx)) h)

pub made_negative : (t : Term) (ctx : List Bound) → made (negative t) ctx ≡ made t ctx ++ lin_neg (direct t ctx) ∷ []
made_negative t ctx =
    by_bool (is_constant t)
    (λ h. cond-true (is_constant t) (steps (negative t)) (made t ctx ++ lin_neg (direct t ctx) ∷ []) h
    ∙ sym (ap₂ (λ (xs : List Lin) (x : Lin). xs ++ x ∷ []) (constant_made t ctx h) (ap lin_neg (constant_direct t ctx h) ∙ neg_step (low t))))
    (λ h. cond-false (is_constant t) (steps (negative t)) (made t ctx ++ lin_neg (direct t ctx) ∷ []) h)

minus_both : (a b : Term) (ctx : List Bound) → is_constant a && is_constant b ≡ true → lin_minus (direct a ctx) (direct b ctx) ≡ as_lin (low (minus a b))
minus_both a b ctx h =
    ap₂ lin_minus (constant_direct a ctx (and_left (is_constant a) (is_constant b) h)) (constant_direct b ctx (and_right (is_constant a) (is_constant b) h)) ∙ minus_step (low a) (low b)

pub direct_minus : (a b : Term) (ctx : List Bound) → direct (minus a b) ctx ≡ lin_minus (direct a ctx) (direct b ctx)
direct_minus a b ctx =
    by_bool (is_constant a && is_constant b)
    (λ h. cond-true (is_constant a && is_constant b) (as_lin (low (minus a b))) (lin_minus (direct a ctx) (direct b ctx)) h ∙ sym (minus_both a b ctx h))
    (λ h. cond-false (is_constant a && is_constant b) (as_lin (low (minus a b))) (lin_minus (direct a ctx) (direct b ctx)) h)

pub made_minus : (a b : Term) (ctx : List Bound) → made (minus a b) ctx ≡ made a ctx ++ (made b ctx ++ lin_minus (direct a ctx) (direct b ctx) ∷ [])
made_minus a b ctx =
    by_bool (is_constant a && is_constant b)
    (λ h. cond-true (is_constant a && is_constant b) (steps (minus a b)) (made a ctx ++ (made b ctx ++ lin_minus (direct a ctx) (direct b ctx) ∷ [])) h
    ∙ sym (ap₂ (λ (xs ys : List Lin). xs ++ ys) (constant_made a ctx (and_left (is_constant a) (is_constant b) h))
    (ap₂ (λ (ys : List Lin) (x : Lin). ys ++ x ∷ []) (constant_made b ctx (and_right (is_constant a) (is_constant b) h)) (minus_both a b ctx h))))
    (λ h. cond-false (is_constant a && is_constant b) (steps (minus a b)) (made a ctx ++ (made b ctx ++ lin_minus (direct a ctx) (direct b ctx) ∷ [])) h)

pub direct_over : (a b : Term) (ctx : List Bound) → is_constant a && is_constant b ≡ false → direct (quotient_of a b) ctx ≡ lin_over (direct a ctx) (low b)
direct_over a b ctx h = cond-false (is_constant a && is_constant b) (as_lin (low (quotient_of a b))) (lin_over (direct a ctx) (low b)) h

pub made_over : (a b : Term) (ctx : List Bound) → is_constant a && is_constant b ≡ false → made (quotient_of a b) ctx ≡ made a ctx ++ (steps b ++ lin_over (direct a ctx) (low b) ∷ [])
made_over a b ctx h = cond-false (is_constant a && is_constant b) (steps (quotient_of a b)) (made a ctx ++ (steps b ++ lin_over (direct a ctx) (low b) ∷ [])) h

-- ---- sums and products

sum_steps_are : (ts : Terms) (ctx : List Bound) (v : Value) → are_constant ts ≡ true → (direct_sum ts ctx (as_lin v) ≡ as_lin (low_sum ts v)) × (made_sum ts ctx (as_lin v) ≡ sum_steps ts v)
sum_steps_are no_term ctx v h = (refl, refl)
sum_steps_are (term_and t ts) ctx v h =
    let c = and_left (is_constant t) (are_constant ts) h in
    let e : lin_plus (as_lin v) (direct t ctx) ≡ as_lin (lowest (v_plus v (low t))) = ap (lin_plus (as_lin v)) (constant_direct t ctx c) ∙ plus_step v (low t) in
    let r = sum_steps_are ts ctx (lowest (v_plus v (low t))) (and_right (is_constant t) (are_constant ts) h) in (
      ap (direct_sum ts ctx) e ∙ r.0,
      ap₂ (λ (xs ys : List Lin). xs ++ ys) (constant_made t ctx c) (ap₂ (λ (x : Lin) (ys : List Lin). x ∷ ys) e (ap (made_sum ts ctx) e ∙ r.1)),
    )

product_steps_are : (ts : Terms) (ctx : List Bound) (v : Value) → are_constant ts ≡ true → (direct_product ts ctx (as_lin v) ≡ as_lin (low_product ts v)) × (made_product ts ctx (as_lin v) ≡ product_steps ts v)
product_steps_are no_term ctx v h = (refl, refl)
product_steps_are (term_and t ts) ctx v h =
    let c = and_left (is_constant t) (are_constant ts) h in
    let e : lin_times (as_lin v) (direct t ctx) ≡ as_lin (lowest (v_times v (low t))) = ap (lin_times (as_lin v)) (constant_direct t ctx c) ∙ times_step v (low t) in
    let r = product_steps_are ts ctx (lowest (v_times v (low t))) (and_right (is_constant t) (are_constant ts) h) in (
      ap (direct_product ts ctx) e ∙ r.0,
      ap₂ (λ (xs ys : List Lin). xs ++ ys) (constant_made t ctx c) (ap₂ (λ (x : Lin) (ys : List Lin). x ∷ ys) e (ap (made_product ts ctx) e ∙ r.1)),
    )

pub direct_plus : (ts : Terms) (ctx : List Bound) → direct (plus_of ts) ctx ≡ direct_sum ts ctx (as_lin zero_value)
direct_plus ts ctx =
    by_bool (are_constant ts)
    (λ h. cond-true (are_constant ts) (as_lin (low_sum ts zero_value)) (direct_sum ts ctx (as_lin zero_value)) h ∙ sym (sum_steps_are ts ctx zero_value h).0)
    (λ h. cond-false (are_constant ts) (as_lin (low_sum ts zero_value)) (direct_sum ts ctx (as_lin zero_value)) h)

pub made_plus : (ts : Terms) (ctx : List Bound) → made (plus_of ts) ctx ≡ made_sum ts ctx (as_lin zero_value)
made_plus ts ctx =
    by_bool (are_constant ts)
    (λ h. cond-true (are_constant ts) (steps (plus_of ts)) (made_sum ts ctx (as_lin zero_value)) h ∙ sym (sum_steps_are ts ctx zero_value h).1)
    (λ h. cond-false (are_constant ts) (steps (plus_of ts)) (made_sum ts ctx (as_lin zero_value)) h)

pub direct_times : (ts : Terms) (ctx : List Bound) → direct (times_of ts) ctx ≡ direct_product ts ctx (as_lin one_value)
direct_times ts ctx =
    by_bool (are_constant ts)
    (λ h. cond-true (are_constant ts) (as_lin (low_product ts one_value)) (direct_product ts ctx (as_lin one_value)) h ∙ sym (product_steps_are ts ctx one_value h).0)
    (λ h. cond-false (are_constant ts) (as_lin (low_product ts one_value)) (direct_product ts ctx (as_lin one_value)) h)

pub made_times : (ts : Terms) (ctx : List Bound) → made (times_of ts) ctx ≡ made_product ts ctx (as_lin one_value)
made_times ts ctx =
    by_bool (are_constant ts)
    (λ h. cond-true (are_constant ts) (steps (times_of ts)) (made_product ts ctx (as_lin one_value)) h ∙ sym (product_steps_are ts ctx one_value h).1)
    (λ h. cond-false (are_constant ts) (steps (times_of ts)) (made_product ts ctx (as_lin one_value)) h)
