-- A term without a choice hands on the form that is worked out directly.
use Rattle.std.specs.Prelude.{ℕ, ◌≡◌, ℤ, List, [], ◌∷◌, ◌++◌, Bool, true, false, ◌&&◌, cond}
use Rattle.std.specs.Prelude.{Option}
use Rattle.std.proofs.Common.{ap, ◌∙◌, sym, refl}
use Rattle.lin_term.specs.declared.Sort.{Sort}
use Rattle.norm_form.specs.Normal.{Normal}
use Rattle.lin_truth.specs.Term.{Term, Terms, yes, no, amount, variable, negative, absolute, negated, divisible, minus, quotient_of, div_of, mod_of, less, at_most, greater, at_least, equal, xor_of, implies, ite, plus_of, times_of, and_of, or_of, forall_of, exists_of, no_term, term_and}
use Rattle.lin_truth.specs.Value.{zero_value, one_value}
use Rattle.lin_truth.specs.Constant.{is_constant, are_constant}
use Rattle.lin_form.specs.Low.{as_lin, low, low_sum, low_product}
use Rattle.lin_form.specs.Lin.{Lin, lin_plus, lin_neg, lin_minus, lin_times, lin_over}
use Rattle.lin_form.specs.Low.{steps}
use Rattle.lin_form.specs.declared.Bound.{Bound}
use Rattle.norm_form.specs.Norm.{Maker, normal_maker, glin, glin_sum, glin_product, glin_of, lin}
use Rattle.lin_form.specs.Kept.{lins_numbers, lin_numbers, within}
use Rattle.norm_form.specs.Cap.{keep_if, number_maker, capped_maker}
use Rattle.lin_form.specs.Direct.{is_direct, are_direct, direct, direct_sum, direct_product, made, made_sum, made_product}
use Rattle.norm_form.proofs.Capped.{false_is_true, within_append}

-- forms formed one after the other are one list of forms
pub record Chained {R Rs : Type 0} (m : Maker R Rs) : Type 0 where
  pub none : (r : R) → m.formed [] r ≡ r
  pub after : (xs ys : List Lin) (r : R) → m.formed xs (m.formed ys r) ≡ m.formed (xs ++ ys) r

abbrev pub DirectOk : {R Rs : Type 0} → Maker R Rs → Term → Type 0
DirectOk {R} {Rs} m t = (s : Sort) (ctx : List Bound) (d : ℕ) (k : ℕ → Lin → R) → glin m t s ctx d k ≡ m.formed (made t ctx) (k d (direct t ctx))

left_true : (a b : Bool) → a && b ≡ true → a ≡ true
left_true true b h = refl
left_true false b h = absurd (false_is_true h)

right_true : (a b : Bool) → a && b ≡ true → b ≡ true
right_true true b h = h
right_true false b h = absurd (false_is_true h)

either_way : {R Rs : Type 0} (m : Maker R Rs) (b : Bool) (x y : Lin) (xs ys : List Lin) (d : ℕ) (k : ℕ → Lin → R) (n : R) → n ≡ m.formed ys (k d y) → glin_of b x d (λ e z. m.formed xs (k e z)) n ≡ m.formed (cond b xs ys) (k d (cond b x y))
either_way {R} {Rs} m true x y xs ys d k n h = refl
either_way {R} {Rs} m false x y xs ys d k n h = h

only_way : {R : Type 0} (b : Bool) (x : Lin) (d : ℕ) (k : ℕ → Lin → R) (n : R) → b ≡ true → glin_of b x d k n ≡ k d x
only_way {R} true x d k n h = refl
only_way {R} false x d k n h = absurd (false_is_true h)

mutual
  pub glin_direct : {R Rs : Type 0} (m : Maker R Rs) → Chained m → (t : Term) → is_direct t ≡ true → DirectOk m t
  glin_direct {R} {Rs} m c (amount v) h s ctx d k = refl
  glin_direct {R} {Rs} m c (variable i) h s ctx d k = refl
  glin_direct {R} {Rs} m c (negative t) h s ctx d k =
      either_way m (is_constant t) (as_lin (low (negative t))) (lin_neg (direct t ctx)) (steps (negative t)) (made t ctx ++ lin_neg (direct t ctx) ∷ []) d k
      (glin m t s ctx d (λ e x. m.formed (lin_neg x ∷ []) (k e (lin_neg x))))
      (glin_direct m c t h s ctx d (λ e x. m.formed (lin_neg x ∷ []) (k e (lin_neg x))) ∙ c.after (made t ctx) (lin_neg (direct t ctx) ∷ []) (k d (lin_neg (direct t ctx))))
  glin_direct {R} {Rs} m c (absolute t) h s ctx d k = only_way (is_constant t) (as_lin (low (absolute t))) d (λ e y. m.formed (steps (absolute t)) (k e y)) _ h
  glin_direct {R} {Rs} m c (minus a b) h s ctx d k =
      either_way m (is_constant a && is_constant b) (as_lin (low (minus a b))) (lin_minus (direct a ctx) (direct b ctx)) (steps (minus a b)) (made a ctx ++ (made b ctx ++ lin_minus (direct a ctx) (direct b ctx) ∷ [])) d k
      (glin m a s ctx d (λ e x. glin m b s ctx e (λ f y. m.formed (lin_minus x y ∷ []) (k f (lin_minus x y)))))
      (glin_direct m c a (left_true (is_direct a) (is_direct b) h) s ctx d (λ e x. glin m b s ctx e (λ f y. m.formed (lin_minus x y ∷ []) (k f (lin_minus x y))))
      ∙ (ap (λ (r : R). m.formed (made a ctx) r) (glin_direct m c b (right_true (is_direct a) (is_direct b) h) s ctx d (λ f y. m.formed (lin_minus (direct a ctx) y ∷ []) (k f (lin_minus (direct a ctx) y))) ∙ c.after (made b ctx) (lin_minus (direct a ctx) (direct b ctx) ∷ []) (k d (lin_minus (direct a ctx) (direct b ctx))))
      ∙ c.after (made a ctx) (made b ctx ++ lin_minus (direct a ctx) (direct b ctx) ∷ []) (k d (lin_minus (direct a ctx) (direct b ctx)))))
  glin_direct {R} {Rs} m c (quotient_of a b) h s ctx d k =
      either_way m (is_constant a && is_constant b) (as_lin (low (quotient_of a b))) (lin_over (direct a ctx) (low b)) (steps (quotient_of a b)) (made a ctx ++ (steps b ++ lin_over (direct a ctx) (low b) ∷ [])) d k
      (glin m a s ctx d (λ e x. m.formed (steps b ++ lin_over x (low b) ∷ []) (k e (lin_over x (low b)))))
      (glin_direct m c a h s ctx d (λ e x. m.formed (steps b ++ lin_over x (low b) ∷ []) (k e (lin_over x (low b)))) ∙ c.after (made a ctx) (steps b ++ lin_over (direct a ctx) (low b) ∷ []) (k d (lin_over (direct a ctx) (low b))))
  glin_direct {R} {Rs} m c (div_of a b) h s ctx d k = only_way (is_constant a && is_constant b) (as_lin (low (div_of a b))) d (λ e y. m.formed (steps (div_of a b)) (k e y)) _ h
  glin_direct {R} {Rs} m c (mod_of a b) h s ctx d k = only_way (is_constant a && is_constant b) (as_lin (low (mod_of a b))) d (λ e y. m.formed (steps (mod_of a b)) (k e y)) _ h
  glin_direct {R} {Rs} m c (plus_of ts) h s ctx d k =
      either_way m (are_constant ts) (as_lin (low_sum ts zero_value)) (direct_sum ts ctx (as_lin zero_value)) (steps (plus_of ts)) (made_sum ts ctx (as_lin zero_value)) d k
      (glin_sum m ts s ctx d (as_lin zero_value) k) (gsum_direct m c ts h s ctx d (as_lin zero_value) k)
  glin_direct {R} {Rs} m c (times_of ts) h s ctx d k =
      either_way m (are_constant ts) (as_lin (low_product ts one_value)) (direct_product ts ctx (as_lin one_value)) (steps (times_of ts)) (made_product ts ctx (as_lin one_value)) d k
      (glin_product m ts s ctx d (as_lin one_value) k) (gproduct_direct m c ts h s ctx d (as_lin one_value) k)
  glin_direct {R} {Rs} m c yes h s ctx d k = absurd (false_is_true h)
  glin_direct {R} {Rs} m c no h s ctx d k = absurd (false_is_true h)
  glin_direct {R} {Rs} m c (negated t) h s ctx d k = absurd (false_is_true h)
  glin_direct {R} {Rs} m c (divisible n t) h s ctx d k = absurd (false_is_true h)
  glin_direct {R} {Rs} m c (less a b) h s ctx d k = absurd (false_is_true h)
  glin_direct {R} {Rs} m c (at_most a b) h s ctx d k = absurd (false_is_true h)
  glin_direct {R} {Rs} m c (greater a b) h s ctx d k = absurd (false_is_true h)
  glin_direct {R} {Rs} m c (at_least a b) h s ctx d k = absurd (false_is_true h)
  glin_direct {R} {Rs} m c (equal a b) h s ctx d k = absurd (false_is_true h)
  glin_direct {R} {Rs} m c (xor_of a b) h s ctx d k = absurd (false_is_true h)
  glin_direct {R} {Rs} m c (implies a b) h s ctx d k = absurd (false_is_true h)
  glin_direct {R} {Rs} m c (ite e a b) h s ctx d k = absurd (false_is_true h)
  glin_direct {R} {Rs} m c (and_of ts) h s ctx d k = absurd (false_is_true h)
  glin_direct {R} {Rs} m c (or_of ts) h s ctx d k = absurd (false_is_true h)
  glin_direct {R} {Rs} m c (forall_of vs t) h s ctx d k = absurd (false_is_true h)
  glin_direct {R} {Rs} m c (exists_of vs t) h s ctx d k = absurd (false_is_true h)

  pub gsum_direct : {R Rs : Type 0} (m : Maker R Rs) → Chained m → (ts : Terms) → are_direct ts ≡ true → (s : Sort) (ctx : List Bound) (d : ℕ) (x : Lin) (k : ℕ → Lin → R) → glin_sum m ts s ctx d x k ≡ m.formed (made_sum ts ctx x) (k d (direct_sum ts ctx x))
  gsum_direct {R} {Rs} m c no_term h s ctx d x k = sym (c.none (k d x))
  gsum_direct {R} {Rs} m c (term_and t ts) h s ctx d x k =
      let p : Lin = lin_plus x (direct t ctx) in
      glin_direct m c t (left_true (is_direct t) (are_direct ts) h) s ctx d (λ e y. m.formed (lin_plus x y ∷ []) (glin_sum m ts s ctx e (lin_plus x y) k))
      ∙ (ap (λ (r : R). m.formed (made t ctx) (m.formed (p ∷ []) r)) (gsum_direct m c ts (right_true (is_direct t) (are_direct ts) h) s ctx d p k)
      ∙ (ap (λ (r : R). m.formed (made t ctx) r) (c.after (p ∷ []) (made_sum ts ctx p) (k d (direct_sum ts ctx p)))
      ∙ c.after (made t ctx) (p ∷ made_sum ts ctx p) (k d (direct_sum ts ctx p))))

  pub gproduct_direct : {R Rs : Type 0} (m : Maker R Rs) → Chained m → (ts : Terms) → are_direct ts ≡ true → (s : Sort) (ctx : List Bound) (d : ℕ) (x : Lin) (k : ℕ → Lin → R) → glin_product m ts s ctx d x k ≡ m.formed (made_product ts ctx x) (k d (direct_product ts ctx x))
  gproduct_direct {R} {Rs} m c no_term h s ctx d x k = sym (c.none (k d x))
  gproduct_direct {R} {Rs} m c (term_and t ts) h s ctx d x k =
      let p : Lin = lin_times x (direct t ctx) in
      glin_direct m c t (left_true (is_direct t) (are_direct ts) h) s ctx d (λ e y. m.formed (lin_times x y ∷ []) (glin_product m ts s ctx e (lin_times x y) k))
      ∙ (ap (λ (r : R). m.formed (made t ctx) (m.formed (p ∷ []) r)) (gproduct_direct m c ts (right_true (is_direct t) (are_direct ts) h) s ctx d p k)
      ∙ (ap (λ (r : R). m.formed (made t ctx) r) (c.after (p ∷ []) (made_product ts ctx p) (k d (direct_product ts ctx p)))
      ∙ c.after (made t ctx) (p ∷ made_product ts ctx p) (k d (direct_product ts ctx p))))

-- ---- the three makers

append_assoc : {A : Type 0} (xs ys zs : List A) → (xs ++ ys) ++ zs ≡ xs ++ (ys ++ zs)
append_assoc {A} [] ys zs = refl
append_assoc {A} (x ∷ xs) ys zs = ap (λ (us : List A). x ∷ us) (append_assoc xs ys zs)

pub numbers_append : (xs ys : List Lin) → lins_numbers (xs ++ ys) ≡ lins_numbers xs ++ lins_numbers ys
numbers_append [] ys = refl
numbers_append (x ∷ xs) ys = ap (λ (zs : List ℤ). lin_numbers x ++ zs) (numbers_append xs ys) ∙ sym (append_assoc (lin_numbers x) (lins_numbers xs) (lins_numbers ys))

keep_twice : {A : Type 0} (a b : Bool) (x : Option A) → keep_if a (keep_if b x) ≡ keep_if (a && b) x
keep_twice {A} true b x = refl
keep_twice {A} false b x = refl

-- ---- a constant term has no choice

both_true : (a b : Bool) → a ≡ true → b ≡ true → a && b ≡ true
both_true true b h k = k
both_true false b h k = h

mutual
  constant_is_direct : (t : Term) → is_constant t ≡ true → is_direct t ≡ true
  constant_is_direct (amount v) h = refl
  constant_is_direct (negative t) h = constant_is_direct t h
  constant_is_direct (absolute t) h = h
  constant_is_direct (minus a b) h = both_true (is_direct a) (is_direct b) (constant_is_direct a (left_true (is_constant a) (is_constant b) h)) (constant_is_direct b (right_true (is_constant a) (is_constant b) h))
  constant_is_direct (quotient_of a b) h = constant_is_direct a (left_true (is_constant a) (is_constant b) h)
  constant_is_direct (div_of a b) h = h
  constant_is_direct (mod_of a b) h = h
  constant_is_direct (plus_of ts) h = constants_are_direct ts h
  constant_is_direct (times_of ts) h = constants_are_direct ts h
  constant_is_direct t h = absurd (false_is_true h)

  constants_are_direct : (ts : Terms) → are_constant ts ≡ true → are_direct ts ≡ true
  constants_are_direct no_term h = refl
  constants_are_direct (term_and t ts) h =
      both_true (is_direct t) (are_direct ts) (constant_is_direct t (left_true (is_constant t) (are_constant ts) h)) (constants_are_direct ts (right_true (is_constant t) (are_constant ts) h))

by_constant : (b : Bool) (t : Term) → is_constant t ≡ b → is_direct t ≡ false → b ≡ false
by_constant true t e h = absurd (false_is_true (sym h ∙ constant_is_direct t e))
by_constant false t e h = refl

pub not_direct_not_constant : (t : Term) → is_direct t ≡ false → is_constant t ≡ false
not_direct_not_constant t h = by_constant (is_constant t) t refl h

normal_chained : Chained normal_maker
normal_chained = record { none = λ r. refl; after = λ xs ys r. refl }

capped_chained : Chained capped_maker
capped_chained = record {
  none = λ r. refl;
  after = λ xs ys r. keep_twice (within (lins_numbers xs)) (within (lins_numbers ys)) r ∙ ap (λ (b : Bool). keep_if b r) (sym (within_append (lins_numbers xs) (lins_numbers ys)) ∙ ap within (sym (numbers_append xs ys)));
}

number_chained : Chained number_maker
number_chained = record {
  none = λ r. refl;
  after = λ xs ys r. sym (append_assoc (lins_numbers xs) (lins_numbers ys) r) ∙ ap (λ (zs : List ℤ). zs ++ r) (sym (numbers_append xs ys));
}

pub lin_direct : (t : Term) (s : Sort) (ctx : List Bound) (d : ℕ) (k : ℕ → Lin → Normal) → is_direct t ≡ true → lin t s ctx d k ≡ k d (direct t ctx)
lin_direct t s ctx d k h = glin_direct normal_maker normal_chained t h s ctx d k

pub capped_direct : (t : Term) (s : Sort) (ctx : List Bound) (d : ℕ) (k : ℕ → Lin → Option Normal) → is_direct t ≡ true → glin capped_maker t s ctx d k ≡ keep_if (within (lins_numbers (made t ctx))) (k d (direct t ctx))
capped_direct t s ctx d k h = glin_direct capped_maker capped_chained t h s ctx d k

pub numbers_direct : (t : Term) (s : Sort) (ctx : List Bound) (d : ℕ) (k : ℕ → Lin → List ℤ) → is_direct t ≡ true → glin number_maker t s ctx d k ≡ lins_numbers (made t ctx) ++ k d (direct t ctx)
numbers_direct t s ctx d k h = glin_direct number_maker number_chained t h s ctx d k
