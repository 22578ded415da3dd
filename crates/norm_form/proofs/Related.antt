-- Related makers make related results.
use Rattle.std.specs.Prelude.{ℕ, suc, ◌*◌, ℤ, List, [], ◌∷◌, ◌++◌, map, Bool, true, false, not, ◌&&◌}
use Rattle.lin_term.specs.declared.Sort.{Sort}
use Rattle.lin_term.specs.declared.Lit.{Lit}
use Rattle.lin_term.specs.declared.Lit.TheVariants.{AtLeast, Above, Divides}
use Rattle.lin_truth.specs.declared.term.VarSort.{VarSort}
use Rattle.lin_truth.specs.Term.{Term, Terms, yes, no, amount, variable, negative, absolute, negated, divisible, minus, quotient_of, div_of, mod_of, less, at_most, greater, at_least, equal, xor_of, implies, ite, plus_of, times_of, and_of, or_of, forall_of, exists_of, no_term, term_and}
use Rattle.lin_truth.specs.Value.{zero_value, one_value}
use Rattle.lin_truth.specs.Truth.{is_formula}
use Rattle.lin_truth.specs.Constant.{is_constant, are_constant}
use Rattle.lin_form.specs.Low.{as_lin, low}
use Rattle.lin_form.specs.Lin.{Lin, lin_constant, lin_variable, lin_plus, lin_neg, lin_minus, lin_times, lin_over}
use Rattle.lin_form.specs.Low.{steps}
use Rattle.lin_form.specs.declared.Bound.{Bound}
use Rattle.lin_form.specs.Scope.{bound_sort, level_at}
use Rattle.norm_form.specs.Norm.{modulus, Maker, gnorm, gnorms, glin, glin_sum, glin_product, gbind, gchoose, glin_of, multiple, truth_form}

pub record MakerRel {R Rs R' Rs' : Type 0} (s : Sort) (m : Maker R Rs) (n : Maker R' Rs') (E : R → R' → Type 0) (Es : Rs → Rs' → Type 0) : Type 0 where
  pub formed : (fs : List Lin) (x : R) (x' : R') → E x x' → E (m.formed fs x) (n.formed fs x')
  pub closed : (b : Bool) → E (m.closed b) (n.closed b)
  pub signed : (q : Bool) (l : Lit) → E (m.signed q s l) (n.signed q s l)
  pub same_number : (q : Bool) (z : Lin) → E (m.same_number q s z) (n.same_number q s z)
  pub no_part : Es m.no_part n.no_part
  pub part : (x : R) (x' : R') (xs : Rs) (xs' : Rs') → E x x' → Es xs xs' → Es (m.part x xs) (n.part x' xs')
  pub joined_by : (q : Bool) (xs : Rs) (xs' : Rs') → Es xs xs' → E (m.joined_by q xs) (n.joined_by q xs')
  pub either_by : (q : Bool) (x : R) (x' : R') (y : R) (y' : R') → E x x' → E y y' → E (m.either_by q x y) (n.either_by q x' y')
  pub bind_one : (q : Bool) (x : R) (x' : R') → E x x' → E (m.bind_one q x) (n.bind_one q x')
  pub same_form : (q : Bool) (x : R) (x' : R') (y : R) (y' : R') (z : R) (z' : R') (w : R) (w' : R') → E x x' → E y y' → E z z' → E w w' → E (m.same_form q x y z w) (n.same_form q x' y' z' w')
  pub ite_form : (x : R) (x' : R') (y : R) (y' : R') (z : R) (z' : R') (w : R) (w' : R') → E x x' → E y y' → E z z' → E w w' → E (m.ite_form x y z w) (n.ite_form x' y' z' w')
  pub abs_form : (f : Lin) (x : R) (x' : R') (y : R) (y' : R') → E x x' → E y y' → E (m.abs_form s f x y) (n.abs_form s f x' y')
  pub div_form : (c : ℤ) (f : Lin) (e : ℕ) (x : R) (x' : R') → E x x' → E (m.div_form s c f e x) (n.div_form s c f e x')

choose_rel : {R R' : Type 0} (b : Bool) (E : R → R' → Type 0) (x : R) (x' : R') (y : R) (y' : R') → E x x' → E y y' → E (gchoose b x y) (gchoose b x' y')
choose_rel {R} {R'} true E x x' y y' h k = h
choose_rel {R} {R'} false E x x' y y' h k = k

lin_of_rel : {R R' : Type 0} (b : Bool) (E : R → R' → Type 0) (f : Lin) (d : ℕ) (k : ℕ → Lin → R) (l : ℕ → Lin → R') (x : R) (x' : R') → E (k d f) (l d f) → E x x' → E (glin_of b f d k x) (glin_of b f d l x')
lin_of_rel {R} {R'} true E f d k l x x' h g = h
lin_of_rel {R} {R'} false E f d k l x x' h g = g

bind_rel : {R Rs R' Rs' : Type 0} (m : Maker R Rs) (n : Maker R' Rs') (E : R → R' → Type 0) (Es : Rs → Rs' → Type 0) → (s : Sort) → MakerRel s m n E Es → (q : Bool) (vs : List VarSort) (f : List Bound → ℕ → R) (g : List Bound → ℕ → R') → ((c : List Bound) (e : ℕ) → E (f c e) (g c e)) → (ctx : List Bound) (d : ℕ) → E (gbind m q vs f ctx d) (gbind n q vs g ctx d)
bind_rel {R} {Rs} {R'} {Rs'} m n E Es s r q [] f g h ctx d = h ctx d
bind_rel {R} {Rs} {R'} {Rs'} m n E Es s r q (v ∷ vs) f g h ctx d = r.bind_one q _ _ (bind_rel m n E Es s r q vs f g h (ctx ++ (record { sort = v; level = d }) ∷ []) (suc d))

mutual
  pub gnorm_rel : {R Rs R' Rs' : Type 0} (m : Maker R Rs) (n : Maker R' Rs') (E : R → R' → Type 0) (Es : Rs → Rs' → Type 0) → (s : Sort) → MakerRel s m n E Es → (t : Term) (q : Bool) (ctx : List Bound) (d : ℕ) → E (gnorm m t s q ctx d) (gnorm n t s q ctx d)
  gnorm_rel {R} {Rs} {R'} {Rs'} m n E Es s r yes q ctx d = r.closed q
  gnorm_rel {R} {Rs} {R'} {Rs'} m n E Es s r no q ctx d = r.closed (not q)
  gnorm_rel {R} {Rs} {R'} {Rs'} m n E Es s r (amount v) q ctx d = r.closed (not q)
  gnorm_rel {R} {Rs} {R'} {Rs'} m n E Es s r (variable i) q ctx d = r.formed _ _ _ (r.signed q (AtLeast (truth_form (level_at ctx i)).form))
  gnorm_rel {R} {Rs} {R'} {Rs'} m n E Es s r (negative t) q ctx d = r.closed (not q)
  gnorm_rel {R} {Rs} {R'} {Rs'} m n E Es s r (absolute t) q ctx d = r.closed (not q)
  gnorm_rel {R} {Rs} {R'} {Rs'} m n E Es s r (negated t) q ctx d = gnorm_rel m n E Es s r t (not q) ctx d
  gnorm_rel {R} {Rs} {R'} {Rs'} m n E Es s r (divisible c t) q ctx d = glin_rel m n E Es s r t ctx d _ _ (λ e x. r.formed (modulus c x ∷ []) _ _ (r.signed q (Divides (c * x.den) x.form)))
  gnorm_rel {R} {Rs} {R'} {Rs'} m n E Es s r (minus a b) q ctx d = r.closed (not q)
  gnorm_rel {R} {Rs} {R'} {Rs'} m n E Es s r (quotient_of a b) q ctx d = r.closed (not q)
  gnorm_rel {R} {Rs} {R'} {Rs'} m n E Es s r (div_of a b) q ctx d = r.closed (not q)
  gnorm_rel {R} {Rs} {R'} {Rs'} m n E Es s r (mod_of a b) q ctx d = r.closed (not q)
  gnorm_rel {R} {Rs} {R'} {Rs'} m n E Es s r (less a b) q ctx d = glin_rel m n E Es s r a ctx d _ _ (λ e x. glin_rel m n E Es s r b ctx e _ _ (λ f y. r.formed (lin_minus y x ∷ []) _ _ (r.signed q (Above (lin_minus y x).form))))
  gnorm_rel {R} {Rs} {R'} {Rs'} m n E Es s r (at_most a b) q ctx d = glin_rel m n E Es s r a ctx d _ _ (λ e x. glin_rel m n E Es s r b ctx e _ _ (λ f y. r.formed (lin_minus y x ∷ []) _ _ (r.signed q (AtLeast (lin_minus y x).form))))
  gnorm_rel {R} {Rs} {R'} {Rs'} m n E Es s r (greater a b) q ctx d = glin_rel m n E Es s r a ctx d _ _ (λ e x. glin_rel m n E Es s r b ctx e _ _ (λ f y. r.formed (lin_minus x y ∷ []) _ _ (r.signed q (Above (lin_minus x y).form))))
  gnorm_rel {R} {Rs} {R'} {Rs'} m n E Es s r (at_least a b) q ctx d = glin_rel m n E Es s r a ctx d _ _ (λ e x. glin_rel m n E Es s r b ctx e _ _ (λ f y. r.formed (lin_minus x y ∷ []) _ _ (r.signed q (AtLeast (lin_minus x y).form))))
  gnorm_rel {R} {Rs} {R'} {Rs'} m n E Es s r (equal a b) q ctx d = choose_rel (is_formula a (map bound_sort ctx)) E _ _ _ _ (r.same_form q _ _ _ _ _ _ _ _ (gnorm_rel m n E Es s r a true ctx d) (gnorm_rel m n E Es s r a false ctx d) (gnorm_rel m n E Es s r b true ctx d) (gnorm_rel m n E Es s r b false ctx d)) (glin_rel m n E Es s r a ctx d _ _ (λ e x. glin_rel m n E Es s r b ctx e _ _ (λ f y. r.formed (lin_minus x y ∷ []) _ _ (r.same_number q (lin_minus x y)))))
  gnorm_rel {R} {Rs} {R'} {Rs'} m n E Es s r (xor_of a b) q ctx d = r.same_form (not q) _ _ _ _ _ _ _ _ (gnorm_rel m n E Es s r a true ctx d) (gnorm_rel m n E Es s r a false ctx d) (gnorm_rel m n E Es s r b true ctx d) (gnorm_rel m n E Es s r b false ctx d)
  gnorm_rel {R} {Rs} {R'} {Rs'} m n E Es s r (implies a b) q ctx d = r.either_by (not q) _ _ _ _ (gnorm_rel m n E Es s r a (not q) ctx d) (gnorm_rel m n E Es s r b q ctx d)
  gnorm_rel {R} {Rs} {R'} {Rs'} m n E Es s r (ite c a b) q ctx d = r.ite_form _ _ _ _ _ _ _ _ (gnorm_rel m n E Es s r c true ctx d) (gnorm_rel m n E Es s r c false ctx d) (gnorm_rel m n E Es s r a q ctx d) (gnorm_rel m n E Es s r b q ctx d)
  gnorm_rel {R} {Rs} {R'} {Rs'} m n E Es s r (plus_of ts) q ctx d = r.closed (not q)
  gnorm_rel {R} {Rs} {R'} {Rs'} m n E Es s r (times_of ts) q ctx d = r.closed (not q)
  gnorm_rel {R} {Rs} {R'} {Rs'} m n E Es s r (and_of ts) q ctx d = r.joined_by q _ _ (gnorms_rel m n E Es s r ts q ctx d)
  gnorm_rel {R} {Rs} {R'} {Rs'} m n E Es s r (or_of ts) q ctx d = r.joined_by (not q) _ _ (gnorms_rel m n E Es s r ts q ctx d)
  gnorm_rel {R} {Rs} {R'} {Rs'} m n E Es s r (forall_of vs t) q ctx d = bind_rel m n E Es s r q vs _ _ (λ c e. gnorm_rel m n E Es s r t q c e) ctx d
  gnorm_rel {R} {Rs} {R'} {Rs'} m n E Es s r (exists_of vs t) q ctx d = bind_rel m n E Es s r (not q) vs _ _ (λ c e. gnorm_rel m n E Es s r t q c e) ctx d

  pub gnorms_rel : {R Rs R' Rs' : Type 0} (m : Maker R Rs) (n : Maker R' Rs') (E : R → R' → Type 0) (Es : Rs → Rs' → Type 0) → (s : Sort) → MakerRel s m n E Es → (ts : Terms) (q : Bool) (ctx : List Bound) (d : ℕ) → Es (gnorms m ts s q ctx d) (gnorms n ts s q ctx d)
  gnorms_rel {R} {Rs} {R'} {Rs'} m n E Es s r no_term q ctx d = r.no_part
  gnorms_rel {R} {Rs} {R'} {Rs'} m n E Es s r (term_and t ts) q ctx d = r.part _ _ _ _ (gnorm_rel m n E Es s r t q ctx d) (gnorms_rel m n E Es s r ts q ctx d)

  pub glin_rel : {R Rs R' Rs' : Type 0} (m : Maker R Rs) (n : Maker R' Rs') (E : R → R' → Type 0) (Es : Rs → Rs' → Type 0) → (s : Sort) → MakerRel s m n E Es → (t : Term) (ctx : List Bound) (d : ℕ) (k : ℕ → Lin → R) (l : ℕ → Lin → R') → ((e : ℕ) (x : Lin) → E (k e x) (l e x)) → E (glin m t s ctx d k) (glin n t s ctx d l)
  glin_rel {R} {Rs} {R'} {Rs'} m n E Es s r yes ctx d k l h = r.closed false
  glin_rel {R} {Rs} {R'} {Rs'} m n E Es s r no ctx d k l h = r.closed false
  glin_rel {R} {Rs} {R'} {Rs'} m n E Es s r (amount v) ctx d k l h = r.formed (lin_constant v ∷ []) _ _ (h d (lin_constant v))
  glin_rel {R} {Rs} {R'} {Rs'} m n E Es s r (variable i) ctx d k l h = r.formed _ _ _ (h d (lin_variable (level_at ctx i)))
  glin_rel {R} {Rs} {R'} {Rs'} m n E Es s r (negative t) ctx d k l h = lin_of_rel (is_constant t) E _ d _ _ _ _ (r.formed _ _ _ (h d _)) (glin_rel m n E Es s r t ctx d _ _ (λ e x. r.formed (lin_neg x ∷ []) _ _ (h e (lin_neg x))))
  glin_rel {R} {Rs} {R'} {Rs'} m n E Es s r (absolute t) ctx d k l h = lin_of_rel (is_constant t) E _ d _ _ _ _ (r.formed _ _ _ (h d _)) (glin_rel m n E Es s r t ctx d _ _ (λ e x. r.abs_form x _ _ _ _ (h e x) (r.formed (lin_neg x ∷ []) _ _ (h e (lin_neg x)))))
  glin_rel {R} {Rs} {R'} {Rs'} m n E Es s r (negated t) ctx d k l h = r.closed false
  glin_rel {R} {Rs} {R'} {Rs'} m n E Es s r (divisible c t) ctx d k l h = r.closed false
  glin_rel {R} {Rs} {R'} {Rs'} m n E Es s r (minus a b) ctx d k l h = lin_of_rel (is_constant a && is_constant b) E _ d _ _ _ _ (r.formed _ _ _ (h d _)) (glin_rel m n E Es s r a ctx d _ _ (λ e x. glin_rel m n E Es s r b ctx e _ _ (λ f y. r.formed (lin_minus x y ∷ []) _ _ (h f (lin_minus x y)))))
  glin_rel {R} {Rs} {R'} {Rs'} m n E Es s r (quotient_of a b) ctx d k l h = lin_of_rel (is_constant a && is_constant b) E _ d _ _ _ _ (r.formed _ _ _ (h d _)) (glin_rel m n E Es s r a ctx d _ _ (λ e x. r.formed (steps b ++ lin_over x (low b) ∷ []) _ _ (h e (lin_over x (low b)))))
  glin_rel {R} {Rs} {R'} {Rs'} m n E Es s r (div_of a b) ctx d k l h = lin_of_rel (is_constant a && is_constant b) E _ d _ _ _ _ (r.formed _ _ _ (h d _)) (glin_rel m n E Es s r a ctx d _ _ (λ e x. r.formed _ _ _ (r.div_form (low b).num x e _ _ (h (suc e) (lin_variable e)))))
  glin_rel {R} {Rs} {R'} {Rs'} m n E Es s r (mod_of a b) ctx d k l h = lin_of_rel (is_constant a && is_constant b) E _ d _ _ _ _ (r.formed _ _ _ (h d _)) (glin_rel m n E Es s r a ctx d _ _ (λ e x. r.formed _ _ _ (r.div_form (low b).num x e _ _ (h (suc e) (lin_minus x (multiple (low b).num e))))))
  glin_rel {R} {Rs} {R'} {Rs'} m n E Es s r (less a b) ctx d k l h = r.closed false
  glin_rel {R} {Rs} {R'} {Rs'} m n E Es s r (at_most a b) ctx d k l h = r.closed false
  glin_rel {R} {Rs} {R'} {Rs'} m n E Es s r (greater a b) ctx d k l h = r.closed false
  glin_rel {R} {Rs} {R'} {Rs'} m n E Es s r (at_least a b) ctx d k l h = r.closed false
  glin_rel {R} {Rs} {R'} {Rs'} m n E Es s r (equal a b) ctx d k l h = r.closed false
  glin_rel {R} {Rs} {R'} {Rs'} m n E Es s r (xor_of a b) ctx d k l h = r.closed false
  glin_rel {R} {Rs} {R'} {Rs'} m n E Es s r (implies a b) ctx d k l h = r.closed false
  glin_rel {R} {Rs} {R'} {Rs'} m n E Es s r (ite c a b) ctx d k l h = glin_rel m n E Es s r a ctx d _ _ (λ e x. glin_rel m n E Es s r b ctx e _ _ (λ f y. r.ite_form _ _ _ _ _ _ _ _ (gnorm_rel m n E Es s r c true ctx f) (gnorm_rel m n E Es s r c false ctx f) (h f x) (h f y)))
  glin_rel {R} {Rs} {R'} {Rs'} m n E Es s r (plus_of ts) ctx d k l h = lin_of_rel (are_constant ts) E _ d _ _ _ _ (r.formed _ _ _ (h d _)) (gsum_rel m n E Es s r ts ctx d (as_lin zero_value) _ _ h)
  glin_rel {R} {Rs} {R'} {Rs'} m n E Es s r (times_of ts) ctx d k l h = lin_of_rel (are_constant ts) E _ d _ _ _ _ (r.formed _ _ _ (h d _)) (gproduct_rel m n E Es s r ts ctx d (as_lin one_value) _ _ h)
  glin_rel {R} {Rs} {R'} {Rs'} m n E Es s r (and_of ts) ctx d k l h = r.closed false
  glin_rel {R} {Rs} {R'} {Rs'} m n E Es s r (or_of ts) ctx d k l h = r.closed false
  glin_rel {R} {Rs} {R'} {Rs'} m n E Es s r (forall_of vs t) ctx d k l h = r.closed false
  glin_rel {R} {Rs} {R'} {Rs'} m n E Es s r (exists_of vs t) ctx d k l h = r.closed false

  pub gsum_rel : {R Rs R' Rs' : Type 0} (m : Maker R Rs) (n : Maker R' Rs') (E : R → R' → Type 0) (Es : Rs → Rs' → Type 0) → (s : Sort) → MakerRel s m n E Es → (ts : Terms) (ctx : List Bound) (d : ℕ) (x : Lin) (k : ℕ → Lin → R) (l : ℕ → Lin → R') → ((e : ℕ) (y : Lin) → E (k e y) (l e y)) → E (glin_sum m ts s ctx d x k) (glin_sum n ts s ctx d x l)
  gsum_rel {R} {Rs} {R'} {Rs'} m n E Es s r no_term ctx d x k l h = h d x
  gsum_rel {R} {Rs} {R'} {Rs'} m n E Es s r (term_and t ts) ctx d x k l h = glin_rel m n E Es s r t ctx d _ _ (λ e y. r.formed (lin_plus x y ∷ []) _ _ (gsum_rel m n E Es s r ts ctx e (lin_plus x y) k l h))

  pub gproduct_rel : {R Rs R' Rs' : Type 0} (m : Maker R Rs) (n : Maker R' Rs') (E : R → R' → Type 0) (Es : Rs → Rs' → Type 0) → (s : Sort) → MakerRel s m n E Es → (ts : Terms) (ctx : List Bound) (d : ℕ) (x : Lin) (k : ℕ → Lin → R) (l : ℕ → Lin → R') → ((e : ℕ) (y : Lin) → E (k e y) (l e y)) → E (glin_product m ts s ctx d x k) (glin_product n ts s ctx d x l)
  gproduct_rel {R} {Rs} {R'} {Rs'} m n E Es s r no_term ctx d x k l h = h d x
  gproduct_rel {R} {Rs} {R'} {Rs'} m n E Es s r (term_and t ts) ctx d x k l h = glin_rel m n E Es s r t ctx d _ _ (λ e y. r.formed (lin_times x y ∷ []) _ _ (gproduct_rel m n E Es s r ts ctx e (lin_times x y) k l h))
