-- The normal form of a goal, for any kind of result.
use Rattle.std.specs.Prelude.{ℕ, zero, suc, ◌*◌, ◌%◌, ℤ, pos, negsuc, ◌+ℤ◌, nat_abs, List, [], ◌∷◌, ◌++◌, map, Bool, true, false, not, ◌&&◌}
use Rattle.lin_term.specs.declared.Sort.{Sort}
use Rattle.lin_term.specs.declared.Lit.{Lit}
use Rattle.lin_term.specs.declared.Lit.TheVariants.{AtLeast, Above, Divides, NotDivides}
use Rattle.lin_term.specs.Linear.{plus, constant_form}
use Rattle.lin_term.specs.Literal.{form_of, prim, neg}
use Rattle.norm_form.specs.Normal.{Normal, one_lit, each_of, some_of, for_all, there_is, Normals, no_part, part}
use Rattle.lin_truth.specs.declared.term.VarSort.{VarSort}
use Rattle.lin_truth.specs.Term.{Term, Terms, yes, no, amount, variable, negative, absolute, negated, divisible, minus, quotient_of, div_of, mod_of, less, at_most, greater, at_least, equal, xor_of, implies, ite, plus_of, times_of, and_of, or_of, forall_of, exists_of, no_term, term_and}
use Rattle.lin_truth.specs.Value.{zero_value, one_value}
use Rattle.lin_truth.specs.Truth.{is_formula}
use Rattle.lin_truth.specs.Constant.{is_constant, are_constant}
use Rattle.lin_form.specs.declared.Bound.{Bound}
use Rattle.lin_form.specs.Scope.{bound_sort, level_at}
use Rattle.lin_form.specs.Low.{as_lin, low, low_sum, low_product, steps}
use Rattle.lin_form.specs.Lin.{Lin, lin_constant, lin_variable, lin_plus, lin_neg, lin_minus, lin_scale, lin_times, lin_over}

-- ---- literals

abbrev pub and_none : Normal
and_none = each_of no_part

abbrev pub or_none : Normal
or_none = some_of no_part

abbrev pub pair : Normal → Normal → Normals
pair a b = part a (part b no_part)

abbrev pub is_nonneg : ℤ → Bool
is_nonneg (pos n) = true
is_nonneg (negsuc n) = false

abbrev pub is_positive : ℤ → Bool
is_positive (pos zero) = false
is_positive (pos (suc n)) = true
is_positive (negsuc n) = false

abbrev pub is_zero : ℕ → Bool
is_zero zero = true
is_zero (suc n) = false

-- the truth of a literal without variables
abbrev pub closed_truth : Lit → Bool
closed_truth (AtLeast f) = is_nonneg f.constant
closed_truth (Above f) = is_positive f.constant
closed_truth (Divides d f) = is_zero (nat_abs f.constant % d)
closed_truth (NotDivides d f) = not (is_zero (nat_abs f.constant % d))

abbrev pub closed : Bool → Normal
closed true = and_none
closed false = or_none

abbrev pub leaf_by : List (ℕ × ℤ) → Lit → Normal
leaf_by [] l = closed (closed_truth l)
leaf_by (t ∷ ts) l = one_lit l

abbrev pub leaf : Lit → Normal
leaf l = leaf_by (form_of l).terms l

-- a literal, or its negation
abbrev pub signed : Bool → Sort → Lit → Normal
signed true s l = leaf (prim s l)
signed false s l = leaf (neg s (prim s l))

abbrev pub same_number : Bool → Sort → Lin → Normal
same_number true s z = each_of (pair (leaf (prim s (AtLeast z.form))) (leaf (prim s (AtLeast (lin_neg z).form))))
same_number false s z = some_of (pair (leaf (prim s (Above z.form))) (leaf (prim s (Above (lin_neg z).form))))

-- the one child in place of the whole
abbrev pub each_one : Normals → Normal
each_one no_part = and_none
each_one (part n no_part) = n
each_one (part n (part m ms)) = each_of (part n (part m ms))

abbrev pub some_one : Normals → Normal
some_one no_part = or_none
some_one (part n no_part) = n
some_one (part n (part m ms)) = some_of (part n (part m ms))

abbrev pub joined_by : Bool → Normals → Normal
joined_by true ns = each_one ns
joined_by false ns = some_one ns

abbrev pub either_by : Bool → Normal → Normal → Normal
either_by true a b = each_of (pair a b)
either_by false a b = some_of (pair a b)

abbrev pub bind_one : Bool → Normal → Normal
bind_one true n = for_all n
bind_one false n = there_is n

-- ---- the normal form

-- |t|: t where t >= 0, else -t
abbrev pub abs_form : Sort → Lin → Normal → Normal → Normal
abs_form s x a b =
    each_of (pair (some_of (pair (signed false s (AtLeast x.form)) a)) (some_of (pair (signed true s (AtLeast x.form)) b)))

abbrev pub ite_form : Normal → Normal → Normal → Normal → Normal
ite_form c n a b = each_of (pair (some_of (pair n a)) (some_of (pair c b)))

-- of a and its negation n, b and its negation m: whether a and b are the same
abbrev pub same_form : Bool → Normal → Normal → Normal → Normal → Normal
same_form true a n b m = each_of (pair (some_of (pair n b)) (some_of (pair a m)))
same_form false a n b m = some_of (pair (each_of (pair a m)) (each_of (pair n b)))

-- the modulus of a divisibility by n, once the form's denominator is cleared
abbrev pub modulus : ℕ → Lin → Lin
modulus n x = record { form = constant_form (pos (n * x.den)); den = 1 }

-- n times the variable at d
abbrev pub multiple : ℤ → ℕ → Lin
multiple n d = lin_scale n 1 (lin_variable d)

-- n*q <= t, and t <= n*q + |n| - 1
abbrev pub div_low : Sort → ℤ → Lin → ℕ → Normal
div_low s n x d = signed true s (AtLeast (lin_minus x (multiple n d)).form)

abbrev pub div_high : Sort → ℤ → Lin → ℕ → Normal
div_high s n x d =
    signed true s (AtLeast (lin_minus (lin_plus (multiple n d) (as_lin (record { num = pos (nat_abs n) +ℤ negsuc 0; den = 1 }))) x).form)

abbrev pub div_form : Sort → ℤ → Lin → ℕ → Normal → Normal
div_form s n x d a = there_is (each_of (part (div_low s n x d) (part (div_high s n x d) (part a no_part))))

-- the literal of a Bool variable carried as a number v: v - 1 >= 0
abbrev pub truth_form : ℕ → Lin
truth_form i = record { form = plus (lin_variable i).form (constant_form (negsuc 0)); den = 1 }

-- the forms that a division by n makes, with q the variable at d
abbrev pub div_top : ℤ → ℕ → Lin
div_top n d = lin_plus (multiple n d) (as_lin (record { num = pos (nat_abs n) +ℤ negsuc 0; den = 1 }))

abbrev pub div_forms : ℤ → Lin → ℕ → List Lin
div_forms n x d = lin_variable d ∷ multiple n d ∷ lin_minus x (multiple n d) ∷ div_top n d ∷ lin_minus (div_top n d) x ∷ []

-- what is made of the parts of a normal form
pub record Maker (R Rs : Type 0) : Type 0 where
  -- these linear forms are formed first
  pub formed : List Lin → R → R
  pub closed : Bool → R
  pub signed : Bool → Sort → Lit → R
  pub same_number : Bool → Sort → Lin → R
  pub no_part : Rs
  pub part : R → Rs → Rs
  pub joined_by : Bool → Rs → R
  pub either_by : Bool → R → R → R
  pub bind_one : Bool → R → R
  pub same_form : Bool → R → R → R → R → R
  pub ite_form : R → R → R → R → R
  pub abs_form : Sort → Lin → R → R → R
  pub div_form : Sort → ℤ → Lin → ℕ → R → R

abbrev pub gbind : {R Rs : Type 0} → Maker R Rs → Bool → List VarSort → (List Bound → ℕ → R) → List Bound → ℕ → R
gbind {R} {Rs} m q [] f ctx d = f ctx d
gbind {R} {Rs} m q (v ∷ vs) f ctx d = m.bind_one q (gbind m q vs f (ctx ++ (record { sort = v; level = d }) ∷ []) (suc d))

abbrev pub gchoose : {R : Type 0} → Bool → R → R → R
gchoose {R} true a b = a
gchoose {R} false a b = b

abbrev pub glin_of : {R : Type 0} → Bool → Lin → ℕ → (ℕ → Lin → R) → R → R
glin_of {R} true x d k n = k d x
glin_of {R} false x d k n = n

-- the form of a term, handed on: `k` makes the formula of a form at a depth
abbrev mutual
  pub gnorm : {R Rs : Type 0} → Maker R Rs → Term → Sort → Bool → List Bound → ℕ → R
  gnorm {R} {Rs} m yes s q ctx d = m.closed q
  gnorm {R} {Rs} m no s q ctx d = m.closed (not q)
  gnorm {R} {Rs} m (amount v) s q ctx d = m.closed (not q)
  gnorm {R} {Rs} m (variable i) s q ctx d =
      m.formed (lin_variable (level_at ctx i) ∷ truth_form (level_at ctx i) ∷ []) (m.signed q s (AtLeast (truth_form (level_at ctx i)).form))
  gnorm {R} {Rs} m (negative t) s q ctx d = m.closed (not q)
  gnorm {R} {Rs} m (absolute t) s q ctx d = m.closed (not q)
  gnorm {R} {Rs} m (negated t) s q ctx d = gnorm m t s (not q) ctx d
  gnorm {R} {Rs} m (divisible n t) s q ctx d = glin m t s ctx d (λ e x. m.formed (modulus n x ∷ []) (m.signed q s (Divides (n * x.den) x.form)))
  gnorm {R} {Rs} m (minus a b) s q ctx d = m.closed (not q)
  gnorm {R} {Rs} m (quotient_of a b) s q ctx d = m.closed (not q)
  gnorm {R} {Rs} m (div_of a b) s q ctx d = m.closed (not q)
  gnorm {R} {Rs} m (mod_of a b) s q ctx d = m.closed (not q)
  gnorm {R} {Rs} m (less a b) s q ctx d = glin m a s ctx d (λ e x. glin m b s ctx e (λ f y. m.formed (lin_minus y x ∷ []) (m.signed q s (Above (lin_minus y x).form))))
  gnorm {R} {Rs} m (at_most a b) s q ctx d = glin m a s ctx d (λ e x. glin m b s ctx e (λ f y. m.formed (lin_minus y x ∷ []) (m.signed q s (AtLeast (lin_minus y x).form))))
  gnorm {R} {Rs} m (greater a b) s q ctx d = glin m a s ctx d (λ e x. glin m b s ctx e (λ f y. m.formed (lin_minus x y ∷ []) (m.signed q s (Above (lin_minus x y).form))))
  gnorm {R} {Rs} m (at_least a b) s q ctx d = glin m a s ctx d (λ e x. glin m b s ctx e (λ f y. m.formed (lin_minus x y ∷ []) (m.signed q s (AtLeast (lin_minus x y).form))))
  gnorm {R} {Rs} m (equal a b) s q ctx d =
      gchoose (is_formula a (map bound_sort ctx))
      (m.same_form q (gnorm m a s true ctx d) (gnorm m a s false ctx d) (gnorm m b s true ctx d) (gnorm m b s false ctx d))
      (glin m a s ctx d (λ e x. glin m b s ctx e (λ f y. m.formed (lin_minus x y ∷ []) (m.same_number q s (lin_minus x y)))))
  gnorm {R} {Rs} m (xor_of a b) s q ctx d =
      m.same_form (not q) (gnorm m a s true ctx d) (gnorm m a s false ctx d) (gnorm m b s true ctx d) (gnorm m b s false ctx d)
  gnorm {R} {Rs} m (implies a b) s q ctx d = m.either_by (not q) (gnorm m a s (not q) ctx d) (gnorm m b s q ctx d)
  gnorm {R} {Rs} m (ite c a b) s q ctx d =
      m.ite_form (gnorm m c s true ctx d) (gnorm m c s false ctx d) (gnorm m a s q ctx d) (gnorm m b s q ctx d)
  gnorm {R} {Rs} m (plus_of ts) s q ctx d = m.closed (not q)
  gnorm {R} {Rs} m (times_of ts) s q ctx d = m.closed (not q)
  gnorm {R} {Rs} m (and_of ts) s q ctx d = m.joined_by q (gnorms m ts s q ctx d)
  gnorm {R} {Rs} m (or_of ts) s q ctx d = m.joined_by (not q) (gnorms m ts s q ctx d)
  gnorm {R} {Rs} m (forall_of vs t) s q ctx d = gbind m q vs (λ c e. gnorm m t s q c e) ctx d
  gnorm {R} {Rs} m (exists_of vs t) s q ctx d = gbind m (not q) vs (λ c e. gnorm m t s q c e) ctx d

  pub gnorms : {R Rs : Type 0} → Maker R Rs → Terms → Sort → Bool → List Bound → ℕ → Rs
  gnorms {R} {Rs} m no_term s q ctx d = m.no_part
  gnorms {R} {Rs} m (term_and t ts) s q ctx d = m.part (gnorm m t s q ctx d) (gnorms m ts s q ctx d)

  pub glin : {R Rs : Type 0} → Maker R Rs → Term → Sort → List Bound → ℕ → (ℕ → Lin → R) → R
  glin {R} {Rs} m yes s ctx d k = (m.closed false)
  glin {R} {Rs} m no s ctx d k = (m.closed false)
  glin {R} {Rs} m (amount v) s ctx d k = m.formed (lin_constant v ∷ []) (k d (lin_constant v))
  glin {R} {Rs} m (variable i) s ctx d k = m.formed (lin_variable (level_at ctx i) ∷ []) (k d (lin_variable (level_at ctx i)))
  glin {R} {Rs} m (negative t) s ctx d k = glin_of (is_constant t) (as_lin (low (negative t))) d (λ e y. m.formed (steps (negative t)) (k e y)) (glin m t s ctx d (λ e x. m.formed (lin_neg x ∷ []) (k e (lin_neg x))))
  glin {R} {Rs} m (absolute t) s ctx d k =
      glin_of (is_constant t) (as_lin (low (absolute t))) d (λ e y. m.formed (steps (absolute t)) (k e y)) (glin m t s ctx d (λ e x. m.abs_form s x (k e x) (m.formed (lin_neg x ∷ []) (k e (lin_neg x)))))
  glin {R} {Rs} m (negated t) s ctx d k = (m.closed false)
  glin {R} {Rs} m (divisible n t) s ctx d k = (m.closed false)
  glin {R} {Rs} m (minus a b) s ctx d k =
      glin_of (is_constant a && is_constant b) (as_lin (low (minus a b))) d (λ e y. m.formed (steps (minus a b)) (k e y))
      (glin m a s ctx d (λ e x. glin m b s ctx e (λ f y. m.formed (lin_minus x y ∷ []) (k f (lin_minus x y)))))
  glin {R} {Rs} m (quotient_of a b) s ctx d k =
      glin_of (is_constant a && is_constant b) (as_lin (low (quotient_of a b))) d (λ e y. m.formed (steps (quotient_of a b)) (k e y))
      (glin m a s ctx d (λ e x. m.formed (steps b ++ lin_over x (low b) ∷ []) (k e (lin_over x (low b)))))
  glin {R} {Rs} m (div_of a b) s ctx d k =
      glin_of (is_constant a && is_constant b) (as_lin (low (div_of a b))) d (λ e y. m.formed (steps (div_of a b)) (k e y))
      (glin m a s ctx d (λ e x. m.formed (steps b ++ div_forms (low b).num x e) (m.div_form s (low b).num x e (k (suc e) (lin_variable e)))))
  glin {R} {Rs} m (mod_of a b) s ctx d k =
      glin_of (is_constant a && is_constant b) (as_lin (low (mod_of a b))) d (λ e y. m.formed (steps (mod_of a b)) (k e y))
      (glin m a s ctx d (λ e x. m.formed (steps b ++ div_forms (low b).num x e) (m.div_form s (low b).num x e (k (suc e) (lin_minus x (multiple (low b).num e))))))
  glin {R} {Rs} m (less a b) s ctx d k = (m.closed false)
  glin {R} {Rs} m (at_most a b) s ctx d k = (m.closed false)
  glin {R} {Rs} m (greater a b) s ctx d k = (m.closed false)
  glin {R} {Rs} m (at_least a b) s ctx d k = (m.closed false)
  glin {R} {Rs} m (equal a b) s ctx d k = (m.closed false)
  glin {R} {Rs} m (xor_of a b) s ctx d k = (m.closed false)
  glin {R} {Rs} m (implies a b) s ctx d k = (m.closed false)
  glin {R} {Rs} m (ite c a b) s ctx d k =
      glin m a s ctx d (λ e x. glin m b s ctx e (λ f y. m.ite_form (gnorm m c s true ctx f) (gnorm m c s false ctx f) (k f x) (k f y)))
  glin {R} {Rs} m (plus_of ts) s ctx d k =
      glin_of (are_constant ts) (as_lin (low_sum ts zero_value)) d (λ e y. m.formed (steps (plus_of ts)) (k e y)) (glin_sum m ts s ctx d (as_lin zero_value) k)
  glin {R} {Rs} m (times_of ts) s ctx d k =
      glin_of (are_constant ts) (as_lin (low_product ts one_value)) d (λ e y. m.formed (steps (times_of ts)) (k e y)) (glin_product m ts s ctx d (as_lin one_value) k)
  glin {R} {Rs} m (and_of ts) s ctx d k = (m.closed false)
  glin {R} {Rs} m (or_of ts) s ctx d k = (m.closed false)
  glin {R} {Rs} m (forall_of vs t) s ctx d k = (m.closed false)
  glin {R} {Rs} m (exists_of vs t) s ctx d k = (m.closed false)

  pub glin_sum : {R Rs : Type 0} → Maker R Rs → Terms → Sort → List Bound → ℕ → Lin → (ℕ → Lin → R) → R
  glin_sum {R} {Rs} m no_term s ctx d x k = k d x
  glin_sum {R} {Rs} m (term_and t ts) s ctx d x k = glin m t s ctx d (λ e y. m.formed (lin_plus x y ∷ []) (glin_sum m ts s ctx e (lin_plus x y) k))

  pub glin_product : {R Rs : Type 0} → Maker R Rs → Terms → Sort → List Bound → ℕ → Lin → (ℕ → Lin → R) → R
  glin_product {R} {Rs} m no_term s ctx d x k = k d x
  glin_product {R} {Rs} m (term_and t ts) s ctx d x k = glin m t s ctx d (λ e y. m.formed (lin_times x y ∷ []) (glin_product m ts s ctx e (lin_times x y) k))

abbrev pub normal_maker : Maker Normal Normals
normal_maker = record {
  formed = λ xs n. n;
  closed = closed;
  signed = signed;
  same_number = same_number;
  no_part = no_part;
  part = part;
  joined_by = joined_by;
  either_by = either_by;
  bind_one = bind_one;
  same_form = same_form;
  ite_form = ite_form;
  abs_form = abs_form;
  div_form = div_form;
}

abbrev pub bind : Bool → List VarSort → (List Bound → ℕ → Normal) → List Bound → ℕ → Normal
bind q vs f ctx d = gbind normal_maker q vs f ctx d

abbrev pub choose : Bool → Normal → Normal → Normal
choose b x y = gchoose b x y

abbrev pub lin_of : Bool → Lin → ℕ → (ℕ → Lin → Normal) → Normal → Normal
lin_of b x d k n = glin_of b x d k n

abbrev pub norm : Term → Sort → Bool → List Bound → ℕ → Normal
norm t s q ctx d = gnorm normal_maker t s q ctx d

abbrev pub norms : Terms → Sort → Bool → List Bound → ℕ → Normals
norms ts s q ctx d = gnorms normal_maker ts s q ctx d

abbrev pub lin : Term → Sort → List Bound → ℕ → (ℕ → Lin → Normal) → Normal
lin t s ctx d k = glin normal_maker t s ctx d k

abbrev pub lin_sum : Terms → Sort → List Bound → ℕ → Lin → (ℕ → Lin → Normal) → Normal
lin_sum ts s ctx d x k = glin_sum normal_maker ts s ctx d x k

abbrev pub lin_product : Terms → Sort → List Bound → ℕ → Lin → (ℕ → Lin → Normal) → Normal
lin_product ts s ctx d x k = glin_product normal_maker ts s ctx d x k

-- the normal form of a goal
abbrev pub normal_of : Sort → List VarSort → Term → Normal
normal_of s consts body = norm (exists_of consts body) s true [] 0
