-- The nodes and the variables of a normal form are those that are counted.
use Rattle.std.specs.Prelude.{ℕ, zero, suc, ◌+◌, ◌*◌, ◌≡◌, ◌≤◌, ℤ, pos, negsuc, ◌+ℤ◌, nat_abs, List, [], ◌∷◌, ◌++◌, length, map, Bool, true, false, not, ◌&&◌, min}
use Rattle.std.proofs.Common.{arith, ap, ap₂, ◌∙◌, refl, mul-le-mul, inl, inr}
use Rattle.std.proofs.lemmas.Bool.{cases_lt}
use Rattle.lin_term.specs.declared.Sort.{Sort}
use Rattle.lin_term.specs.declared.Lit.{Lit}
use Rattle.lin_term.specs.declared.Lit.TheVariants.{AtLeast, Above, Divides}
use Rattle.lin_term.specs.Linear.{plus, constant_form}
use Rattle.lin_term.specs.Literal.{form_of, prim, neg}
use Rattle.norm_form.specs.Normal.{Normal, Normals, no_part, part}
use Rattle.lin_truth.specs.declared.term.VarSort.{VarSort}
use Rattle.lin_truth.specs.Term.{Term, Terms, yes, no, amount, variable, negative, absolute, negated, divisible, minus, quotient_of, div_of, mod_of, less, at_most, greater, at_least, equal, xor_of, implies, ite, plus_of, times_of, and_of, or_of, forall_of, exists_of, no_term, term_and}
use Rattle.lin_truth.specs.Truth.{is_formula}
use Rattle.lin_truth.specs.Constant.{is_constant, are_constant}
use Rattle.lin_truth.specs.Formed.{append_all}
use Rattle.lin_truth.specs.Value.{zero_value, one_value}
use Rattle.lin_form.specs.Low.{as_lin, low, low_sum, low_product}
use Rattle.lin_form.specs.Lin.{Lin, lin_constant, lin_variable, lin_plus, lin_neg, lin_minus, lin_times, lin_over}
use Rattle.lin_form.specs.declared.Bound.{Bound}
use Rattle.lin_form.specs.Scope.{bound_sort, level_at}
use Rattle.norm_form.specs.Norm.{norm, norms, lin, lin_sum, lin_product, lin_of, leaf_by, signed, closed, closed_truth, same_number, each_one, some_one, joined_by, either_by, bind, choose, abs_form, ite_form, same_form, multiple, div_low, div_high, div_form}
use Rattle.norm_form.specs.declared.count.Rate.{Rate}
use Rattle.norm_form.specs.Load.{weigh, weigh_all, Load, after, load_if, total, choose_load, sum_load, joined_load, load, loads, number_load, list_load}
use Rattle.norm_form.proofs.Here.{sorts_push}

closed_weigh : (b : Bool) (r : Rate) → weigh (closed b) r ≡ r.node
closed_weigh true r = omega arith
closed_weigh false r = omega arith

leaf_by_weigh : (us : List (ℕ × ℤ)) (l : Lit) (r : Rate) → weigh (leaf_by us l) r ≡ r.node
leaf_by_weigh [] l r = closed_weigh (closed_truth l) r
leaf_by_weigh (u ∷ us) l r = refl

signed_weigh : (q : Bool) (s : Sort) (l : Lit) (r : Rate) → weigh (signed q s l) r ≡ r.node
signed_weigh true s l r = leaf_by_weigh (form_of (prim s l)).terms (prim s l) r
signed_weigh false s l r = leaf_by_weigh (form_of (neg s (prim s l))).terms (neg s (prim s l)) r

three_law : (n a b : ℕ) → a ≡ n → b ≡ n → n + (a + (b + 0)) ≡ 3 * n
three_law n a b e f = omega arith

same_number_weigh : (q : Bool) (s : Sort) (z : Lin) (r : Rate) → weigh (same_number q s z) r ≡ 3 * r.node
same_number_weigh true s z r =
    three_law r.node (weigh (signed true s (AtLeast z.form)) r) (weigh (signed true s (AtLeast (lin_neg z).form)) r) (signed_weigh true s (AtLeast z.form) r) (signed_weigh true s (AtLeast (lin_neg z).form) r)
same_number_weigh false s z r =
    three_law r.node (weigh (signed true s (Above z.form)) r) (weigh (signed true s (Above (lin_neg z).form)) r) (signed_weigh true s (Above z.form) r) (signed_weigh true s (Above (lin_neg z).form) r)

abbrev NormLoad : Term → Type 0
NormLoad t =
    (s : Sort) (q : Bool) (ctx : List Bound) (d : ℕ) (r : Rate) → weigh (norm t s q ctx d) r ≡ load t r (map bound_sort ctx)

abbrev LinLoad : Term → Type 0
LinLoad t =
    (s : Sort) (ctx : List Bound) (d : ℕ) (k : ℕ → Lin → Normal) (r : Rate) (w : ℕ) → ((e : ℕ) (x : Lin) → weigh (k e x) r ≡ w) → weigh (lin t s ctx d k) r ≡ total (number_load t r (map bound_sort ctx)) w

after_law : (o l p m w : ℕ) → o + l * (p + m * w) ≡ (o + l * p) + (l * m) * w
after_law o l p m w = omega arith

two_load : (a b : Term) → LinLoad a → LinLoad b → (s : Sort) (ctx : List Bound) (d : ℕ) (m : ℕ → Lin → Lin → Normal) (r : Rate) (w : ℕ) → ((e : ℕ) (x y : Lin) → weigh (m e x y) r ≡ w) → weigh (lin a s ctx d (λ e x. lin b s ctx e (λ f y. m f x y))) r ≡ total (after (number_load a r (map bound_sort ctx)) (number_load b r (map bound_sort ctx))) w
two_load a b la lb s ctx d m r w h =
    let A = number_load a r (map bound_sort ctx) in
    let B = number_load b r (map bound_sort ctx) in
    la s ctx d (λ e x. lin b s ctx e (λ f y. m f x y)) r (total B w) (λ e x. lb s ctx e (λ f y. m f x y) r w (λ f y. h f x y)) ∙ after_law A.own A.leaves B.own B.leaves w

one_law : (w : ℕ) → w ≡ 0 + 1 * w
one_law w = omega arith

lin_of_load : (b : Bool) (x : Lin) (d : ℕ) (k : ℕ → Lin → Normal) (n : Normal) (r : Rate) (w : ℕ) (l : Load) → weigh (k d x) r ≡ w → weigh n r ≡ total l w → weigh (lin_of b x d k n) r ≡ total (load_if b l) w
lin_of_load true x d k n r w l e f = e ∙ one_law w
lin_of_load false x d k n r w l e f = f

none_law : (n w : ℕ) → n + 0 ≡ n + 0 * w
none_law n w = omega arith

ite_law : (n c m a b w : ℕ) → c ≡ m → n + ((n + (c + (a + 0))) + ((n + (m + (b + 0))) + 0)) ≡ 3 * n + 2 * c + (a + b)
ite_law n c m a b w e = omega arith

choose_weigh : (c : Bool) (a b : Normal) (r : Rate) (x y : ℕ) → weigh a r ≡ x → weigh b r ≡ y → weigh (choose c a b) r ≡ choose_load c x y
choose_weigh true a b r x y e f = e
choose_weigh false a b r x y e f = f

same_law : (n a c b d : ℕ) → a ≡ c → b ≡ d → n + ((n + (c + (b + 0))) + ((n + (a + (d + 0))) + 0)) ≡ 3 * n + 2 * (a + b)
same_law n a c b d e f = omega arith

same_sum : (n p q r s x y : ℕ) → p ≡ x → q ≡ y → r ≡ x → s ≡ y → n + ((n + (p + (q + 0))) + ((n + (r + (s + 0))) + 0)) ≡ 3 * n + 2 * (x + y)
same_sum n p q r s x y e f g h = omega arith

ite_sum : (n p q r s c x y : ℕ) → p ≡ c → q ≡ x → r ≡ c → s ≡ y → n + ((n + (p + (q + 0))) + ((n + (r + (s + 0))) + 0)) ≡ 3 * n + 2 * c + (x + y)
ite_sum n p q r s c x y e f g h = omega arith

double_law : (n c w : ℕ) → 3 * n + 2 * c + (w + w) ≡ (3 * n + 2 * c) + 2 * w
double_law n c w = omega arith

five_law : (n w : ℕ) → (3 * n + 2 * n) + 2 * w ≡ 5 * n + 2 * w
five_law n w = omega arith

div_sum : (b n l h a w : ℕ) → l ≡ n → h ≡ n → a ≡ w → b + (n + (l + (h + (a + 0)))) ≡ (3 * n + b) + 1 * w
div_sum b n l h a w e f g = omega arith

zero_law : (b w : ℕ) → w ≡ b * 0 + w
zero_law b w = omega arith

suc_law : (b n w : ℕ) → b + (b * n + w) ≡ b * suc n + w
suc_law b n w = omega arith

abbrev pub weights : Normals → Rate → List ℕ
weights no_part r = []
weights (part n ns) r = weigh n r ∷ weights ns r

weights_sum : (ns : Normals) (r : Rate) → weigh_all ns r ≡ sum_load (weights ns r)
weights_sum no_part r = refl
weights_sum (part n ns) r = ap (λ (k : ℕ). weigh n r + k) (weights_sum ns r)

each_one_is : (ns : Normals) (r : Rate) → weigh (each_one ns) r ≡ joined_load (weights ns r) r
each_one_is no_part r = omega arith
each_one_is (part n no_part) r = refl
each_one_is (part n (part m ms)) r = ap (λ (k : ℕ). r.node + (weigh n r + (weigh m r + k))) (weights_sum ms r)

some_one_is : (ns : Normals) (r : Rate) → weigh (some_one ns) r ≡ joined_load (weights ns r) r
some_one_is no_part r = omega arith
some_one_is (part n no_part) r = refl
some_one_is (part n (part m ms)) r = ap (λ (k : ℕ). r.node + (weigh n r + (weigh m r + k))) (weights_sum ms r)

same_form_weigh : (q : Bool) (a n b m : Normal) (r : Rate) (x y : ℕ) → weigh a r ≡ x → weigh n r ≡ x → weigh b r ≡ y → weigh m r ≡ y → weigh (same_form q a n b m) r ≡ 3 * r.node + 2 * (x + y)
same_form_weigh true a n b m r x y ea en eb em = same_sum r.node (weigh n r) (weigh b r) (weigh a r) (weigh m r) x y en eb ea em
same_form_weigh false a n b m r x y ea en eb em = same_sum r.node (weigh a r) (weigh m r) (weigh n r) (weigh b r) x y ea em en eb

bind_weigh : (q : Bool) (vs start : List VarSort) (f : List Bound → ℕ → Normal) (ctx : List Bound) (d : ℕ) (r : Rate) (w : ℕ) → ((ctx' : List Bound) (e : ℕ) → map bound_sort ctx' ≡ append_all start vs → weigh (f ctx' e) r ≡ w) → map bound_sort ctx ≡ start → weigh (bind q vs f ctx d) r ≡ r.binder * length vs + w
bind_weigh q [] start f ctx d r w h e = h ctx d e ∙ zero_law r.binder w
bind_weigh true (v ∷ vs) start f ctx d r w h e =
    let i = bind_weigh true vs (start ++ v ∷ []) f (ctx ++ (record { sort = v; level = d }) ∷ []) (suc d) r w h (sorts_push ctx v d start e) in
    ap (λ (n : ℕ). r.binder + n) i ∙ suc_law r.binder (length vs) w
bind_weigh false (v ∷ vs) start f ctx d r w h e =
    let i = bind_weigh false vs (start ++ v ∷ []) f (ctx ++ (record { sort = v; level = d }) ∷ []) (suc d) r w h (sorts_push ctx v d start e) in
    ap (λ (n : ℕ). r.binder + n) i ∙ suc_law r.binder (length vs) w

each_one_weigh : (ns : Normals) (ws : List ℕ) (r : Rate) → weights ns r ≡ ws → weigh (each_one ns) r ≡ joined_load ws r
each_one_weigh ns ws r e = each_one_is ns r ∙ ap (λ (l : List ℕ). joined_load l r) e

some_one_weigh : (ns : Normals) (ws : List ℕ) (r : Rate) → weights ns r ≡ ws → weigh (some_one ns) r ≡ joined_load ws r
some_one_weigh ns ws r e = some_one_is ns r ∙ ap (λ (l : List ℕ). joined_load l r) e

joined_weigh : (q : Bool) (ns : Normals) (ws : List ℕ) (r : Rate) → weights ns r ≡ ws → weigh (joined_by q ns) r ≡ joined_load ws r
joined_weigh true ns ws r e = each_one_weigh ns ws r e
joined_weigh false ns ws r e = some_one_weigh ns ws r e

either_weigh : (q : Bool) (a b : Normal) (r : Rate) (x y : ℕ) → weigh a r ≡ x → weigh b r ≡ y → weigh (either_by q a b) r ≡ r.node + (x + y)
either_weigh true a b r x y e f = omega (arith, e, f)
either_weigh false a b r x y e f = omega (arith, e, f)

-- an ite around two leaves
ite_leaves : (c n a b : Normal) (r : Rate) (x w : ℕ) → weigh c r ≡ x → weigh n r ≡ x → weigh a r ≡ w → weigh b r ≡ w → weigh (ite_form c n a b) r ≡ (3 * r.node + 2 * x) + 2 * w
ite_leaves c n a b r x w ec en ea eb = ite_sum r.node (weigh n r) (weigh a r) (weigh c r) (weigh b r) x w w en ea ec eb ∙ double_law r.node x w

div_weigh : (s : Sort) (n : ℤ) (x : Lin) (e : ℕ) (a : Normal) (r : Rate) (w : ℕ) → weigh a r ≡ w → weigh (div_form s n x e a) r ≡ (3 * r.node + r.binder) + 1 * w
div_weigh s n x e a r w f =
    div_sum r.binder r.node (weigh (div_low s n x e) r) (weigh (div_high s n x e) r) (weigh a r) w
    (signed_weigh true s (AtLeast (lin_minus x (multiple n e)).form) r)
    (signed_weigh true s (AtLeast (lin_minus (lin_plus (multiple n e) (as_lin (record { num = pos (nat_abs n) +ℤ negsuc 0; den = 1 }))) x).form) r) f

-- a term, and then what is around each of its leaves
then_load : (a : Term) → LinLoad a → (s : Sort) (ctx : List Bound) (d : ℕ) (k : ℕ → Lin → Normal) (r : Rate) (l : Load) (w : ℕ) → ((e : ℕ) (x : Lin) → weigh (k e x) r ≡ total l w) → weigh (lin a s ctx d k) r ≡ total (after (number_load a r (map bound_sort ctx)) l) w
then_load a la s ctx d k r l w h =
    let A = number_load a r (map bound_sort ctx) in
    la s ctx d k r (total l w) h ∙ after_law A.own A.leaves l.own l.leaves w

mutual
  pub norm_load : (t : Term) → NormLoad t
  norm_load yes s q ctx d r = closed_weigh q r
  norm_load no s q ctx d r = closed_weigh (not q) r
  norm_load (amount v) s q ctx d r = closed_weigh (not q) r
  norm_load (variable i) s q ctx d r = signed_weigh q s (AtLeast (plus (lin_variable (level_at ctx i)).form (constant_form (negsuc 0)))) r
  norm_load (negative t) s q ctx d r = closed_weigh (not q) r
  norm_load (absolute t) s q ctx d r = closed_weigh (not q) r
  norm_load (negated t) s q ctx d r = norm_load t s (not q) ctx d r
  norm_load (divisible m t) s q ctx d r =
      lin_load t s ctx d (λ e x. signed q s (Divides (m * x.den) x.form)) r r.node (λ e x. signed_weigh q s (Divides (m * x.den) x.form) r)
  norm_load (minus a b) s q ctx d r = closed_weigh (not q) r
  norm_load (quotient_of a b) s q ctx d r = closed_weigh (not q) r
  norm_load (div_of a b) s q ctx d r = closed_weigh (not q) r
  norm_load (mod_of a b) s q ctx d r = closed_weigh (not q) r
  norm_load (less a b) s q ctx d r =
      two_load a b (lin_load a) (lin_load b) s ctx d (λ e x y. signed q s (Above (lin_minus y x).form)) r r.node (λ e x y. signed_weigh q s (Above (lin_minus y x).form) r)
  norm_load (at_most a b) s q ctx d r =
      two_load a b (lin_load a) (lin_load b) s ctx d (λ e x y. signed q s (AtLeast (lin_minus y x).form)) r r.node (λ e x y. signed_weigh q s (AtLeast (lin_minus y x).form) r)
  norm_load (greater a b) s q ctx d r =
      two_load a b (lin_load a) (lin_load b) s ctx d (λ e x y. signed q s (Above (lin_minus x y).form)) r r.node (λ e x y. signed_weigh q s (Above (lin_minus x y).form) r)
  norm_load (at_least a b) s q ctx d r =
      two_load a b (lin_load a) (lin_load b) s ctx d (λ e x y. signed q s (AtLeast (lin_minus x y).form)) r r.node (λ e x y. signed_weigh q s (AtLeast (lin_minus x y).form) r)
  norm_load (equal a b) s q ctx d r =
      choose_weigh (is_formula a (map bound_sort ctx))
      (same_form q (norm a s true ctx d) (norm a s false ctx d) (norm b s true ctx d) (norm b s false ctx d))
      (lin a s ctx d (λ e x. lin b s ctx e (λ f y. same_number q s (lin_minus x y)))) r
      (3 * r.node + 2 * (load a r (map bound_sort ctx) + load b r (map bound_sort ctx))) (total (after (number_load a r (map bound_sort ctx)) (number_load b r (map bound_sort ctx))) (3 * r.node))
      (same_form_weigh q (norm a s true ctx d) (norm a s false ctx d) (norm b s true ctx d) (norm b s false ctx d) r (load a r (map bound_sort ctx)) (load b r (map bound_sort ctx)) (norm_load a s true ctx d r) (norm_load a s false ctx d r) (norm_load b s true ctx d r) (norm_load b s false ctx d r))
      (two_load a b (lin_load a) (lin_load b) s ctx d (λ e x y. same_number q s (lin_minus x y)) r (3 * r.node) (λ e x y. same_number_weigh q s (lin_minus x y) r))
  norm_load (xor_of a b) s q ctx d r =
      same_form_weigh (not q) (norm a s true ctx d) (norm a s false ctx d) (norm b s true ctx d) (norm b s false ctx d) r (load a r (map bound_sort ctx)) (load b r (map bound_sort ctx)) (norm_load a s true ctx d r) (norm_load a s false ctx d r) (norm_load b s true ctx d r) (norm_load b s false ctx d r)
  norm_load (implies a b) s q ctx d r =
      either_weigh (not q) (norm a s (not q) ctx d) (norm b s q ctx d) r (load a r (map bound_sort ctx)) (load b r (map bound_sort ctx)) (norm_load a s (not q) ctx d r) (norm_load b s q ctx d r)
  norm_load (ite c a b) s q ctx d r =
      ite_sum r.node (weigh (norm c s false ctx d) r) (weigh (norm a s q ctx d) r) (weigh (norm c s true ctx d) r) (weigh (norm b s q ctx d) r) (load c r (map bound_sort ctx)) (load a r (map bound_sort ctx)) (load b r (map bound_sort ctx)) (norm_load c s false ctx d r) (norm_load a s q ctx d r) (norm_load c s true ctx d r) (norm_load b s q ctx d r)
  norm_load (plus_of ts) s q ctx d r = closed_weigh (not q) r
  norm_load (times_of ts) s q ctx d r = closed_weigh (not q) r
  norm_load (and_of ts) s q ctx d r = joined_weigh q (norms ts s q ctx d) (loads ts r (map bound_sort ctx)) r (norms_load ts s q ctx d r)
  norm_load (or_of ts) s q ctx d r = joined_weigh (not q) (norms ts s q ctx d) (loads ts r (map bound_sort ctx)) r (norms_load ts s q ctx d r)
  norm_load (forall_of vs t) s q ctx d r =
      bind_weigh q vs (map bound_sort ctx) (λ c e. norm t s q c e) ctx d r (load t r (append_all (map bound_sort ctx) vs)) (λ c e z. norm_load t s q c e r ∙ ap (λ (us : List VarSort). load t r us) z) refl
  norm_load (exists_of vs t) s q ctx d r =
      bind_weigh (not q) vs (map bound_sort ctx) (λ c e. norm t s q c e) ctx d r (load t r (append_all (map bound_sort ctx) vs)) (λ c e z. norm_load t s q c e r ∙ ap (λ (us : List VarSort). load t r us) z) refl

  pub norms_load : (ts : Terms) (s : Sort) (q : Bool) (ctx : List Bound) (d : ℕ) (r : Rate) → weights (norms ts s q ctx d) r ≡ loads ts r (map bound_sort ctx)
  norms_load no_term s q ctx d r = refl
  norms_load (term_and t ts) s q ctx d r = ap₂ (λ (n : ℕ) (ns : List ℕ). n ∷ ns) (norm_load t s q ctx d r) (norms_load ts s q ctx d r)

  pub lin_load : (t : Term) → LinLoad t
  lin_load yes s ctx d k r w h = none_law r.node w
  lin_load no s ctx d k r w h = none_law r.node w
  lin_load (amount v) s ctx d k r w h = h d (lin_constant v) ∙ one_law w
  lin_load (variable i) s ctx d k r w h = h d (lin_variable (level_at ctx i)) ∙ one_law w
  lin_load (negative t) s ctx d k r w h =
      lin_of_load (is_constant t) (as_lin (low (negative t))) d k (lin t s ctx d (λ e x. k e (lin_neg x))) r w (number_load t r (map bound_sort ctx)) (h d _)
      (lin_load t s ctx d (λ e x. k e (lin_neg x)) r w (λ e x. h e (lin_neg x)))
  lin_load (absolute t) s ctx d k r w h =
      lin_of_load (is_constant t) (as_lin (low (absolute t))) d k (lin t s ctx d (λ e x. abs_form s x (k e x) (k e (lin_neg x)))) r w (after (number_load t r (map bound_sort ctx)) (record { own = 5 * r.node; leaves = 2 })) (h d _)
      (then_load t (lin_load t) s ctx d (λ e x. abs_form s x (k e x) (k e (lin_neg x))) r (record { own = 5 * r.node; leaves = 2 }) w
      (λ e x. ite_leaves (signed true s (AtLeast x.form)) (signed false s (AtLeast x.form)) (k e x) (k e (lin_neg x)) r r.node w (signed_weigh true s (AtLeast x.form) r) (signed_weigh false s (AtLeast x.form) r) (h e x) (h e (lin_neg x)) ∙ five_law r.node w))
  lin_load (negated t) s ctx d k r w h = none_law r.node w
  lin_load (divisible m t) s ctx d k r w h = none_law r.node w
  lin_load (minus a b) s ctx d k r w h =
      lin_of_load (is_constant a && is_constant b) (as_lin (low (minus a b))) d k (lin a s ctx d (λ e x. lin b s ctx e (λ f y. k f (lin_minus x y)))) r w (after (number_load a r (map bound_sort ctx)) (number_load b r (map bound_sort ctx))) (h d _)
      (two_load a b (lin_load a) (lin_load b) s ctx d (λ f x y. k f (lin_minus x y)) r w (λ e x y. h e (lin_minus x y)))
  lin_load (quotient_of a b) s ctx d k r w h =
      lin_of_load (is_constant a && is_constant b) (as_lin (low (quotient_of a b))) d k (lin a s ctx d (λ e x. k e (lin_over x (low b)))) r w (number_load a r (map bound_sort ctx)) (h d _)
      (lin_load a s ctx d (λ e x. k e (lin_over x (low b))) r w (λ e x. h e (lin_over x (low b))))
  lin_load (div_of a b) s ctx d k r w h =
      lin_of_load (is_constant a && is_constant b) (as_lin (low (div_of a b))) d k (lin a s ctx d (λ e x. div_form s (low b).num x e (k (suc e) (lin_variable e)))) r w (after (number_load a r (map bound_sort ctx)) (record { own = 3 * r.node + r.binder; leaves = 1 })) (h d _)
      (then_load a (lin_load a) s ctx d (λ e x. div_form s (low b).num x e (k (suc e) (lin_variable e))) r (record { own = 3 * r.node + r.binder; leaves = 1 }) w
      (λ e x. div_weigh s (low b).num x e (k (suc e) (lin_variable e)) r w (h (suc e) (lin_variable e))))
  lin_load (mod_of a b) s ctx d k r w h =
      lin_of_load (is_constant a && is_constant b) (as_lin (low (mod_of a b))) d k (lin a s ctx d (λ e x. div_form s (low b).num x e (k (suc e) (lin_minus x (multiple (low b).num e))))) r w (after (number_load a r (map bound_sort ctx)) (record { own = 3 * r.node + r.binder; leaves = 1 })) (h d _)
      (then_load a (lin_load a) s ctx d (λ e x. div_form s (low b).num x e (k (suc e) (lin_minus x (multiple (low b).num e)))) r (record { own = 3 * r.node + r.binder; leaves = 1 }) w
      (λ e x. div_weigh s (low b).num x e (k (suc e) (lin_minus x (multiple (low b).num e))) r w (h (suc e) (lin_minus x (multiple (low b).num e)))))
  lin_load (less a b) s ctx d k r w h = none_law r.node w
  lin_load (at_most a b) s ctx d k r w h = none_law r.node w
  lin_load (greater a b) s ctx d k r w h = none_law r.node w
  lin_load (at_least a b) s ctx d k r w h = none_law r.node w
  lin_load (equal a b) s ctx d k r w h = none_law r.node w
  lin_load (xor_of a b) s ctx d k r w h = none_law r.node w
  lin_load (implies a b) s ctx d k r w h = none_law r.node w
  lin_load (ite c a b) s ctx d k r w h =
      let C = load c r (map bound_sort ctx) in
      then_load a (lin_load a) s ctx d (λ e x. lin b s ctx e (λ f y. ite_form (norm c s true ctx f) (norm c s false ctx f) (k f x) (k f y))) r (after (number_load b r (map bound_sort ctx)) (record { own = 3 * r.node + 2 * C; leaves = 2 })) w
      (λ e x. then_load b (lin_load b) s ctx e (λ f y. ite_form (norm c s true ctx f) (norm c s false ctx f) (k f x) (k f y)) r (record { own = 3 * r.node + 2 * C; leaves = 2 }) w
      (λ f y. ite_leaves (norm c s true ctx f) (norm c s false ctx f) (k f x) (k f y) r C w (norm_load c s true ctx f r) (norm_load c s false ctx f r) (h f x) (h f y)))
  lin_load (plus_of ts) s ctx d k r w h =
      lin_of_load (are_constant ts) (as_lin (low_sum ts zero_value)) d k (lin_sum ts s ctx d (as_lin zero_value) k) r w (list_load ts r (map bound_sort ctx)) (h d _)
      (sum_load_is ts s ctx d (as_lin zero_value) k r w h)
  lin_load (times_of ts) s ctx d k r w h =
      lin_of_load (are_constant ts) (as_lin (low_product ts one_value)) d k (lin_product ts s ctx d (as_lin one_value) k) r w (list_load ts r (map bound_sort ctx)) (h d _)
      (product_load_is ts s ctx d (as_lin one_value) k r w h)
  lin_load (and_of ts) s ctx d k r w h = none_law r.node w
  lin_load (or_of ts) s ctx d k r w h = none_law r.node w
  lin_load (forall_of vs t) s ctx d k r w h = none_law r.node w
  lin_load (exists_of vs t) s ctx d k r w h = none_law r.node w

  pub sum_load_is : (ts : Terms) (s : Sort) (ctx : List Bound) (d : ℕ) (x : Lin) (k : ℕ → Lin → Normal) (r : Rate) (w : ℕ) → ((e : ℕ) (y : Lin) → weigh (k e y) r ≡ w) → weigh (lin_sum ts s ctx d x k) r ≡ total (list_load ts r (map bound_sort ctx)) w
  sum_load_is no_term s ctx d x k r w h = h d x ∙ one_law w
  sum_load_is (term_and t ts) s ctx d x k r w h =
      then_load t (lin_load t) s ctx d (λ e y. lin_sum ts s ctx e (lin_plus x y) k) r (list_load ts r (map bound_sort ctx)) w (λ e y. sum_load_is ts s ctx e (lin_plus x y) k r w h)

  pub product_load_is : (ts : Terms) (s : Sort) (ctx : List Bound) (d : ℕ) (x : Lin) (k : ℕ → Lin → Normal) (r : Rate) (w : ℕ) → ((e : ℕ) (y : Lin) → weigh (k e y) r ≡ w) → weigh (lin_product ts s ctx d x k) r ≡ total (list_load ts r (map bound_sort ctx)) w
  product_load_is no_term s ctx d x k r w h = h d x ∙ one_law w
  product_load_is (term_and t ts) s ctx d x k r w h =
      then_load t (lin_load t) s ctx d (λ e y. lin_product ts s ctx e (lin_times x y) k) r (list_load ts r (map bound_sort ctx)) w (λ e y. product_load_is ts s ctx e (lin_times x y) k r w h)

-- ---- counting with a limit: sums and products of what is cut off at the limit

abbrev pub cut : ℕ → ℕ → ℕ
cut m n = min m n

pub cut_plus : (m x y : ℕ) → cut m (cut m x + cut m y) ≡ cut m (x + y)
cut_plus m x y = omega arith

*-comm' : (a b : ℕ) → a * b ≡ b * a
*-comm' a b = omega arith

big : (m a b : ℕ) → m ≤ a → 1 ≤ b → m ≤ a * b
big m a b h k = let l : m * 1 ≤ a * b = mul-le-mul h k in omega arith

both_cut : (m p q : ℕ) → m ≤ p → m ≤ q → min m p ≡ min m q
both_cut m p q h k = omega arith

pub cut_times : (m x y : ℕ) → cut m (cut m x * cut m y) ≡ cut m (x * y)
cut_times zero x y = omega arith
cut_times (suc m) x zero = let e : min (suc m) zero ≡ zero = omega arith in ap (λ (n : ℕ). min (suc m) (min (suc m) x * n)) e ∙ (omega arith)
cut_times (suc m) zero (suc y) = let e : min (suc m) zero ≡ zero = omega arith in ap (λ (n : ℕ). min (suc m) (n * min (suc m) (suc y))) e ∙ (omega arith)
cut_times (suc m) (suc x) (suc y) =
    elim (cases_lt (suc m) (suc x)) [
      | inl over ↦
          let e : min (suc m) (suc x) ≡ suc m = omega arith in
          both_cut (suc m) (min (suc m) (suc x) * min (suc m) (suc y)) (suc x * suc y) (big (suc m) (min (suc m) (suc x)) (min (suc m) (suc y)) (omega arith) (omega arith)) (big (suc m) (suc x) (suc y) (omega arith) (omega arith))
      | inr under ↦
          elim (cases_lt (suc m) (suc y)) [
            | inl over ↦
                let f = *-comm' (min (suc m) (suc x)) (min (suc m) (suc y)) in
                let g = *-comm' (suc x) (suc y) in
                both_cut (suc m) (min (suc m) (suc x) * min (suc m) (suc y)) (suc x * suc y)
                (let l = big (suc m) (min (suc m) (suc y)) (min (suc m) (suc x)) (omega arith) (omega arith) in omega arith)
                (let l = big (suc m) (suc y) (suc x) (omega arith) (omega arith) in omega arith)
            | inr below ↦
                let e : min (suc m) (suc x) ≡ suc x = omega arith in
                let f : min (suc m) (suc y) ≡ suc y = omega arith in
                ap₂ (λ (a b : ℕ). min (suc m) (a * b)) e f
          ]
    ]
