-- The normal form is one: its literals are of the sort and speak of the variables around them.
use Prim.Native.Nat.{◌∣◌}
use Rattle.std.specs.Prelude.{ℕ, zero, suc, ◌*◌, ◌/◌, ◌≡◌, ◌<◌, ◌≤◌, ℤ, pos, negsuc, ◌+ℤ◌, neg_ℤ, nat_abs, List, [], ◌∷◌, ◌++◌, length, map, Bool, true, false, not, ◌&&◌}
use Rattle.std.proofs.Common.{arith, ap, sym, subst, refl, inl, inr, mul-le-mul}
use Rattle.lin_term.specs.declared.Sort.{Sort}
use Rattle.lin_term.specs.declared.Sort.TheVariants.{Rat, Int}
use Rattle.lin_term.specs.declared.Lit.{Lit}
use Rattle.lin_term.specs.declared.Lit.TheVariants.{AtLeast, Above, Divides}
use Rattle.lin_term.specs.Linear.{Value, IsValue, plus, constant_form}
use Rattle.norm_form.specs.Normal.{Normal, Normals, no_part, part, TrueN}
use Rattle.lin_truth.specs.declared.term.VarSort.{VarSort}
use Rattle.lin_truth.specs.Term.{Term, Terms, no_term, term_and, yes, no, amount, variable, negative, absolute, negated, divisible, minus, quotient_of, div_of, mod_of, less, at_most, greater, at_least, equal, xor_of, implies, ite, plus_of, times_of, and_of, or_of, forall_of, exists_of}
use Rattle.lin_truth.specs.Truth.{Same, Either, True}
use Rattle.lin_truth.specs.Value.{Yes, zero_value, one_value}
use Rattle.lin_truth.specs.Formed.{append_all, IsFormula, AreFormulas, IsNumber, AreNumbers, IsInt}
use Rattle.lin_truth.specs.Constant.{is_constant, are_constant}
use Rattle.lin_form.specs.Low.{as_lin, low, low_sum, low_product}
use Rattle.lin_form.specs.Lin.{Lin, reduced, lin_constant, lin_variable, lin_plus, lin_neg, lin_minus, lin_scale, scaled_by, lin_times, over_constant, lin_over}
use Rattle.lin_form.specs.declared.Bound.{Bound}
use Rattle.lin_form.specs.Scope.{bound_sort, level_at}
use Rattle.norm_form.specs.Norm.{normal_of, norm, norms, lin, lin_sum, lin_product, lin_of, signed, closed, each_one, some_one, joined_by, abs_form, ite_form, multiple, div_form}
use Rattle.norm_form.proofs.Forms.{value_den}
use Rattle.norm_form.proofs.Leaves.{Plain}
use Rattle.lin_term.specs.Linear.{Below, times}
use Rattle.lin_term.specs.Literal.{IsOf, form_of, prim, neg, gcd, gcd_terms}
use Rattle.dom_core.specs.Game.{lit}
use Rattle.lin_term.specs.Linear.{origin}
use Rattle.lin_term.proofs.PrimitiveLemmas.{gcd_is, or_one_pos}
use Rattle.dom_core.proofs.Renaming.{prim_below, plus_below, times_below, quotient_below, neg_is_matrix}
use Rattle.std.proofs.lemmas.List.{length-map, get_or_append_left, get_or_push}
use Rattle.std.proofs.Common.{length-append}
use Rattle.std.proofs.lemmas.Bool.{cases_lt}
use Rattle.norm_form.specs.Normal.{IsNormal, AreNormal}
use Rattle.norm_form.specs.Norm.{either_by, leaf_by, same_form, bind_one, bind, choose, same_number}
use Rattle.lin_form.specs.Lin.{common}
use Rattle.lin_truth.specs.Truth.{is_formula}
use Rattle.norm_form.proofs.Forms.{below_more_terms, or_one_divides, exact_quotient, quotient_pos}
use Rattle.norm_form.proofs.Leaves.{plain_prim}
use Rattle.norm_form.proofs.Numbers.{low_is}
use Rattle.norm_form.proofs.Here.{Here, no_bound, sorts_push}
use Rattle.norm_form.proofs.Normed.{norm_same}
use Rattle.norm_form.proofs.Growing.{origin_point}

-- a form over the variables below d
abbrev pub FormFits : ℕ → Lin → Type 0
FormFits d x = (1 ≤ x.den) × Below d x.form

reduced_fits : (d : ℕ) (x : Lin) → FormFits d x → FormFits d (reduced x)
reduced_fits d x h =
    let c = gcd (nat_abs x.form.constant) (gcd_terms x.form.terms) in
    let j = gcd_is x.den c in
    let g = gcd x.den c in
    let e : common x ≡ g = or_one_divides g x.den h.0 j.0 in
    let q = exact_quotient (common x) x.den (or_one_pos g) (subst (λ (n : ℕ). n ∣ x.den) (sym e) j.0) in
    (quotient_pos (common x) x.den (x.den / common x) q h.0, quotient_below d x.form.terms (common x) h.1)

constant_fits : (s : Sort) (d : ℕ) (v : Value) → IsValue s v → FormFits d (lin_constant v)
constant_fits s d v h = reduced_fits d (record { form = constant_form v.num; den = v.den }) (value_den s v h, tt)

value_fits : (s : Sort) (d : ℕ) (v : Value) → IsValue s v → FormFits d (as_lin v)
value_fits s d v h = (value_den s v h, tt)

variable_fits : (d i : ℕ) → i < d → FormFits d (lin_variable i)
variable_fits d i h = (omega arith, (h, tt))

plus_fits : (d : ℕ) (x y : Lin) → FormFits d x → FormFits d y → FormFits d (lin_plus x y)
plus_fits d x y a b =
    reduced_fits d (record { form = plus (times (pos y.den) x.form) (times (pos x.den) y.form); den = x.den * y.den })
    (mul-le-mul a.0 b.0, plus_below d (times (pos y.den) x.form).terms (times (pos x.den) y.form).terms (times_below d (pos y.den) x.form.terms a.1) (times_below d (pos x.den) y.form.terms b.1))

scale_fits : (d : ℕ) (n : ℤ) (m : ℕ) (x : Lin) → 1 ≤ m → FormFits d x → FormFits d (lin_scale n m x)
scale_fits d n m x o a =
    reduced_fits d (record { form = times n x.form; den = m * x.den }) (mul-le-mul o a.0, times_below d n x.form.terms a.1)

neg_fits : (d : ℕ) (x : Lin) → FormFits d x → FormFits d (lin_neg x)
neg_fits d x a = scale_fits d (negsuc 0) 1 x (omega arith) a

minus_fits : (d : ℕ) (x y : Lin) → FormFits d x → FormFits d y → FormFits d (lin_minus x y)
minus_fits d x y a b =
    reduced_fits d (record { form = plus (times (pos y.den) x.form) (times (neg_ℤ (pos x.den)) y.form); den = x.den * y.den })
    (mul-le-mul a.0 b.0, plus_below d (times (pos y.den) x.form).terms (times (neg_ℤ (pos x.den)) y.form).terms (times_below d (pos y.den) x.form.terms a.1) (times_below d (neg_ℤ (pos x.den)) y.form.terms b.1))

times_fits_by : (us : List (ℕ × ℤ)) (d : ℕ) (x y : Lin) → FormFits d x → FormFits d y → FormFits d (scaled_by us x y)
times_fits_by [] d x y a b = scale_fits d x.form.constant x.den y a.0 b
times_fits_by (u ∷ us) d x y a b = scale_fits d y.form.constant y.den x b.0 a

over_fits : (d : ℕ) (m : ℤ) (e : ℕ) (x : Lin) → FormFits d x → FormFits d (over_constant m e x)
over_fits d (pos zero) e x a = a
over_fits d (pos (suc m)) e x a = scale_fits d (pos e) (suc m) x (omega arith) a
over_fits d (negsuc m) e x a = scale_fits d (neg_ℤ (pos e)) (suc m) x (omega arith) a

fits_more : (d e : ℕ) (x : Lin) → d ≤ e → FormFits d x → FormFits e x
fits_more d e x h a = (a.0, below_more_terms d e x.form.terms h a.1)

-- ---- leaves

closed_fits : (b : Bool) (s : Sort) (d : ℕ) → IsNormal (closed b) s d
closed_fits true s d = tt
closed_fits false s d = tt

leaf_fits_by : (us : List (ℕ × ℤ)) (l : Lit) (s : Sort) (d : ℕ) → IsOf s l × Below d (form_of l) → IsNormal (leaf_by us l) s d
leaf_fits_by [] l s d h = closed_fits _ s d
leaf_fits_by (u ∷ us) l s d h = h

signed_fits : (q : Bool) (s : Sort) (l : Lit) (d : ℕ) → Plain s l → Below d (form_of l) → IsNormal (signed q s l) s d
signed_fits true s l d o b =
    leaf_fits_by (form_of (prim s l)).terms (prim s l) s d ((plain_prim s l o).1, prim_below s d l b)
signed_fits false s l d o b =
    leaf_fits_by (form_of (neg s (prim s l))).terms (neg s (prim s l)) s d (neg_is_matrix (lit (prim s l)) s d ((plain_prim s l o).1, prim_below s d l b))

same_number_fits : (q : Bool) (s : Sort) (z : Lin) (d : ℕ) → FormFits d z → IsNormal (same_number q s z) s d
same_number_fits true s z d h =
    (signed_fits true s (AtLeast z.form) d tt h.1, (signed_fits true s (AtLeast (lin_neg z).form) d tt (neg_fits d z h).1, tt))
same_number_fits false s z d h =
    (signed_fits true s (Above z.form) d tt h.1, (signed_fits true s (Above (lin_neg z).form) d tt (neg_fits d z h).1, tt))

-- ---- claims

abbrev pub Levels : List Bound → ℕ → Type 0
Levels ctx d = (i : ℕ) → i < length ctx → level_at ctx i < d

abbrev pub KontFits : Sort → (ℕ → Lin → Normal) → ℕ → Type 0
KontFits s k d = (e : ℕ) → d ≤ e → (x : Lin) → FormFits e x → IsNormal (k e x) s e

abbrev pub NormFits : Sort → Term → Type 0
NormFits s t =
    (q : Bool) (ctx : List Bound) (d : ℕ) → IsFormula t s (map bound_sort ctx) → Levels ctx d → IsNormal (norm t s q ctx d) s d

abbrev pub LinFits : Sort → Term → Type 0
LinFits s t =
    (ctx : List Bound) (d : ℕ) (k : ℕ → Lin → Normal) → IsNumber t s (map bound_sort ctx) → Levels ctx d → KontFits s k d → IsNormal (lin t s ctx d k) s d

levels_more : (ctx : List Bound) (d e : ℕ) → d ≤ e → Levels ctx d → Levels ctx e
levels_more ctx d e h l i k = let m = l i k in omega arith

levels_push : (ctx : List Bound) (d : ℕ) (v : VarSort) → Levels ctx d → Levels (ctx ++ (record { sort = v; level = d }) ∷ []) (suc d)
levels_push ctx d v l i k =
    let lc = length-append ctx ((record { sort = v; level = d }) ∷ []) in
    elim (cases_lt i (length ctx)) [
      | inl near ↦
          let a = ap (λ (z : Bound). z.level) (get_or_append_left ctx ((record { sort = v; level = d }) ∷ []) no_bound i near) in
          let m = l i near in omega arith
      | inr past ↦
          let a = ap (λ (z : Bound). z.level) (get_or_push ctx (record { sort = v; level = d }) no_bound i (omega arith)) in
          omega arith
    ]

pair_fits : (b : Bool) (a n : Normal) (s : Sort) (d : ℕ) → IsNormal a s d → IsNormal n s d → IsNormal (either_by b a n) s d
pair_fits true a n s d x y = (x, (y, tt))
pair_fits false a n s d x y = (x, (y, tt))

same_form_fits : (q : Bool) (a n b m : Normal) (s : Sort) (d : ℕ) → IsNormal a s d → IsNormal n s d → IsNormal b s d → IsNormal m s d → IsNormal (same_form q a n b m) s d
same_form_fits true a n b m s d w x y z = ((x, (y, tt)), ((w, (z, tt)), tt))
same_form_fits false a n b m s d w x y z = ((w, (z, tt)), ((x, (y, tt)), tt))

each_one_fits : (ns : Normals) (s : Sort) (d : ℕ) → AreNormal ns s d → IsNormal (each_one ns) s d
each_one_fits no_part s d h = tt
each_one_fits (part n no_part) s d h = h.0
each_one_fits (part n (part m ms)) s d h = h

some_one_fits : (ns : Normals) (s : Sort) (d : ℕ) → AreNormal ns s d → IsNormal (some_one ns) s d
some_one_fits no_part s d h = tt
some_one_fits (part n no_part) s d h = h.0
some_one_fits (part n (part m ms)) s d h = h

joined_fits : (q : Bool) (ns : Normals) (s : Sort) (d : ℕ) → AreNormal ns s d → IsNormal (joined_by q ns) s d
joined_fits true ns s d h = each_one_fits ns s d h
joined_fits false ns s d h = some_one_fits ns s d h

choose_fits : (c : Bool) (F N : Type 0) (a b : Normal) (s : Sort) (d : ℕ) → Either c F N → (F → IsNormal a s d) → (N → IsNormal b s d) → IsNormal (choose c a b) s d
choose_fits true F N a b s d e f g = f e
choose_fits false F N a b s d e f g = g e

bind_one_fits : (q : Bool) (n : Normal) (s : Sort) (d : ℕ) → IsNormal n s (suc d) → IsNormal (bind_one q n) s d
bind_one_fits true n s d h = h
bind_one_fits false n s d h = h

bind_fits : (q : Bool) (vs start : List VarSort) (f : List Bound → ℕ → Normal) (s : Sort) (ctx : List Bound) (d : ℕ) → ((ctx' : List Bound) (e : ℕ) → map bound_sort ctx' ≡ append_all start vs → Levels ctx' e → IsNormal (f ctx' e) s e) → map bound_sort ctx ≡ start → Levels ctx d → IsNormal (bind q vs f ctx d) s d
bind_fits q [] start f s ctx d h e l = h ctx d e l
bind_fits q (v ∷ vs) start f s ctx d h e l =
    bind_one_fits q (bind q vs f (ctx ++ (record { sort = v; level = d }) ∷ []) (suc d)) s d
    (bind_fits q vs (start ++ v ∷ []) f s (ctx ++ (record { sort = v; level = d }) ∷ []) (suc d) h (sorts_push ctx v d start e) (levels_push ctx d v l))

two_fits : (s : Sort) (a b : Term) → LinFits s a → LinFits s b → (ctx : List Bound) (d : ℕ) (m : ℕ → Lin → Lin → Normal) → IsNumber a s (map bound_sort ctx) → IsNumber b s (map bound_sort ctx) → Levels ctx d → ((e : ℕ) → d ≤ e → (x y : Lin) → FormFits e x → FormFits e y → IsNormal (m e x y) s e) → IsNormal (lin a s ctx d (λ e x. lin b s ctx e (λ f y. m f x y))) s d
two_fits s a b fa fb ctx d m na nb l h =
    fa ctx d (λ e x. lin b s ctx e (λ f y. m f x y)) na l
    (λ e de x fx. fb ctx e (λ f y. m f x y) nb (levels_more ctx d e de l) (λ f ef y fy. h f (omega arith) x y (fits_more e f x ef fx) fy))

lin_of_fits : (b : Bool) (x : Lin) (d : ℕ) (k : ℕ → Lin → Normal) (n : Normal) (s : Sort) → (Yes b → IsNormal (k d x) s d) → IsNormal n s d → IsNormal (lin_of b x d k n) s d
lin_of_fits true x d k n s f g = f tt
lin_of_fits false x d k n s f g = g

const_fits : (t : Term) (s : Sort) (ctx : List Bound) (d : ℕ) (k : ℕ → Lin → Normal) → IsNumber t s (map bound_sort ctx) → KontFits s k d → Yes (is_constant t) → IsNormal (k d (as_lin (low t))) s d
const_fits t s ctx d k n h y = h d (omega arith) (as_lin (low t)) (value_fits s d (low t) (low_is t s (map bound_sort ctx) y n).0)

ite_form_fits : (c n a b : Normal) (s : Sort) (d : ℕ) → IsNormal c s d → IsNormal n s d → IsNormal a s d → IsNormal b s d → IsNormal (ite_form c n a b) s d
ite_form_fits c n a b s d w x y z = ((x, (y, tt)), ((w, (z, tt)), tt))

div_fits : (s : Sort) (n : ℤ) (x : Lin) (e : ℕ) (a : Normal) → FormFits e x → IsNormal a s (suc e) → IsNormal (div_form s n x e a) s e
div_fits s n x e a f h =
    let v = scale_fits (suc e) n 1 (lin_variable e) (omega arith) (variable_fits (suc e) e (omega arith)) in
    let x' = fits_more e (suc e) x (omega arith) f in
    let c : Value = record { num = pos (nat_abs n) +ℤ negsuc 0; den = 1 } in
    let y = plus_fits (suc e) (multiple n e) (as_lin c) v (value_fits Int (suc e) c refl) in (
      signed_fits true s (AtLeast (lin_minus x (multiple n e)).form) (suc e) tt (minus_fits (suc e) x (multiple n e) x' v).1,
      (
        signed_fits true s (AtLeast (lin_minus (lin_plus (multiple n e) (as_lin c)) x).form) (suc e) tt (minus_fits (suc e) (lin_plus (multiple n e) (as_lin c)) x y x').1,
        (h, tt),
      ),
    )

level_of : (ctx : List Bound) (d i : ℕ) → Levels ctx d → i < length (map bound_sort ctx) → level_at ctx i < d
level_of ctx d i l h = l i (let e = length-map ctx bound_sort in omega arith)

atom_fits : (q : Bool) (s : Sort) (x : Lin) (d : ℕ) → FormFits d x → IsNormal (signed q s (AtLeast x.form)) s d
atom_fits q s x d f = signed_fits q s (AtLeast x.form) d tt f.1

above_fits : (q : Bool) (s : Sort) (x : Lin) (d : ℕ) → FormFits d x → IsNormal (signed q s (Above x.form)) s d
above_fits q s x d f = signed_fits q s (Above x.form) d tt f.1

divides_fits : (s : Sort) (q : Bool) (m d : ℕ) (x : Lin) → IsInt s → 1 ≤ m → FormFits d x → IsNormal (signed q s (Divides (m * x.den) x.form)) s d
divides_fits Rat q m d x i o f = absurd i
divides_fits Int q m d x i o f = signed_fits q Int (Divides (m * x.den) x.form) d (mul-le-mul o f.0) f.1

mutual
  pub norm_fits : (t : Term) (s : Sort) → NormFits s t
  norm_fits yes s q ctx d f l = closed_fits q s d
  norm_fits no s q ctx d f l = closed_fits (not q) s d
  norm_fits (amount v) s q ctx d f l = absurd f
  norm_fits (variable i) s q ctx d f l =
      signed_fits q s (AtLeast (plus (lin_variable (level_at ctx i)).form (constant_form (negsuc 0)))) d tt
      (plus_below d (lin_variable (level_at ctx i)).form.terms [] (level_of ctx d i l f.0, tt) tt)
  norm_fits (negative t) s q ctx d f l = absurd f
  norm_fits (absolute t) s q ctx d f l = absurd f
  norm_fits (negated t) s q ctx d f l = norm_fits t s (not q) ctx d f l
  norm_fits (divisible m t) s q ctx d f l =
      lin_fits t s ctx d (λ e x. signed q s (Divides (m * x.den) x.form)) f.2 l (λ e de x fx. divides_fits s q m e x f.0 f.1 fx)
  norm_fits (minus a b) s q ctx d f l = absurd f
  norm_fits (quotient_of a b) s q ctx d f l = absurd f
  norm_fits (div_of a b) s q ctx d f l = absurd f
  norm_fits (mod_of a b) s q ctx d f l = absurd f
  norm_fits (less a b) s q ctx d f l =
      two_fits s a b (lin_fits a s) (lin_fits b s) ctx d (λ e x y. signed q s (Above (lin_minus y x).form)) f.0 f.1 l (λ e de x y fx fy. above_fits q s (lin_minus y x) e (minus_fits e y x fy fx))
  norm_fits (at_most a b) s q ctx d f l =
      two_fits s a b (lin_fits a s) (lin_fits b s) ctx d (λ e x y. signed q s (AtLeast (lin_minus y x).form)) f.0 f.1 l (λ e de x y fx fy. atom_fits q s (lin_minus y x) e (minus_fits e y x fy fx))
  norm_fits (greater a b) s q ctx d f l =
      two_fits s a b (lin_fits a s) (lin_fits b s) ctx d (λ e x y. signed q s (Above (lin_minus x y).form)) f.0 f.1 l (λ e de x y fx fy. above_fits q s (lin_minus x y) e (minus_fits e x y fx fy))
  norm_fits (at_least a b) s q ctx d f l =
      two_fits s a b (lin_fits a s) (lin_fits b s) ctx d (λ e x y. signed q s (AtLeast (lin_minus x y).form)) f.0 f.1 l (λ e de x y fx fy. atom_fits q s (lin_minus x y) e (minus_fits e x y fx fy))
  norm_fits (equal a b) s q ctx d f l =
      choose_fits (is_formula a (map bound_sort ctx)) (IsFormula a s (map bound_sort ctx) × IsFormula b s (map bound_sort ctx)) (IsNumber a s (map bound_sort ctx) × IsNumber b s (map bound_sort ctx))
      (same_form q (norm a s true ctx d) (norm a s false ctx d) (norm b s true ctx d) (norm b s false ctx d))
      (lin a s ctx d (λ e x. lin b s ctx e (λ f' y. same_number q s (lin_minus x y)))) s d f
      (λ w. same_form_fits q (norm a s true ctx d) (norm a s false ctx d) (norm b s true ctx d) (norm b s false ctx d) s d (norm_fits a s true ctx d w.0 l) (norm_fits a s false ctx d w.0 l) (norm_fits b s true ctx d w.1 l) (norm_fits b s false ctx d w.1 l))
      (λ w. two_fits s a b (lin_fits a s) (lin_fits b s) ctx d (λ e x y. same_number q s (lin_minus x y)) w.0 w.1 l (λ e de x y fx fy. same_number_fits q s (lin_minus x y) e (minus_fits e x y fx fy)))
  norm_fits (xor_of a b) s q ctx d f l =
      same_form_fits (not q) (norm a s true ctx d) (norm a s false ctx d) (norm b s true ctx d) (norm b s false ctx d) s d (norm_fits a s true ctx d f.0 l) (norm_fits a s false ctx d f.0 l) (norm_fits b s true ctx d f.1 l) (norm_fits b s false ctx d f.1 l)
  norm_fits (implies a b) s q ctx d f l =
      pair_fits (not q) (norm a s (not q) ctx d) (norm b s q ctx d) s d (norm_fits a s (not q) ctx d f.0 l) (norm_fits b s q ctx d f.1 l)
  norm_fits (ite c a b) s q ctx d f l =
      ite_form_fits (norm c s true ctx d) (norm c s false ctx d) (norm a s q ctx d) (norm b s q ctx d) s d (norm_fits c s true ctx d f.0 l) (norm_fits c s false ctx d f.0 l) (norm_fits a s q ctx d f.1 l) (norm_fits b s q ctx d f.2 l)
  norm_fits (plus_of ts) s q ctx d f l = absurd f
  norm_fits (times_of ts) s q ctx d f l = absurd f
  norm_fits (and_of ts) s q ctx d f l = joined_fits q (norms ts s q ctx d) s d (norms_fit ts s q ctx d f l)
  norm_fits (or_of ts) s q ctx d f l = joined_fits (not q) (norms ts s q ctx d) s d (norms_fit ts s q ctx d f l)
  norm_fits (forall_of vs t) s q ctx d f l =
      bind_fits q vs (map bound_sort ctx) (λ c e. norm t s q c e) s ctx d (λ c e z m. norm_fits t s q c e (subst (λ (us : List VarSort). IsFormula t s us) (sym z) f) m) refl l
  norm_fits (exists_of vs t) s q ctx d f l =
      bind_fits (not q) vs (map bound_sort ctx) (λ c e. norm t s q c e) s ctx d (λ c e z m. norm_fits t s q c e (subst (λ (us : List VarSort). IsFormula t s us) (sym z) f) m) refl l

  pub norms_fit : (ts : Terms) (s : Sort) (q : Bool) (ctx : List Bound) (d : ℕ) → AreFormulas ts s (map bound_sort ctx) → Levels ctx d → AreNormal (norms ts s q ctx d) s d
  norms_fit no_term s q ctx d f l = tt
  norms_fit (term_and t ts) s q ctx d f l = (norm_fits t s q ctx d f.0 l, norms_fit ts s q ctx d f.1 l)

  pub lin_fits : (t : Term) (s : Sort) → LinFits s t
  lin_fits yes s ctx d k n l h = absurd n
  lin_fits no s ctx d k n l h = absurd n
  lin_fits (amount v) s ctx d k n l h = h d (omega arith) (lin_constant v) (constant_fits s d v n)
  lin_fits (variable i) s ctx d k n l h = h d (omega arith) (lin_variable (level_at ctx i)) (variable_fits d (level_at ctx i) (level_of ctx d i l n.0))
  lin_fits (negative t) s ctx d k n l h =
      lin_of_fits (is_constant t) (as_lin (low (negative t))) d k (lin t s ctx d (λ e x. k e (lin_neg x))) s (const_fits (negative t) s ctx d k n h)
      (lin_fits t s ctx d (λ e x. k e (lin_neg x)) n l (λ e de x fx. h e de (lin_neg x) (neg_fits e x fx)))
  lin_fits (absolute t) s ctx d k n l h =
      lin_of_fits (is_constant t) (as_lin (low (absolute t))) d k (lin t s ctx d (λ e x. abs_form s x (k e x) (k e (lin_neg x)))) s (const_fits (absolute t) s ctx d k n h)
      (lin_fits t s ctx d (λ e x. abs_form s x (k e x) (k e (lin_neg x))) n l
      (λ e de x fx. ite_form_fits (signed true s (AtLeast x.form)) (signed false s (AtLeast x.form)) (k e x) (k e (lin_neg x)) s e (atom_fits true s x e fx) (atom_fits false s x e fx) (h e de x fx) (h e de (lin_neg x) (neg_fits e x fx))))
  lin_fits (negated t) s ctx d k n l h = absurd n
  lin_fits (divisible m t) s ctx d k n l h = absurd n
  lin_fits (minus a b) s ctx d k n l h =
      lin_of_fits (is_constant a && is_constant b) (as_lin (low (minus a b))) d k (lin a s ctx d (λ e x. lin b s ctx e (λ f y. k f (lin_minus x y)))) s (const_fits (minus a b) s ctx d k n h)
      (two_fits s a b (lin_fits a s) (lin_fits b s) ctx d (λ f x y. k f (lin_minus x y)) n.0 n.1 l (λ e de x y fx fy. h e de (lin_minus x y) (minus_fits e x y fx fy)))
  lin_fits (quotient_of a b) s ctx d k n l h =
      lin_of_fits (is_constant a && is_constant b) (as_lin (low (quotient_of a b))) d k (lin a s ctx d (λ e x. k e (lin_over x (low b)))) s (const_fits (quotient_of a b) s ctx d k n h)
      (lin_fits a s ctx d (λ e x. k e (lin_over x (low b))) n.1 l (λ e de x fx. h e de (lin_over x (low b)) (over_fits e (low b).num (low b).den x fx)))
  lin_fits (div_of a b) s ctx d k n l h =
      lin_of_fits (is_constant a && is_constant b) (as_lin (low (div_of a b))) d k (lin a s ctx d (λ e x. div_form s (low b).num x e (k (suc e) (lin_variable e)))) s (const_fits (div_of a b) s ctx d k n h)
      (lin_fits a s ctx d (λ e x. div_form s (low b).num x e (k (suc e) (lin_variable e))) n.1 l
      (λ e de x fx. div_fits s (low b).num x e (k (suc e) (lin_variable e)) fx (h (suc e) (omega arith) (lin_variable e) (variable_fits (suc e) e (omega arith)))))
  lin_fits (mod_of a b) s ctx d k n l h =
      lin_of_fits (is_constant a && is_constant b) (as_lin (low (mod_of a b))) d k (lin a s ctx d (λ e x. div_form s (low b).num x e (k (suc e) (lin_minus x (multiple (low b).num e))))) s (const_fits (mod_of a b) s ctx d k n h)
      (lin_fits a s ctx d (λ e x. div_form s (low b).num x e (k (suc e) (lin_minus x (multiple (low b).num e)))) n.1 l
      (λ e de x fx. div_fits s (low b).num x e (k (suc e) (lin_minus x (multiple (low b).num e))) fx
      (h (suc e) (omega arith) (lin_minus x (multiple (low b).num e)) (minus_fits (suc e) x (multiple (low b).num e) (fits_more e (suc e) x (omega arith) fx) (scale_fits (suc e) (low b).num 1 (lin_variable e) (omega arith) (variable_fits (suc e) e (omega arith)))))))
  lin_fits (less a b) s ctx d k n l h = absurd n
  lin_fits (at_most a b) s ctx d k n l h = absurd n
  lin_fits (greater a b) s ctx d k n l h = absurd n
  lin_fits (at_least a b) s ctx d k n l h = absurd n
  lin_fits (equal a b) s ctx d k n l h = absurd n
  lin_fits (xor_of a b) s ctx d k n l h = absurd n
  lin_fits (implies a b) s ctx d k n l h = absurd n
  lin_fits (ite t a b) s ctx d k n l h =
      two_fits s a b (lin_fits a s) (lin_fits b s) ctx d (λ f x y. ite_form (norm t s true ctx f) (norm t s false ctx f) (k f x) (k f y)) n.1 n.2 l
      (λ e de x y fx fy. ite_form_fits (norm t s true ctx e) (norm t s false ctx e) (k e x) (k e y) s e (norm_fits t s true ctx e n.0 (levels_more ctx d e de l)) (norm_fits t s false ctx e n.0 (levels_more ctx d e de l)) (h e de x fx) (h e de y fy))
  lin_fits (plus_of ts) s ctx d k n l h =
      lin_of_fits (are_constant ts) (as_lin (low_sum ts zero_value)) d k (lin_sum ts s ctx d (as_lin zero_value) k) s (const_fits (plus_of ts) s ctx d k n h)
      (sum_fits ts s ctx d (as_lin zero_value) k n l (value_fits Int d zero_value refl) h)
  lin_fits (times_of ts) s ctx d k n l h =
      lin_of_fits (are_constant ts) (as_lin (low_product ts one_value)) d k (lin_product ts s ctx d (as_lin one_value) k) s (const_fits (times_of ts) s ctx d k n h)
      (product_fits ts s ctx d (as_lin one_value) k n.0 l (value_fits Int d one_value refl) h)
  lin_fits (and_of ts) s ctx d k n l h = absurd n
  lin_fits (or_of ts) s ctx d k n l h = absurd n
  lin_fits (forall_of vs t) s ctx d k n l h = absurd n
  lin_fits (exists_of vs t) s ctx d k n l h = absurd n

  pub sum_fits : (ts : Terms) (s : Sort) (ctx : List Bound) (d : ℕ) (x : Lin) (k : ℕ → Lin → Normal) → AreNumbers ts s (map bound_sort ctx) → Levels ctx d → FormFits d x → KontFits s k d → IsNormal (lin_sum ts s ctx d x k) s d
  sum_fits no_term s ctx d x k n l f h = h d (omega arith) x f
  sum_fits (term_and t ts) s ctx d x k n l f h =
      lin_fits t s ctx d (λ e y. lin_sum ts s ctx e (lin_plus x y) k) n.0 l
      (λ e de y fy. sum_fits ts s ctx e (lin_plus x y) k n.1 (levels_more ctx d e de l) (plus_fits e x y (fits_more d e x de f) fy) (λ g eg. h g (omega arith)))

  pub product_fits : (ts : Terms) (s : Sort) (ctx : List Bound) (d : ℕ) (x : Lin) (k : ℕ → Lin → Normal) → AreNumbers ts s (map bound_sort ctx) → Levels ctx d → FormFits d x → KontFits s k d → IsNormal (lin_product ts s ctx d x k) s d
  product_fits no_term s ctx d x k n l f h = h d (omega arith) x f
  product_fits (term_and t ts) s ctx d x k n l f h =
      lin_fits t s ctx d (λ e y. lin_product ts s ctx e (lin_times x y) k) n.0 l
      (λ e de y fy. product_fits ts s ctx e (lin_times x y) k n.1 (levels_more ctx d e de l) (times_fits_by x.form.terms e x y (fits_more d e x de f) fy) (λ g eg. h g (omega arith)))

-- ---- the goal and its problem

no_variables : (s : Sort) → Here s [] [] origin 0
no_variables s = record {
  point = origin_point s;
  count = refl;
  long = refl;
  sorts = refl;
  stands = λ i h. absurd (omega arith);
}

-- its literals are of the sort, with their variables on the path
pub goal_fits : (s : Sort) (consts : List VarSort) (body : Term) → IsFormula body s (append_all [] consts) → IsNormal (normal_of s consts body) s 0
goal_fits s consts body f = norm_fits (exists_of consts body) s true [] 0 f (λ i h. absurd (omega arith))

-- a closed goal is true exactly where its normal form is
pub goal_is_normal : (s : Sort) (consts : List VarSort) (body : Term) → IsFormula body s (append_all [] consts) → Same (True (exists_of consts body) s []) (TrueN (normal_of s consts body) s origin)
goal_is_normal s consts body f = (norm_same (exists_of consts body) s).ok true [] [] origin 0 f (no_variables s)
