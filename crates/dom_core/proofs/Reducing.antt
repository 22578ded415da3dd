-- An elimination keeps a cube's shape: primitive literals in rows over variables below the same number, without the variable.
use Prim.Native.Nat.{◌∣◌}
use Rattle.std.specs.Prelude.{ℕ, zero, suc, ◌+◌, ◌*◌, ◌/◌, ◌<◌, ◌≤◌, ◌≡◌, ◌≢◌, ℤ, pos, negsuc, ◌+ℤ◌, ◌*ℤ◌, neg_ℤ, nat_abs, Bool, true, false, ◌||◌, not, cond, if◌then◌else◌, eqb, ltb, None, Result, Ok, Err, IfOk, List, [], ◌∷◌, ◌++◌, length, get_or, take, map, filter}
use Rattle.std.specs.List.{flat_map, list_any, range_with_len, AllByRecursion}
use Rattle.std.proofs.Common.{arith, ap, ap₂, ◌∙◌, sym, subst, refl, eqb-true, mul-le-mul}
use Rattle.std.proofs.lemmas.Int.{ints}
use Rattle.std.proofs.lemmas.Bool.{cond_both, eqb-false}
use Rattle.std.proofs.lemmas.List.{take_more}
use Rattle.std.proofs.lemmas.Nat.Gcd.{dvd_trans}
use Rattle.std.proofs.Math.Nat.{eq-zero_of_zero-dvd}
use Rattle.lin_term.specs.declared.Sort.{Sort}
use Rattle.lin_term.specs.declared.Sort.TheVariants.{Rat, Int}
use Rattle.lin_term.specs.declared.Lit.{Lit}
use Rattle.lin_term.specs.declared.Lit.TheVariants.{AtLeast, Above, Divides, NotDivides}
use Rattle.lin_term.specs.declared.Short.{Short}
use Rattle.lin_term.specs.declared.Wide.{Wide}
use Rattle.lin_term.specs.Form.{Form, IsRow}
use Rattle.lin_term.specs.Linear.{Below, BelowTerms, put_front, put, plus_terms, plus, times_terms, times, constant_form}
use Rattle.lin_term.specs.Literal.{IsOf, IsPrimitive, form_of, prim, gcd, gcd_terms, divisor, quotient, quotient_terms, whole_by, minus_one, reduce, reduce_terms, residue, common_divisor, residue_form}
use Rattle.lin_term.specs.Primable.{IsPrimable}
use Rattle.lin_term.specs.PutIn.{coef, without, rest_of, put_form, put_raw, put_lit, occurs}
use Rattle.lin_term.specs.Sum.{is_strict, inequality_with}
use Rattle.lin_term.specs.Wide.{first_past, form_numbers, lit_numbers, Capped}
use Rattle.lin_term.proofs.Ring.{ring}
use Rattle.lin_term.proofs.Ascending.{Ascend, ascend_from, times_ascend, without_ascend, plus_ascend, quotient_ascend, reduce_ascend, row_from}
use Rattle.lin_term.proofs.Capping.{past-head, past-tail, past-append, past-append_left}
use Rattle.lin_term.proofs.Lowest.{prim_is_primitive}
use Rattle.lin_term.proofs.PrimitiveLemmas.{divides_weaker, gcd_divides, gcd_is, whole_div, modulus_one}
use Rattle.lin_term.proofs.PuttingLemmas.{absent}
use Rattle.lin_term.proofs.Settling.{divisor_least, divisor_exact}
use Rattle.dom_core.specs.Cube.{IsPrimitiveCube}
use Rattle.dom_core.specs.Elimination.{coef_at, size_at, is_lower, is_upper, is_free, resolvent, fourier_motzkin, delta, partial_deltas, count_sums, put_all, above_bound, lower_case, lower_cases, free_case, cooper, eliminated, cube_numbers, elimination_numbers}
use Rattle.dom_core.specs.Reduced.{AreRows, AreBelow, AreWithout, IsReduced}
use Rattle.dom_core.proofs.Assigning.{coef-plus, coef-times}
use Rattle.dom_core.proofs.Cases.{each_map, each_two, each_filter}
use Rattle.dom_core.proofs.FourierMotzkin.{zero_is, lower_is, upper_is}
use Rattle.dom_core.proofs.Periods.{gcd_pos}
use Rattle.dom_core.proofs.Renaming.{times_below, plus_below, prim_below}

-- ---- terms without a variable

abbrev pub Lacks : ℕ → List (ℕ × ℤ) → Type 0
Lacks x ts = AllByRecursion (λ (t : ℕ × ℤ). t.0 ≢ x) ts

pub lacks_from : (ts : List (ℕ × ℤ)) (x : ℕ) → occurs ts x ≡ false → Lacks x ts
lacks_from [] x e = tt
lacks_from (t ∷ ts) x e = by (eqb t.0 x) refl e (λ u. lacks_from ts x u)
  where
    by : (b : Bool) → eqb t.0 x ≡ b → cond b true (occurs ts x) ≡ false → (occurs ts x ≡ false → Lacks x ts) → Lacks x (t ∷ ts)
    by true q k r = absurd (cc)
    by false q k r = (eqb-false t.0 x q, r k)

pub lacks_to : (ts : List (ℕ × ℤ)) (x : ℕ) → Lacks x ts → occurs ts x ≡ false
lacks_to [] x h = refl
lacks_to (t ∷ ts) x h = by (eqb t.0 x) refl (lacks_to ts x h.1)
  where
    by : (b : Bool) → eqb t.0 x ≡ b → occurs ts x ≡ false → cond b true (occurs ts x) ≡ false
    by true q r = absurd (h.0 (eqb-true t.0 x q))
    by false q r = r

-- all variables are past x
coef_before : (n : ℕ) (ts : List (ℕ × ℤ)) (x : ℕ) → x < n → Ascend n ts → coef ts x ≡ pos 0
coef_before n [] x h a = refl
coef_before n (t ∷ ts) x h a = let o = a.0 in by (eqb t.0 x) refl (coef_before (t.0 + 1) ts x (omega arith) a.3)
  where
    by : (b : Bool) → eqb t.0 x ≡ b → coef ts x ≡ pos 0 → cond b (t.1 +ℤ coef ts x) (coef ts x) ≡ pos 0
    by true q z = let o = a.0 in let s = eqb-true t.0 x q in absurd (omega arith)
    by false q z = z

ascend_lacks : (n : ℕ) (ts : List (ℕ × ℤ)) (x : ℕ) → Ascend n ts → coef ts x ≡ pos 0 → Lacks x ts
ascend_lacks n [] x a e = tt
ascend_lacks n (t ∷ ts) x a e = by (eqb t.0 x) refl e (λ u. ascend_lacks (t.0 + 1) ts x a.3 u)
  where
    by : (b : Bool) → eqb t.0 x ≡ b → cond b (t.1 +ℤ coef ts x) (coef ts x) ≡ pos 0 → (coef ts x ≡ pos 0 → Lacks x ts) → Lacks x (t ∷ ts)
    by true q e k =
        let z = coef_before (t.0 + 1) ts x (let s = eqb-true t.0 x q in omega arith) a.3 in
        absurd (a.2 (let u : t.1 ≡ pos 0 = omega (arith, ints) in u))
    by false q e k = (eqb-false t.0 x q, k e)

front_lacks : (x i : ℕ) (a : ℤ) (ts : List (ℕ × ℤ)) → i ≢ x → Lacks x ts → Lacks x (put_front i a ts)
front_lacks x i (pos zero) ts h b = b
front_lacks x i (pos (suc k)) ts h b = (h, b)
front_lacks x i (negsuc k) ts h b = (h, b)

times_lacks : (x : ℕ) (k : ℤ) (ts : List (ℕ × ℤ)) → Lacks x ts → Lacks x (times_terms k ts)
times_lacks x k [] b = tt
times_lacks x k (t ∷ ts) b = front_lacks x t.0 (k *ℤ t.1) (times_terms k ts) b.0 (times_lacks x k ts b.1)

put_lacks : (x i : ℕ) (a : ℤ) (ts : List (ℕ × ℤ)) → i ≢ x → Lacks x ts → Lacks x (put i a ts)
put_lacks x i a [] h b = front_lacks x i a [] h b
put_lacks x i a (t ∷ ts) h b =
    cond_both (ltb i t.0) (put_front i a (t ∷ ts)) (cond (ltb t.0 i) (t ∷ put i a ts) (put_front i (a +ℤ t.1) ts)) (λ us. Lacks x us)
    (λ e. front_lacks x i a (t ∷ ts) h b)
    (λ e. cond_both (ltb t.0 i) (t ∷ put i a ts) (put_front i (a +ℤ t.1) ts) (λ us. Lacks x us)
    (λ f. (b.0, put_lacks x i a ts h b.1))
    (λ f. front_lacks x i (a +ℤ t.1) ts h b.1))

plus_lacks : (x : ℕ) (ss ts : List (ℕ × ℤ)) → Lacks x ss → Lacks x ts → Lacks x (plus_terms ss ts)
plus_lacks x [] ts a b = b
plus_lacks x (s ∷ ss) ts a b = put_lacks x s.0 s.1 (plus_terms ss ts) a.0 (plus_lacks x ss ts a.1 b)

pub without_lacks : (x : ℕ) (ts : List (ℕ × ℤ)) → Lacks x (without ts x)
without_lacks x [] = tt
without_lacks x (t ∷ ts) = by (eqb t.0 x) refl (without_lacks x ts)
  where
    by : (b : Bool) → eqb t.0 x ≡ b → Lacks x (without ts x) → Lacks x (cond b (without ts x) (t ∷ without ts x))
    by true q r = r
    by false q r = (eqb-false t.0 x q, r)

pub quotient_lacks : (x : ℕ) (ts : List (ℕ × ℤ)) (g : ℕ) → Lacks x ts → Lacks x (quotient_terms ts g)
quotient_lacks x [] g b = tt
quotient_lacks x (t ∷ ts) g b = (b.0, quotient_lacks x ts g b.1)

reduce_lacks : (x d : ℕ) (ts : List (ℕ × ℤ)) → Lacks x ts → Lacks x (reduce_terms d ts)
reduce_lacks x d [] b = tt
reduce_lacks x d (t ∷ ts) b = front_lacks x t.0 (pos (residue t.1 d)) (reduce_terms d ts) b.0 (reduce_lacks x d ts b.1)

whole_lacks : (x : ℕ) (us : List (ℕ × ℤ)) (f : Form) → Lacks x f.terms → Lacks x (whole_by us f).terms
whole_lacks x [] f b = tt
whole_lacks x (u ∷ us) f b = quotient_lacks x f.terms (divisor Int f) b

residue_lacks : (x d : ℕ) (f : Form) → Lacks x f.terms → Lacks x (residue_form d f).terms
residue_lacks x zero f b = b
residue_lacks x (suc m) f b = quotient_lacks x (reduce_terms (suc m) f.terms) (common_divisor (suc m) (reduce (suc m) f)) (reduce_lacks x (suc m) f.terms b)

prim_lacks : (s : Sort) (x : ℕ) (l : Lit) → Lacks x (form_of l).terms → Lacks x (form_of (prim s l)).terms
prim_lacks Rat x (AtLeast f) b = quotient_lacks x f.terms (divisor Rat f) b
prim_lacks Rat x (Above f) b = quotient_lacks x f.terms (divisor Rat f) b
prim_lacks Rat x (Divides d f) b = b
prim_lacks Rat x (NotDivides d f) b = b
prim_lacks Int x (AtLeast f) b = whole_lacks x f.terms f b
prim_lacks Int x (Above f) b = whole_lacks x (minus_one f).terms (minus_one f) (plus_lacks x f.terms [] b tt)
prim_lacks Int x (Divides d f) b = residue_lacks x d f b
prim_lacks Int x (NotDivides d f) b = residue_lacks x d f b

-- ---- terms that ascend

quotient_ascends : (s : Sort) (f : Form) → Ascend 0 f.terms → Ascend 0 (quotient f (divisor s f)).terms
quotient_ascends s f a = quotient_ascend 0 f.terms (divisor s f) (divisor_least s f) (divisor_exact s f) a

whole_ascends : (us : List (ℕ × ℤ)) (f : Form) → Ascend 0 f.terms → Ascend 0 (whole_by us f).terms
whole_ascends [] f a = tt
whole_ascends (u ∷ us) f a = quotient_ascends Int f a

common_ascends : (d : ℕ) (f : Form) → 1 ≤ d → Ascend 0 f.terms → Ascend 0 (quotient f (common_divisor d f)).terms
common_ascends d f o a =
    let g = gcd_is d (gcd (nat_abs f.constant) (gcd_terms f.terms)) in
    let h = gcd_is (nat_abs f.constant) (gcd_terms f.terms) in
    quotient_ascend 0 f.terms (common_divisor d f) (one (common_divisor d f) g.0)
    (divides_weaker (common_divisor d f) (gcd_terms f.terms) f.terms (dvd_trans (common_divisor d f) g.1 h.1) (gcd_divides f.terms)) a
  where
    one : (g : ℕ) → g ∣ d → 1 ≤ g
    one zero h = let e = eq-zero_of_zero-dvd h in absurd (omega arith)
    one (suc g) h = omega arith

residue_ascends : (d : ℕ) (f : Form) → Ascend 0 f.terms → Ascend 0 (residue_form d f).terms
residue_ascends zero f a = a
residue_ascends (suc n) f a = common_ascends (suc n) (reduce (suc n) f) (omega arith) (reduce_ascend 0 (suc n) f.terms a)

prim_ascends : (s : Sort) (l : Lit) → Ascend 0 (form_of l).terms → Ascend 0 (form_of (prim s l)).terms
prim_ascends Rat (AtLeast f) a = quotient_ascends Rat f a
prim_ascends Rat (Above f) a = quotient_ascends Rat f a
prim_ascends Rat (Divides d f) a = a
prim_ascends Rat (NotDivides d f) a = a
prim_ascends Int (AtLeast f) a = whole_ascends f.terms f a
prim_ascends Int (Above f) a =
    whole_ascends (minus_one f).terms (minus_one f) (plus_ascend 0 f.terms [] a tt)
prim_ascends Int (Divides d f) a = residue_ascends d f a
prim_ascends Int (NotDivides d f) a = residue_ascends d f a

-- ---- both, and below n

abbrev pub IsFit : ℕ → ℕ → Form → Type 0
IsFit n x f = Ascend 0 f.terms × BelowTerms n f.terms × Lacks x f.terms

pub plus_fit : (n x : ℕ) (f g : Form) → IsFit n x f → IsFit n x g → IsFit n x (plus f g)
plus_fit n x f g a b =
    (plus_ascend 0 f.terms g.terms a.0 b.0, plus_below n f.terms g.terms a.1 b.1, plus_lacks x f.terms g.terms a.2 b.2)

pub times_fit : (n x : ℕ) (k : ℤ) (f : Form) → IsFit n x f → IsFit n x (times k f)
times_fit n x k f a = (times_ascend 0 k f.terms a.0, times_below n k f.terms a.1, times_lacks x k f.terms a.2)

prim_fit : (n x : ℕ) (s : Sort) (l : Lit) → IsFit n x (form_of l) → IsFit n x (form_of (prim s l))
prim_fit n x s l a = (prim_ascends s l a.0, prim_below s n l a.1, prim_lacks s x l a.2)

without_below : (n x : ℕ) (ts : List (ℕ × ℤ)) → BelowTerms n ts → BelowTerms n (without ts x)
without_below n x [] b = tt
without_below n x (t ∷ ts) b =
    cond_both (eqb t.0 x) (without ts x) (t ∷ without ts x) (λ us. BelowTerms n us)
    (λ e. without_below n x ts b.1)
    (λ e. (b.0, without_below n x ts b.1))

pub rest_fit : (n x : ℕ) (f : Form) → IsRow f → Below n f → IsFit n x (rest_of f x)
rest_fit n x f r b =
    (without_ascend 0 f.terms x (ascend_from 0 f.terms r.0), without_below n x f.terms b, without_lacks x f.terms)

put_fit : (n x a : ℕ) (t f : Form) → IsFit n x t → IsRow f → Below n f → IsFit n x (put_form f x a t)
put_fit n x a t f h r b =
    plus_fit n x (times (coef f.terms x) t) (times (pos a) (rest_of f x)) (times_fit n x (coef f.terms x) t h) (times_fit n x (pos a) (rest_of f x) (rest_fit n x f r b))

pub raw_fit : (n x a : ℕ) (t : Form) (l : Lit) → IsFit n x t → IsRow (form_of l) → Below n (form_of l) → IsFit n x (form_of (put_raw x a t l))
raw_fit n x a t (AtLeast f) h r b = put_fit n x a t f h r b
raw_fit n x a t (Above f) h r b = put_fit n x a t f h r b
raw_fit n x a t (Divides d f) h r b = put_fit n x a t f h r b
raw_fit n x a t (NotDivides d f) h r b = put_fit n x a t f h r b

-- ---- literals

-- what is known of a literal of the cube
pub record Given (s : Sort) (n : ℕ) (l : Lit) : Type 0 where
  pub primitive : IsPrimitive s l
  pub primable : IsPrimable s l
  pub row : IsRow (form_of l)
  pub below : Below n (form_of l)

-- and of one of an eliminated cube
pub record Kept (s : Sort) (n x : ℕ) (l : Lit) : Type 0 where
  pub primitive : IsPrimitive s l
  pub primable : IsPrimable s l
  pub row : IsRow (form_of l)
  pub below : Below n (form_of l)
  pub without : occurs (form_of l).terms x ≡ false

-- where its numbers are within the cap
abbrev pub Promised : Sort → ℕ → ℕ → Lit → Type 0
Promised s n x l = first_past (lit_numbers l) ≡ None → Kept s n x l

form_fits : (l : Lit) → first_past (lit_numbers l) ≡ None → first_past (form_numbers (form_of l)) ≡ None
form_fits (AtLeast f) e = e
form_fits (Above f) e = e
form_fits (Divides d f) e = past-tail (pos d) (form_numbers f) e
form_fits (NotDivides d f) e = past-tail (pos d) (form_numbers f) e

fits_primable : (s : Sort) (l : Lit) → IsOf s l → first_past (lit_numbers l) ≡ None → IsPrimable s l
fits_primable Rat (AtLeast f) o e = tt
fits_primable Rat (Above f) o e = tt
fits_primable Rat (Divides d f) o e = absurd o
fits_primable Rat (NotDivides d f) o e = absurd o
fits_primable Int (AtLeast f) o e = tt
fits_primable Int (Above f) o e = tt
fits_primable Int (Divides d f) o e = (o, past-head (pos d) (form_numbers f) e)
fits_primable Int (NotDivides d f) o e = (o, past-head (pos d) (form_numbers f) e)

pub made : (s : Sort) (n x : ℕ) (l : Lit) → IsOf s (prim s l) → IsFit n x (form_of l) → Promised s n x (prim s l)
made s n x l o f e =
    let g = prim_fit n x s l f in
    record {
      primitive = prim_is_primitive s l o;
      primable = fits_primable s (prim s l) o e;
      row = row_from (form_of (prim s l)) g.0 (form_fits (prim s l) e);
      below = g.1;
      without = lacks_to (form_of (prim s l)).terms x g.2;
    }

pub stays : (s : Sort) (n x : ℕ) (l : Lit) → Given s n l → occurs (form_of l).terms x ≡ false → Promised s n x l
stays s n x l g o e = record { primitive = g.primitive; primable = g.primable; row = g.row; below = g.below; without = o }

-- ---- Rat

cancels : (g m k : ℤ) → k *ℤ (g *ℤ m) +ℤ m *ℤ neg_ℤ (g *ℤ k) ≡ pos 0
cancels g m k = simp ring (omega (arith, ints))

-- the sum does not have x
sum_free : (x : ℕ) (l u : Lit) → is_lower x l ≡ true → is_upper x u ≡ true → coef (plus (times (pos (size_at x u / gcd (size_at x l) (size_at x u))) (form_of l)) (times (pos (size_at x l / gcd (size_at x l) (size_at x u))) (form_of u))).terms x ≡ pos 0
sum_free x l u tl tu =
    let a : ℕ = size_at x l in
    let b : ℕ = size_at x u in
    let g : ℕ = gcd a b in
    let m : ℕ = a / g in
    let k : ℕ = b / g in
    let lo = lower_is x l tl in
    let up = upper_is x u tu in
    let og = gcd_pos a b lo.1 in
    let d = gcd_is a b in
    let ea = whole_div g a og d.0 in
    let eb = whole_div g b og d.1 in
    let pa : pos (g * m) ≡ pos g *ℤ pos m = omega (arith, ints) in
    let pb : pos (g * k) ≡ pos g *ℤ pos k = omega (arith, ints) in
    coef-plus (times (pos k) (form_of l)) (times (pos m) (form_of u)) x
    ∙ ap₂ (λ (y z : ℤ). y +ℤ z) (coef-times (pos k) (form_of l) x) (coef-times (pos m) (form_of u) x)
    ∙ ap₂ (λ (y z : ℤ). pos k *ℤ y +ℤ pos m *ℤ z) (lo.0 ∙ ap pos (sym ea) ∙ pa) (up.0 ∙ ap (λ (c : ℕ). neg_ℤ (pos c)) (sym eb) ∙ ap neg_ℤ pb)
    ∙ cancels (pos g) (pos m) (pos k)

inequality_kept : (n x : ℕ) (b : Bool) (f : Form) → IsFit n x f → Promised Rat n x (prim Rat (inequality_with b f))
inequality_kept n x true f h = made Rat n x (Above f) tt h
inequality_kept n x false f h = made Rat n x (AtLeast f) tt h

resolvent_kept : (n x : ℕ) (l u : Lit) → is_lower x l ≡ true → is_upper x u ≡ true → Given Rat n l → Given Rat n u → Promised Rat n x (resolvent x l u)
resolvent_kept n x l u tl tu a b =
    let p : ℤ = pos (size_at x u / gcd (size_at x l) (size_at x u)) in
    let q : ℤ = pos (size_at x l / gcd (size_at x l) (size_at x u)) in
    let f : Form = plus (times p (form_of l)) (times q (form_of u)) in
    let up = plus_ascend 0 (times p (form_of l)).terms (times q (form_of u)).terms (times_ascend 0 p (form_of l).terms (ascend_from 0 (form_of l).terms a.row.0)) (times_ascend 0 q (form_of u).terms (ascend_from 0 (form_of u).terms b.row.0)) in
    inequality_kept n x (is_strict l || is_strict u) f
    (up, plus_below n (times p (form_of l)).terms (times q (form_of u)).terms (times_below n p (form_of l).terms a.below) (times_below n q (form_of u).terms b.below), ascend_lacks 0 f.terms x up (sum_free x l u tl tu))

-- ---- lists

pub all_append : {A : Type 0} (F : A → Type 0) (xs ys : List A) → AllByRecursion F xs → AllByRecursion F ys → AllByRecursion F (xs ++ ys)
all_append F [] ys a b = b
all_append F (x ∷ xs) ys a b = (a.0, all_append F xs ys a.1 b)

pub all_map : {A B : Type 0} (F : B → Type 0) (g : A → B) (xs : List A) → AllByRecursion (λ x. F (g x)) xs → AllByRecursion F (map g xs)
all_map F g [] h = tt
all_map F g (x ∷ xs) h = (h.0, all_map F g xs h.1)

pub all_true : {A : Type 0} (F : A → Type 0) (xs : List A) → ((x : A) → F x) → AllByRecursion F xs
all_true F [] h = tt
all_true F (x ∷ xs) h = (h x, all_true F xs h)

pub all_at : {A : Type 0} (F : A → Type 0) (xs : List A) (i : ℕ) (d : A) → i < length xs → AllByRecursion F xs → F (get_or xs i d)
all_at F [] i d h a = absurd (omega arith)
all_at F (x ∷ xs) zero d h a = a.0
all_at F (x ∷ xs) (suc i) d h a = all_at F xs i d (omega arith) a.1

pub all_taken : {A : Type 0} (F : A → Type 0) (xs : List A) (i : ℕ) (x : A) → i < length xs → x ≡ get_or xs i x → AllByRecursion F (take i xs) → F x → AllByRecursion F (take (i + 1) xs)
all_taken F xs i x h e a k =
    subst (AllByRecursion F) (sym (take_more xs i x h)) (all_append F (take i xs) (get_or xs i x ∷ []) a (subst F e k, tt))

pub all_two : {A : Type 0} (F G H : A → Type 0) (xs : List A) → ((x : A) → F x → G x → H x) → AllByRecursion F xs → AllByRecursion G xs → AllByRecursion H xs
all_two F G H [] k a b = tt
all_two F G H (x ∷ xs) k a b = (k x a.0 b.0, all_two F G H xs k a.1 b.1)

pub past_right : (xs ys : List ℤ) → first_past (xs ++ ys) ≡ None → first_past ys ≡ None
past_right xs ys e = sym (past-append xs ys (past-append_left xs ys e)) ∙ e

parts_fit : {A : Type 0} (g : A → List ℤ) (xs : List A) → first_past (flat_map g xs) ≡ None → AllByRecursion (λ x. first_past (g x) ≡ None) xs
parts_fit g [] e = tt
parts_fit g (x ∷ xs) e = (past-append_left (g x) (flat_map g xs) e, parts_fit g xs (past_right (g x) (flat_map g xs) e))

pairs_kept : (F : Lit → Type 0) (g : Lit → Lit → Lit) (ls us : List Lit) → AllByRecursion (λ l. AllByRecursion (λ u. F (g l u)) us) ls → AllByRecursion F (flat_map (λ l. map (λ u. g l u) us) ls)
pairs_kept F g [] us h = tt
pairs_kept F g (l ∷ ls) us h =
    all_append F (map (λ u. g l u) us) (flat_map (λ m. map (λ u. g m u) us) ls) (all_map F (λ u. g l u) us h.0) (pairs_kept F g ls us h.1)

sums_kept : (n x : ℕ) (c : List Lit) → AllByRecursion (Given Rat n) c → AllByRecursion (Promised Rat n x) (fourier_motzkin c x)
sums_kept n x c h =
    let lows = each_filter (Given Rat n) (λ l. (is_lower x l ≡ true) × Given Rat n l) (is_lower x) c (λ l t a. (t, a)) h in
    let ups = each_filter (Given Rat n) (λ l. (is_upper x l ≡ true) × Given Rat n l) (is_upper x) c (λ l t a. (t, a)) h in
    all_append (Promised Rat n x) (filter (is_free x) c) (flat_map (λ l. map (λ u. resolvent x l u) (filter (is_upper x) c)) (filter (is_lower x) c))
    (each_filter (Given Rat n) (Promised Rat n x) (is_free x) c (λ l t a. stays Rat n x l a (absent 0 (form_of l).terms x a.row.0 (zero_is (coef_at x l) t))) h)
    (pairs_kept (Promised Rat n x) (resolvent x) (filter (is_lower x) c) (filter (is_upper x) c)
    (each_map (λ l. (is_lower x l ≡ true) × Given Rat n l) (λ l. AllByRecursion (λ u. Promised Rat n x (resolvent x l u)) (filter (is_upper x) c)) (filter (is_lower x) c)
    (λ l a. each_map (λ u. (is_upper x u ≡ true) × Given Rat n u) (λ u. Promised Rat n x (resolvent x l u)) (filter (is_upper x) c)
    (λ u b. resolvent_kept n x l u a.0 b.0 a.1 b.1) ups) lows))

-- ---- Int

raw_of : (x a : ℕ) (t : Form) (l : Lit) → 1 ≤ a → IsOf Int l → IsOf Int (prim Int (put_raw x a t l))
raw_of x a t (AtLeast f) h o = tt
raw_of x a t (Above f) h o = tt
raw_of x a t (Divides d f) h o = modulus_one (a * d) (put_form f x a t) (mul-le-mul h o)
raw_of x a t (NotDivides d f) h o = modulus_one (a * d) (put_form f x a t) (mul-le-mul h o)

put_kept : (n x a : ℕ) (t : Form) (l : Lit) → 1 ≤ a → IsFit n x t → Given Int n l → Promised Int n x (put_lit Int x a t l)
put_kept n x a t l h f g = by (occurs (form_of l).terms x) refl
  where
    by : (b : Bool) → occurs (form_of l).terms x ≡ b → Promised Int n x (cond b (prim Int (put_raw x a t l)) l)
    by true q = made Int n x (put_raw x a t l) (raw_of x a t l h g.primitive.0) (raw_fit n x a t l f g.row g.below)
    by false q = stays Int n x l g q

all_put : (n x a : ℕ) (t : Form) (c : List Lit) → 1 ≤ a → IsFit n x t → AllByRecursion (Given Int n) c → AllByRecursion (Promised Int n x) (put_all Int x a t c)
all_put n x a t [] h f g = tt
all_put n x a t (l ∷ c) h f g = (put_kept n x a t l h f g.0, all_put n x a t c h f g.1)

bound_fit : (n x : ℕ) (l : Lit) (k : ℕ) → Given Int n l → IsFit n x (above_bound x l k)
bound_fit n x l k g =
    plus_fit n x (constant_form (pos k)) (times (negsuc 0) (rest_of (form_of l) x)) (tt, tt, tt) (times_fit n x (negsuc 0) (rest_of (form_of l) x) (rest_fit n x (form_of l) g.row g.below))

lower_case_kept : (n x : ℕ) (before : List Lit) (l : Lit) (after : List Lit) (k : ℕ) → 1 ≤ size_at x l → AllByRecursion (Given Int n) before → Given Int n l → AllByRecursion (Given Int n) after → AllByRecursion (Promised Int n x) (lower_case x before l after k)
lower_case_kept n x before l after k h a g b =
    let t : Form = above_bound x l k in
    let f = bound_fit n x l k g in
    all_append (Promised Int n x) (put_all Int x (size_at x l) t before) (prim Int (Divides (size_at x l) t) ∷ put_all Int x (size_at x l) t after)
    (all_put n x (size_at x l) t before h f a)
    (made Int n x (Divides (size_at x l) t) (modulus_one (size_at x l) t h) f, all_put n x (size_at x l) t after h f b)

lower_cases_kept : (n x m : ℕ) (before after : List Lit) → AllByRecursion (Given Int n) before → AllByRecursion (Given Int n) after → AllByRecursion (λ d. AllByRecursion (Promised Int n x) d) (lower_cases x m before after)
lower_cases_kept n x m before [] a b = tt
lower_cases_kept n x m before (l ∷ after) a b =
    all_append (λ d. AllByRecursion (Promised Int n x) d) (if is_lower x l then map (lower_case x before l after) (range_with_len 0 (size_at x l * m)) else [])
    (lower_cases x m (before ++ l ∷ []) after)
    (cond_both (is_lower x l) (map (lower_case x before l after) (range_with_len 0 (size_at x l * m))) [] (λ (cs : List (List Lit)). AllByRecursion (λ d. AllByRecursion (Promised Int n x) d) cs)
    (λ e. all_map (λ d. AllByRecursion (Promised Int n x) d) (lower_case x before l after) (range_with_len 0 (size_at x l * m)) (all_true (λ k. AllByRecursion (Promised Int n x) (lower_case x before l after k)) (range_with_len 0 (size_at x l * m)) (λ k. lower_case_kept n x before l after k (lower_is x l e).1 a b.0 b.1)))
    (λ e. tt))
    (lower_cases_kept n x m (before ++ l ∷ []) after (all_append (Given Int n) before (l ∷ []) a (b.0, tt)) b.1)

cases_kept : (n x : ℕ) (c : List Lit) → AllByRecursion (Given Int n) c → AllByRecursion (λ d. AllByRecursion (Promised Int n x) d) (cooper c x)
cases_kept n x c h =
    cond_both (list_any (is_lower x) c) (lower_cases x (delta c x) [] c) (map (free_case x c) (range_with_len 0 (delta c x))) (λ (cs : List (List Lit)). AllByRecursion (λ d. AllByRecursion (Promised Int n x) d) cs)
    (λ e. lower_cases_kept n x (delta c x) [] c tt h)
    (λ e. all_map (λ d. AllByRecursion (Promised Int n x) d) (free_case x c) (range_with_len 0 (delta c x)) (all_true (λ k. AllByRecursion (Promised Int n x) (free_case x c k)) (range_with_len 0 (delta c x))
    (λ k. all_put n x 1 (constant_form (pos k)) (filter (λ l. not (is_upper x l)) c) (omega arith) (tt, tt, tt) (each_filter (Given Int n) (Given Int n) (λ l. not (is_upper x l)) c (λ l t a. a) h))))

-- ---- both sorts

pub given_all : (s : Sort) (n : ℕ) (c : List Lit) → IsPrimitiveCube s c → AreRows c → AreBelow n c → AllByRecursion (Given s n) c
given_all s n [] p r b = tt
given_all s n (l ∷ c) p r b = (record { primitive = p.0; primable = p.1; row = r.0; below = b.0 }, given_all s n c p.2 r.1 b.1)

primitive_all : (s : Sort) (n x : ℕ) (c : List Lit) → AllByRecursion (Kept s n x) c → IsPrimitiveCube s c
primitive_all s n x [] k = tt
primitive_all s n x (l ∷ c) k = (k.0.primitive, k.0.primable, primitive_all s n x c k.1)

pub reduced : (s : Sort) (n x : ℕ) (c : List Lit) → AllByRecursion (Promised s n x) c → first_past (cube_numbers c) ≡ None → IsReduced s n x c
reduced s n x c p e =
    let k = each_two (Promised s n x) (λ l. first_past (lit_numbers l) ≡ None) (Kept s n x) c (λ l a b. a b) p (parts_fit lit_numbers c e) in
    record {
      primitive = primitive_all s n x c k;
      rows = each_map (Kept s n x) (λ l. IsRow (form_of l)) c (λ l a. a.row) k;
      below = each_map (Kept s n x) (λ l. Below n (form_of l)) c (λ l a. a.below) k;
      without = each_map (Kept s n x) (λ l. occurs (form_of l).terms x ≡ false) c (λ l a. a.without) k;
    }

-- each cube whose numbers are within the cap
cubes_reduced : (s : Sort) (c : List Lit) (x n : ℕ) → IsPrimitiveCube s c → AreRows c → AreBelow n c → AllByRecursion (λ d. first_past (cube_numbers d) ≡ None → IsReduced s n x d) (eliminated s c x)
cubes_reduced Rat c x n p r b = (λ e. reduced Rat n x (fourier_motzkin c x) (sums_kept n x c (given_all Rat n c p r b)) e, tt)
cubes_reduced Int c x n p r b =
    all_two (λ d. AllByRecursion (Promised Int n x) d) (λ d. AllByRecursion (Promised Int n x) d) (λ d. first_past (cube_numbers d) ≡ None → IsReduced Int n x d) (cooper c x)
    (λ d a z e. reduced Int n x d a e) (cases_kept n x c (given_all Int n c p r b)) (cases_kept n x c (given_all Int n c p r b))

numbers_fit : (s : Sort) (c : List Lit) (x : ℕ) → first_past (elimination_numbers s c x) ≡ None → AllByRecursion (λ d. first_past (cube_numbers d) ≡ None) (eliminated s c x)
numbers_fit Rat c x e = (e, tt)
numbers_fit Int c x e =
    let cases = flat_map cube_numbers (cooper c x) in
    let sums = map pos (count_sums x (delta c x) 0 c) in
    parts_fit cube_numbers (cooper c x) (past_right (map pos (partial_deltas 1 c x) ++ sums) cases e)

pub eliminated_reduced : (s : Sort) (c : List Lit) (x n : ℕ) → IsPrimitiveCube s c → AreRows c → AreBelow n c → first_past (elimination_numbers s c x) ≡ None → AllByRecursion (IsReduced s n x) (eliminated s c x)
eliminated_reduced s c x n p r b e =
    all_two (λ d. first_past (cube_numbers d) ≡ None → IsReduced s n x d) (λ d. first_past (cube_numbers d) ≡ None) (IsReduced s n x) (eliminated s c x)
    (λ d a z. a z) (cubes_reduced s c x n p r b) (numbers_fit s c x e)

-- an answer within the cap
pub answer_reduced : (s : Sort) (c : List Lit) (x : ℕ) (answer : Result (List (List Lit)) (Short Wide)) → IsPrimitiveCube s c → AreRows c → Capped (elimination_numbers s c x) (eliminated s c x) answer → IfOk answer (λ cs. (n : ℕ) → AreBelow n c → AllByRecursion (IsReduced s n x) cs)
answer_reduced s c x (Ok cs) p r h = λ n b.
    subst (AllByRecursion (IsReduced s n x)) (sym h.1) (eliminated_reduced s c x n p r b h.0)
answer_reduced s c x (Err e) p r h = tt

-- one case
pub case_reduced : (c : List Lit) (x i : ℕ) (answer : Result (List Lit) (Short Wide)) → IsPrimitiveCube Int c → AreRows c → i < length (cooper c x) → Capped (cube_numbers (get_or (cooper c x) i [])) (get_or (cooper c x) i []) answer → IfOk answer (λ d. (n : ℕ) → AreBelow n c → IsReduced Int n x d)
case_reduced c x i (Ok d) p r l h = λ n b.
    subst (IsReduced Int n x) (sym h.1) (all_at (λ d. first_past (cube_numbers d) ≡ None → IsReduced Int n x d) (cooper c x) i [] l (cubes_reduced Int c x n p r b) h.0)
case_reduced c x i (Err e) p r l h = tt

-- ---- the last variable

pub terms_less : (x : ℕ) (ts : List (ℕ × ℤ)) → Lacks x ts → BelowTerms (suc x) ts → BelowTerms x ts
terms_less x [] h b = tt
terms_less x (t ∷ ts) h b = let n = h.0 in let o = b.0 in (omega (arith, n), terms_less x ts h.1 b.1)

-- without the last variable the others are below it
pub below_less : (x : ℕ) (c : List Lit) → AreWithout x c → AreBelow (suc x) c → AreBelow x c
below_less x [] w b = tt
below_less x (l ∷ c) w b = (terms_less x (form_of l).terms (lacks_from (form_of l).terms x w.0) b.0, below_less x c w.1 b.1)
