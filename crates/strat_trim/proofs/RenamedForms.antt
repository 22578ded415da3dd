-- Forms and literals at other names, which keep the order of the variables that occur.
use Rattle.std.specs.Prelude.{ℕ, zero, suc, ◌<◌, ◌≡◌, ℤ, pos, negsuc, ◌+ℤ◌, ◌*ℤ◌, nat_abs, Bool, true, false, List, [], ◌∷◌, ◌++◌, get_or, cond, ltb, eqb, ⊤}
use Rattle.std.proofs.Common.{arith, ap, ap₂, ◌∙◌, sym, refl, inl, inr, eq-eqb}
use Rattle.std.proofs.lemmas.Bool.{cond_both, cases_lt, lt-ltb, le-ltb, eqb-true}
use Rattle.lin_term.specs.Form.{Form}
use Rattle.lin_term.specs.declared.Sort.{Sort}
use Rattle.lin_term.specs.declared.Sort.TheVariants.{Rat, Int}
use Rattle.lin_term.specs.declared.Lit.{Lit}
use Rattle.lin_term.specs.declared.Lit.TheVariants.{AtLeast, Above, Divides, NotDivides}
use Rattle.lin_term.specs.Linear.{rename, rename_terms, put_front, put, plus, plus_terms, times, times_terms, constant_form}
use Rattle.lin_term.specs.Literal.{form_of, rename_lit, prim, neg, opposite, quotient_terms, whole_form, whole_by, divisor, minus_one, residue, reduce_terms, reduce, common_divisor, residue_form, gcd, or_one}
use Rattle.lin_term.specs.Truth.{truth_of, truth_without}
use Rattle.lin_term.specs.Wide.{coefficients, lit_numbers, form_numbers}
use Rattle.lin_term.proofs.AtNames.{gcd_renamed}
use Rattle.dom_core.proofs.Renaming.{renamed_prim}

-- the names ascend as the variables that are kept
pub record Keeps (names : List ℕ) (K : ℕ → Type 0) : Type 0 where
  pub ascend : (i j : ℕ) → K i → K j → i < j → get_or names i 0 < get_or names j 0

-- each variable is kept
abbrev pub Within : (ℕ → Type 0) → List (ℕ × ℤ) → Type 0
Within K [] = ⊤
Within K (t ∷ ts) = K t.0 × Within K ts

abbrev pub LitWithin : (ℕ → Type 0) → Lit → Type 0
LitWithin K l = Within K (form_of l).terms

eqb-apart : (a b : ℕ) → a < b → eqb a b ≡ false
eqb-apart a b h = by (eqb a b) refl
  where
    by : (e : Bool) → eqb a b ≡ e → e ≡ false
    by true q = absurd (let s : a ≡ b = eqb-true a b q in omega arith)
    by false q = refl

eqb-apart_right : (a b : ℕ) → b < a → eqb a b ≡ false
eqb-apart_right a b h = by (eqb a b) refl
  where
    by : (e : Bool) → eqb a b ≡ e → e ≡ false
    by true q = absurd (let s : a ≡ b = eqb-true a b q in omega arith)
    by false q = refl

pub name_lt : (names : List ℕ) (K : ℕ → Type 0) (i j : ℕ) → Keeps names K → K i → K j → ltb (get_or names i 0) (get_or names j 0) ≡ ltb i j
name_lt names K i j k hi hj = elim (cases_lt i j) [
  | inl less ↦ lt-ltb (get_or names i 0) (get_or names j 0) (k.ascend i j hi hj less) ∙ sym (lt-ltb i j less)
  | inr more ↦ elim (cases_lt j i) [
    | inl less ↦ let a = k.ascend j i hj hi less in le-ltb (get_or names i 0) (get_or names j 0) (omega arith) ∙ sym (le-ltb i j more)
    | inr same ↦ let e : i ≡ j = omega arith in
        le-ltb (get_or names i 0) (get_or names j 0) (let q = ap (λ (m : ℕ). get_or names m 0) e in omega arith) ∙ sym (le-ltb i j more)
  ]
]

pub name_eq : (names : List ℕ) (K : ℕ → Type 0) (i j : ℕ) → Keeps names K → K i → K j → eqb (get_or names i 0) (get_or names j 0) ≡ eqb i j
name_eq names K i j k hi hj = elim (cases_lt i j) [
  | inl less ↦ eqb-apart (get_or names i 0) (get_or names j 0) (k.ascend i j hi hj less) ∙ sym (eqb-apart i j less)
  | inr more ↦ elim (cases_lt j i) [
    | inl less ↦ eqb-apart_right (get_or names i 0) (get_or names j 0) (k.ascend j i hj hi less) ∙ sym (eqb-apart_right i j less)
    | inr same ↦ let e : i ≡ j = omega arith in
        eq-eqb (get_or names i 0) (get_or names j 0) (ap (λ (m : ℕ). get_or names m 0) e) ∙ sym (eq-eqb i j e)
  ]
]

-- ---- sums and multiples

pub front_renamed : (names : List ℕ) (i : ℕ) (a : ℤ) (ts us : List (ℕ × ℤ)) → us ≡ rename_terms names ts → put_front (get_or names i 0) a us ≡ rename_terms names (put_front i a ts)
front_renamed names i (pos zero) ts us e = e
front_renamed names i (pos (suc n)) ts us e = ap (λ (vs : List (ℕ × ℤ)). (get_or names i 0, pos (suc n)) ∷ vs) e
front_renamed names i (negsuc n) ts us e = ap (λ (vs : List (ℕ × ℤ)). (get_or names i 0, negsuc n) ∷ vs) e

three : (names : List ℕ) (b c : Bool) (x y z u v w : List (ℕ × ℤ)) → x ≡ rename_terms names u → y ≡ rename_terms names v → z ≡ rename_terms names w → cond b x (cond c y z) ≡ rename_terms names (cond b u (cond c v w))
three names true c x y z u v w p q r = p
three names false true x y z u v w p q r = q
three names false false x y z u v w p q r = r

pub put_renamed : (names : List ℕ) (K : ℕ → Type 0) (i : ℕ) (a : ℤ) (ts : List (ℕ × ℤ)) → Keeps names K → K i → Within K ts → put (get_or names i 0) a (rename_terms names ts) ≡ rename_terms names (put i a ts)
put_renamed names K i a [] k h w = front_renamed names i a [] [] refl
put_renamed names K i a (t ∷ ts) k h w =
    let old : List (ℕ × ℤ) = rename_terms names ts in
    let n : ℕ = get_or names t.0 0 in
    let m : ℕ = get_or names i 0 in
    ap₂ (λ (b c : Bool). cond b (put_front m a ((n, t.1) ∷ old)) (cond c ((n, t.1) ∷ put m a old) (put_front m (a +ℤ t.1) old))) (name_lt names K i t.0 k h w.0) (name_lt names K t.0 i k w.0 h)
    ∙ three names (ltb i t.0) (ltb t.0 i) (put_front m a ((n, t.1) ∷ old)) ((n, t.1) ∷ put m a old) (put_front m (a +ℤ t.1) old) (put_front i a (t ∷ ts)) (t ∷ put i a ts) (put_front i (a +ℤ t.1) ts)
    (front_renamed names i a (t ∷ ts) ((n, t.1) ∷ old) refl)
    (ap (λ (us : List (ℕ × ℤ)). (n, t.1) ∷ us) (put_renamed names K i a ts k h w.1))
    (front_renamed names i (a +ℤ t.1) ts old refl)

pub within_front : (K : ℕ → Type 0) (i : ℕ) (a : ℤ) (ts : List (ℕ × ℤ)) → K i → Within K ts → Within K (put_front i a ts)
within_front K i (pos zero) ts h w = w
within_front K i (pos (suc n)) ts h w = (h, w)
within_front K i (negsuc n) ts h w = (h, w)

within_put : (K : ℕ → Type 0) (i : ℕ) (a : ℤ) (ts : List (ℕ × ℤ)) → K i → Within K ts → Within K (put i a ts)
within_put K i a [] h w = within_front K i a [] h w
within_put K i a (t ∷ ts) h w =
    let P : List (ℕ × ℤ) → Type 0 = λ us. Within K us in
    cond_both (ltb i t.0) (put_front i a (t ∷ ts)) (cond (ltb t.0 i) (t ∷ put i a ts) (put_front i (a +ℤ t.1) ts)) P
    (λ e. within_front K i a (t ∷ ts) h w)
    (λ e. cond_both (ltb t.0 i) (t ∷ put i a ts) (put_front i (a +ℤ t.1) ts) P
    (λ f. (w.0, within_put K i a ts h w.1))
    (λ f. within_front K i (a +ℤ t.1) ts h w.1))

pub within_plus : (K : ℕ → Type 0) (ss ts : List (ℕ × ℤ)) → Within K ss → Within K ts → Within K (plus_terms ss ts)
within_plus K [] ts v w = w
within_plus K (s ∷ ss) ts v w = within_put K s.0 s.1 (plus_terms ss ts) v.0 (within_plus K ss ts v.1 w)

pub within_times : (K : ℕ → Type 0) (k : ℤ) (ts : List (ℕ × ℤ)) → Within K ts → Within K (times_terms k ts)
within_times K k [] w = tt
within_times K k (t ∷ ts) w = within_front K t.0 (k *ℤ t.1) (times_terms k ts) w.0 (within_times K k ts w.1)

plus_terms_renamed : (names : List ℕ) (K : ℕ → Type 0) (ss ts : List (ℕ × ℤ)) → Keeps names K → Within K ss → Within K ts → plus_terms (rename_terms names ss) (rename_terms names ts) ≡ rename_terms names (plus_terms ss ts)
plus_terms_renamed names K [] ts k v w = refl
plus_terms_renamed names K (s ∷ ss) ts k v w =
    ap (put (get_or names s.0 0) s.1) (plus_terms_renamed names K ss ts k v.1 w)
    ∙ put_renamed names K s.0 s.1 (plus_terms ss ts) k v.0 (within_plus K ss ts v.1 w)

abbrev with : ℤ → List (ℕ × ℤ) → Form
with c ts = record { terms = ts; constant = c }

pub plus_renamed : (names : List ℕ) (K : ℕ → Type 0) (f g : Form) → Keeps names K → Within K f.terms → Within K g.terms → plus (rename names f) (rename names g) ≡ rename names (plus f g)
plus_renamed names K f g k v w = ap (λ (ts : List (ℕ × ℤ)). with (f.constant +ℤ g.constant) ts) (plus_terms_renamed names K f.terms g.terms k v w)

times_terms_renamed : (names : List ℕ) (k : ℤ) (ts : List (ℕ × ℤ)) → times_terms k (rename_terms names ts) ≡ rename_terms names (times_terms k ts)
times_terms_renamed names k [] = refl
times_terms_renamed names k (t ∷ ts) = front_renamed names t.0 (k *ℤ t.1) (times_terms k ts) (times_terms k (rename_terms names ts)) (times_terms_renamed names k ts)

pub times_renamed : (names : List ℕ) (k : ℤ) (f : Form) → times k (rename names f) ≡ rename names (times k f)
times_renamed names k f = ap (λ (ts : List (ℕ × ℤ)). with (k *ℤ f.constant) ts) (times_terms_renamed names k f.terms)

minus_one_renamed : (names : List ℕ) (K : ℕ → Type 0) (f : Form) → Keeps names K → Within K f.terms → minus_one (rename names f) ≡ rename names (minus_one f)
minus_one_renamed names K f k w = plus_renamed names K f (constant_form (negsuc 0)) k w tt

-- ---- primitive forms and negations

within_quotient : (K : ℕ → Type 0) (ts : List (ℕ × ℤ)) (g : ℕ) → Within K ts → Within K (quotient_terms ts g)
within_quotient K [] g w = tt
within_quotient K (t ∷ ts) g w = (w.0, within_quotient K ts g w.1)

within_whole : (K : ℕ → Type 0) (us : List (ℕ × ℤ)) (f : Form) → Within K f.terms → Within K (whole_by us f).terms
within_whole K [] f w = tt
within_whole K (u ∷ us) f w = within_quotient K f.terms (divisor Int f) w

within_reduce : (K : ℕ → Type 0) (d : ℕ) (ts : List (ℕ × ℤ)) → Within K ts → Within K (reduce_terms d ts)
within_reduce K d [] w = tt
within_reduce K d (t ∷ ts) w = within_front K t.0 (pos (residue t.1 d)) (reduce_terms d ts) w.0 (within_reduce K d ts w.1)

within_residue : (K : ℕ → Type 0) (d : ℕ) (f : Form) → Within K f.terms → Within K (residue_form d f).terms
within_residue K zero f w = w
within_residue K (suc m) f w =
    within_quotient K (reduce_terms (suc m) f.terms) (common_divisor (suc m) (reduce (suc m) f)) (within_reduce K (suc m) f.terms w)

pub within_prim : (K : ℕ → Type 0) (s : Sort) (l : Lit) → LitWithin K l → LitWithin K (prim s l)
within_prim K Rat (AtLeast f) w = within_quotient K f.terms (divisor Rat f) w
within_prim K Rat (Above f) w = within_quotient K f.terms (divisor Rat f) w
within_prim K Rat (Divides d f) w = w
within_prim K Rat (NotDivides d f) w = w
within_prim K Int (AtLeast f) w = within_whole K f.terms f w
within_prim K Int (Above f) w = within_whole K (minus_one f).terms (minus_one f) (within_plus K f.terms [] w tt)
within_prim K Int (Divides d f) w = within_residue K d f w
within_prim K Int (NotDivides d f) w = within_residue K d f w

within_opposite : (K : ℕ → Type 0) (s : Sort) (l : Lit) → LitWithin K l → LitWithin K (opposite s l)
within_opposite K Rat (AtLeast f) w = within_times K (negsuc 0) f.terms w
within_opposite K Int (AtLeast f) w = within_plus K (times (negsuc 0) f).terms [] (within_times K (negsuc 0) f.terms w) tt
within_opposite K Rat (Above f) w = within_times K (negsuc 0) f.terms w
within_opposite K Int (Above f) w = within_times K (negsuc 0) f.terms w
within_opposite K Rat (Divides d f) w = w
within_opposite K Int (Divides d f) w = w
within_opposite K Rat (NotDivides d f) w = w
within_opposite K Int (NotDivides d f) w = w

pub within_neg : (K : ℕ → Type 0) (s : Sort) (l : Lit) → LitWithin K l → LitWithin K (neg s l)
within_neg K s l w = within_prim K s (opposite s l) (within_opposite K s l w)

pub prim_renamed : (s : Sort) (names : List ℕ) (K : ℕ → Type 0) (l : Lit) → Keeps names K → LitWithin K l → prim s (rename_lit names l) ≡ rename_lit names (prim s l)
prim_renamed Rat names K (AtLeast f) k w = renamed_prim Rat names (AtLeast f) tt
prim_renamed Rat names K (Above f) k w = renamed_prim Rat names (Above f) tt
prim_renamed Rat names K (Divides d f) k w = refl
prim_renamed Rat names K (NotDivides d f) k w = refl
prim_renamed Int names K (AtLeast f) k w = renamed_prim Int names (AtLeast f) tt
prim_renamed Int names K (Above f) k w =
    ap (λ (g : Form). AtLeast (whole_form g)) (minus_one_renamed names K f k w) ∙ renamed_prim Int names (AtLeast (minus_one f)) tt
prim_renamed Int names K (Divides zero f) k w = refl
prim_renamed Int names K (Divides (suc d) f) k w = renamed_prim Int names (Divides (suc d) f) (omega arith)
prim_renamed Int names K (NotDivides zero f) k w = refl
prim_renamed Int names K (NotDivides (suc d) f) k w = renamed_prim Int names (NotDivides (suc d) f) (omega arith)

opposite_renamed : (s : Sort) (names : List ℕ) (K : ℕ → Type 0) (l : Lit) → Keeps names K → LitWithin K l → opposite s (rename_lit names l) ≡ rename_lit names (opposite s l)
opposite_renamed Rat names K (AtLeast f) k w = ap (λ (g : Form). Above g) (times_renamed names (negsuc 0) f)
opposite_renamed Int names K (AtLeast f) k w =
    ap (λ (g : Form). AtLeast (minus_one g)) (times_renamed names (negsuc 0) f)
    ∙ ap (λ (g : Form). AtLeast g) (minus_one_renamed names K (times (negsuc 0) f) k (within_times K (negsuc 0) f.terms w))
opposite_renamed Rat names K (Above f) k w = ap (λ (g : Form). AtLeast g) (times_renamed names (negsuc 0) f)
opposite_renamed Int names K (Above f) k w = ap (λ (g : Form). AtLeast g) (times_renamed names (negsuc 0) f)
opposite_renamed Rat names K (Divides d f) k w = refl
opposite_renamed Int names K (Divides d f) k w = refl
opposite_renamed Rat names K (NotDivides d f) k w = refl
opposite_renamed Int names K (NotDivides d f) k w = refl

pub neg_renamed : (s : Sort) (names : List ℕ) (K : ℕ → Type 0) (l : Lit) → Keeps names K → LitWithin K l → neg s (rename_lit names l) ≡ rename_lit names (neg s l)
neg_renamed s names K l k w =
    ap (prim s) (opposite_renamed s names K l k w) ∙ prim_renamed s names K (opposite s l) k (within_opposite K s l w)

-- ---- what does not depend on the names

coefficients_renamed : (names : List ℕ) (ts : List (ℕ × ℤ)) → coefficients (rename_terms names ts) ≡ coefficients ts
coefficients_renamed names [] = refl
coefficients_renamed names (t ∷ ts) = ap (λ (zs : List ℤ). t.1 ∷ zs) (coefficients_renamed names ts)

numbers_of_form : (names : List ℕ) (f : Form) → form_numbers (rename names f) ≡ form_numbers f
numbers_of_form names f = ap (λ (zs : List ℤ). zs ++ f.constant ∷ []) (coefficients_renamed names f.terms)

pub numbers_renamed : (names : List ℕ) (l : Lit) → lit_numbers (rename_lit names l) ≡ lit_numbers l
numbers_renamed names (AtLeast f) = numbers_of_form names f
numbers_renamed names (Above f) = numbers_of_form names f
numbers_renamed names (Divides d f) = ap (λ (zs : List ℤ). pos d ∷ zs) (numbers_of_form names f)
numbers_renamed names (NotDivides d f) = ap (λ (zs : List ℤ). pos d ∷ zs) (numbers_of_form names f)

pub divisor_of_renamed : (s : Sort) (names : List ℕ) (f : Form) → divisor s (rename names f) ≡ divisor s f
divisor_of_renamed Rat names f = ap (λ (n : ℕ). or_one (gcd (nat_abs f.constant) n)) (gcd_renamed names f.terms)
divisor_of_renamed Int names f = ap or_one (gcd_renamed names f.terms)

pub truth_renamed : (names : List ℕ) (l : Lit) → truth_of (rename_lit names l) ≡ truth_of l
truth_renamed names (AtLeast f) = by f.terms
  where
    by : (ts : List (ℕ × ℤ)) → truth_without (rename_terms names ts) (AtLeast (rename names f)) f.constant ≡ truth_without ts (AtLeast f) f.constant
    by [] = refl
    by (t ∷ ts) = refl
truth_renamed names (Above f) = by f.terms
  where
    by : (ts : List (ℕ × ℤ)) → truth_without (rename_terms names ts) (Above (rename names f)) f.constant ≡ truth_without ts (Above f) f.constant
    by [] = refl
    by (t ∷ ts) = refl
truth_renamed names (Divides d f) = by f.terms
  where
    by : (ts : List (ℕ × ℤ)) → truth_without (rename_terms names ts) (Divides d (rename names f)) f.constant ≡ truth_without ts (Divides d f) f.constant
    by [] = refl
    by (t ∷ ts) = refl
truth_renamed names (NotDivides d f) = by f.terms
  where
    by : (ts : List (ℕ × ℤ)) → truth_without (rename_terms names ts) (NotDivides d (rename names f)) f.constant ≡ truth_without ts (NotDivides d f) f.constant
    by [] = refl
    by (t ∷ ts) = refl
