-- A matrix that is read at other variables, and what negation keeps.
use Rattle.std.specs.Prelude.{ℕ, zero, suc, ◌<◌, ◌≡◌, ℤ, pos, negsuc, ◌+ℤ◌, ◌*ℤ◌, nat_abs, List, [], ◌∷◌, length, get_or, ◌/◌, ltb}
use Rattle.std.proofs.Common.{ap, ap₂, ◌∙◌, refl, cond}
use Rattle.std.proofs.lemmas.Bool.{cond_both}
use Rattle.lin_term.specs.declared.Sort.{Sort}
use Rattle.lin_term.specs.declared.Sort.TheVariants.{Rat, Int}
use Rattle.lin_term.specs.Linear.{Form, Point, IsPoint, Below, BelowTerms, rename, rename_terms, floor_div, put_front, put, times, times_terms, plus_terms}
use Rattle.lin_term.specs.declared.Lit.{Lit}
use Rattle.lin_term.specs.declared.Lit.TheVariants.{AtLeast, Above, Divides, NotDivides}
use Rattle.lin_term.specs.Literal.{IsOf, form_of, rename_lit, prim, neg, opposite, quotient, quotient_terms, whole_form, whole_by, divisor, minus_one, residue, reduce_terms, reduce, common_divisor, residue_form, modulus_of, gcd_terms, gcd, or_one, IsPrimitive}
use Rattle.dom_core.specs.Game.{Matrix, lit, all, some, Matrices, none, more, HoldsIn, AllHold, AllFail, neg_matrix, neg_matrices, rename_matrix, rename_matrices, IsMatrix, AreMatrices}
use Rattle.lin_term.proofs.Dots.{Agree}
use Rattle.lin_term.proofs.Holding.{to_names, from_names}
use Rattle.lin_term.proofs.PrimitiveLemmas.{modulus_one}

mutual
  pub matrix_to_names : (m : Matrix) (s : Sort) (names : List ℕ) (e p : Point) → IsPoint s e → IsPoint s p → Agree names e p → IsMatrix m s (length names) → HoldsIn m e → HoldsIn (rename_matrix m names) p
  matrix_to_names (lit l) s names e p ie ip a o h = to_names s names e p ie ip a l o.0 o.1 h
  matrix_to_names (all ms) s names e p ie ip a o h = all_to_names ms s names e p ie ip a o h
  matrix_to_names (some ms) s names e p ie ip a o h = λ k. h (fail_from_names ms s names e p ie ip a o k)

  pub all_to_names : (ms : Matrices) (s : Sort) (names : List ℕ) (e p : Point) → IsPoint s e → IsPoint s p → Agree names e p → AreMatrices ms s (length names) → AllHold ms e → AllHold (rename_matrices ms names) p
  all_to_names none s names e p ie ip a o h = tt
  all_to_names (more m ms) s names e p ie ip a o h =
      (matrix_to_names m s names e p ie ip a o.0 h.0, all_to_names ms s names e p ie ip a o.1 h.1)

  pub fail_from_names : (ms : Matrices) (s : Sort) (names : List ℕ) (e p : Point) → IsPoint s e → IsPoint s p → Agree names e p → AreMatrices ms s (length names) → AllFail (rename_matrices ms names) p → AllFail ms e
  fail_from_names none s names e p ie ip a o h = tt
  fail_from_names (more m ms) s names e p ie ip a o h =
      (λ k. h.0 (matrix_to_names m s names e p ie ip a o.0 k), fail_from_names ms s names e p ie ip a o.1 h.1)

mutual
  pub matrix_from_names : (m : Matrix) (s : Sort) (names : List ℕ) (e p : Point) → IsPoint s e → IsPoint s p → Agree names e p → IsMatrix m s (length names) → HoldsIn (rename_matrix m names) p → HoldsIn m e
  matrix_from_names (lit l) s names e p ie ip a o h = from_names s names e p ie ip a l o.0 o.1 h
  matrix_from_names (all ms) s names e p ie ip a o h = all_from_names ms s names e p ie ip a o h
  matrix_from_names (some ms) s names e p ie ip a o h = λ k. h (fail_to_names ms s names e p ie ip a o k)

  pub all_from_names : (ms : Matrices) (s : Sort) (names : List ℕ) (e p : Point) → IsPoint s e → IsPoint s p → Agree names e p → AreMatrices ms s (length names) → AllHold (rename_matrices ms names) p → AllHold ms e
  all_from_names none s names e p ie ip a o h = tt
  all_from_names (more m ms) s names e p ie ip a o h =
      (matrix_from_names m s names e p ie ip a o.0 h.0, all_from_names ms s names e p ie ip a o.1 h.1)

  pub fail_to_names : (ms : Matrices) (s : Sort) (names : List ℕ) (e p : Point) → IsPoint s e → IsPoint s p → Agree names e p → AreMatrices ms s (length names) → AllFail ms e → AllFail (rename_matrices ms names) p
  fail_to_names none s names e p ie ip a o h = tt
  fail_to_names (more m ms) s names e p ie ip a o h =
      (λ k. h.0 (matrix_from_names m s names e p ie ip a o.0 k), fail_to_names ms s names e p ie ip a o.1 h.1)

-- ---- negation keeps the variables

front_below : (n i : ℕ) (a : ℤ) (ts : List (ℕ × ℤ)) → i < n → BelowTerms n ts → BelowTerms n (put_front i a ts)
front_below n i (pos zero) ts h b = b
front_below n i (pos (suc k)) ts h b = (h, b)
front_below n i (negsuc k) ts h b = (h, b)

pub times_below : (n : ℕ) (k : ℤ) (ts : List (ℕ × ℤ)) → BelowTerms n ts → BelowTerms n (times_terms k ts)
times_below n k [] b = tt
times_below n k (t ∷ ts) b = front_below n t.0 (k *ℤ t.1) (times_terms k ts) b.0 (times_below n k ts b.1)

put_below : (n i : ℕ) (a : ℤ) (ts : List (ℕ × ℤ)) → i < n → BelowTerms n ts → BelowTerms n (put i a ts)
put_below n i a [] h b = front_below n i a [] h b
put_below n i a (t ∷ ts) h b =
    let P : List (ℕ × ℤ) → Type 0 = λ us. BelowTerms n us in
    cond_both (ltb i t.0) (put_front i a (t ∷ ts)) (cond (ltb t.0 i) (t ∷ put i a ts) (put_front i (a +ℤ t.1) ts)) P
    (λ e. front_below n i a (t ∷ ts) h b)
    (λ e. cond_both (ltb t.0 i) (t ∷ put i a ts) (put_front i (a +ℤ t.1) ts) P
    (λ f. (b.0, put_below n i a ts h b.1))
    (λ f. front_below n i (a +ℤ t.1) ts h b.1))

pub plus_below : (n : ℕ) (ss ts : List (ℕ × ℤ)) → BelowTerms n ss → BelowTerms n ts → BelowTerms n (plus_terms ss ts)
plus_below n [] ts a b = b
plus_below n (s ∷ ss) ts a b = put_below n s.0 s.1 (plus_terms ss ts) a.0 (plus_below n ss ts a.1 b)

pub quotient_below : (n : ℕ) (ts : List (ℕ × ℤ)) (g : ℕ) → BelowTerms n ts → BelowTerms n (quotient_terms ts g)
quotient_below n [] g b = tt
quotient_below n (t ∷ ts) g b = (b.0, quotient_below n ts g b.1)

whole_below : (n : ℕ) (us : List (ℕ × ℤ)) (f : Form) → Below n f → Below n (whole_by us f)
whole_below n [] f b = tt
whole_below n (u ∷ us) f b = quotient_below n f.terms (divisor Int f) b

reduce_below : (n d : ℕ) (ts : List (ℕ × ℤ)) → BelowTerms n ts → BelowTerms n (reduce_terms d ts)
reduce_below n d [] b = tt
reduce_below n d (t ∷ ts) b = front_below n t.0 (pos (residue t.1 d)) (reduce_terms d ts) b.0 (reduce_below n d ts b.1)

residue_below : (n d : ℕ) (f : Form) → Below n f → Below n (residue_form d f)
residue_below n zero f b = b
residue_below n (suc m) f b = quotient_below n (reduce_terms (suc m) f.terms) (common_divisor (suc m) (reduce (suc m) f)) (reduce_below n (suc m) f.terms b)

pub prim_below : (s : Sort) (n : ℕ) (l : Lit) → Below n (form_of l) → Below n (form_of (prim s l))
prim_below Rat n (AtLeast f) b = quotient_below n f.terms (divisor Rat f) b
prim_below Rat n (Above f) b = quotient_below n f.terms (divisor Rat f) b
prim_below Rat n (Divides d f) b = b
prim_below Rat n (NotDivides d f) b = b
prim_below Int n (AtLeast f) b = whole_below n f.terms f b
prim_below Int n (Above f) b =
    whole_below n (minus_one f).terms (minus_one f) (plus_below n f.terms [] b tt)
prim_below Int n (Divides d f) b = residue_below n d f b
prim_below Int n (NotDivides d f) b = residue_below n d f b

opposite_below : (s : Sort) (n : ℕ) (l : Lit) → Below n (form_of l) → Below n (form_of (opposite s l))
opposite_below Rat n (AtLeast f) b = times_below n (negsuc 0) f.terms b
opposite_below Int n (AtLeast f) b =
    plus_below n (times (negsuc 0) f).terms [] (times_below n (negsuc 0) f.terms b) tt
opposite_below Rat n (Above f) b = times_below n (negsuc 0) f.terms b
opposite_below Int n (Above f) b = times_below n (negsuc 0) f.terms b
opposite_below Rat n (Divides d f) b = b
opposite_below Int n (Divides d f) b = b
opposite_below Rat n (NotDivides d f) b = b
opposite_below Int n (NotDivides d f) b = b

neg_is_of : (s : Sort) (l : Lit) → IsOf s l → IsOf s (neg s l)
neg_is_of Rat (AtLeast f) o = tt
neg_is_of Rat (Above f) o = tt
neg_is_of Rat (Divides d f) o = absurd o
neg_is_of Rat (NotDivides d f) o = absurd o
neg_is_of Int (AtLeast f) o = tt
neg_is_of Int (Above f) o = absurd o
neg_is_of Int (Divides d f) o = modulus_one d f o
neg_is_of Int (NotDivides d f) o = modulus_one d f o

mutual
  pub neg_is_matrix : (m : Matrix) (s : Sort) (n : ℕ) → IsMatrix m s n → IsMatrix (neg_matrix m s) s n
  neg_is_matrix (lit l) s n o =
      (neg_is_of s l o.0, prim_below s n (opposite s l) (opposite_below s n l o.1))
  neg_is_matrix (all ms) s n o = neg_are_matrices ms s n o
  neg_is_matrix (some ms) s n o = neg_are_matrices ms s n o

  pub neg_are_matrices : (ms : Matrices) (s : Sort) (n : ℕ) → AreMatrices ms s n → AreMatrices (neg_matrices ms s) s n
  neg_are_matrices none s n o = tt
  neg_are_matrices (more m ms) s n o = (neg_is_matrix m s n o.0, neg_are_matrices ms s n o.1)

-- ---- primitive stays primitive

renamed_gcd : (names : List ℕ) (ts : List (ℕ × ℤ)) → gcd_terms (rename_terms names ts) ≡ gcd_terms ts
renamed_gcd names [] = refl
renamed_gcd names (t ∷ ts) = ap (λ (n : ℕ). gcd (nat_abs t.1) n) (renamed_gcd names ts)

renamed_quotient : (names : List ℕ) (ts : List (ℕ × ℤ)) (g : ℕ) → quotient_terms (rename_terms names ts) g ≡ rename_terms names (quotient_terms ts g)
renamed_quotient names [] g = refl
renamed_quotient names (t ∷ ts) g = ap (λ (us : List (ℕ × ℤ)). (get_or names t.0 0, floor_div t.1 g) ∷ us) (renamed_quotient names ts g)

renamed_front : (names : List ℕ) (i : ℕ) (a : ℤ) (ts us : List (ℕ × ℤ)) → us ≡ rename_terms names ts → put_front (get_or names i 0) a us ≡ rename_terms names (put_front i a ts)
renamed_front names i (pos zero) ts us e = e
renamed_front names i (pos (suc n)) ts us e = ap (λ (vs : List (ℕ × ℤ)). (get_or names i 0, pos (suc n)) ∷ vs) e
renamed_front names i (negsuc n) ts us e = ap (λ (vs : List (ℕ × ℤ)). (get_or names i 0, negsuc n) ∷ vs) e

renamed_reduce : (names : List ℕ) (d : ℕ) (ts : List (ℕ × ℤ)) → reduce_terms d (rename_terms names ts) ≡ rename_terms names (reduce_terms d ts)
renamed_reduce names d [] = refl
renamed_reduce names d (t ∷ ts) =
    renamed_front names t.0 (pos (residue t.1 d)) (reduce_terms d ts) (reduce_terms d (rename_terms names ts)) (renamed_reduce names d ts)

abbrev with : ℤ → List (ℕ × ℤ) → Form
with c ts = record { terms = ts; constant = c }

renamed_rat : (names : List ℕ) (f : Form) → quotient (rename names f) (divisor Rat (rename names f)) ≡ rename names (quotient f (divisor Rat f))
renamed_rat names f =
    ap (λ (n : ℕ). quotient (rename names f) (or_one (gcd (nat_abs f.constant) n))) (renamed_gcd names f.terms)
    ∙ ap (λ (ts : List (ℕ × ℤ)). with (floor_div f.constant (divisor Rat f)) ts) (renamed_quotient names f.terms (divisor Rat f))

renamed_whole : (names : List ℕ) (ts : List (ℕ × ℤ)) (c : ℤ) → whole_form (with c (rename_terms names ts)) ≡ rename names (whole_form (with c ts))
renamed_whole names [] c = refl
renamed_whole names (t ∷ ts) c =
    ap (λ (n : ℕ). quotient (with c (rename_terms names (t ∷ ts))) (or_one n)) (renamed_gcd names (t ∷ ts))
    ∙ ap (λ (us : List (ℕ × ℤ)). with (floor_div c (or_one (gcd_terms (t ∷ ts)))) us) (renamed_quotient names (t ∷ ts) (or_one (gcd_terms (t ∷ ts))))

renamed_form : (names : List ℕ) (d : ℕ) (f : Form) → reduce d (rename names f) ≡ rename names (reduce d f)
renamed_form names d f = ap (λ (ts : List (ℕ × ℤ)). with (pos (residue f.constant d)) ts) (renamed_reduce names d f.terms)

renamed_common : (names : List ℕ) (d : ℕ) (f : Form) → common_divisor d (reduce d (rename names f)) ≡ common_divisor d (reduce d f)
renamed_common names d f =
    ap (λ (g : Form). common_divisor d g) (renamed_form names d f)
    ∙ ap (λ (n : ℕ). gcd d (gcd (nat_abs (reduce d f).constant) n)) (renamed_gcd names (reduce d f).terms)

renamed_modulus : (names : List ℕ) (d : ℕ) (f : Form) → modulus_of d (rename names f) ≡ modulus_of d f
renamed_modulus names zero f = refl
renamed_modulus names (suc n) f = ap (λ (g : ℕ). suc n / g) (renamed_common names (suc n) f)

renamed_residues : (names : List ℕ) (d : ℕ) (f : Form) → residue_form d (rename names f) ≡ rename names (residue_form d f)
renamed_residues names zero f = refl
renamed_residues names (suc n) f =
    ap₂ (λ (g : Form) (m : ℕ). quotient g m) (renamed_form names (suc n) f) (renamed_common names (suc n) f)
    ∙ ap (λ (us : List (ℕ × ℤ)). with (floor_div (reduce (suc n) f).constant (common_divisor (suc n) (reduce (suc n) f))) us) (renamed_quotient names (reduce (suc n) f).terms (common_divisor (suc n) (reduce (suc n) f)))

-- a literal of its sort: the primitive form of the renamed is the renamed primitive form
pub renamed_prim : (s : Sort) (names : List ℕ) (l : Lit) → IsOf s l → prim s (rename_lit names l) ≡ rename_lit names (prim s l)
renamed_prim Rat names (AtLeast f) o = ap (λ (g : Form). AtLeast g) (renamed_rat names f)
renamed_prim Rat names (Above f) o = ap (λ (g : Form). Above g) (renamed_rat names f)
renamed_prim Rat names (Divides d f) o = absurd o
renamed_prim Rat names (NotDivides d f) o = absurd o
renamed_prim Int names (AtLeast f) o = ap (λ (g : Form). AtLeast g) (renamed_whole names f.terms f.constant)
renamed_prim Int names (Above f) o = absurd o
renamed_prim Int names (Divides d f) o = ap₂ (λ (n : ℕ) (g : Form). Divides n g) (renamed_modulus names d f) (renamed_residues names d f)
renamed_prim Int names (NotDivides d f) o = ap₂ (λ (n : ℕ) (g : Form). NotDivides n g) (renamed_modulus names d f) (renamed_residues names d f)

renamed_is_of : (s : Sort) (names : List ℕ) (l : Lit) → IsOf s l → IsOf s (rename_lit names l)
renamed_is_of Rat names (AtLeast f) o = o
renamed_is_of Rat names (Above f) o = o
renamed_is_of Rat names (Divides d f) o = o
renamed_is_of Rat names (NotDivides d f) o = o
renamed_is_of Int names (AtLeast f) o = o
renamed_is_of Int names (Above f) o = o
renamed_is_of Int names (Divides d f) o = o
renamed_is_of Int names (NotDivides d f) o = o

pub renamed_primitive : (s : Sort) (names : List ℕ) (l : Lit) → IsPrimitive s l → IsPrimitive s (rename_lit names l)
renamed_primitive s names l h = (renamed_is_of s names l h.0, renamed_prim s names l h.0 ∙ ap (λ (k : Lit). rename_lit names k) h.1)
