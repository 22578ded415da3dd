-- The negation of a matrix, part by part, and what it keeps.
use Rattle.std.specs.Prelude.{ℕ, zero, suc, ◌+◌, ◌<◌, ◌≡◌, ◌≢◌, ℤ, true, false, Option, Some, None, List, [], ◌∷◌, ◌++◌, length, get_or, take, drop}
use Rattle.std.specs.Option.{is_some}
use Rattle.std.proofs.Common.{arith, ap, ap₂, ◌∙◌, sym, subst, refl}
use Rattle.std.proofs.lemmas.List.{take_more}
use Rattle.lin_term.specs.declared.Sort.{Sort}
use Rattle.lin_term.specs.declared.Sort.TheVariants.{Rat, Int}
use Rattle.lin_term.specs.declared.Lit.{Lit}
use Rattle.lin_term.specs.declared.Lit.TheVariants.{AtLeast, Above, Divides, NotDivides}
use Rattle.lin_term.specs.Form.{Form, IsRow}
use Rattle.lin_term.specs.Literal.{IsPrimitive, neg, form_of}
use Rattle.lin_term.specs.Wide.{first_past, lit_numbers}
use Rattle.lin_term.proofs.Capping.{past-append, past-append_left, row_fits}
use Rattle.lin_term.proofs.Contraries.{prim_neg, neg_neg}
use Rattle.lin_term.proofs.Residues.{own_modulus, own_modulus_not}
use Rattle.dom_core.specs.declared.matrix.Matrix.{Matrix as Tree}
use Rattle.dom_core.specs.Game.{Matrix, Matrices, lit, all, some, none, more, neg_matrix, neg_matrices, IsMatrix, AreMatrices}
use Rattle.dom_core.specs.View.{matrix_of, matrices_of}
use Rattle.dom_core.specs.Problem.{HasNegations, HaveNegations}
use Rattle.dom_core.specs.Negation.{IsPrimitiveMatrix, ArePrimitiveMatrices, negation_numbers, negations_numbers, HasRows, HaveRows}
use Rattle.dom_core.proofs.Views.{push_part, matrices_push}
use Rattle.dom_core.proofs.AddingLemmas.{split_at, past_more, past_here}

-- ---- parts of a list

-- the nodes of a matrix, as a measure
abbrev mutual
  pub matrix_size : Matrix → ℕ
  matrix_size (lit l) = 0
  matrix_size (all ms) = suc (parts_size ms)
  matrix_size (some ms) = suc (parts_size ms)

  pub parts_size : Matrices → ℕ
  parts_size none = 0
  parts_size (more m ms) = suc (matrix_size m + parts_size ms)

pub part_smaller : (ts : List Tree) (i : ℕ) (t : Tree) → i < length ts → t ≡ get_or ts i t → matrix_size (matrix_of t) < parts_size (matrices_of ts)
part_smaller ts i t h e = subst (λ (u : Tree). matrix_size (matrix_of u) < parts_size (matrices_of ts)) (sym e) (at ts i t h)
  where
    at : (ts : List Tree) (i : ℕ) (d : Tree) → i < length ts → matrix_size (matrix_of (get_or ts i d)) < parts_size (matrices_of ts)
    at [] i d h = absurd (omega arith)
    at (u ∷ ts) zero d h = omega arith
    at (u ∷ ts) (suc i) d h = let k = at ts i d (omega arith) in omega arith

pub primitive_part : (ts : List Tree) (s : Sort) (i : ℕ) (t : Tree) → i < length ts → t ≡ get_or ts i t → ArePrimitiveMatrices (matrices_of ts) s → IsPrimitiveMatrix (matrix_of t) s
primitive_part ts s i t h e k = subst (λ (u : Tree). IsPrimitiveMatrix (matrix_of u) s) (sym e) (at ts i t h k)
  where
    at : (ts : List Tree) (i : ℕ) (d : Tree) → i < length ts → ArePrimitiveMatrices (matrices_of ts) s → IsPrimitiveMatrix (matrix_of (get_or ts i d)) s
    at [] i d h k = absurd (omega arith)
    at (u ∷ ts) zero d h k = k.0
    at (u ∷ ts) (suc i) d h k = at ts i d (omega arith) k.1

past-append_right : (xs ys : List ℤ) → first_past (xs ++ ys) ≡ None → first_past ys ≡ None
past-append_right xs ys e = sym (past-append xs ys (past-append_left xs ys e)) ∙ e

pub within_part : (ts : List Tree) (s : Sort) (i : ℕ) (t : Tree) → i < length ts → t ≡ get_or ts i t → first_past (negations_numbers (matrices_of ts) s) ≡ None → first_past (negation_numbers (matrix_of t) s) ≡ None
within_part ts s i t h e k = subst (λ (u : Tree). first_past (negation_numbers (matrix_of u) s) ≡ None) (sym e) (at ts i t h k)
  where
    at : (ts : List Tree) (i : ℕ) (d : Tree) → i < length ts → first_past (negations_numbers (matrices_of ts) s) ≡ None → first_past (negation_numbers (matrix_of (get_or ts i d)) s) ≡ None
    at [] i d h k = absurd (omega arith)
    at (u ∷ ts) zero d h k = past-append_left (negation_numbers (matrix_of u) s) (negations_numbers (matrices_of ts) s) k
    at (u ∷ ts) (suc i) d h k = at ts i d (omega arith) (past-append_right (negation_numbers (matrix_of u) s) (negations_numbers (matrices_of ts) s) k)

-- ---- one part more

neg_push : (ms : Matrices) (m : Matrix) (s : Sort) → neg_matrices (push_part ms m) s ≡ push_part (neg_matrices ms s) (neg_matrix m s)
neg_push none m s = refl
neg_push (more n ms) m s = ap (more (neg_matrix n s)) (neg_push ms m s)

rows_push : (ms : Matrices) (m : Matrix) → HaveRows ms → HasRows m → HaveRows (push_part ms m)
rows_push none m h k = (k, tt)
rows_push (more n ms) m h k = (h.0, rows_push ms m h.1 k)

taken : (ts : List Tree) (i : ℕ) (t : Tree) → i < length ts → t ≡ get_or ts i t → matrices_of (take (i + 1) ts) ≡ push_part (matrices_of (take i ts)) (matrix_of t)
taken ts i t h e = ap matrices_of (take_more ts i t h ∙ ap (λ (u : Tree). take i ts ++ u ∷ []) (sym e)) ∙ matrices_push (take i ts) t

pub negated_more : (ts out new : List Tree) (s : Sort) (i : ℕ) (t n : Tree) → i < length ts → t ≡ get_or ts i t → matrices_of out ≡ neg_matrices (matrices_of (take i ts)) s → matrix_of n ≡ neg_matrix (matrix_of t) s → new ≡ out ++ n ∷ [] → matrices_of new ≡ neg_matrices (matrices_of (take (i + 1) ts)) s
negated_more ts out new s i t n h e o m w =
    ap matrices_of w ∙ matrices_push out n ∙ ap₂ (λ (ms : Matrices) (x : Matrix). push_part ms x) o m
    ∙ sym (ap (λ (ms : Matrices). neg_matrices ms s) (taken ts i t h e) ∙ neg_push (matrices_of (take i ts)) (matrix_of t) s)

pub rows_more : (ts : List Tree) (i : ℕ) (t : Tree) → i < length ts → t ≡ get_or ts i t → HaveRows (matrices_of (take i ts)) → HasRows (matrix_of t) → HaveRows (matrices_of (take (i + 1) ts))
rows_more ts i t h e o k = subst HaveRows (sym (taken ts i t h e)) (rows_push (matrices_of (take i ts)) (matrix_of t) o k)

left : (ts : List Tree) (s : Sort) (i : ℕ) (t : Tree) → i < length ts → t ≡ get_or ts i t → negations_numbers (matrices_of (drop i ts)) s ≡ negation_numbers (matrix_of t) s ++ negations_numbers (matrices_of (drop (i + 1) ts)) s
left ts s i t h e = ap (λ (us : List Tree). negations_numbers (matrices_of us) s) (split_at ts i t h e)

pub some_is : (o : Option ℤ) → true ≡ is_some o → o ≢ None
some_is None e = λ h. let u : true ≡ false = e in absurd (cc)
some_is (Some z) e = λ h. absurd (cc)

pub none_is : (o : Option ℤ) → false ≡ is_some o → o ≡ None
none_is None e = refl
none_is (Some z) e = absurd (let u : false ≡ true = e in cc)

-- a part within the cap, and a part past it
pub wide_more : (ts : List Tree) (s : Sort) (i : ℕ) (t : Tree) (whole : List ℤ) → i < length ts → t ≡ get_or ts i t → first_past (negation_numbers (matrix_of t) s) ≡ None → first_past (negations_numbers (matrices_of (drop i ts)) s) ≡ first_past whole → first_past (negations_numbers (matrices_of (drop (i + 1) ts)) s) ≡ first_past whole
wide_more ts s i t whole h e n k =
    past_more (negation_numbers (matrix_of t) s) (negations_numbers (matrices_of (drop (i + 1) ts)) s) whole n (ap first_past (sym (left ts s i t h e)) ∙ k)

pub wide_here : (ts : List Tree) (s : Sort) (i : ℕ) (t : Tree) (whole : List ℤ) (o : Option ℤ) → i < length ts → t ≡ get_or ts i t → o ≢ None → o ≡ first_past (negation_numbers (matrix_of t) s) → first_past (negations_numbers (matrices_of (drop i ts)) s) ≡ first_past whole → o ≡ first_past whole
wide_here ts s i t whole None h e n q k = absurd (n refl)
wide_here ts s i t whole (Some z) h e n q k =
    sym (past_here (negation_numbers (matrix_of t) s) (negations_numbers (matrices_of (drop (i + 1) ts)) s) whole z (sym q) (ap first_past (sym (left ts s i t h e)) ∙ k))

-- ---- what is kept

-- a divisibility keeps its numbers
neg_divides : (d : ℕ) (f : Form) → IsPrimitive Int (Divides d f) → neg Int (Divides d f) ≡ NotDivides d f
neg_divides d f p = ap₂ (λ (n : ℕ) (g : Form). NotDivides n g) (own_modulus Int d f p) (ap form_of p.1)

neg_not_divides : (d : ℕ) (f : Form) → IsPrimitive Int (NotDivides d f) → neg Int (NotDivides d f) ≡ Divides d f
neg_not_divides d f p = ap₂ (λ (n : ℕ) (g : Form). Divides n g) (own_modulus_not Int d f p) (ap form_of p.1)

-- the numbers of a literal fit where those of its negation do
own_fits : (s : Sort) (l : Lit) → IsPrimitive s l → IsRow (form_of l) → first_past (lit_numbers (neg s l)) ≡ None → first_past (lit_numbers l) ≡ None
own_fits s (AtLeast f) p r k = row_fits f r
own_fits s (Above f) p r k = row_fits f r
own_fits Rat (Divides d f) p r k = absurd p.0
own_fits Int (Divides d f) p r k = sym (ap (λ (l : Lit). first_past (lit_numbers l)) (neg_divides d f p)) ∙ k
own_fits Rat (NotDivides d f) p r k = absurd p.0
own_fits Int (NotDivides d f) p r k = sym (ap (λ (l : Lit). first_past (lit_numbers l)) (neg_not_divides d f p)) ∙ k

mutual
  pub negated_kept : (m : Matrix) (s : Sort) → IsPrimitiveMatrix m s → HasNegations m s → HasRows m → HasNegations (neg_matrix m s) s
  negated_kept (lit l) s p k r = (prim_neg s l, ap (λ (x : Lit). first_past (lit_numbers x)) (neg_neg s l p r.0) ∙ own_fits s l p r k.1)
  negated_kept (all ms) s p k r = negated_all_kept ms s p k r
  negated_kept (some ms) s p k r = negated_all_kept ms s p k r

  pub negated_all_kept : (ms : Matrices) (s : Sort) → ArePrimitiveMatrices ms s → HaveNegations ms s → HaveRows ms → HaveNegations (neg_matrices ms s) s
  negated_all_kept none s p k r = tt
  negated_all_kept (more m ms) s p k r = (negated_kept m s p.0 k.0 r.0, negated_all_kept ms s p.1 k.1 r.1)

mutual
  pub negated_twice : (m : Matrix) (s : Sort) → IsPrimitiveMatrix m s → HasRows m → neg_matrix (neg_matrix m s) s ≡ m
  negated_twice (lit l) s p r = ap lit (neg_neg s l p r.0)
  negated_twice (all ms) s p r = ap all (negated_all_twice ms s p r)
  negated_twice (some ms) s p r = ap some (negated_all_twice ms s p r)

  pub negated_all_twice : (ms : Matrices) (s : Sort) → ArePrimitiveMatrices ms s → HaveRows ms → neg_matrices (neg_matrices ms s) s ≡ ms
  negated_all_twice none s p r = refl
  negated_all_twice (more m ms) s p r = ap₂ more (negated_twice m s p.0 r.0) (negated_all_twice ms s p.1 r.1)

mutual
  pub kept_primitive : (m : Matrix) (s : Sort) (n : ℕ) → IsMatrix m s n → HasNegations m s → IsPrimitiveMatrix m s
  kept_primitive (lit l) s n o k = (o.0, k.0)
  kept_primitive (all ms) s n o k = kept_all_primitive ms s n o k
  kept_primitive (some ms) s n o k = kept_all_primitive ms s n o k

  pub kept_all_primitive : (ms : Matrices) (s : Sort) (n : ℕ) → AreMatrices ms s n → HaveNegations ms s → ArePrimitiveMatrices ms s
  kept_all_primitive none s n o k = tt
  kept_all_primitive (more m ms) s n o k = (kept_primitive m s n o.0 k.0, kept_all_primitive ms s n o.1 k.1)

past_both : (xs ys : List ℤ) → first_past xs ≡ None → first_past ys ≡ None → first_past (xs ++ ys) ≡ None
past_both xs ys e f = past-append xs ys e ∙ f

mutual
  pub kept_within : (m : Matrix) (s : Sort) → HasNegations m s → first_past (negation_numbers m s) ≡ None
  kept_within (lit l) s k = k.1
  kept_within (all ms) s k = kept_all_within ms s k
  kept_within (some ms) s k = kept_all_within ms s k

  pub kept_all_within : (ms : Matrices) (s : Sort) → HaveNegations ms s → first_past (negations_numbers ms s) ≡ None
  kept_all_within none s k = refl
  kept_all_within (more m ms) s k = past_both (negation_numbers m s) (negations_numbers ms s) (kept_within m s k.0) (kept_all_within ms s k.1)

mutual
  pub within_kept : (m : Matrix) (s : Sort) → IsPrimitiveMatrix m s → first_past (negation_numbers m s) ≡ None → HasNegations m s
  within_kept (lit l) s p e = (p.1, e)
  within_kept (all ms) s p e = within_all_kept ms s p e
  within_kept (some ms) s p e = within_all_kept ms s p e

  pub within_all_kept : (ms : Matrices) (s : Sort) → ArePrimitiveMatrices ms s → first_past (negations_numbers ms s) ≡ None → HaveNegations ms s
  within_all_kept none s p e = tt
  within_all_kept (more m ms) s p e = (
    within_kept m s p.0 (past-append_left (negation_numbers m s) (negations_numbers ms s) e),
    within_all_kept ms s p.1 (past-append_right (negation_numbers m s) (negations_numbers ms s) e),
  )
