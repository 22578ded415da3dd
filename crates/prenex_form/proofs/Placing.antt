-- Names that are handed down give the matrix of the rewritings.
use Rattle.std.specs.Prelude.{ℕ, zero, suc, ◌≡◌, ◌<◌, ℤ, List, [], ◌∷◌, length, get_or}
use Rattle.std.proofs.Common.{arith, ap, ap₂, ◌∙◌, sym, subst, refl}
use Rattle.lin_term.specs.declared.Sort.{Sort}
use Rattle.lin_term.specs.declared.Lit.{Lit}
use Rattle.lin_term.specs.declared.Lit.TheVariants.{AtLeast, Above, Divides, NotDivides}
use Rattle.lin_term.specs.Linear.{Form, Below, BelowTerms, rename, rename_terms}
use Rattle.lin_term.specs.Literal.{form_of, rename_lit}
use Rattle.dom_core.specs.Game.{Matrix, lit, all, some, Matrices, none, more, rename_matrix, rename_matrices, IsMatrix, AreMatrices}
use Rattle.dom_core.specs.declared.Quant.TheVariants.{Exists}
use Rattle.norm_form.specs.Normal.{Normal, one_lit, each_of, some_of, for_all, there_is, Normals, no_part, part, IsNormal, AreNormal}
use Rattle.prenex_form.specs.Prenex.{prenex, prenex_parts, marks, left_names, right_names, first_places}
use Rattle.prenex_form.specs.Place.{named, placed, placed_parts}
use Rattle.prenex_form.proofs.Prenexing.{prenex_fits, parts_fit, fit_marks, size, first_get}

named_get : (names is : List ℕ) (i : ℕ) → i < length is → get_or names (get_or is i 0) 0 ≡ get_or (named names is) i 0
named_get names [] i h = absurd (omega arith)
named_get names (j ∷ is) zero h = refl
named_get names (j ∷ is) (suc i) h = named_get names is i (omega arith)

terms_named : (names is : List ℕ) (ts : List (ℕ × ℤ)) → BelowTerms (length is) ts → rename_terms names (rename_terms is ts) ≡ rename_terms (named names is) ts
terms_named names is [] b = refl
terms_named names is (t ∷ ts) b =
    ap₂ (λ (i : ℕ) (us : List (ℕ × ℤ)). (i, t.1) ∷ us) (named_get names is t.0 b.0) (terms_named names is ts b.1)

form_named : (names is : List ℕ) (f : Form) → Below (length is) f → rename names (rename is f) ≡ rename (named names is) f
form_named names is f b = ap (λ (ts : List (ℕ × ℤ)). record { terms = ts; constant = f.constant }) (terms_named names is f.terms b)

lit_named : (names is : List ℕ) (l : Lit) → Below (length is) (form_of l) → rename_lit names (rename_lit is l) ≡ rename_lit (named names is) l
lit_named names is (AtLeast f) b = ap AtLeast (form_named names is f b)
lit_named names is (Above f) b = ap Above (form_named names is f b)
lit_named names is (Divides d f) b = ap (λ (g : Form). Divides d g) (form_named names is f b)
lit_named names is (NotDivides d f) b = ap (λ (g : Form). NotDivides d g) (form_named names is f b)

mutual
  matrix_named : (m : Matrix) (s : Sort) (names is : List ℕ) → IsMatrix m s (length is) → rename_matrix (rename_matrix m is) names ≡ rename_matrix m (named names is)
  matrix_named (lit l) s names is o = ap lit (lit_named names is l o.1)
  matrix_named (all ms) s names is o = ap all (matrices_named ms s names is o)
  matrix_named (some ms) s names is o = ap some (matrices_named ms s names is o)

  matrices_named : (ms : Matrices) (s : Sort) (names is : List ℕ) → AreMatrices ms s (length is) → rename_matrices (rename_matrices ms is) names ≡ rename_matrices ms (named names is)
  matrices_named none s names is o = refl
  matrices_named (more m ms) s names is o = ap₂ more (matrix_named m s names is o.0) (matrices_named ms s names is o.1)

mutual
  pub placed_is : (n : Normal) (s : Sort) (k : ℕ) (names : List ℕ) → IsNormal n s k → placed n k names ≡ rename_matrix (prenex n k).body names
  placed_is (one_lit l) s k names o = refl
  placed_is (each_of ns) s k names o = ap all (placed_parts_are ns s k names o)
  placed_is (some_of ns) s k names o = ap some (placed_parts_are ns s k names o)
  placed_is (for_all n) s k names o = placed_is n s (suc k) names o
  placed_is (there_is n) s k names o = placed_is n s (suc k) names o

  pub placed_parts_are : (ns : Normals) (s : Sort) (k : ℕ) (names : List ℕ) → AreNormal ns s k → placed_parts ns k names ≡ rename_matrices (prenex_parts ns k).bodies names
  placed_parts_are no_part s k names o = refl
  placed_parts_are (part n ns) s k names o =
      let ms = marks Exists (prenex n k).blocks (prenex_parts ns k).blocks in
      let f = fit_marks s k (prenex n k).body (prenex_parts ns k).bodies (prenex n k).blocks (prenex_parts ns k).blocks (prenex_fits n s k o.0) (parts_fit ns s k o.1) in
      ap₂ more
      (placed_is n s k (named names (left_names (first_places k) k ms)) o.0 ∙ sym (matrix_named (prenex n k).body s names (left_names (first_places k) k ms) f.0))
      (placed_parts_are ns s k (named names (right_names (first_places k) k ms)) o.1 ∙ sym (matrices_named (prenex_parts ns k).bodies s names (right_names (first_places k) k ms) f.1))

-- ---- each variable its own name

terms_first : (n : ℕ) (ts : List (ℕ × ℤ)) → BelowTerms n ts → rename_terms (first_places n) ts ≡ ts
terms_first n [] b = refl
terms_first n (t ∷ ts) b = ap₂ (λ (i : ℕ) (us : List (ℕ × ℤ)). (i, t.1) ∷ us) (first_get n t.0 b.0) (terms_first n ts b.1)

lit_first : (n : ℕ) (l : Lit) → Below n (form_of l) → rename_lit (first_places n) l ≡ l
lit_first n (AtLeast f) b = ap (λ (ts : List (ℕ × ℤ)). AtLeast (record { terms = ts; constant = f.constant })) (terms_first n f.terms b)
lit_first n (Above f) b = ap (λ (ts : List (ℕ × ℤ)). Above (record { terms = ts; constant = f.constant })) (terms_first n f.terms b)
lit_first n (Divides d f) b = ap (λ (ts : List (ℕ × ℤ)). Divides d (record { terms = ts; constant = f.constant })) (terms_first n f.terms b)
lit_first n (NotDivides d f) b = ap (λ (ts : List (ℕ × ℤ)). NotDivides d (record { terms = ts; constant = f.constant })) (terms_first n f.terms b)

mutual
  matrix_first : (m : Matrix) (s : Sort) (n : ℕ) → IsMatrix m s n → rename_matrix m (first_places n) ≡ m
  matrix_first (lit l) s n o = ap lit (lit_first n l o.1)
  matrix_first (all ms) s n o = ap all (matrices_first ms s n o)
  matrix_first (some ms) s n o = ap some (matrices_first ms s n o)

  matrices_first : (ms : Matrices) (s : Sort) (n : ℕ) → AreMatrices ms s n → rename_matrices ms (first_places n) ≡ ms
  matrices_first none s n o = refl
  matrices_first (more m ms) s n o = ap₂ more (matrix_first m s n o.0) (matrices_first ms s n o.1)

-- the one pass gives the problem's matrix
pub one_pass : (n : Normal) (s : Sort) → IsNormal n s 0 → placed n 0 (first_places (size (prenex n 0).blocks)) ≡ (prenex n 0).body
one_pass n s o =
    let f : IsMatrix (prenex n 0).body s (size (prenex n 0).blocks) = subst (λ (i : ℕ). IsMatrix (prenex n 0).body s i) (omega arith) (prenex_fits n s 0 o) in
    placed_is n s 0 (first_places (size (prenex n 0).blocks)) o ∙ matrix_first (prenex n 0).body s (size (prenex n 0).blocks) f
