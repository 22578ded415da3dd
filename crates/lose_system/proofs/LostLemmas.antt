-- The negated matrix on the nodes of a path, part by part.
use Rattle.std.specs.Prelude.{ℕ, zero, suc, ◌+◌, ◌<◌, ◌≡◌, Some, None, option_map, slice_get, List, [], ◌∷◌, ◌++◌, length, map, get_or, take}
use Rattle.std.proofs.Common.{arith, ap, ap₂, ◌∙◌, sym, subst, refl}
use Rattle.std.proofs.lemmas.List.{take_more}
use Rattle.lin_term.specs.declared.Sort.{Sort}
use Rattle.dom_core.specs.declared.Matrix.{Matrix as Written}
use Rattle.dom_core.specs.Game.{Matrix, Matrices, none, more, neg_matrix, neg_matrices, rename_matrix, rename_matrices, IsMatrix, AreMatrices}
use Rattle.dom_core.specs.View.{matrix_of, matrices_of}
use Rattle.dom_core.specs.Problem.{HasNegations, HaveNegations}
use Rattle.dom_core.proofs.Views.{push_part, matrices_push}

-- the matrix as it stands on a path with these nodes
abbrev pub lost : Matrix → Sort → List ℕ → Matrix
lost m s names = rename_matrix (neg_matrix m s) names

abbrev pub all_lost : Matrices → Sort → List ℕ → Matrices
all_lost ms s names = rename_matrices (neg_matrices ms s) names

pub matrix_part : (ts : List Written) (s : Sort) (n i : ℕ) (t : Written) → i < length ts → t ≡ get_or ts i t → AreMatrices (matrices_of ts) s n → IsMatrix (matrix_of t) s n
matrix_part ts s n i t h e k = subst (λ (u : Written). IsMatrix (matrix_of u) s n) (sym e) (at ts i t h k)
  where
    at : (ts : List Written) (i : ℕ) (d : Written) → i < length ts → AreMatrices (matrices_of ts) s n → IsMatrix (matrix_of (get_or ts i d)) s n
    at [] i d h k = absurd (omega arith)
    at (u ∷ ts) zero d h k = k.0
    at (u ∷ ts) (suc i) d h k = at ts i d (omega arith) k.1

pub negations_part : (ts : List Written) (s : Sort) (i : ℕ) (t : Written) → i < length ts → t ≡ get_or ts i t → HaveNegations (matrices_of ts) s → HasNegations (matrix_of t) s
negations_part ts s i t h e k = subst (λ (u : Written). HasNegations (matrix_of u) s) (sym e) (at ts i t h k)
  where
    at : (ts : List Written) (i : ℕ) (d : Written) → i < length ts → HaveNegations (matrices_of ts) s → HasNegations (matrix_of (get_or ts i d)) s
    at [] i d h k = absurd (omega arith)
    at (u ∷ ts) zero d h k = k.0
    at (u ∷ ts) (suc i) d h k = at ts i d (omega arith) k.1

lost_push : (ms : Matrices) (m : Matrix) (s : Sort) (names : List ℕ) → all_lost (push_part ms m) s names ≡ push_part (all_lost ms s names) (lost m s names)
lost_push none m s names = refl
lost_push (more n ms) m s names = ap (more (lost n s names)) (lost_push ms m s names)

taken : (ts : List Written) (i : ℕ) (t : Written) → i < length ts → t ≡ get_or ts i t → matrices_of (take (i + 1) ts) ≡ push_part (matrices_of (take i ts)) (matrix_of t)
taken ts i t h e = ap matrices_of (take_more ts i t h ∙ ap (λ (u : Written). take i ts ++ u ∷ []) (sym e)) ∙ matrices_push (take i ts) t

pub lost_more : (ts out new : List Written) (s : Sort) (names : List ℕ) (i : ℕ) (t n : Written) → i < length ts → t ≡ get_or ts i t → matrices_of out ≡ all_lost (matrices_of (take i ts)) s names → matrix_of n ≡ lost (matrix_of t) s names → new ≡ out ++ n ∷ [] → matrices_of new ≡ all_lost (matrices_of (take (i + 1) ts)) s names
lost_more ts out new s names i t n h e o m w =
    ap matrices_of w ∙ matrices_push out n ∙ ap₂ (λ (ms : Matrices) (x : Matrix). push_part ms x) o m
    ∙ sym (ap (λ (ms : Matrices). all_lost ms s names) (taken ts i t h e) ∙ lost_push (matrices_of (take i ts)) (matrix_of t) s names)

-- ---- the paths of a system

pub map_at : {A B : Type 0} (g : A → B) (xs : List A) (i : ℕ) → slice_get (map g xs) i ≡ option_map g (slice_get xs i)
map_at g [] i = refl
map_at g (x ∷ xs) zero = refl
map_at g (x ∷ xs) (suc i) = map_at g xs i

pub no_path : (ways : List (List ℕ)) (m : Matrix) (s : Sort) (k : ℕ) → None ≡ slice_get ways k → None ≡ slice_get (map (lost m s) ways) k
no_path ways m s k e = ap (option_map (lost m s)) e ∙ sym (map_at (lost m s) ways k)

pub some_path : (ways : List (List ℕ)) (m x : Matrix) (s : Sort) (k : ℕ) (names : List ℕ) → Some names ≡ slice_get ways k → x ≡ lost m s names → Some x ≡ slice_get (map (lost m s) ways) k
some_path ways m x s k names e v = ap Some v ∙ ap (option_map (lost m s)) e ∙ sym (map_at (lost m s) ways k)
