-- The dual of a problem is its contrary.
use Rattle.std.specs.Prelude.{ℕ, ◌*◌, List, [], ◌∷◌}
use Rattle.std.proofs.Common.{ap, ◌∙◌, mul-le-mul}
use Rattle.lin_term.specs.declared.Sort.{Sort}
use Rattle.lin_term.specs.declared.Sort.TheVariants.{Rat, Int}
use Rattle.lin_term.specs.Linear.{Point, Value, IsValue, IsPoint, extend}
use Rattle.dom_core.specs.declared.quant.Quant.{Quant}
use Rattle.dom_core.specs.declared.quant.Quant.TheVariants.{Exists, Forall}
use Rattle.dom_core.specs.Game.{Matrix, lit, all, some, Matrices, none, more, HoldsIn, AllHold, AllFail, neg_matrix, neg_matrices, IsMatrix, AreMatrices, flip_all, TrueFrom}
use Rattle.lin_term.proofs.Holding.{stable_literal}
use Rattle.lin_term.proofs.PrimitiveLemmas.{neg_apart, neg_from}

mutual
  pub stable_matrix : (m : Matrix) (p : Point) → ¬ (¬ HoldsIn m p) → HoldsIn m p
  stable_matrix (lit l) p n = stable_literal l p n
  stable_matrix (all ms) p n = stable_all ms p n
  stable_matrix (some ms) p n = λ h. n (λ k. k h)

  pub stable_all : (ms : Matrices) (p : Point) → ¬ (¬ AllHold ms p) → AllHold ms p
  stable_all none p n = tt
  stable_all (more m ms) p n = (stable_matrix m p (λ h. n (λ k. h k.0)), stable_all ms p (λ h. n (λ k. h k.1)))

mutual
  pub neg_matrix_apart : (m : Matrix) (s : Sort) (n : ℕ) (p : Point) → IsMatrix m s n → IsPoint s p → HoldsIn (neg_matrix m s) p → HoldsIn m p → ⊥
  neg_matrix_apart (lit l) s n p o q h k = neg_apart s l p o.0 q h k
  neg_matrix_apart (all ms) s n p o q h k = h (fail_from_hold ms s n p o q k)
  neg_matrix_apart (some ms) s n p o q h k = k (fail_from_neg ms s n p o q h)

  pub fail_from_hold : (ms : Matrices) (s : Sort) (n : ℕ) (p : Point) → AreMatrices ms s n → IsPoint s p → AllHold ms p → AllFail (neg_matrices ms s) p
  fail_from_hold none s n p o q k = tt
  fail_from_hold (more m ms) s n p o q k = (λ h. neg_matrix_apart m s n p o.0 q h k.0, fail_from_hold ms s n p o.1 q k.1)

  pub fail_from_neg : (ms : Matrices) (s : Sort) (n : ℕ) (p : Point) → AreMatrices ms s n → IsPoint s p → AllHold (neg_matrices ms s) p → AllFail ms p
  fail_from_neg none s n p o q k = tt
  fail_from_neg (more m ms) s n p o q k = (λ h. neg_matrix_apart m s n p o.0 q k.0 h, fail_from_neg ms s n p o.1 q k.1)

mutual
  pub neg_matrix_from : (m : Matrix) (s : Sort) (n : ℕ) (p : Point) → IsMatrix m s n → IsPoint s p → ¬ HoldsIn m p → HoldsIn (neg_matrix m s) p
  neg_matrix_from (lit l) s n p o q h = neg_from s l p o.0 q h
  neg_matrix_from (all ms) s n p o q h = λ k. h (hold_from_fail ms s n p o q k)
  neg_matrix_from (some ms) s n p o q h = neg_from_fail ms s n p o q (stable_fail ms p h)

  pub hold_from_fail : (ms : Matrices) (s : Sort) (n : ℕ) (p : Point) → AreMatrices ms s n → IsPoint s p → AllFail (neg_matrices ms s) p → AllHold ms p
  hold_from_fail none s n p o q k = tt
  hold_from_fail (more m ms) s n p o q k =
      (stable_matrix m p (λ h. k.0 (neg_matrix_from m s n p o.0 q h)), hold_from_fail ms s n p o.1 q k.1)

  pub neg_from_fail : (ms : Matrices) (s : Sort) (n : ℕ) (p : Point) → AreMatrices ms s n → IsPoint s p → AllFail ms p → AllHold (neg_matrices ms s) p
  neg_from_fail none s n p o q k = tt
  neg_from_fail (more m ms) s n p o q k = (neg_matrix_from m s n p o.0 q k.0, neg_from_fail ms s n p o.1 q k.1)

  pub stable_fail : (ms : Matrices) (p : Point) → ¬ (¬ AllFail ms p) → AllFail ms p
  stable_fail none p n = tt
  stable_fail (more m ms) p n = (λ h. n (λ k. k.0 h), stable_fail ms p (λ h. n (λ k. h k.1)))

pub extend_point : (s : Sort) (p : Point) (v : Value) → IsPoint s p → IsValue s v → IsPoint s (extend p v)
extend_point Rat p v a b = mul-le-mul a b
extend_point Int p v a b = ap (λ (n : ℕ). n * v.den) a ∙ ap (λ (n : ℕ). 1 * n) b

pub stable_true : (qs : List Quant) (s : Sort) (m : Matrix) (p : Point) → ¬ (¬ TrueFrom qs s m p) → TrueFrom qs s m p
stable_true [] s m p n = stable_matrix m p n
stable_true (Exists ∷ qs) s m p n = λ h. n (λ k. k h)
stable_true (Forall ∷ qs) s m p n = λ v i. stable_true qs s m (extend p v) (λ h. n (λ k. h (k v i)))

pub dual_apart : (qs : List Quant) (s : Sort) (m : Matrix) (n : ℕ) (p : Point) → IsMatrix m s n → IsPoint s p → TrueFrom (flip_all qs) s (neg_matrix m s) p → TrueFrom qs s m p → ⊥
dual_apart [] s m n p o q h k = neg_matrix_apart m s n p o q h k
dual_apart (Exists ∷ qs) s m n p o q h k =
    k (λ v i t. dual_apart qs s m n (extend p v) o (extend_point s p v q i) (h v i) t)
dual_apart (Forall ∷ qs) s m n p o q h k =
    h (λ v i t. dual_apart qs s m n (extend p v) o (extend_point s p v q i) t (k v i))

pub dual_from : (qs : List Quant) (s : Sort) (m : Matrix) (n : ℕ) (p : Point) → IsMatrix m s n → IsPoint s p → ¬ TrueFrom qs s m p → TrueFrom (flip_all qs) s (neg_matrix m s) p
dual_from [] s m n p o q h = neg_matrix_from m s n p o q h
dual_from (Exists ∷ qs) s m n p o q h =
    λ v i. dual_from qs s m n (extend p v) o (extend_point s p v q i) (λ t. h (λ k. k v i t))
dual_from (Forall ∷ qs) s m n p o q h =
    λ k. h (λ v i. stable_true qs s m (extend p v) (λ t. k v i (dual_from qs s m n (extend p v) o (extend_point s p v q i) t)))
