-- The dual of a problem: it is a problem, the contrary, and its own dual is the problem.
use Rattle.std.specs.Prelude.{ℕ, suc, ◌+◌, ◌<◌, ◌≤◌, ◌≡◌, ◌↔◌, List, [], ◌∷◌, ◌++◌, length, get_or, take}
use Rattle.std.proofs.Common.{arith, ap, ap₂, ◌∙◌, sym, subst, refl}
use Rattle.std.proofs.lemmas.List.{take_more}
use Rattle.lin_term.specs.declared.Sort.{Sort}
use Rattle.lin_term.specs.declared.Sort.TheVariants.{Rat, Int}
use Rattle.lin_term.specs.Linear.{IsPoint, origin}
use Rattle.dom_core.specs.declared.quant.Quant.{Quant}
use Rattle.dom_core.specs.declared.quant.Quant.TheVariants.{Exists, Forall}
use Rattle.dom_core.specs.declared.matrix.Matrix.{Matrix as Written}
use Rattle.dom_core.specs.Game.{Matrix, Problem, IsMatrix, TrueP, dual, flip, flip_all, neg_matrix}
use Rattle.dom_core.specs.View.{matrix_of}
use Rattle.dom_core.specs.Problem.{WrittenProblem, IsProblem, HasNegations, problem_of}
use Rattle.dom_core.specs.Negation.{HasRows}
use Rattle.dom_core.proofs.Contrary.{dual_apart, dual_from}
use Rattle.dom_core.proofs.Renaming.{neg_is_matrix}
use Rattle.dom_core.proofs.Negations.{kept_primitive, negated_kept, negated_twice}

flip_push : (qs : List Quant) (q : Quant) → flip_all (qs ++ q ∷ []) ≡ flip_all qs ++ flip q ∷ []
flip_push [] q = refl
flip_push (r ∷ qs) q = ap (λ (rs : List Quant). flip r ∷ rs) (flip_push qs q)

-- one quantifier more
pub flip_more : (qs out new : List Quant) (i : ℕ) (d r : Quant) → i < length qs → out ≡ flip_all (take i qs) → r ≡ flip (get_or qs i d) → new ≡ out ++ r ∷ [] → new ≡ flip_all (take (i + 1) qs)
flip_more qs out new i d r h o e n =
    n ∙ ap₂ (λ (rs : List Quant) (x : Quant). rs ++ x ∷ []) o e
    ∙ sym (ap flip_all (take_more qs i d h) ∙ flip_push (take i qs) (get_or qs i d))

pub length-flip : (qs : List Quant) → length (flip_all qs) ≡ length qs
length-flip [] = refl
length-flip (q ∷ qs) = ap suc (length-flip qs)

flip_twice : (q : Quant) → flip (flip q) ≡ q
flip_twice Exists = refl
flip_twice Forall = refl

flip_all_twice : (qs : List Quant) → flip_all (flip_all qs) ≡ qs
flip_all_twice [] = refl
flip_all_twice (q ∷ qs) = ap₂ (λ (r : Quant) (rs : List Quant). r ∷ rs) (flip_twice q) (flip_all_twice qs)

pub origin_point : (s : Sort) → IsPoint s origin
origin_point Rat = omega arith
origin_point Int = refl

pub dual_matrix : (s : Sort) (P : Problem) → IsMatrix P.matrix s (length P.prefix) → IsMatrix (dual s P).matrix s (length (dual s P).prefix)
dual_matrix s P o = subst (λ (n : ℕ). IsMatrix (neg_matrix P.matrix s) s n) (sym (length-flip P.prefix)) (neg_is_matrix P.matrix s (length P.prefix) o)

abbrev written : List Quant → Written → WrittenProblem
written qs m = record { prefix = qs; matrix = m }

-- what a problem keeps, in the definition's own terms
abbrev IsOne : Sort → List Quant → Matrix → Type 0
IsOne s qs m = (length qs ≤ 1024) × IsMatrix m s (length qs) × HasNegations m s

pub dual_is_problem : (s : Sort) (P : WrittenProblem) (qs : List Quant) (m : Written) → IsProblem s P → HasRows (matrix_of P.matrix) → qs ≡ flip_all P.prefix → matrix_of m ≡ neg_matrix (matrix_of P.matrix) s → IsProblem s (written qs m)
dual_is_problem s P qs m p r e f =
    subst (λ (rs : List Quant). IsOne s rs (matrix_of m)) (sym e)
    (subst (IsOne s (flip_all P.prefix)) (sym f) (
      (let l = length-flip P.prefix in omega (arith, p.0)),
      dual_matrix s (problem_of P) p.1,
      negated_kept (matrix_of P.matrix) s (kept_primitive (matrix_of P.matrix) s (length P.prefix) p.1 p.2) p.2 r,
    ))

pub dual_of : (s : Sort) (P : WrittenProblem) (qs : List Quant) (m : Written) → qs ≡ flip_all P.prefix → matrix_of m ≡ neg_matrix (matrix_of P.matrix) s → problem_of (written qs m) ≡ dual s (problem_of P)
dual_of s P qs m e f = ap₂ (λ (rs : List Quant) (n : Matrix). pair rs n) e f
  where
    pair : List Quant → Matrix → Problem
    pair rs n = record { prefix = rs; matrix = n }

-- the dual is true exactly where the problem is not
pub dual_contrary : (s : Sort) (P : WrittenProblem) (Q : Problem) → IsProblem s P → Q ≡ dual s (problem_of P) → TrueP s Q ↔ ¬ TrueP s (problem_of P)
dual_contrary s P Q p e =
    subst (λ (R : Problem). TrueP s R ↔ ¬ TrueP s (problem_of P)) (sym e) (
      λ h k. dual_apart P.prefix s (matrix_of P.matrix) (length P.prefix) origin p.1 (origin_point s) h k,
      λ h. dual_from P.prefix s (matrix_of P.matrix) (length P.prefix) origin p.1 (origin_point s) h,
    )

-- the dual of the dual is the problem
pub dual_inverse : (s : Sort) (P : WrittenProblem) (Q : Problem) → IsProblem s P → HasRows (matrix_of P.matrix) → Q ≡ dual s (problem_of P) → dual s Q ≡ problem_of P
dual_inverse s P Q p r e =
    ap (dual s) e ∙ ap₂ (λ (rs : List Quant) (n : Matrix). pair rs n) (flip_all_twice P.prefix)
    (negated_twice (matrix_of P.matrix) s (kept_primitive (matrix_of P.matrix) s (length P.prefix) p.1 p.2) r)
  where
    pair : List Quant → Matrix → Problem
    pair rs n = record { prefix = rs; matrix = n }

-- parts that are flipped and negated make the dual
pub made_dual : (s : Sort) (P now R : WrittenProblem) (qs : List Quant) (m : Written) → P ≡ now → qs ≡ flip_all P.prefix → matrix_of m ≡ neg_matrix (matrix_of P.matrix) s → R ≡ written qs m → problem_of R ≡ dual s (problem_of now)
made_dual s P now R qs m v e f r = ap problem_of r ∙ dual_of s P qs m e f ∙ ap (λ (Q : WrittenProblem). dual s (problem_of Q)) v
