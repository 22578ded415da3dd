-- The values on the way down a skeleton, and what its losing system says of the other player's matrix.
use Rattle.std.specs.Prelude.{ℕ, ◌≡◌, List, [], ◌∷◌, ◌++◌, map, length}
use Rattle.std.proofs.Common.{arith, refl, length-append}
use Rattle.lin_term.specs.declared.Sort.{Sort}
use Rattle.lin_term.specs.declared.Sort.TheVariants.{Rat, Int}
use Rattle.lin_term.specs.Linear.{Point, IsPoint, IsValue, extend, origin}
use Rattle.dom_core.specs.Game.{Matrix, HoldsIn, IsMatrix, Problem, dual, neg_matrix, rename_matrix}
use Rattle.lose_system.specs.Losing.{AllLose}
use Rattle.lin_term.proofs.Dots.{Agree, length-extend}
use Rattle.dom_core.proofs.Contrary.{extend_point, stable_matrix, neg_matrix_apart, neg_matrix_from}
use Rattle.dom_core.proofs.Duals.{origin_point}
use Rattle.dom_core.proofs.Renaming.{neg_is_matrix}
use Rattle.lose_system.proofs.Growing.{agree_push}
use Rattle.term_select.specs.Guided.{value_of}

-- e has the values that p gives to the nodes on the path
pub record Here (s : Sort) (p e : Point) (names : List ℕ) : Type 0 where
  pub whole_point : IsPoint s p
  pub path_point : IsPoint s e
  pub long : length e.nums ≡ length names
  pub agree : Agree names e p

pub value_is : (s : Sort) (p : Point) (v : ℕ) → IsPoint s p → IsValue s (value_of p v)
value_is Rat p v i = i
value_is Int p v i = i

-- one node deeper
pub step : (s : Sort) (p e : Point) (names : List ℕ) (v : ℕ) → Here s p e names → Here s p (extend e (value_of p v)) (names ++ v ∷ [])
step s p e names v h =
    let l = length-extend e (value_of p v) in
    let n = length-append names (v ∷ []) in
    let a = h.long in
    record {
      whole_point = h.whole_point;
      path_point = extend_point s e (value_of p v) h.path_point (value_is s p v h.whole_point);
      long = omega arith;
      agree = agree_push names e p v (value_of p v) h.long h.agree refl;
    }

pub at_root : (s : Sort) (p : Point) → IsPoint s p → Here s p origin []
at_root s p o = record { whole_point = o; path_point = origin_point s; long = refl; agree = record { same = λ i l. absurd (omega arith) } }

pub lose_parts : (m : Matrix) (rs ts : List (List ℕ)) (p : Point) → AllLose (map (rename_matrix m) (rs ++ ts)) p → AllLose (map (rename_matrix m) rs) p × AllLose (map (rename_matrix m) ts) p
lose_parts m [] ts p h = (tt, h)
lose_parts m (r ∷ rs) ts p h = let k = lose_parts m rs ts p h.1 in ((h.0, k.0), k.1)

-- ---- the matrix of the attacker

-- what the losing system of the other player says on a path
abbrev pub lost_matrix : Sort → Problem → Matrix
lost_matrix s P = neg_matrix (dual s P).matrix s

pub lost_gives : (s : Sort) (P : Problem) (e : Point) → IsMatrix P.matrix s (length P.prefix) → IsPoint s e → HoldsIn (lost_matrix s P) e → HoldsIn P.matrix e
lost_gives s P e i o h =
    stable_matrix P.matrix e (λ k. neg_matrix_apart (neg_matrix P.matrix s) s (length P.prefix) e (neg_is_matrix P.matrix s (length P.prefix) i) o h (neg_matrix_from P.matrix s (length P.prefix) e i o k))

pub lost_is_matrix : (s : Sort) (P : Problem) → IsMatrix P.matrix s (length P.prefix) → IsMatrix (lost_matrix s P) s (length P.prefix)
lost_is_matrix s P i = neg_is_matrix (neg_matrix P.matrix s) s (length P.prefix) (neg_is_matrix P.matrix s (length P.prefix) i)
