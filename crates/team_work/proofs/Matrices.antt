-- Problems that are seen as the same are the same.
use Rattle.std.specs.Prelude.{◌≡◌, List, [], ◌∷◌, map}
use Rattle.std.proofs.Common.{ap, ap₂, ◌∙◌, sym, subst, refl}
use Rattle.dom_core.specs.declared.Quant.{Quant}
use Rattle.dom_core.specs.declared.Matrix.{Matrix as Tree, map-Matrix, roll-Matrix, fold-roll-Matrix}
use Rattle.dom_core.specs.declared.Matrix.TheFolds.{ind-Matrix}
use Rattle.dom_core.specs.declared.Matrix.TheOpen.{Matrix-F}
use Rattle.dom_core.specs.declared.Matrix.TheVariants as trees
use Rattle.dom_core.specs.Game.{Matrix, lit, all, some, Matrices, none, more, Problem}
use Rattle.dom_core.specs.Problem.{WrittenProblem, problem_of}
use Rattle.dom_core.specs.View.{matrix_of, matrices_of, matrix_step}

-- the tree that a matrix is seen of
abbrev mutual
  tree_of : Matrix → Tree
  tree_of (lit l) = trees.Lit l
  tree_of (all ms) = trees.And (trees_of ms)
  tree_of (some ms) = trees.Or (trees_of ms)

  trees_of : Matrices → List Tree
  trees_of none = []
  trees_of (more m ms) = tree_of m ∷ trees_of ms

abbrev IsBack : Tree → Type 0
IsBack t = tree_of (matrix_of t) ≡ t

abbrev Proved : Type 0
Proved = (t : Tree) × IsBack t

abbrev tree_in : Proved → Tree
tree_in e = e.0

each_back : (es : List Proved) → trees_of (matrices_of (map tree_in es)) ≡ map tree_in es
each_back [] = refl
each_back (e ∷ es) = ap₂ (λ (t : Tree) (ts : List Tree). t ∷ ts) e.1 (each_back es)

by_layer : (y : Matrix-F Proved) → IsBack (roll-Matrix (map-Matrix Proved Tree tree_in y))
by_layer (Matrix-F.Lit l) =
    subst IsBack (sym (trees.rolls-Lit l)) (ap tree_of (ap matrix_of (sym (trees.rolls-Lit l)) ∙ fold-roll-Matrix Matrix matrix_step (Matrix-F.Lit l)))
by_layer (Matrix-F.And es) =
    let ts = map tree_in es in
    subst IsBack (sym (trees.rolls-And ts))
    (ap tree_of (ap matrix_of (sym (trees.rolls-And ts)) ∙ fold-roll-Matrix Matrix matrix_step (Matrix-F.And ts)) ∙ ap trees.And (each_back es))
by_layer (Matrix-F.Or es) =
    let ts = map tree_in es in
    subst IsBack (sym (trees.rolls-Or ts))
    (ap tree_of (ap matrix_of (sym (trees.rolls-Or ts)) ∙ fold-roll-Matrix Matrix matrix_step (Matrix-F.Or ts)) ∙ ap trees.Or (each_back es))

back : (t : Tree) → IsBack t
back = ind-Matrix IsBack (λ x y is. subst (λ (z : Matrix-F Tree). IsBack (roll-Matrix z)) is (by_layer y))

pub problem_is : (P Q : WrittenProblem) → problem_of P ≡ problem_of Q → P ≡ Q
problem_is P Q e =
    ap₂ made (ap (λ (R : Problem). R.prefix) e) (sym (back P.matrix) ∙ ap (λ (R : Problem). tree_of R.matrix) e ∙ back Q.matrix)
  where
    made : List Quant → Tree → WrittenProblem
    made qs t = record { prefix = qs; matrix = t }
