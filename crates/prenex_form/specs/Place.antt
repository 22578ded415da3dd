-- The matrix in one pass from the top, with the names of the variables handed down.
use Rattle.std.specs.Prelude.{ℕ, suc, List, [], ◌∷◌, get_or}
use Rattle.lin_term.specs.Literal.{rename_lit}
use Rattle.dom_core.specs.Game.{Matrix, lit, all, some, Matrices, none, more}
use Rattle.dom_core.specs.declared.Quant.TheVariants.{Exists}
use Rattle.norm_form.specs.Normal.{Normal, one_lit, each_of, some_of, for_all, there_is, Normals, no_part, part}
use Rattle.prenex_form.specs.Prenex.{prenex, prenex_parts, marks, left_names, right_names, first_places}

-- the names that names have
abbrev pub named : List ℕ → List ℕ → List ℕ
named names [] = []
named names (i ∷ is) = get_or names i 0 ∷ named names is

abbrev mutual
  pub placed : Normal → ℕ → List ℕ → Matrix
  placed (one_lit l) k names = lit (rename_lit names l)
  placed (each_of ns) k names = all (placed_parts ns k names)
  placed (some_of ns) k names = some (placed_parts ns k names)
  placed (for_all n) k names = placed n (suc k) names
  placed (there_is n) k names = placed n (suc k) names

  pub placed_parts : Normals → ℕ → List ℕ → Matrices
  placed_parts no_part k names = none
  placed_parts (part n ns) k names =
      more (placed n k (named names (left_names (first_places k) k (marks Exists (prenex n k).blocks (prenex_parts ns k).blocks))))
      (placed_parts ns k (named names (right_names (first_places k) k (marks Exists (prenex n k).blocks (prenex_parts ns k).blocks))))
