-- Each literal of the matrix is in primitive form.
use Rattle.std.specs.Prelude.{ℕ, suc, List, [], ⊤}
use Rattle.lin_term.specs.declared.Sort.{Sort}
use Rattle.lin_term.specs.Literal.{IsPrimitive}
use Rattle.dom_core.specs.Game.{Matrix, lit, all, some, Matrices, none, more, rename_matrix, rename_matrices}
use Rattle.dom_core.specs.declared.Quant.TheVariants.{Exists}
use Rattle.dom_core.proofs.Renaming.{renamed_primitive}
use Rattle.lin_truth.specs.declared.term.VarSort.{VarSort}
use Rattle.lin_truth.specs.Term.{Term}
use Rattle.lin_truth.specs.Formed.{IsFormula, append_all}
use Rattle.norm_form.specs.Normal.{Normal, one_lit, each_of, some_of, for_all, there_is, Normals, no_part, part, IsNormal, AreNormal}
use Rattle.norm_form.specs.Norm.{normal_of}
use Rattle.norm_form.proofs.Fitting.{goal_fits}
use Rattle.norm_form.proofs.Own.{EachOwn, AllOwn, normal_own}
use Rattle.prenex_form.specs.Prenex.{prenex, prenex_parts, prenex_of, marks, left_names, right_names, first_places}

abbrev mutual
  pub EachPrimitive : Matrix → Sort → Type 0
  EachPrimitive (lit l) s = IsPrimitive s l
  EachPrimitive (all ms) s = AllPrimitive ms s
  EachPrimitive (some ms) s = AllPrimitive ms s

  pub AllPrimitive : Matrices → Sort → Type 0
  AllPrimitive none s = ⊤
  AllPrimitive (more m ms) s = EachPrimitive m s × AllPrimitive ms s

mutual
  renamed_own : (m : Matrix) (s : Sort) (names : List ℕ) → EachPrimitive m s → EachPrimitive (rename_matrix m names) s
  renamed_own (lit l) s names h = renamed_primitive s names l h
  renamed_own (all ms) s names h = renamed_all_own ms s names h
  renamed_own (some ms) s names h = renamed_all_own ms s names h

  renamed_all_own : (ms : Matrices) (s : Sort) (names : List ℕ) → AllPrimitive ms s → AllPrimitive (rename_matrices ms names) s
  renamed_all_own none s names h = tt
  renamed_all_own (more m ms) s names h = (renamed_own m s names h.0, renamed_all_own ms s names h.1)

mutual
  pub prenex_own : (n : Normal) (s : Sort) (k : ℕ) → IsNormal n s k → EachOwn n s → EachPrimitive (prenex n k).body s
  prenex_own (one_lit l) s k o h = (o.0, h)
  prenex_own (each_of ns) s k o h = parts_own ns s k o h
  prenex_own (some_of ns) s k o h = parts_own ns s k o h
  prenex_own (for_all n) s k o h = prenex_own n s (suc k) o h
  prenex_own (there_is n) s k o h = prenex_own n s (suc k) o h

  pub parts_own : (ns : Normals) (s : Sort) (k : ℕ) → AreNormal ns s k → AllOwn ns s → AllPrimitive (prenex_parts ns k).bodies s
  parts_own no_part s k o h = tt
  parts_own (part n ns) s k o h = (
    renamed_own (prenex n k).body s (left_names (first_places k) k (marks Exists (prenex n k).blocks (prenex_parts ns k).blocks)) (prenex_own n s k o.0 h.0),
    renamed_all_own (prenex_parts ns k).bodies s (right_names (first_places k) k (marks Exists (prenex n k).blocks (prenex_parts ns k).blocks)) (parts_own ns s k o.1 h.1),
  )

pub problem_primitive : (s : Sort) (consts : List VarSort) (body : Term) → IsFormula body s (append_all [] consts) → EachPrimitive (prenex_of (normal_of s consts body)).matrix s
problem_primitive s consts body f = prenex_own (normal_of s consts body) s 0 (goal_fits s consts body f) (normal_own s consts body)
