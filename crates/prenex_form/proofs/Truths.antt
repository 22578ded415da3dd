-- A goal is true exactly where its problem is.
use Rattle.std.specs.Prelude.{List, []}
use Rattle.lin_term.specs.declared.Sort.{Sort}
use Rattle.dom_core.specs.Game.{TrueP}
use Rattle.lin_truth.specs.declared.term.VarSort.{VarSort}
use Rattle.lin_truth.specs.Term.{Term, exists_of}
use Rattle.lin_truth.specs.Truth.{True, Same}
use Rattle.lin_truth.specs.Formed.{IsFormula, append_all}
use Rattle.norm_form.specs.Norm.{normal_of}
use Rattle.norm_form.proofs.Fitting.{goal_fits, goal_is_normal}
use Rattle.prenex_form.specs.Prenex.{prenex_of}
use Rattle.prenex_form.proofs.Prenexing.{prenex_is_true, prenex_only_true}

pub goal_is_problem : (s : Sort) (consts : List VarSort) (body : Term) → IsFormula body s (append_all [] consts) → Same (True (exists_of consts body) s []) (TrueP s (prenex_of (normal_of s consts body)))
goal_is_problem s consts body f =
    let o = goal_fits s consts body f in
    let e = goal_is_normal s consts body f in
    (λ h. prenex_is_true (normal_of s consts body) s o (e.0 h), λ h. e.1 (prenex_only_true (normal_of s consts body) s o h))
