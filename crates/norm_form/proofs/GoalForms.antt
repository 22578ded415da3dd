-- What the normal form of a goal is worth.
use Rattle.std.specs.Prelude.{Result, Ok, Err, IfOk, List, []}
use Rattle.std.proofs.Common.{sym, subst}
use Rattle.lin_term.specs.declared.Sort.{Sort}
use Rattle.lin_term.specs.Linear.{origin}
use Rattle.lin_truth.specs.declared.term.VarSort.{VarSort}
use Rattle.lin_truth.specs.Term.{Term, exists_of}
use Rattle.lin_truth.specs.Truth.{Same, True}
use Rattle.lin_truth.specs.Formed.{append_all, IsFormula}
use Rattle.lin_form.specs.declared.FormFault.{FormFault}
use Rattle.norm_form.specs.declared.normal.LevelForm.{LevelForm as Built}
use Rattle.norm_form.specs.Normal.{Normal, IsNormal, TrueN}
use Rattle.norm_form.specs.Cap.{capped}
use Rattle.norm_form.specs.View.{shape_of, IsBuilt}
use Rattle.norm_form.proofs.Capped.{capped_is}
use Rattle.norm_form.proofs.Fitting.{goal_fits, goal_is_normal}

-- its literals are of the sort, with their variables on the path
pub built_fits : (s : Sort) (consts : List VarSort) (body : Term) (r : Result Built FormFault) → IsBuilt (capped s consts body) r → IfOk r (λ n. IsFormula body s (append_all [] consts) → IsNormal (shape_of n) s 0)
built_fits s consts body (Ok n) e = λ f. subst (λ (x : Normal). IsNormal x s 0) (sym (capped_is s consts body (shape_of n) e)) (goal_fits s consts body f)
built_fits s consts body (Err fault) e = tt

-- the goal is true exactly where its form is
pub built_true : (s : Sort) (consts : List VarSort) (body : Term) (r : Result Built FormFault) → IsBuilt (capped s consts body) r → IfOk r (λ n. IsFormula body s (append_all [] consts) → Same (True (exists_of consts body) s []) (TrueN (shape_of n) s origin))
built_true s consts body (Ok n) e = λ f. subst (λ (x : Normal). Same (True (exists_of consts body) s []) (TrueN x s origin)) (sym (capped_is s consts body (shape_of n) e)) (goal_is_normal s consts body f)
built_true s consts body (Err fault) e = tt
