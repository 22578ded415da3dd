-- A goal's problem from its normal form.
use Rattle.std.specs.Prelude.{ℕ, ◌+◌, ◌≡◌, ◌<◌, ◌≤◌, List, [], ◌∷◌, ◌++◌, length, Bool, true, cond, nat_le, Option, Some, Err}
use Rattle.std.proofs.Common.{arith, ap, ap₂, ◌∙◌, sym, subst, refl, append_assoc}
use Rattle.std.proofs.lemmas.List.{append-nil}
use Rattle.std.proofs.lemmas.Bool.{le-leb, lt-leb}
use Rattle.lin_term.specs.declared.Sort.{Sort}
use Rattle.dom_core.specs.declared.Matrix.{Matrix as Tree}
use Rattle.dom_core.specs.declared.Quant.{Quant}
use Rattle.dom_core.specs.declared.Quant.TheVariants.{Exists}
use Rattle.dom_core.specs.Game.{Matrix, IsMatrix, Problem, TrueP}
use Rattle.dom_core.specs.View.{matrix_of}
use Rattle.dom_core.specs.Problem.{problem_of, HasNegations, IsProblem, IsTrueProblem}
use Rattle.lin_form.specs.declared.FormFault.{FormFault}
use Rattle.lin_form.specs.declared.FormFault.TheVariants as form_faults
use Rattle.lin_form.specs.Kept.{within}
use Rattle.lin_truth.specs.declared.term.VarSort.{VarSort}
use Rattle.lin_truth.specs.Term.{Term, exists_of}
use Rattle.lin_truth.specs.Goal.{Goal}
use Rattle.lin_truth.specs.View.{tree_of}
use Rattle.lin_truth.specs.Truth.{True, Same}
use Rattle.lin_truth.specs.Formed.{IsFormula, append_all}
use Rattle.norm_form.specs.Normal.{Normal, IsNormal}
use Rattle.norm_form.specs.Load.{weigh, load}
use Rattle.norm_form.specs.Cap.{numbers, capped}
use Rattle.norm_form.proofs.Capped.{is_there, capped_is, capped_there}
use Rattle.norm_form.proofs.Fitting.{goal_fits}
use Rattle.norm_form.proofs.Loads.{norm_load}
use Rattle.norm_form.proofs.Own.{EachOwn, normal_own}
use Rattle.norm_form.proofs.Within.{EachWithin, normal_within}
use Rattle.prenex_form.specs.Prenex.{prenex, prenex_of}
use Rattle.prenex_form.specs.Pass.{starts, sum_of, EachTidy}
use Rattle.norm_form.specs.Outcome.{node_limit, variable_limit, node_rate, binder_rate, IsLevelForm}
use Rattle.prenex_form.specs.Whole.{FormResult, a_problem, too_large, too_many_variables, problem_if, form_of_goal}
use Rattle.prenex_form.specs.Outcome.{IsFault, written}
use Rattle.prenex_form.proofs.Counted.{form_is_counted, blocks_are}
use Rattle.prenex_form.proofs.Fairness.{EachFair, normal_fair, negated_within}
use Rattle.prenex_form.proofs.Handing.{whole_put}
use Rattle.prenex_form.proofs.Keeping.{put_kept}
use Rattle.prenex_form.proofs.Lengths.{quants_length}
use Rattle.prenex_form.proofs.Prenexing.{size, prenex_fits}
use Rattle.prenex_form.proofs.Readying.{starting_put}
use Rattle.prenex_form.proofs.Truths.{goal_is_problem}

-- ---- by the counts

abbrev pub goal_load : List VarSort → Term → ℕ
goal_load consts body = load (exists_of consts body) node_rate []

abbrev pub goal_binders : List VarSort → Term → ℕ
goal_binders consts body = load (exists_of consts body) binder_rate []

large_form : (s : Sort) (consts : List VarSort) (body : Term) → node_limit < goal_load consts body → form_of_goal s consts body ≡ too_large
large_form s consts body h =
    form_is_counted s consts body
    ∙ ap (λ (b : Bool). cond b (cond (nat_le (goal_binders consts body) variable_limit) (problem_if (capped s consts body)) too_many_variables) too_large) (lt-leb (goal_load consts body) node_limit h)

many_form : (s : Sort) (consts : List VarSort) (body : Term) → goal_load consts body ≤ node_limit → form_of_goal s consts body ≡ cond (nat_le (goal_binders consts body) variable_limit) (problem_if (capped s consts body)) too_many_variables
many_form s consts body h =
    form_is_counted s consts body
    ∙ ap (λ (b : Bool). cond b (cond (nat_le (goal_binders consts body) variable_limit) (problem_if (capped s consts body)) too_many_variables) too_large) (le-leb (goal_load consts body) node_limit h)

wide_form : (s : Sort) (consts : List VarSort) (body : Term) → goal_load consts body ≤ node_limit → variable_limit < goal_binders consts body → form_of_goal s consts body ≡ too_many_variables
wide_form s consts body h k =
    many_form s consts body h ∙ ap (λ (b : Bool). cond b (problem_if (capped s consts body)) too_many_variables) (lt-leb (goal_binders consts body) variable_limit k)

pub built_form : (s : Sort) (consts : List VarSort) (body : Term) → goal_load consts body ≤ node_limit → goal_binders consts body ≤ variable_limit → form_of_goal s consts body ≡ problem_if (capped s consts body)
built_form s consts body h k =
    many_form s consts body h ∙ ap (λ (b : Bool). cond b (problem_if (capped s consts body)) too_many_variables) (le-leb (goal_binders consts body) variable_limit k)

-- without a form there is no problem
pub level_fault : (g : Goal) (e : FormFault) → IsLevelForm g (Err e) → IsFault (form_of_goal g.sort g.consts (tree_of g.body)) e
level_fault g form_faults.Size h = large_form g.sort g.consts (tree_of g.body) h
level_fault g form_faults.Variables h = wide_form g.sort g.consts (tree_of g.body) h.0 h.1
level_fault g form_faults.Number h = built_form g.sort g.consts (tree_of g.body) h.0 h.1 ∙ ap problem_if h.2
level_fault g form_faults.Memory h = tt

-- ---- what is known of the normal form

pub form_closed : (s : Sort) (consts : List VarSort) (body : Term) (n : Normal) → IsFormula body s (append_all [] consts) → capped s consts body ≡ Some n → IsNormal n s 0
form_closed s consts body n f h = subst (λ (m : Normal). IsNormal m s 0) (sym (capped_is s consts body n h)) (goal_fits s consts body f)

pub form_few : (s : Sort) (consts : List VarSort) (body : Term) (n : Normal) → capped s consts body ≡ Some n → goal_binders consts body ≤ variable_limit → weigh n binder_rate ≤ 1024
form_few s consts body n h k =
    let e : weigh n binder_rate ≡ goal_binders consts body = ap (λ (m : Normal). weigh m binder_rate) (capped_is s consts body n h) ∙ norm_load (exists_of consts body) s true [] 0 binder_rate in omega arith

form_kept : (s : Sort) (consts : List VarSort) (body : Term) (n : Normal) → IsFormula body s (append_all [] consts) → capped s consts body ≡ Some n → weigh n binder_rate ≤ 1024 → EachTidy n → HasNegations (prenex n 0).body s
form_kept s consts body n f h k a =
    let e = capped_is s consts body n h in
    let o : IsNormal n s 0 = form_closed s consts body n f h in
    let w : within (numbers s consts body) ≡ true = sym (capped_there s consts body) ∙ ap is_there h in
    let own = subst (λ (m : Normal). EachOwn m s) (sym e) (normal_own s consts body) in
    let inside = subst (λ (m : Normal). EachWithin m) (sym e) (normal_within s consts body w) in
    let fair = subst (λ (m : Normal). EachFair m s) (sym e) (normal_fair s consts body w) in
    let b = blocks_are n 0 in
    subst (λ (m : Matrix). HasNegations m s) (whole_put n s o)
    (put_kept n s 0 0 (starts 0 (prenex n 0).blocks) [] refl (starting_put n s o (omega arith)) o own a (negated_within n s 0 o own a inside fair))

-- ---- the problem that is written

same_problem : (qs : List Quant) (m : Tree) (n : Normal) → qs ≡ (prenex_of n).prefix → matrix_of m ≡ (prenex_of n).matrix → prenex_of n ≡ problem_of (written qs m)
same_problem qs m n e f = ap₂ (λ (rs : List Quant) (k : Matrix). record { prefix = rs; matrix = k }) (sym e) (sym f)

pub written_form : (r : FormResult) (x : Option Normal) (n : Normal) (qs : List Quant) (m : Tree) → r ≡ problem_if x → x ≡ Some n → qs ≡ (prenex_of n).prefix → matrix_of m ≡ (prenex_of n).matrix → r ≡ a_problem (problem_of (written qs m))
written_form r x n qs m h k e f = h ∙ ap problem_if k ∙ ap a_problem (same_problem qs m n e f)

pub written_kept : (s : Sort) (consts : List VarSort) (body : Term) (n : Normal) (qs : List Quant) (m : Tree) → IsFormula body s (append_all [] consts) → capped s consts body ≡ Some n → weigh n binder_rate ≤ 1024 → EachTidy n → qs ≡ (prenex_of n).prefix → matrix_of m ≡ (prenex_of n).matrix → IsProblem s (written qs m)
written_kept s consts body n qs m f h k a e g =
    let o : IsNormal n s 0 = form_closed s consts body n f h in
    let b = blocks_are n 0 in
    let l : length qs ≡ sum_of (prenex n 0).blocks = ap length e ∙ quants_length Exists (prenex n 0).blocks in
    let z : 0 + size (prenex n 0).blocks ≡ length qs = (let y = ap length e in omega arith) in (
      omega arith,
      subst (λ (k : Matrix). IsMatrix k s (length qs)) (sym g) (subst (λ (i : ℕ). IsMatrix (prenex n 0).body s i) z (prenex_fits n s 0 o)),
      subst (λ (k : Matrix). HasNegations k s) (sym g) (form_kept s consts body n f h k a),
    )

pub written_true : (s : Sort) (consts : List VarSort) (body : Term) (n : Normal) (qs : List Quant) (m : Tree) → IsFormula body s (append_all [] consts) → capped s consts body ≡ Some n → qs ≡ (prenex_of n).prefix → matrix_of m ≡ (prenex_of n).matrix → Same (True (exists_of consts body) s []) (IsTrueProblem s (written qs m))
written_true s consts body n qs m f h e g =
    subst (λ (P : Problem). Same (True (exists_of consts body) s []) (TrueP s P)) (ap prenex_of (sym (capped_is s consts body n h)) ∙ same_problem qs m n e g)
    (goal_is_problem s consts body f)
