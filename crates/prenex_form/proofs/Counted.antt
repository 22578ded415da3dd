-- Counting first gives the form; where there is a problem, its truth is the goal's.
use Rattle.std.specs.Prelude.{ℕ, zero, suc, ◌+◌, ◌≡◌, ⊤, nat_le, List, [], ◌∷◌, length, Bool, true, false, cond}
use Rattle.std.proofs.Common.{arith, ap, ap₂, ◌∙◌, sym, subst, refl}
use Rattle.lin_term.specs.declared.Sort.{Sort}
use Rattle.dom_core.specs.Game.{Matrix, lit, all, some, Matrices, none, more, rename_matrix, rename_matrices, Problem, TrueP}
use Rattle.dom_core.specs.declared.Quant.TheVariants.{Exists}
use Rattle.norm_form.specs.Normal.{Normal, one_lit, each_of, some_of, for_all, there_is, Normals, no_part, part}
use Rattle.lin_truth.specs.declared.term.VarSort.{VarSort}
use Rattle.lin_truth.specs.Term.{Term, exists_of}
use Rattle.lin_truth.specs.Truth.{True, Same}
use Rattle.lin_truth.specs.Formed.{IsFormula, append_all}
use Rattle.norm_form.specs.Norm.{normal_of}
use Rattle.prenex_form.specs.Prenex.{quants, front_exists, front_forall, marks, left_names, right_names, first_places, prenex, prenex_parts, prenex_of}
use Rattle.norm_form.specs.Load.{weigh, weigh_all, load}
use Rattle.lin_form.specs.Kept.{within}
use Rattle.norm_form.specs.Cap.{numbers, capped, keep}
use Rattle.norm_form.specs.Outcome.{node_limit, variable_limit, node_rate, binder_rate}
use Rattle.prenex_form.specs.Whole.{matrix_nodes, matrices_nodes, FormResult, a_problem, too_large, too_many_variables, number_past_cap, form_of_goal, problem_if, form_counted}
use Rattle.prenex_form.specs.Pass.{sum_of}
use Rattle.prenex_form.proofs.Lengths.{quants_length, merge_sum}
use Rattle.prenex_form.proofs.Truths.{goal_is_problem}
use Rattle.norm_form.proofs.Loads.{norm_load}
use Rattle.norm_form.proofs.Capped.{capped_whole}

-- ---- nodes of the matrix

mutual
  renamed_nodes : (m : Matrix) (names : List ℕ) → matrix_nodes (rename_matrix m names) ≡ matrix_nodes m
  renamed_nodes (lit l) names = refl
  renamed_nodes (all ms) names = ap suc (renamed_all ms names)
  renamed_nodes (some ms) names = ap suc (renamed_all ms names)

  renamed_all : (ms : Matrices) (names : List ℕ) → matrices_nodes (rename_matrices ms names) ≡ matrices_nodes ms
  renamed_all none names = refl
  renamed_all (more m ms) names = ap₂ (λ (a b : ℕ). a + b) (renamed_nodes m names) (renamed_all ms names)

mutual
  pub nodes_are : (n : Normal) (k : ℕ) → matrix_nodes (prenex n k).body ≡ weigh n node_rate
  nodes_are (one_lit l) k = refl
  nodes_are (each_of ns) k = let h = all_nodes_are ns k in omega arith
  nodes_are (some_of ns) k = let h = all_nodes_are ns k in omega arith
  nodes_are (for_all n) k = let h = nodes_are n (suc k) in omega arith
  nodes_are (there_is n) k = let h = nodes_are n (suc k) in omega arith

  pub all_nodes_are : (ns : Normals) (k : ℕ) → matrices_nodes (prenex_parts ns k).bodies ≡ weigh_all ns node_rate
  all_nodes_are no_part k = refl
  all_nodes_are (part n ns) k =
      ap₂ (λ (a b : ℕ). a + b)
      (renamed_nodes (prenex n k).body (left_names (first_places k) k (marks Exists (prenex n k).blocks (prenex_parts ns k).blocks)) ∙ nodes_are n k)
      (renamed_all (prenex_parts ns k).bodies (right_names (first_places k) k (marks Exists (prenex n k).blocks (prenex_parts ns k).blocks)) ∙ all_nodes_are ns k)

-- ---- variables of the prefix

front_exists_sum : (bs : List ℕ) → sum_of (front_exists bs) ≡ suc (sum_of bs)
front_exists_sum [] = refl
front_exists_sum (b ∷ bs) = omega arith

front_forall_sum : (bs : List ℕ) → sum_of (front_forall bs) ≡ suc (sum_of bs)
front_forall_sum [] = refl
front_forall_sum (zero ∷ []) = refl
front_forall_sum (zero ∷ c ∷ bs) = omega arith
front_forall_sum (suc b ∷ bs) = omega arith

mutual
  pub blocks_are : (n : Normal) (k : ℕ) → sum_of (prenex n k).blocks ≡ weigh n binder_rate
  blocks_are (one_lit l) k = refl
  blocks_are (each_of ns) k = let h = all_blocks_are ns k in omega arith
  blocks_are (some_of ns) k = let h = all_blocks_are ns k in omega arith
  blocks_are (for_all n) k = front_forall_sum (prenex n (suc k)).blocks ∙ (let h = blocks_are n (suc k) in omega arith)
  blocks_are (there_is n) k = front_exists_sum (prenex n (suc k)).blocks ∙ (let h = blocks_are n (suc k) in omega arith)

  pub all_blocks_are : (ns : Normals) (k : ℕ) → sum_of (prenex_parts ns k).blocks ≡ weigh_all ns binder_rate
  all_blocks_are no_part k = refl
  all_blocks_are (part n ns) k =
      merge_sum (prenex n k).blocks (prenex_parts ns k).blocks ∙ ap₂ (λ (a b : ℕ). a + b) (blocks_are n k) (all_blocks_are ns k)

-- ---- the form

kept_problem : (b : Bool) (n : Normal) → cond b (a_problem (prenex_of n)) number_past_cap ≡ problem_if (keep b n)
kept_problem true n = refl
kept_problem false n = refl

abbrev by_three : ℕ → ℕ → FormResult → FormResult
by_three a b r = cond (nat_le a node_limit) (cond (nat_le b variable_limit) r too_many_variables) too_large

pub form_is_counted : (s : Sort) (consts : List VarSort) (body : Term) → form_of_goal s consts body ≡ form_counted s consts body
form_is_counted s consts body =
    let n : Normal = normal_of s consts body in
    let a : matrix_nodes (prenex n 0).body ≡ load (exists_of consts body) node_rate [] = nodes_are n 0 ∙ norm_load (exists_of consts body) s true [] 0 node_rate in
    let b : length (quants Exists (prenex n 0).blocks) ≡ load (exists_of consts body) binder_rate [] =
    quants_length Exists (prenex n 0).blocks ∙ (blocks_are n 0 ∙ norm_load (exists_of consts body) s true [] 0 binder_rate) in
    let c : cond (within (numbers s consts body)) (a_problem (prenex_of n)) number_past_cap ≡ problem_if (capped s consts body) =
    kept_problem (within (numbers s consts body)) n ∙ ap problem_if (sym (capped_whole s consts body)) in
    ap (λ (x : ℕ). by_three x (length (quants Exists (prenex n 0).blocks)) (cond (within (numbers s consts body)) (a_problem (prenex_of n)) number_past_cap)) a
    ∙ (ap (λ (x : ℕ). by_three (load (exists_of consts body) node_rate []) x (cond (within (numbers s consts body)) (a_problem (prenex_of n)) number_past_cap)) b
    ∙ ap (λ (x : FormResult). by_three (load (exists_of consts body) node_rate []) (load (exists_of consts body) binder_rate []) x) c)

-- ---- the problem that is there is the prenex form

abbrev IsThat : FormResult → Problem → Type 0
IsThat (a_problem P) Q = P ≡ Q
IsThat too_large Q = ⊤
IsThat too_many_variables Q = ⊤
IsThat number_past_cap Q = ⊤

third : (c : Bool) (P : Problem) → IsThat (cond c (a_problem P) number_past_cap) P
third true P = refl
third false P = tt

second : (b c : Bool) (P : Problem) → IsThat (cond b (cond c (a_problem P) number_past_cap) too_many_variables) P
second true c P = third c P
second false c P = tt

first_of : (a b c : Bool) (P : Problem) → IsThat (cond a (cond b (cond c (a_problem P) number_past_cap) too_many_variables) too_large) P
first_of true b c P = second b c P
first_of false b c P = tt

pub form_problem : (s : Sort) (consts : List VarSort) (body : Term) (P : Problem) → form_of_goal s consts body ≡ a_problem P → P ≡ prenex_of (normal_of s consts body)
form_problem s consts body P e =
    let Q : Problem = prenex_of (normal_of s consts body) in
    subst (λ (r : FormResult). IsThat r Q) e (first_of (nat_le (matrix_nodes Q.matrix) node_limit) (nat_le (length Q.prefix) variable_limit) (within (numbers s consts body)) Q)

-- where there is a problem, the goal is true exactly where it is
pub form_is_true : (s : Sort) (consts : List VarSort) (body : Term) (P : Problem) → IsFormula body s (append_all [] consts) → form_of_goal s consts body ≡ a_problem P → Same (True (exists_of consts body) s []) (TrueP s P)
form_is_true s consts body P f e =
    subst (λ (Q : Problem). Same (True (exists_of consts body) s []) (TrueP s Q)) (sym (form_problem s consts body P e)) (goal_is_problem s consts body f)
