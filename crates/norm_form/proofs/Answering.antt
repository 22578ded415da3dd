-- The form that was counted and built is the goal's.
use Rattle.std.specs.Prelude.{ℕ, zero, suc, ◌≡◌, ◌<◌, ◌≤◌, List, [], ◌∷◌, ◌++◌, length, Bool, true, false, cond, nat_le, Option, None, Some, Result, Ok, Err}
use Rattle.std.proofs.Common.{arith, ap, ap₂, ◌∙◌, sym, subst, refl, append_assoc}
use Rattle.std.proofs.lemmas.List.{append-nil}
use Rattle.std.proofs.lemmas.Bool.{le-leb, lt-leb}
use Rattle.lin_truth.specs.declared.term.VarSort.{VarSort}
use Rattle.lin_truth.specs.declared.term.Term.{Term as Tree}
use Rattle.lin_truth.specs.Formed.{append_all}
use Rattle.lin_truth.specs.Goal.{Goal, IsGoal, IsTrueGoal}
use Rattle.lin_truth.specs.Term.{exists_of}
use Rattle.lin_truth.specs.Truth.{Same}
use Rattle.lin_truth.specs.View.{tree_of}
use Rattle.lin_form.specs.declared.FormFault.{FormFault}
use Rattle.lin_form.specs.declared.FormFault.TheVariants as faults
use Rattle.lin_form.specs.Kept.{within}
use Rattle.norm_form.specs.declared.count.Rate.{Rate}
use Rattle.norm_form.specs.declared.normal.LevelForm.{LevelForm as Built}
use Rattle.norm_form.specs.declared.numbered.Normal.{Normal as Written}
use Rattle.norm_form.specs.Cap.{numbers, capped}
use Rattle.norm_form.specs.Load.{weigh, load}
use Rattle.norm_form.specs.Norm.{normal_of}
use Rattle.norm_form.specs.Normal.{Normal}
use Rattle.norm_form.specs.Numbered.{Numbered, numbered, numbered_of, unnumbered, numbers_in, count_from, binders, CanNumber, TrueNumbered, IsInPreorder}
use Rattle.norm_form.specs.Outcome.{normal_tree, node_limit, variable_limit, node_rate, binder_rate, goal_normal, IsNormalOf, nodes_of, variables_of, IsCounted, IsLevelForm}
use Rattle.norm_form.specs.View.{shape_of, IsBuilt}
use Rattle.norm_form.proofs.Capped.{is_there, capped_is, capped_there}
use Rattle.norm_form.proofs.Fitting.{goal_fits}
use Rattle.norm_form.proofs.Loads.{norm_load}
use Rattle.norm_form.proofs.Numbering.{numbers_are, numbered_same, numbered_is_true}
use Rattle.norm_form.proofs.Preorder.{can_number, binders_are}

-- ---- the counts of the body are the counts under its constants

append_all_is : (vs us : List VarSort) → append_all vs us ≡ vs ++ us
append_all_is vs [] = sym (append-nil vs)
append_all_is vs (u ∷ us) = append_all_is (vs ++ u ∷ []) us ∙ append_assoc vs (u ∷ []) us

pub same_load : (b g : Tree) (r : Rate) (cs ds : List VarSort) → b ≡ g → cs ≡ ds → load (tree_of b) r cs ≡ load (tree_of g) r (append_all [] ds)
same_load b g r cs ds e f = ap₂ (λ (x : Tree) (vs : List VarSort). load (tree_of x) r vs) e (f ∙ sym (append_all_is [] ds))

-- ---- counted and built

-- the fault that the counts show is the goal's
pub counted_stops : (g : Goal) (e : FormFault) → IsCounted (nodes_of g) (variables_of g) (Some e) → IsLevelForm g (Err e)
counted_stops g faults.Size h = h
counted_stops g faults.Variables h = h
counted_stops g faults.Number h = absurd h
counted_stops g faults.Memory h = absurd h

pub counted_goes : (g : Goal) (o : Option Normal) (r : Result Built FormFault) → IsCounted (nodes_of g) (variables_of g) None → capped g.sort g.consts (tree_of g.body) ≡ o → IsBuilt o r → IsLevelForm g r
counted_goes g o (Ok n) h e b = (h.0, h.1, e ∙ b)
counted_goes g o (Err faults.Size) h e b = absurd b
counted_goes g o (Err faults.Variables) h e b = absurd b
counted_goes g o (Err faults.Number) h e b = (h.0, h.1, e ∙ b)
counted_goes g o (Err faults.Memory) h e b = tt

-- ---- the answer

abbrev by_number : Normal → Bool → Result Numbered FormFault
by_number n c = cond c (Ok (numbered n 0 [])) (Err faults.Number)

abbrev by_variables : Normal → Bool → Bool → Result Numbered FormFault
by_variables n b c = cond b (by_number n c) (Err faults.Variables)

abbrev by_size : Normal → Bool → Bool → Bool → Result Numbered FormFault
by_size n a b c = cond a (by_variables n b c) (Err faults.Size)

abbrev form_of : Goal → Normal
form_of g = normal_of g.sort g.consts (tree_of g.body)

abbrev fits : Goal → Bool
fits g = within (numbers g.sort g.consts (tree_of g.body))

nodes_are : (g : Goal) → weigh (form_of g) node_rate ≡ nodes_of g
nodes_are g = norm_load (exists_of g.consts (tree_of g.body)) g.sort true [] 0 node_rate

variables_are : (g : Goal) → weigh (form_of g) binder_rate ≡ variables_of g
variables_are g = norm_load (exists_of g.consts (tree_of g.body)) g.sort true [] 0 binder_rate

is_large : (g : Goal) → node_limit < nodes_of g → nat_le (weigh (form_of g) node_rate) node_limit ≡ false
is_large g h = let e = nodes_are g in lt-leb (weigh (form_of g) node_rate) node_limit (omega arith)

is_small : (g : Goal) → nodes_of g ≤ node_limit → nat_le (weigh (form_of g) node_rate) node_limit ≡ true
is_small g h = let e = nodes_are g in le-leb (weigh (form_of g) node_rate) node_limit (omega arith)

is_many : (g : Goal) → variable_limit < variables_of g → nat_le (weigh (form_of g) binder_rate) variable_limit ≡ false
is_many g h = let e = variables_are g in lt-leb (weigh (form_of g) binder_rate) variable_limit (omega arith)

is_few : (g : Goal) → variables_of g ≤ variable_limit → nat_le (weigh (form_of g) binder_rate) variable_limit ≡ true
is_few g h = let e = variables_are g in le-leb (weigh (form_of g) binder_rate) variable_limit (omega arith)

large_goal : (g : Goal) → node_limit < nodes_of g → goal_normal g ≡ Err faults.Size
large_goal g h = ap (λ (a : Bool). by_size (form_of g) a (nat_le (weigh (form_of g) binder_rate) variable_limit) (fits g)) (is_large g h)

many_goal : (g : Goal) → nodes_of g ≤ node_limit → variable_limit < variables_of g → goal_normal g ≡ Err faults.Variables
many_goal g h k =
    ap₂ (λ (a b : Bool). by_size (form_of g) a b (fits g)) (is_small g h) (is_many g k)

built_goal : (g : Goal) (c : Bool) → nodes_of g ≤ node_limit → variables_of g ≤ variable_limit → fits g ≡ c → goal_normal g ≡ by_number (form_of g) c
built_goal g c h k e =
    ap₂ (λ (a b : Bool). by_size (form_of g) a b (fits g)) (is_small g h) (is_few g k) ∙ ap (λ (d : Bool). by_number (form_of g) d) e

pub level_stops : (g : Goal) (e : FormFault) → IsLevelForm g (Err e) → IsNormalOf g (Err e)
level_stops g faults.Size h = large_goal g h
level_stops g faults.Variables h = many_goal g h.0 h.1
level_stops g faults.Number h = built_goal g false h.0 h.1 (sym (capped_there g.sort g.consts (tree_of g.body)) ∙ ap is_there h.2)
level_stops g faults.Memory h = h

level_is : (g : Goal) (n : Built) → IsLevelForm g (Ok n) → shape_of n ≡ form_of g
level_is g n h = capped_is g.sort g.consts (tree_of g.body) (shape_of n) h.2

pub level_numbers : (g : Goal) (n : Built) → IsGoal g → IsLevelForm g (Ok n) → CanNumber (shape_of n) 0 []
level_numbers g n k h =
    let e = binders_are (form_of g) in
    let f = variables_are g in
    let l = h.1 in
    subst (λ (m : Normal). CanNumber m 0 []) (sym (level_is g n h)) (can_number (form_of g) g.sort 0 [] tt tt (omega arith) (goal_fits g.sort g.consts (tree_of g.body) k.0))

-- the numbered form of the goal's form
tree_is : (g : Goal) (n : Built) (w : Written) → IsLevelForm g (Ok n) → normal_tree w ≡ numbered (shape_of n) 0 [] → normal_tree w ≡ numbered_of g.sort g.consts (tree_of g.body)
tree_is g n w h e = e ∙ ap (λ (m : Normal). numbered m 0 []) (level_is g n h)

abbrev done : Numbered → Result Numbered FormFault
done t = Ok t

pub answer_is : (g : Goal) (n : Built) (w : Written) → IsLevelForm g (Ok n) → normal_tree w ≡ numbered (shape_of n) 0 [] → IsNormalOf g (Ok w)
answer_is g n w h e =
    built_goal g true h.0 h.1 (sym (capped_there g.sort g.consts (tree_of g.body)) ∙ ap is_there h.2)
    ∙ ap done (sym (tree_is g n w h e))

pub answer_true : (g : Goal) (n : Built) (w : Written) → IsGoal g → IsLevelForm g (Ok n) → normal_tree w ≡ numbered (shape_of n) 0 [] → Same (IsTrueGoal g) (TrueNumbered (normal_tree w) g.sort)
answer_true g n w k h e =
    subst (λ (t : Numbered). Same (IsTrueGoal g) (TrueNumbered t g.sort)) (sym (tree_is g n w h e)) (numbered_is_true g.sort g.consts (tree_of g.body) k.0)

pub answer_levels : (g : Goal) (n : Built) (w : Written) → IsGoal g → IsLevelForm g (Ok n) → normal_tree w ≡ numbered (shape_of n) 0 [] → unnumbered (normal_tree w) [] ≡ form_of g
answer_levels g n w k h e =
    ap (λ (t : Numbered). unnumbered t []) (tree_is g n w h e) ∙ numbered_same g.sort g.consts (tree_of g.body) k.0

count_length : (n k : ℕ) → length (count_from n k) ≡ k
count_length n zero = refl
count_length n (suc k) = let h = count_length (suc n) k in omega arith

in_order : (t : Numbered) (k : ℕ) → numbers_in t ≡ count_from 0 k → IsInPreorder t
in_order t k e = e ∙ ap (count_from 0) (sym (ap length e ∙ count_length 0 k))

pub answer_order : (n : Normal) (w : Written) → normal_tree w ≡ numbered n 0 [] → IsInPreorder (normal_tree w)
answer_order n w e = in_order (normal_tree w) (binders n) (ap numbers_in e ∙ numbers_are n 0 [])
