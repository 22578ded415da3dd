-- The normal form of a goal, or why there is none.
use Rattle.std.specs.Prelude.{ℕ, ◌≡◌, ◌<◌, ◌≤◌, ◌^◌, nat_le, List, [], ◌∷◌, map, Bool, cond, ⊤}
use Rattle.std.specs.Prelude.{Option, None, Some, Result, Ok, Err}
use Rattle.lin_truth.specs.Goal.{Goal}
use Rattle.lin_truth.specs.Term.{exists_of}
use Rattle.lin_truth.specs.View.{tree_of}
use Rattle.lin_form.specs.declared.FormFault.{FormFault}
use Rattle.lin_form.specs.declared.FormFault.TheVariants as faults
use Rattle.lin_form.specs.Kept.{within}
use Rattle.norm_form.specs.declared.count.Rate.{Rate}
use Rattle.norm_form.specs.declared.normal.LevelForm.{LevelForm as Built}
use Rattle.norm_form.specs.declared.numbered.Normal.{Normal as Written, fold-Normal}
use Rattle.norm_form.specs.declared.numbered.Normal.TheOpen.{Normal-F}
use Rattle.norm_form.specs.Cap.{numbers, capped}
use Rattle.norm_form.specs.Load.{weigh, load}
use Rattle.norm_form.specs.Norm.{normal_of}
use Rattle.norm_form.specs.Normal.{Normal}
use Rattle.norm_form.specs.Numbered.{Numbered, n_lit, n_and, n_or, n_forall, n_exists, Numbereds, n_none, n_more, numbered}
use Rattle.norm_form.specs.View.{shape_of}

-- ---- the numbered form that a value of `src/` stands for

abbrev pub numbereds_of : List Numbered → Numbereds
numbereds_of [] = n_none
numbereds_of (n ∷ ns) = n_more n (numbereds_of ns)

-- one level, with each part already seen
abbrev pub normal_step : Normal-F Numbered → Numbered
normal_step (Normal-F.Lit l) = n_lit l
normal_step (Normal-F.And ns) = n_and (numbereds_of ns)
normal_step (Normal-F.Or ns) = n_or (numbereds_of ns)
normal_step (Normal-F.Forall i n) = n_forall i n
normal_step (Normal-F.Exists i n) = n_exists i n

abbrev pub normal_tree : Written → Numbered
normal_tree = fold-Normal Numbered normal_step

-- each part's form
abbrev pub normal_trees : List Written → Numbereds
normal_trees ns = numbereds_of (map normal_tree ns)

-- ---- limits

abbrev pub node_limit : ℕ
node_limit = 2 ^ 20

abbrev pub variable_limit : ℕ
variable_limit = 2 ^ 10

abbrev pub node_rate : Rate
node_rate = record { node = 1; binder = 0 }

abbrev pub binder_rate : Rate
binder_rate = record { node = 0; binder = 1 }

-- ---- the normal form of a goal

-- of a normal form, and of all numbers formed on the way to it: Size, then Variables, then Number
abbrev pub numbered_by : Normal → Bool → Result Numbered FormFault
numbered_by n fits =
    cond (nat_le (weigh n node_rate) node_limit)
    (cond (nat_le (weigh n binder_rate) variable_limit) (cond fits (Ok (numbered n 0 [])) (Err faults.Number)) (Err faults.Variables))
    (Err faults.Size)

abbrev pub goal_normal : Goal → Result Numbered FormFault
goal_normal g = numbered_by (normal_of g.sort g.consts (tree_of g.body)) (within (numbers g.sort g.consts (tree_of g.body)))

-- that form, or its first fault; want of memory is free
abbrev pub IsNormalOf : Goal → Result Written FormFault → Type 0
IsNormalOf g (Ok n) = goal_normal g ≡ Ok (normal_tree n)
IsNormalOf g (Err faults.Size) = goal_normal g ≡ Err faults.Size
IsNormalOf g (Err faults.Variables) = goal_normal g ≡ Err faults.Variables
IsNormalOf g (Err faults.Number) = goal_normal g ≡ Err faults.Number
IsNormalOf g (Err faults.Memory) = ⊤

-- ---- the same by levels, counted first and built then

-- its nodes besides the binders, and its binders
abbrev pub nodes_of : Goal → ℕ
nodes_of g = load (exists_of g.consts (tree_of g.body)) node_rate []

abbrev pub variables_of : Goal → ℕ
variables_of g = load (exists_of g.consts (tree_of g.body)) binder_rate []

-- what the counts show: too many nodes, else too many variables, else nothing
abbrev pub IsCounted : ℕ → ℕ → Option FormFault → Type 0
IsCounted nodes variables None = (nodes ≤ node_limit) × (variables ≤ variable_limit)
IsCounted nodes variables (Some faults.Size) = node_limit < nodes
IsCounted nodes variables (Some faults.Variables) = (nodes ≤ node_limit) × (variable_limit < variables)
IsCounted nodes variables (Some faults.Number) = ⊥
IsCounted nodes variables (Some faults.Memory) = ⊥

-- within the limits, the form or a number past the cap; want of memory is free
abbrev pub IsLevelForm : Goal → Result Built FormFault → Type 0
IsLevelForm g (Ok n) = (nodes_of g ≤ node_limit) × (variables_of g ≤ variable_limit) × (capped g.sort g.consts (tree_of g.body) ≡ Some (shape_of n))
IsLevelForm g (Err faults.Size) = node_limit < nodes_of g
IsLevelForm g (Err faults.Variables) = (nodes_of g ≤ node_limit) × (variable_limit < variables_of g)
IsLevelForm g (Err faults.Number) = (nodes_of g ≤ node_limit) × (variables_of g ≤ variable_limit) × (capped g.sort g.consts (tree_of g.body) ≡ None)
IsLevelForm g (Err faults.Memory) = ⊤
