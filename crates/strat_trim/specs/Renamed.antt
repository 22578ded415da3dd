-- A proof whose paths and nodes have other numbers.
use Rattle.std.specs.Prelude.{ℕ, ◌^◌, List, map, get_or, length, ⊤}
use Rattle.std.specs.List.{AllByRecursion}
use Rattle.lin_term.specs.declared.Lit.{Lit}
use Rattle.lin_term.specs.Linear.{Below}
use Rattle.lin_term.specs.Literal.{form_of, rename_lit}
use Rattle.lin_term.specs.Rising.{IsRisingAt}
use Rattle.cube_rules.specs.declared.Step.{Step}
use Rattle.cube_rules.specs.declared.Step.TheVariants.{Path, Def, Part, Cases, Sum, Split, Cube, Least, Learn, False}

-- paths has the new number of each path, nodes that of each node
abbrev pub rename_step : List ℕ → List ℕ → Step → Step
rename_step paths nodes (Path k) = Path (get_or paths k 0)
rename_step paths nodes (Def v i) = Def (get_or nodes v 0) i
rename_step paths nodes (Part f i) = Part f i
rename_step paths nodes (Cases f n) = Cases f n
rename_step paths nodes (Sum p f q h g) = Sum p f q h g
rename_step paths nodes (Split l) = Split (rename_lit nodes l)
rename_step paths nodes (Cube fs) = Cube fs
rename_step paths nodes (Least v n) = Least (get_or nodes v 0) n
rename_step paths nodes (Learn ls) = Learn (map (rename_lit nodes) ls)
rename_step paths nodes (False f) = False f

abbrev pub rename_steps : List ℕ → List ℕ → List Step → List Step
rename_steps paths nodes steps = map (rename_step paths nodes) steps

-- the literal's variables have new numbers, which ascend as they do
abbrev pub HasNames : List ℕ → Lit → Type 0
HasNames nodes l = IsRisingAt nodes (form_of l).terms (2 ^ 20) × Below (length nodes) (form_of l)

-- so have those of each literal that the line writes
abbrev pub StepHasNames : List ℕ → Step → Type 0
StepHasNames nodes (Path k) = ⊤
StepHasNames nodes (Def v i) = ⊤
StepHasNames nodes (Part f i) = ⊤
StepHasNames nodes (Cases f n) = ⊤
StepHasNames nodes (Sum p f q h g) = ⊤
StepHasNames nodes (Split l) = HasNames nodes l
StepHasNames nodes (Cube fs) = ⊤
StepHasNames nodes (Least v n) = ⊤
StepHasNames nodes (Learn ls) = AllByRecursion (HasNames nodes) ls
StepHasNames nodes (False f) = ⊤
