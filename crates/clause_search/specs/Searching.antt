-- What each step of the search comes to.
use Rattle.std.specs.Prelude.{ℕ, ◌≡◌, ◌≤◌, Bool, true, false, Option, Some, None, IfSome, List, [], ◌∷◌, ◌++◌, drop, length}
use Rattle.std.specs.List.{AllByRecursion}
use Rattle.lin_term.specs.declared.Sort.{Sort}
use Rattle.lin_term.specs.declared.Lit.{Lit}
use Rattle.dom_core.specs.Game.{Matrix}
use Rattle.dom_core.specs.declared.Matrix.{Matrix as Tree, And}
use Rattle.dom_core.specs.View.{matrices_of}
use Rattle.lose_system.specs.Losing.{Solves}
use Rattle.lose_system.specs.Written.{WrittenSystem, system_of}
use Rattle.cube_rules.specs.declared.Step.{Step}
use Rattle.cube_rules.specs.Lines.{each_child}
use Rattle.proof_rules.specs.Held.{parts_on}
use Rattle.cube_elim.specs.Among.{IsTakenFrom}
use Rattle.cube_elim.specs.Deciding.{IsSolution}
use Rattle.cube_elim.specs.WideCubes.{WideLits}
use Rattle.clause_search.specs.declared.goal.Part.{Part}
use Rattle.clause_search.specs.declared.goal.Goal.{Goal}
use Rattle.clause_search.specs.declared.expand.Progress.{Progress}
use Rattle.clause_search.specs.declared.expand.Progress.TheVariants.{Taken, Fork, Done}
use Rattle.clause_search.specs.declared.found.Found.{Found}
use Rattle.clause_search.specs.declared.found.Found.TheVariants.{Point, Refuted, Wide}
use Rattle.clause_search.specs.Branches.{branches, SomeIs}
use Rattle.clause_search.specs.Taken.{Leads, facts_alone, rules_of, EachThrough, StopsBehind, AreWays, Completes, taken_by, left_of, Stands, IsBehind, IsPart, IsGoal}

-- ---- taking apart

-- from a context with facts F and lines before to the goal and the lines now
pub record Reached (s : Sort) (w : WrittenSystem) (F : List Matrix) (before : List Step) (g : Goal) (now : List Step) : Type 0 where
  pub facts : List Matrix
  pub added : List Step
  pub written : now ≡ before ++ added
  pub behind : IsBehind s w facts g
  pub leads : Leads (rules_of s w) (facts_alone F ∷ []) added (facts_alone facts ∷ [])
  pub stops : StopsBehind s (system_of s w) facts → StopsBehind s (system_of s w) F

-- from each context of the first goal
abbrev pub Reaches : Sort → WrittenSystem → Goal → List Step → Goal → List Step → Type 0
Reaches s w from before g now = (F : List Matrix) → IsBehind s w F from → Reached s w F before g now

abbrev pub with_open : Goal → Part → Goal
with_open g x = record g { waiting = g.waiting ++ x ∷ [] }

-- a conjunction, which the negation makes a disjunction
pub record IsFork (x : Part) : Type 0 where
  pub parts : List Tree
  pub is : x.matrix.now ≡ And parts

abbrev pub ReachesFork : Sort → WrittenSystem → Goal → List Step → Goal → List Step → Part → Type 0
ReachesFork s w from before g now x = Reaches s w from before (with_open g x) now × IsGoal s w g × IsPart s w x × IsFork x

abbrev pub ReachesEnd : Sort → WrittenSystem → Goal → List Step → Goal → List Step → Type 0
ReachesEnd s w from before g now = Reaches s w from before g now × IsGoal s w g × (g.waiting ≡ []) × (length (system_of s w).paths ≤ g.next)

abbrev pub Progresses : Sort → WrittenSystem → Goal → List Step → Goal → List Step → Progress → Type 0
Progresses s w from before g now Taken = Reaches s w from before g now × IsGoal s w g
Progresses s w from before g now (Fork x) = ReachesFork s w from before g now x
Progresses s w from before g now Done = ReachesEnd s w from before g now

-- the next path is taken, or none is left
abbrev pub TakesPath : Sort → WrittenSystem → Goal → List Step → Goal → List Step → Bool → Type 0
TakesPath s w from before g now true = Reaches s w from before g now × IsGoal s w g
TakesPath s w from before g now false = (g ≡ from) × (now ≡ before) × (length (system_of s w).paths ≤ g.next)

-- the disjunction that comes up, or nothing is left
abbrev pub Expands : Sort → WrittenSystem → Goal → List Step → Goal → List Step → Option Part → Type 0
Expands s w from before g now (Some x) = ReachesFork s w from before g now x
Expands s w from before g now None = ReachesEnd s w from before g now

-- ---- how it ends

-- lines were added that close the context, and each branch through its facts stops
pub record Closed (s : Sort) (w : WrittenSystem) (F : List Matrix) (before now : List Step) : Type 0 where
  pub added : List Step
  pub written : now ≡ before ++ added
  pub leads : Leads (rules_of s w) (facts_alone F ∷ []) added []
  pub stops : StopsBehind s (system_of s w) F

-- each branch through the facts stops, and one of all branches has the cube
pub record Widened (s : Sort) (w : WrittenSystem) (F : List Matrix) (cube : List Lit) : Type 0 where
  pub stops : StopsBehind s (system_of s w) F
  pub this : SomeIs (IsTakenFrom cube) (branches (system_of s w))

abbrev pub Finds : {D : Type 0} → Sort → WrittenSystem → Goal → List Step → List Step → Found D → Type 0
Finds {D} s w g before now (Point p) = (F : List Matrix) → IsBehind s w F g → Solves s (system_of s w) p
Finds {D} s w g before now Refuted = (F : List Matrix) → IsBehind s w F g → Closed s w F before now
Finds {D} s w g before now (Wide x) = (F : List Matrix) → IsBehind s w F g → Widened s w F x.lits

-- ---- eliminating

-- the context has so many facts as the goal says, and its literals stand there
pub record HasLits (s : Sort) (w : WrittenSystem) (F : List Matrix) (g : Goal) : Type 0 where
  pub count : length F ≡ g.count
  pub lits : AllByRecursion (Stands s w F) g.lits

-- a cube of literals that is wide: each branch through the facts has it, and it is one of a branch where ways complete what is taken
pub record WidelyEnds (s : Sort) (w : WrittenSystem) (F : List Matrix) (g : Goal) (cube : List Lit) : Type 0 where
  pub stops : StopsBehind s (system_of s w) F
  pub this : (left : List Matrix) (ws : List (List Lit)) → Completes (system_of s w) (taken_by s w g) left → AreWays left ws → SomeIs (IsTakenFrom cube) (branches (system_of s w))

abbrev pub Eliminates : {D : Type 0} → Sort → WrittenSystem → Goal → List Lit → List Step → List Step → Found D → Type 0
Eliminates {D} s w g cube before now (Point p) = IsSolution s (system_of s w).count cube p × (now ≡ before)
Eliminates {D} s w g cube before now Refuted = (F : List Matrix) → HasLits s w F g → Closed s w F before now
Eliminates {D} s w g cube before now (Wide x) = ((F : List Matrix) → HasLits s w F g → WidelyEnds s w F g x.lits) × (now ≡ before)

-- the goal with one more part that waits is at its end, or nothing was written
abbrev pub EndsEarly : {D : Type 0} → Sort → WrittenSystem → Goal → Part → List Step → List Step → Option (Found D) → Type 0
EndsEarly {D} s w g x before now (Some f) = Finds s w (with_open g x) before now f
EndsEarly {D} s w g x before now None = now ≡ before

-- there is a way through what is left
abbrev pub Passes : Sort → WrittenSystem → Goal → Type 0
Passes s w g = (ws : List (List Lit)) × AreWays (left_of s w g) ws

-- ---- splitting

-- the children before the i-th are closed, or wide
pub record SplitAt (s : Sort) (w : WrittenSystem) (F : List Matrix) (x : Part) (parts : List Tree) (before : List Step) (i : ℕ) (now : List Step) (wide : Option WideLits) : Type 0 where
  pub lines : wide ≡ None → (added : List Step) × (now ≡ before ++ added) × Leads (rules_of s w) (facts_alone F ∷ []) added (each_child (facts_alone F) (parts_on s w x.path (matrices_of (drop i parts))))
  pub stops : EachThrough s (system_of s w) F (parts_on s w x.path (matrices_of (drop i parts))) → EachThrough s (system_of s w) F (parts_on s w x.path (matrices_of parts))
  pub this : IfSome wide (λ c. SomeIs (IsTakenFrom c.lits) (branches (system_of s w)))

abbrev pub Splits : Sort → WrittenSystem → Goal → Part → List Tree → List Step → ℕ → List Step → Option WideLits → Type 0
Splits s w g x parts before i now wide = (F : List Matrix) → IsBehind s w F (with_open g x) → SplitAt s w F x parts before i now wide
