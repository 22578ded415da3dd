-- Goals that are split, one below the other, and where the search stands.
use Rattle.std.specs.Prelude.{◌≡◌, ◌<◌, List, [], ◌∷◌, ◌++◌, length, get_or, ⊤}
use Rattle.lin_term.specs.declared.Sort.{Sort}
use Rattle.dom_core.specs.Game.{Matrix}
use Rattle.dom_core.specs.declared.Matrix.{Matrix as Tree, And}
use Rattle.dom_core.specs.View.{matrix_of}
use Rattle.lose_system.specs.Losing.{Solves}
use Rattle.lose_system.specs.Written.{WrittenSystem, system_of}
use Rattle.cube_rules.specs.declared.Step.{Step}
use Rattle.proof_rules.specs.Held.{part_on}
use Rattle.clause_search.specs.declared.goal.Part.{Part}
use Rattle.clause_search.specs.declared.goal.Goal.{Goal}
use Rattle.clause_search.specs.declared.found.Found.{Found}
use Rattle.clause_search.specs.declared.found.Found.TheVariants.{Point, Refuted, Wide}
use Rattle.clause_search.specs.declared.split.Split.{Split}
use Rattle.clause_search.specs.declared.split.State.{State}
use Rattle.clause_search.specs.declared.split.State.TheVariants.{Open, Ended, Done}
use Rattle.clause_search.specs.Taken.{IsBehind, IsPart, IsGoal}
use Rattle.clause_search.specs.Searching.{with_open, Closed, Widened, Finds, Splits}

-- the children before the place are done
pub record IsSplit (D : Type 0) (s : Sort) (w : WrittenSystem) (x : Split D) (before now : List Step) : Type 0 where
  pub kept : IsGoal s w x.goal
  pub part : IsPart s w x.part
  pub is : x.part.matrix.now ≡ And x.parts.now
  pub done : Splits s w x.goal x.part x.parts.now before x.place now x.wide

-- the child at the place is searched
pub record Waits (D : Type 0) (s : Sort) (w : WrittenSystem) (x : Split D) (before now : List Step) (t : Tree) : Type 0 where
  pub halved : IsSplit D s w x before now
  pub left : x.place < length x.parts.now
  pub child : t ≡ get_or x.parts.now x.place t

-- the answer of a child, behind the facts of the goal that is split
abbrev pub FindsChild : {D : Type 0} → Sort → WrittenSystem → Split D → Matrix → List Step → List Step → Found D → Type 0
FindsChild {D} s w x m before now (Point p) = (F : List Matrix) → IsBehind s w F (with_open x.goal x.part) → Solves s (system_of s w) p
FindsChild {D} s w x m before now Refuted = (F : List Matrix) → IsBehind s w F (with_open x.goal x.part) → Closed s w (F ++ m ∷ []) before now
FindsChild {D} s w x m before now (Wide y) = (F : List Matrix) → IsBehind s w F (with_open x.goal x.part) → Widened s w (F ++ m ∷ []) y.lits

abbrev pub child_of : {D : Type 0} → Sort → WrittenSystem → Split D → Tree → Matrix
child_of {D} s w x t = part_on s w x.part.path (matrix_of t)

-- what the answer of the goal comes to, the last split goal first: one of the root in the end
abbrev pub Owes : {D : Type 0} → Sort → WrittenSystem → Goal → List Step → List (Split D) → Goal → List Step → Type 0
Owes {D} s w root start [] g now = (f : Found D) (later : List Step) → Finds s w g now later f → Finds s w root start later f
Owes {D} s w root start (x ∷ xs) g now =
    (before : List Step) × (between : List Step) × (t : Tree) × Waits D s w x before between t × ((f : Found D) (later : List Step) → Finds s w g now later f → FindsChild s w x (child_of s w x t) between later f) × Owes s w root start xs (with_open x.goal x.part) before

-- an answer of the last split goal's child, or of the root
abbrev pub Ends : {D : Type 0} → Sort → WrittenSystem → Goal → List Step → List (Split D) → List Step → Found D → Type 0
Ends {D} s w root start [] now f = Finds s w root start now f
Ends {D} s w root start (x ∷ xs) now f =
    (before : List Step) × (between : List Step) × (t : Tree) × Waits D s w x before between t × FindsChild s w x (child_of s w x t) between now f × Owes s w root start xs (with_open x.goal x.part) before

abbrev pub Stands_at : {D : Type 0} → Sort → WrittenSystem → Goal → List Step → List (Split D) → List Step → State D → Type 0
Stands_at {D} s w root start xs now (Open g) = IsGoal s w g × Owes s w root start xs g now
Stands_at {D} s w root start xs now (Ended f) = Ends s w root start xs now f
Stands_at {D} s w root start xs now (Done f) = Finds s w root start now f

-- the last split goal has a child at its place
abbrev pub LastLeft : {D : Type 0} → List (Split D) → Type 0
LastLeft {D} [] = ⊤
LastLeft {D} (x ∷ xs) = x.place < length x.parts.now

-- what the search needs to go on
abbrev pub Runs : {D : Type 0} → Sort → WrittenSystem → List (Split D) → State D → Type 0
Runs {D} s w xs (Open g) = IsGoal s w g
Runs {D} s w xs (Ended f) = LastLeft xs
Runs {D} s w xs (Done f) = ⊤

-- ---- what each step of the search comes to, whatever the root is

-- a goal is split
pub record BegunSplit (D : Type 0) (s : Sort) (g : Goal) (x : Part) (before now : List Step) (h : Split D) : Type 0 where
  pub goal : h.goal ≡ g
  pub part : h.part ≡ x
  pub split : (w : WrittenSystem) → IsGoal s w g → IsPart s w x → IsSplit D s w h before now

abbrev pub Begins : {D : Type 0} → Sort → Goal → Part → List Step → List Step → Split D → Type 0
Begins {D} s g x before now h = BegunSplit D s g x before now h

-- the next child is searched, or all are done
abbrev pub Advances : {D : Type 0} → Sort → List (Split D) → Split D → List (Split D) → State D → Type 0
Advances {D} s xs x ys state = (w : WrittenSystem) (root : Goal) (start before now : List Step) → IsSplit D s w x before now → Owes s w root start xs (with_open x.goal x.part) before → Stands_at s w root start ys now state

-- a goal is searched until it is split or has an answer
abbrev pub Opens : {D : Type 0} → Sort → WrittenSystem → List (Split D) → Goal → List Step → List (Split D) → List Step → State D → Type 0
Opens {D} s w xs g before ys now state = (root : Goal) (start : List Step) → Owes s w root start xs g before → Stands_at s w root start ys now state

-- the last split goal takes the answer of its child
abbrev pub Takes : {D : Type 0} → Sort → List (Split D) → Split D → Found D → List (Split D) → State D → Type 0
Takes {D} s xs x f ys state = (w : WrittenSystem) (root : Goal) (start now : List Step) → Ends s w root start (x ∷ xs) now f → Stands_at s w root start ys now state

-- its answer where all children are done
abbrev pub Finishes : {D : Type 0} → Sort → Split D → Found D → Type 0
Finishes {D} s x f = (w : WrittenSystem) (root : Goal) (start : List Step) (xs : List (Split D)) (before now : List Step) → IsSplit D s w x before now → Owes s w root start xs (with_open x.goal x.part) before → Ends s w root start xs now f

-- one turn
abbrev pub Turns : {D : Type 0} → Sort → WrittenSystem → List (Split D) → List Step → State D → List (Split D) → List Step → State D → Type 0
Turns {D} s w xs before from ys now state = (root : Goal) (start : List Step) → Stands_at s w root start xs before from → Stands_at s w root start ys now state
