-- What a search has taken of a losing system, and what is left of it.
use Rattle.std.specs.Prelude.{ℕ, ◌≡◌, ◌≤◌, ◌⊎◌, Some, slice_get, false, List, [], ◌∷◌, ◌++◌, map, drop, length, reverse, ⊤}
use Rattle.std.specs.List.{AllByRecursion}
use Rattle.lin_term.specs.declared.Sort.{Sort}
use Rattle.lin_term.specs.declared.Lit.{Lit}
use Rattle.dom_core.specs.Game.{Matrix, lit, all, some, Matrices, none, more, IsMatrix}
use Rattle.dom_core.specs.Problem.{HasNegations}
use Rattle.dom_core.specs.View.{matrix_of}
use Rattle.lose_system.specs.Losing.{System}
use Rattle.lose_system.specs.Written.{WrittenSystem, system_of}
use Rattle.cube_rules.specs.declared.Step.{Step}
use Rattle.cube_rules.specs.Context.{Context}
use Rattle.cube_rules.specs.Closing.{Rules}
use Rattle.proof_rules.specs.Rules.{apply}
use Rattle.proof_rules.specs.Held.{part_on, IsPath}
use Rattle.proof_rules.specs.Stepping.{after_lines}
use Rattle.cube_elim.specs.Among.{IsAmong}
use Rattle.clause_search.specs.Branches.{branches, ways, definition_literals, Stops}
use Rattle.clause_search.specs.declared.goal.Part.{Part}
use Rattle.clause_search.specs.declared.goal.Goal.{Goal}

-- ---- lines

-- the lines lead from these contexts to those, whatever stands behind them
abbrev pub Leads : Rules → List Context → List Step → List Context → Type 0
Leads rules from lines to = (cs : List Context) → after_lines rules (from ++ cs) lines ≡ Some (to ++ cs)

-- an open context with these facts
abbrev pub facts_alone : List Matrix → Context
facts_alone F = record { bare = false; facts = F }

abbrev pub rules_of : Sort → WrittenSystem → Rules
rules_of s w = apply s (system_of s w)

-- ---- branches that go through facts

-- the literals are met on a way through the matrix
abbrev mutual
  pub Meets : Matrix → List Lit → Type 0
  Meets (lit l) b = IsAmong l b
  Meets (all ms) b = MeetsAll ms b
  Meets (some ms) b = MeetsSome ms b

  pub MeetsAll : Matrices → List Lit → Type 0
  MeetsAll none b = ⊤
  MeetsAll (more m ms) b = Meets m b × MeetsAll ms b

  pub MeetsSome : Matrices → List Lit → Type 0
  MeetsSome none b = ⊥
  MeetsSome (more m ms) b = Meets m b ⊎ MeetsSome ms b

-- it has all definition literals, and goes through the matrix of each path
pub record GoesThrough (sys : System) (b : List Lit) : Type 0 where
  pub defs : (l : Lit) → IsAmong l (definition_literals sys.defs) → IsAmong l b
  pub paths : (k : ℕ) (m : Matrix) → slice_get sys.paths k ≡ Some m → Meets m b

-- it goes through each fact
abbrev pub MeetsFacts : List Matrix → List Lit → Type 0
MeetsFacts F b = (i : ℕ) (m : Matrix) → slice_get F i ≡ Some m → Meets m b

-- each branch through the facts and one of these matrices stops
abbrev pub EachThrough : Sort → System → List Matrix → Matrices → Type 0
EachThrough s sys F ms = (b : List Lit) → GoesThrough sys b → MeetsFacts F b → MeetsSome ms b → Stops s b

-- each branch through the facts stops
abbrev pub StopsBehind : Sort → System → List Matrix → Type 0
StopsBehind s sys F = (b : List Lit) → GoesThrough sys b → MeetsFacts F b → Stops s b

-- ---- the branches that are left

-- a way for each matrix
abbrev pub AreWays : List Matrix → List (List Lit) → Type 0
AreWays [] [] = ⊤
AreWays [] (w ∷ ws) = ⊥
AreWays (m ∷ ms) [] = ⊥
AreWays (m ∷ ms) (w ∷ ws) = IsAmong w (ways m) × AreWays ms ws

-- it is in one of the lists
abbrev pub InSome : Lit → List (List Lit) → Type 0
InSome l [] = ⊥
InSome l (w ∷ ws) = IsAmong l w ⊎ InSome l ws

-- a branch of these literals, the definition literals, and those of the ways
pub record IsBranchOf (sys : System) (taken : List Lit) (ws : List (List Lit)) (b : List Lit) : Type 0 where
  pub branch : IsAmong b (branches sys)
  pub has : (l : Lit) → IsAmong l taken ⊎ InSome l ws → IsAmong l b
  pub only : (l : Lit) → IsAmong l b → IsAmong l (definition_literals sys.defs) ⊎ (IsAmong l taken ⊎ InSome l ws)

-- the ways through the matrices complete the literals to a branch
abbrev pub Completes : System → List Lit → List Matrix → Type 0
Completes sys taken left = (ws : List (List Lit)) → AreWays left ws → (b : List Lit) × IsBranchOf sys taken ws b

-- ---- a goal of the search

abbrev pub matrix_at : Sort → WrittenSystem → Part → Matrix
matrix_at s w x = part_on s w x.path (matrix_of x.matrix.now)

-- the matrices that are literals
abbrev pub literals_in : List Matrix → List Lit
literals_in [] = []
literals_in (lit l ∷ ms) = l ∷ literals_in ms
literals_in (all ks ∷ ms) = literals_in ms
literals_in (some ks ∷ ms) = literals_in ms

abbrev pub taken_by : Sort → WrittenSystem → Goal → List Lit
taken_by s w g = literals_in (map (matrix_at s w) g.lits)

-- what is left to follow: the parts that wait, the last one first, then the paths from the next one on
abbrev pub left_of : Sort → WrittenSystem → Goal → List Matrix
left_of s w g = map (matrix_at s w) (reverse g.waiting) ++ drop g.next (system_of s w).paths

-- a fact on a path is where the part says
abbrev pub Stands : Sort → WrittenSystem → List Matrix → Part → Type 0
Stands s w F x = slice_get F x.number ≡ Some (matrix_at s w x)

-- the goal is one of a context with these facts
pub record IsBehind (s : Sort) (w : WrittenSystem) (F : List Matrix) (g : Goal) : Type 0 where
  pub count : length F ≡ g.count
  pub waiting : AllByRecursion (Stands s w F) g.waiting
  pub lits : AllByRecursion (Stands s w F) g.lits
  pub completes : Completes (system_of s w) (taken_by s w g) (left_of s w g)

-- what the code needs of a part and of a goal
abbrev pub IsPart : Sort → WrittenSystem → Part → Type 0
IsPart s w x = IsPath w x.path × IsMatrix (matrix_of x.matrix.now) s (length w.problem.prefix) × HasNegations (matrix_of x.matrix.now) s

pub record IsGoal (s : Sort) (w : WrittenSystem) (g : Goal) : Type 0 where
  pub waiting : AllByRecursion (IsPart s w) g.waiting
  pub lits : AllByRecursion (IsPart s w) g.lits
  pub next : g.next ≤ length (system_of s w).paths
