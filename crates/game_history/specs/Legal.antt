-- Legal histories: what each entry needs in the state before it.
use Rattle.std.specs.Prelude.{ℕ, suc, ◌<◌, ◌≤◌, ◌≡◌, ◌⊎◌, false, Option, Some, None, List, [], ◌∷◌, length, ⊤}
use Rattle.std.specs.List.{flat_map}
use Rattle.lin_term.specs.declared.Sort.{Sort}
use Rattle.lin_term.specs.declared.Lit.{Lit}
use Rattle.lin_term.specs.Move.{Move}
use Rattle.lin_term.specs.Definition.{Definition}
use Rattle.dom_core.specs.declared.Side.{Side}
use Rattle.dom_core.specs.Game.{Matrix, lit, all, some, Matrices, none, more, Problem}
use Rattle.dom_core.specs.Sides.{other, problem_for}
use Rattle.game_tree.specs.Skeleton.{Skeleton, paths, nodes, node_limit, Follows, IsSkeleton}
use Rattle.game_play.specs.Beats.{Beats}
use Rattle.lose_system.specs.Losing.{System, system, Lost}
use Rattle.game_tree.specs.Among.{IsAmong, EachIs, SomeIs}
use Rattle.game_tree.specs.Union.{union, In}
use Rattle.cube_elim.specs.Determined.{WideAt}
use Rattle.term_select.specs.Selected.{Selected}
use Rattle.game_history.specs.History.{Wideness, cube, choice, Entry, added, held, spent, too_large, noted, won, found, SideState, State, of_side, version, newest_number, begin, after}

abbrev pub IsAbove : ℕ → Option ℕ → Type 0
IsAbove v None = ⊤
IsAbove v (Some reach) = reach < v

-- a path that the other skeleton lacks
pub record HasNewPath (C S : Skeleton) : Type 0 where
  pub path : List (Option Move)
  pub own : IsAmong path (paths C)
  pub new : ¬ IsAmong path (paths S)

-- the side's skeleton C is a counter to version v of the other side, which is above the side's reach
pub record CountersVersion (s : Sort) (P : Problem) (st : State) (side : Side) (v : ℕ) (C : Skeleton) : Type 0 where
  pub follows : Follows C s (problem_for s side P).prefix 0
  pub attacked : Skeleton
  pub there : version (of_side (other side) st) v ≡ Some attacked
  pub above : IsAbove v (of_side side st).reach
  pub selected : Selected s (problem_for s side P) attacked C
  pub beats : Beats s (problem_for s side P) C attacked

abbrev pub IsNewFor : Side → Skeleton → State → Type 0
IsNewFor side C st = HasNewPath C (of_side side st).newest

abbrev pub union_nodes : Side → Skeleton → State → ℕ
union_nodes side C st = nodes (union (of_side side st).newest C)

-- ---- notes

-- both literals of each definition
abbrev pub definition_literals : List Definition → List Lit
definition_literals ds = flat_map (λ d. d.upper ∷ d.lower ∷ []) ds

-- a literal of a matrix
abbrev mutual
  pub IsOfMatrix : Lit → Matrix → Type 0
  IsOfMatrix l (lit k) = l ≡ k
  IsOfMatrix l (all ms) = IsOfSome l ms
  IsOfMatrix l (some ms) = IsOfSome l ms

  pub IsOfSome : Lit → Matrices → Type 0
  IsOfSome l none = ⊥
  IsOfSome l (more m ms) = IsOfMatrix l m ⊎ IsOfSome l ms

-- a definition literal, or one of a path's matrix
abbrev pub IsOfSystem : System → Lit → Type 0
IsOfSystem sys l = IsAmong l (definition_literals sys.defs) ⊎ SomeIs (IsOfMatrix l) sys.paths

-- a wide cube of literals of the system, or a point with one value for each node
abbrev pub IsNoteFor : Sort → System → Wideness → Type 0
IsNoteFor s sys (cube c z) = EachIs (IsOfSystem sys) c × WideAt s c z
IsNoteFor s sys (choice p x z) = length p.nums ≡ sys.count

-- version v of the side, of which this is said
pub record OfVersion (x : SideState) (v : ℕ) (Says : Skeleton → Type 0) : Type 0 where
  pub tree : Skeleton
  pub there : version x v ≡ Some tree
  pub says : Says tree

-- ---- entries

-- within a budget of B rounds, in a state without a verdict
abbrev pub Fits : Sort → Problem → ℕ → State → Entry → Type 0
Fits s P B st (added side v C m) =
    CountersVersion s P st side v C × IsNewFor side C st × (st.rounds < B) × (union_nodes side C st ≤ node_limit) × (m ≡ suc (newest_number (of_side side st)))
Fits s P B st (held side v C) = CountersVersion s P st side v C × In C (of_side side st).newest
Fits s P B st (spent side v C) = CountersVersion s P st side v C × IsNewFor side C st × (st.rounds ≡ B) × (st.is_spent ≡ false)
Fits s P B st (too_large side v C n) =
    CountersVersion s P st side v C × IsNewFor side C st × (st.rounds < B) × (n ≡ union_nodes side C st) × (node_limit < n) × (st.is_large ≡ false)
Fits s P B st (noted side v why) =
    OfVersion (of_side side st) v (λ S. IsNoteFor s (system s (problem_for s side P) S) why) × (¬ IsAmong v (of_side side st).notes)
Fits s P B st (won side v) = OfVersion (of_side side st) v (λ S. Lost s (problem_for s side P) S)
Fits s P B st (found side S) = IsSkeleton s (problem_for s side P) S × Lost s (problem_for s side P) S

abbrev pub LegalFrom : Sort → Problem → ℕ → State → List Entry → Type 0
LegalFrom s P B st [] = ⊤
LegalFrom s P B st (e ∷ es) = (st.is_over ≡ false) × Fits s P B st e × LegalFrom s P B (after st e) es

-- each entry meets what it needs in the state before it, and none follows a verdict
abbrev pub Legal : Sort → Problem → ℕ → List Entry → Type 0
Legal s P B H = LegalFrom s P B (begin s P) H
