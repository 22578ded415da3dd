-- Losing systems: one variable for each node of a skeleton, numbered in preorder.
use Rattle.std.specs.Prelude.{ℕ, zero, suc, ◌+◌, ◌≡◌, nat_eq, if◌then◌else◌, Option, Some, None, IfSome, List, [], ◌∷◌, ◌++◌, map, length, ⊤}
use Rattle.lin_term.specs.declared.Sort.{Sort}
use Rattle.lin_term.specs.declared.Lit.{Lit}
use Rattle.lin_term.specs.Linear.{Point, IsPoint}
use Rattle.lin_term.specs.Literal.{Holds}
use Rattle.lin_term.specs.Definition.{Definition, definition}
use Rattle.dom_core.specs.Game.{Matrix, HoldsIn, neg_matrix, rename_matrix, Problem}
use Rattle.game_tree.specs.Skeleton.{Skeleton, end, theirs, mine, Branches, no_more, branch, nodes}

-- the definitions of all moves; v is the next node, names are the nodes above it
abbrev mutual
  pub definitions : Skeleton → Sort → List ℕ → ℕ → List Definition
  definitions end s names v = []
  definitions (theirs t) s names v = definitions t s (names ++ v ∷ []) (suc v)
  definitions (mine bs) s names v = branch_definitions bs s names v

  pub branch_definitions : Branches → Sort → List ℕ → ℕ → List Definition
  branch_definitions no_more s names v = []
  branch_definitions (branch m t bs) s names v =
      definition s m names v ∷ (definitions t s (names ++ v ∷ []) (suc v) ++ branch_definitions bs s names (suc v + nodes t))

-- the nodes of each path
abbrev mutual
  pub routes : Skeleton → List ℕ → ℕ → List (List ℕ)
  routes end names v = names ∷ []
  routes (theirs t) names v = routes t (names ++ v ∷ []) (suc v)
  routes (mine bs) names v = branch_routes bs names v

  pub branch_routes : Branches → List ℕ → ℕ → List (List ℕ)
  branch_routes no_more names v = []
  branch_routes (branch m t bs) names v =
      routes t (names ++ v ∷ []) (suc v) ++ branch_routes bs names (suc v + nodes t)

pub record System : Type 0 where
  pub count : ℕ
  pub defs : List Definition
  pub paths : List Matrix

-- on each path the negated matrix with the path's nodes for the positions of the prefix
abbrev pub system : Sort → Problem → Skeleton → System
system s P S = record {
  count = nodes S;
  defs = definitions S s [] 0;
  paths = map (rename_matrix (neg_matrix P.matrix s)) (routes S [] 0);
}

-- definition literal 0 or 1
abbrev pub literal_number : ℕ → Definition → Option Lit
literal_number zero d = Some d.upper
literal_number (suc zero) d = Some d.lower
literal_number (suc (suc i)) d = None

-- the definition of a node, where it is a move
abbrev pub definition_at : List Definition → ℕ → Option Definition
definition_at [] v = None
definition_at (d ∷ ds) v = if nat_eq d.node v then Some d else definition_at ds v

abbrev pub AllDefined : List Definition → Point → Type 0
AllDefined [] p = ⊤
AllDefined (d ∷ ds) p = Holds d.upper p × Holds d.lower p × AllDefined ds p

-- both literals hold
abbrev pub BothHold : Point → Definition → Type 0
BothHold p d = Holds d.upper p × Holds d.lower p

-- the definition of node v, where it is a move, holds
abbrev pub HoldsAt : List Definition → Point → ℕ → Type 0
HoldsAt ds p v = IfSome (definition_at ds v) (BothHold p)

abbrev pub AllLose : List Matrix → Point → Type 0
AllLose [] p = ⊤
AllLose (m ∷ ms) p = HoldsIn m p × AllLose ms p

-- one value for each node: each move's node has its value, and each path loses
pub record Solves (s : Sort) (system : System) (p : Point) : Type 0 where
  pub point : IsPoint s p
  pub one_each : length p.nums ≡ system.count
  pub defined : AllDefined system.defs p
  pub lose : AllLose system.paths p

-- no point solves the losing system
abbrev pub Lost : Sort → Problem → Skeleton → Type 0
Lost s P S = (p : Point) → ¬ Solves s (system s P S) p
