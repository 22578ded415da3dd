-- The facts that the checker holds, and what they stand for.
use Rattle.std.specs.Prelude.{ℕ, ◌<◌, ◌≡◌, Bool, true, Option, Some, None, option_map, List, [], ◌∷◌, ◌++◌, map, length, get_or, ⊤}
use Rattle.lin_term.specs.declared.Sort.{Sort}
use Rattle.lin_term.specs.declared.Sort.TheVariants.{Int}
use Rattle.lin_term.specs.declared.Lit.{Lit}
use Rattle.lin_term.specs.Literal.{IsPrimitive}
use Rattle.lin_term.specs.Primable.{IsPrimable}
use Rattle.dom_core.specs.Cube.{IsPrimitiveCube}
use Rattle.dom_core.specs.Game.{Matrix, lit, all, some, Matrices, neg_matrix, neg_matrices, rename_matrix, rename_matrices, IsMatrix, AreMatrices}
use Rattle.dom_core.specs.Problem.{HasNegations, HaveNegations}
use Rattle.dom_core.specs.View.{matrix_of, matrices_of}
use Rattle.game_tree.specs.View.{skeleton_of}
use Rattle.lose_system.specs.Losing.{routes}
use Rattle.lose_system.specs.Written.{WrittenSystem}
use Rattle.cube_rules.specs.Context.{Context, with_fact, cube_context}
use Rattle.cube_rules.specs.Facts.{child}
use Rattle.cube_rules.specs.Lines.{goes_on, each_child, leaves}
use Rattle.proof_rules.specs.Left.{left_cases}
use Rattle.proof_rules.specs.declared.fact.Fact.{Fact}
use Rattle.proof_rules.specs.declared.fact.Fact.TheVariants.{OnPath, Known, Learnt}
use Rattle.proof_rules.specs.declared.fact.Next.{Next}
use Rattle.proof_rules.specs.declared.fact.Next.TheVariants.{Goes, Cases, Literals, Split, Learn, Cube, Least, Closed}

-- the nodes of the k-th path
abbrev pub nodes_on : WrittenSystem → ℕ → List ℕ
nodes_on w k = get_or (routes (skeleton_of w.tree) [] 0) k []

-- a part of the matrix on a path: negated, with the path's nodes
abbrev pub part_on : Sort → WrittenSystem → ℕ → Matrix → Matrix
part_on s w k m = rename_matrix (neg_matrix m s) (nodes_on w k)

abbrev pub parts_on : Sort → WrittenSystem → ℕ → Matrices → Matrices
parts_on s w k ms = rename_matrices (neg_matrices ms s) (nodes_on w k)

abbrev pub fact_of : Sort → WrittenSystem → Fact → Matrix
fact_of s w (OnPath k m) = part_on s w k (matrix_of m.now)
fact_of s w (Known l) = lit l.value
fact_of s w (Learnt ls) = some (leaves ls.value)

abbrev pub context_of : Sort → WrittenSystem → Bool → List Fact → Context
context_of s w bare facts = record { bare = bare; facts = map (fact_of s w) facts }

-- the contexts that a line leaves
abbrev pub next_of : Sort → WrittenSystem → Context → Next → List Context
next_of s w c (Goes f) = goes_on c (fact_of s w f)
next_of s w c (Cases k ms) = each_child c (parts_on s w k (matrices_of ms.now))
next_of s w c (Literals ls) = each_child c (leaves ls.value)
next_of s w c (Split l n) = with_fact c (lit l.value) ∷ with_fact c (lit n.value) ∷ []
next_of s w c (Learn fs f) =
    record c { facts = c.facts ++ map (fact_of s w) fs } ∷ with_fact c (fact_of s w f) ∷ []
next_of s w c (Cube fs) = record { bare = true; facts = map (fact_of s w) fs } ∷ []
next_of s w c (Least l) = map cube_context (left_cases l)
next_of s w c Closed = []

-- ---- what is kept of them

abbrev pub IsPath : WrittenSystem → ℕ → Type 0
IsPath w k = k < length (routes (skeleton_of w.tree) [] 0)

-- a literal in primitive form that has a negation
abbrev pub IsKnown : Sort → Lit → Type 0
IsKnown s l = IsPrimitive s l × IsPrimable s l

abbrev pub IsFact : Sort → WrittenSystem → Fact → Type 0
IsFact s w (OnPath k m) = IsPath w k × IsMatrix (matrix_of m.now) s (length w.problem.prefix) × HasNegations (matrix_of m.now) s
IsFact s w (Known l) = IsKnown s l.value
IsFact s w (Learnt ls) = IsPrimitiveCube s ls.value

abbrev pub AreFacts : Sort → WrittenSystem → List Fact → Type 0
AreFacts s w [] = ⊤
AreFacts s w (f ∷ fs) = IsFact s w f × AreFacts s w fs

abbrev pub IsKeptNext : Sort → WrittenSystem → Next → Type 0
IsKeptNext s w (Goes f) = IsFact s w f
IsKeptNext s w (Cases k ms) = IsPath w k × AreMatrices (matrices_of ms.now) s (length w.problem.prefix) × HaveNegations (matrices_of ms.now) s
IsKeptNext s w (Literals ls) = IsPrimitiveCube s ls.value
IsKeptNext s w (Split l n) = IsKnown s l.value × IsKnown s n.value
IsKeptNext s w (Learn fs f) = AreFacts s w fs × IsFact s w f
IsKeptNext s w (Cube fs) = AreFacts s w fs
IsKeptNext s w (Least l) = s ≡ Int
IsKeptNext s w Closed = ⊤

-- the line's contexts, or none where it breaks its rule
pub record Leaves (s : Sort) (w : WrittenSystem) (c : Context) (rule : Option (List Context)) (next : Option Next) : Type 0 where
  pub contexts : option_map (next_of s w c) next ≡ rule
  pub kept : (n : Next) → next ≡ Some n → IsKeptNext s w n

-- ---- parts of a matrix before it is negated

-- the i-th part of a disjunction
abbrev pub or_part : ℕ → Matrix → Option Matrix
or_part i (some ms) = child ms i
or_part i (lit l) = None
or_part i (all ms) = None

abbrev pub and_parts : Matrix → Option Matrices
and_parts (all ms) = Some ms
and_parts (lit l) = None
and_parts (some ms) = None
