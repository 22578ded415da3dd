-- The way down a skeleton, and what is asked of each part of it and answered for it.
use Rattle.std.specs.Prelude.{ℕ, suc, ◌+◌, ◌≤◌, ◌≡◌, ◌^◌, ℤ, Some, None, Result, Ok, Err, List, [], ◌∷◌, map, length, ⊤}
use Rattle.lin_term.specs.declared.Sort.{Sort}
use Rattle.lin_term.specs.declared.Short.{Short}
use Rattle.lin_term.specs.declared.Short.TheVariants as short
use Rattle.lin_term.specs.declared.Wide.{Wide}
use Rattle.lin_term.specs.declared.Lit.{Lit}
use Rattle.lin_term.specs.Linear.{Point, IsPoint, extend, origin}
use Rattle.lin_term.specs.Wide.{first_past}
use Rattle.dom_core.specs.declared.Quant.{Quant}
use Rattle.dom_core.specs.Cube.{IsPrimitiveCube}
use Rattle.dom_core.specs.Reduced.{AreBelow}
use Rattle.dom_core.specs.Game.{Matrix, HoldsIn, IsMatrix, rename_matrix, flip_all}
use Rattle.dom_core.specs.Problem.{HasNegations}
use Rattle.dom_core.specs.Negation.{HasRows}
use Rattle.game_tree.specs.Skeleton.{Skeleton, Branches, nodes, branch_nodes, Follows, EachFollows}
use Rattle.game_tree.specs.View.{skeleton_of}
use Rattle.lose_system.specs.Losing.{routes, branch_routes, AllLose}
use Rattle.term_select.specs.Guided.{Chosen, value_of, first_wide}
use Rattle.term_select.specs.declared.part.Part.{Part}
use Rattle.term_select.specs.declared.part.LowerPart.{LowerPart}
use Rattle.term_select.specs.declared.part.Stop.{Stop}

-- the values that p gives to nodes, one after the other
abbrev pub values_from : Point → Point → List ℕ → Point
values_from p e [] = e
values_from p e (v ∷ vs) = values_from p (extend e (value_of p v)) vs

-- the values of the nodes of a way down
abbrev pub values_on : Point → List ℕ → Point
values_on p names = values_from p origin names

-- what does not change on the way: M is the matrix of the player who selects, lost what the losing system says on a path
pub record IsPlay (s : Sort) (M lost : Matrix) (n : ℕ) : Type 0 where
  pub matrix : IsMatrix M s n
  pub negations : HasNegations M s
  pub rows : HasRows M
  pub lost_matrix : IsMatrix lost s n
  pub gives : (e : Point) → IsPoint s e → HoldsIn lost e → HoldsIn M e

-- U stands below the nodes of `names`, v is its first node, and each of its paths loses at p
pub record CanSelect (s : Sort) (M : Matrix) (p : Point) (U : Skeleton) (v : ℕ) (names : List ℕ) : Type 0 where
  pub lost : Matrix
  pub rest : List Quant
  pub play : IsPlay s M lost (length names + length rest)
  pub short : length names + length rest ≤ 1024
  pub follows : Follows U s (flip_all rest) (length names)
  pub point : IsPoint s p
  pub lose : AllLose (map (rename_matrix lost) (routes U names v)) p
  pub few : v + nodes U ≤ 2 ^ 20

-- the same of the branches of one node
pub record CanSelectEach (s : Sort) (M : Matrix) (p : Point) (bs : Branches) (v : ℕ) (names : List ℕ) : Type 0 where
  pub lost : Matrix
  pub rest : List Quant
  pub play : IsPlay s M lost (length names + suc (length rest))
  pub short : length names + suc (length rest) ≤ 1024
  pub follows : EachFollows bs s (flip_all rest) (length names)
  pub point : IsPoint s p
  pub lose : AllLose (map (rename_matrix lost) (branch_routes bs names v)) p
  pub few : v + branch_nodes bs ≤ 2 ^ 20

-- primitive literals with variables below n
pub record IsKeptCube (s : Sort) (n : ℕ) (c : List Lit) : Type 0 where
  pub primitive : IsPrimitiveCube s c
  pub below : AreBelow n c

-- the fault with the position at which it arose
abbrev pub stop_fault : ℕ → Short Wide → Short Stop
stop_fault x (short.Fault w) = short.Fault (record { var = x; number = w.number })
stop_fault x short.Memory = short.Memory

-- a number of these is past the cap, or none is and the answer is the value
abbrev pub CappedAt : {A : Type 0} → ℕ → List ℤ → A → Result A (Short Stop) → Type 0
CappedAt {A} x numbers value (Ok a) = (first_past numbers ≡ None) × (a ≡ value)
CappedAt {A} x numbers value (Err (short.Fault stop)) = (stop.var ≡ x) × (first_past numbers ≡ Some stop.number)
CappedAt {A} x numbers value (Err short.Memory) = ⊤

-- what was selected, with v the next node, or the first number past the cap
abbrev pub Gives : Chosen → ℕ → Result Part (Short Stop) → Type 0
Gives f v (Ok part) = (first_wide f.numbers ≡ None) × (part.cube ≡ f.cube) × (skeleton_of part.tree ≡ f.tree) × (part.next ≡ v)
Gives f v (Err (short.Fault stop)) = first_wide f.numbers ≡ Some (stop.var, stop.number)
Gives f v (Err short.Memory) = ⊤

-- the same of what is selected below a node with a value
abbrev pub GivesBelow : Chosen → ℕ → Result LowerPart (Short Stop) → Type 0
GivesBelow f v (Ok below) = Gives f v (Ok below.part)
GivesBelow f v (Err fault) = Gives f v (Err fault)
