-- The branches of a losing system, and when they are all wide.
use Rattle.std.specs.Prelude.{◌⊎◌, ℤ, List, [], ◌∷◌, ◌++◌, map, ⊤}
use Rattle.std.specs.List.{flat_map}
use Rattle.lin_term.specs.declared.Sort.{Sort}
use Rattle.lin_term.specs.declared.Lit.{Lit}
use Rattle.lin_term.specs.Linear.{Point, IsPoint}
use Rattle.lin_term.specs.Definition.{Definition}
use Rattle.dom_core.specs.Game.{Matrix, lit, all, some, Matrices, none, more}
use Rattle.dom_core.specs.Cube.{CubeHolds}
use Rattle.lose_system.specs.Losing.{System}
use Rattle.cube_elim.specs.Among.{IsTakenFrom}
use Rattle.cube_elim.specs.Determined.{WideAt}

-- each of the first lists before each of the second ones
abbrev pub pairs : List (List Lit) → List (List Lit) → List (List Lit)
pairs bs cs = flat_map (λ b. map (λ c. b ++ c) cs) bs

-- the literals that are met when all children of each conjunction and one child of each disjunction are followed
abbrev mutual
  pub ways : Matrix → List (List Lit)
  ways (lit l) = (l ∷ []) ∷ []
  ways (all ms) = ways_all ms
  ways (some ms) = ways_some ms

  pub ways_all : Matrices → List (List Lit)
  ways_all none = [] ∷ []
  ways_all (more m ms) = pairs (ways m) (ways_all ms)

  pub ways_some : Matrices → List (List Lit)
  ways_some none = []
  ways_some (more m ms) = ways m ++ ways_some ms

abbrev pub path_ways : List Matrix → List (List Lit)
path_ways [] = [] ∷ []
path_ways (m ∷ ms) = pairs (ways m) (path_ways ms)

abbrev pub definition_literals : List Definition → List Lit
definition_literals ds = flat_map (λ d. d.upper ∷ d.lower ∷ []) ds

-- all definition literals, and a way through the matrix of each path
abbrev pub branches : System → List (List Lit)
branches sys = map (λ way. definition_literals sys.defs ++ way) (path_ways sys.paths)

-- ---- what is said of all branches

-- each element is one
abbrev pub EachIs : {A : Type 0} → (A → Type 0) → List A → Type 0
EachIs {A} P [] = ⊤
EachIs {A} P (x ∷ xs) = P x × EachIs P xs

-- some element is one
abbrev pub SomeIs : {A : Type 0} → (A → Type 0) → List A → Type 0
SomeIs {A} P [] = ⊥
SomeIs {A} P (x ∷ xs) = P x ⊎ SomeIs P xs

abbrev pub HasNoSolution : Sort → List Lit → Type 0
HasNoSolution s c = (p : Point) → IsPoint s p → ¬ CubeHolds c p

-- some of the literals are a wide cube
pub record HasWide (s : Sort) (literals : List Lit) : Type 0 where
  pub cube : List Lit
  pub taken : IsTakenFrom cube literals
  pub number : ℤ
  pub wide : WideAt s cube number

-- it has no solution, or none within the cap is found
abbrev pub Stops : Sort → List Lit → Type 0
Stops s b = HasNoSolution s b ⊎ HasWide s b

abbrev pub EachStops : Sort → System → Type 0
EachStops s sys = EachIs (Stops s) (branches sys)

-- what an attack that ends with a wide cube says: each branch has no solution or is wide, and one of them has this cube
pub record EndsWide (s : Sort) (sys : System) (cube : List Lit) (number : ℤ) : Type 0 where
  pub each : EachStops s sys
  pub this : SomeIs (IsTakenFrom cube) (branches sys)
  pub wide : WideAt s cube number
