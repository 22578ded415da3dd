-- Cubes: conjunctions of literals, and their truth at points.
use Rattle.std.specs.Prelude.{ℕ, zero, suc, ◌*◌, ◌⊎◌, ℤ, pos, ◌*ℤ◌, List, [], ◌∷◌, ⊤}
use Rattle.std.specs.List.{AllByRecursion}
use Rattle.lin_term.specs.declared.Sort.{Sort}
use Rattle.lin_term.specs.declared.Lit.{Lit}
use Rattle.lin_term.specs.Linear.{Point, Value, IsValue, scale_all}
use Rattle.lin_term.specs.Literal.{Holds, IsOf, IsPrimitive}
use Rattle.lin_term.specs.Primable.{IsPrimable}

-- all literals hold
abbrev pub CubeHolds : List Lit → Point → Type 0
CubeHolds c p = AllByRecursion (λ l. Holds l p) c

-- one of the cubes holds
abbrev pub SomeHolds : List (List Lit) → Point → Type 0
SomeHolds [] p = ⊥
SomeHolds (c ∷ cs) p = CubeHolds c p ⊎ SomeHolds cs p

-- each literal is of the sort
abbrev pub IsCube : Sort → List Lit → Type 0
IsCube s c = AllByRecursion (IsOf s) c

-- each literal is primitive, each modulus from 1 to the cap
abbrev pub IsPrimitiveCube : Sort → List Lit → Type 0
IsPrimitiveCube s [] = ⊤
IsPrimitiveCube s (l ∷ ls) = IsPrimitive s l × IsPrimable s l × IsPrimitiveCube s ls

-- z at place x, with zeros before it where the list is shorter
abbrev pub set_at : List ℤ → ℕ → ℤ → List ℤ
set_at [] zero z = z ∷ []
set_at [] (suc x) z = pos 0 ∷ set_at [] x z
set_at (y ∷ ys) zero z = z ∷ ys
set_at (y ∷ ys) (suc x) z = y ∷ set_at ys x z

-- the point with the value v for variable x
abbrev pub assign : Point → ℕ → Value → Point
assign p x v = record { den = p.den * v.den; nums = set_at (scale_all (pos v.den) p.nums) x (v.num *ℤ pos p.den) }

-- a value for x makes the cube true
pub record HasSolution (s : Sort) (c : List Lit) (x : ℕ) (p : Point) : Type 0 where
  pub value : Value
  pub is_value : IsValue s value
  pub holds : CubeHolds c (assign p x value)
