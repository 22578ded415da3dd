-- What an answer says of a cube over n variables.
use Rattle.std.specs.Prelude.{ℕ, ◌≡◌, List, length}
use Rattle.lin_term.specs.declared.Sort.{Sort}
use Rattle.lin_term.specs.declared.Lit.{Lit}
use Rattle.lin_term.specs.Linear.{Point, IsPoint}
use Rattle.dom_core.specs.Cube.{CubeHolds}

-- a value for each of the n variables, at which the cube holds
pub record IsSolution (s : Sort) (n : ℕ) (c : List Lit) (p : Point) : Type 0 where
  pub count : length p.nums ≡ n
  pub point : IsPoint s p
  pub holds : CubeHolds c p
