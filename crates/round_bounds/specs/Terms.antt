-- The moves that selection can give for a last variable.
use Rattle.std.specs.Prelude.{ℕ, ◌≡◌, ◌≢◌, pos, List}
use Rattle.lin_term.specs.declared.Sort.{Sort}
use Rattle.lin_term.specs.declared.Lit.{Lit}
use Rattle.lin_term.specs.Linear.{Point, IsPoint}
use Rattle.lin_term.specs.Move.{Move}
use Rattle.dom_core.specs.Game.{Problem}
use Rattle.dom_core.specs.Cube.{CubeHolds}
use Rattle.dom_core.specs.Pick.{pick, constant_move}
use Rattle.game_tree.specs.Among.{EachIs, IsAmong}
use Rattle.game_history.specs.Legal.{IsOfMatrix}

-- The move is picked for variable x from literals of the matrix that hold at a point. It is not the constant 0, which each
-- version has there from the beginning.
pub record IsTermAt (s : Sort) (P : Problem) (x : ℕ) (m : Move) : Type 0 where
  pub cube : List Lit
  pub of_matrix : EachIs (λ l. IsOfMatrix l P.matrix) cube
  pub point : Point
  pub is_point : IsPoint s point
  pub holds : CubeHolds cube point
  pub picked : m ≡ pick s x cube point
  pub nonzero : m ≢ constant_move (pos 0)

-- the list has every such move
abbrev pub HasTerms : Sort → Problem → ℕ → List Move → Type 0
HasTerms s P x T = (m : Move) → IsTermAt s P x m → IsAmong m T
