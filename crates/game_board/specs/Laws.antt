-- What holds of each history of a board, beside that it is legal.
use Rattle.std.specs.Prelude.{ℕ, ◌≤◌, ◌≡◌, Some}
use Rattle.lin_term.specs.declared.Sort.{Sort}
use Rattle.dom_core.specs.declared.Side.{Side}
use Rattle.dom_core.specs.Problem.{problem_of}
use Rattle.dom_core.specs.Sides.{other, problem_for}
use Rattle.game_tree.specs.Skeleton.{Skeleton, Follows, nodes, node_limit}
use Rattle.game_play.specs.Beats.{Beats}
use Rattle.game_tree.specs.Union.{In}
use Rattle.game_history.specs.History.{of_side, version}
use Rattle.game_board.specs.Board.{WrittenBoard, state_of}

-- a version is a skeleton of its side, within the limit of nodes, and has every path of each version before it
pub record IsVersionLaw {D : Type 0} (s : Sort) (b : WrittenBoard D) (side : Side) : Type 0 where
  pub follows : (v : ℕ) (S : Skeleton) → version (of_side side (state_of s b)) v ≡ Some S → Follows S s (problem_for s side (problem_of b.problem)).prefix 0
  pub few : (v : ℕ) (S : Skeleton) → version (of_side side (state_of s b)) v ≡ Some S → nodes S ≤ node_limit
  pub grows : (v w : ℕ) (S T : Skeleton) → v ≤ w → version (of_side side (state_of s b)) v ≡ Some S → version (of_side side (state_of s b)) w ≡ Some T → In S T
  -- the reach names a version of the other side that the newest version beats
  pub reach : (v : ℕ) → (of_side side (state_of s b)).reach ≡ Some v → (U : Skeleton) → version (of_side (other side) (state_of s b)) v ≡ Some U → Beats s (problem_for s side (problem_of b.problem)) (of_side side (state_of s b)).newest U

abbrev pub IsPlayed : {D : Type 0} → Sort → WrittenBoard D → Type 0
IsPlayed {D} s b = (side : Side) → IsVersionLaw s b side
