-- A node's place in the tree.
use Rattle.std.specs.Prelude.{ℕ, Option}
use Rattle.lin_term.specs.Move.{Move}

-- the move, none at a variable of the other player; the position of the variable; the node above
pub record Place : Type 0 where
  pub term : Option Move
  pub depth : ℕ
  pub above : ℕ
