-- Pieces of the texts: the letter of a variable for a side, and a branch with what stands below it.
use Rattle.std.specs.Prelude.{ℕ, List, ◌++◌}
use Rattle.dom_core.specs.declared.Quant.{Quant}
use Rattle.dom_core.specs.declared.Side.{Side}
use Rattle.dom_core.specs.declared.Side.TheVariants.{Exists, Forall}
use Rattle.dom_core.specs.Game.{flip}
use Rattle.game_tree.specs.declared.Branch.{Branch}
use Rattle.game_tree.specs.View.{skeleton_of}
use Rattle.strat_text.specs.Written.{letter, move_words}
use Rattle.strat_text.specs.TreeText.{text_line, tree_text}
use Rattle.strat_check.specs.Section.{is_mine}

-- `o` for a variable that the side chooses, `t` for one of the other player
abbrev pub side_letter : Side → Quant → ℕ
side_letter Exists q = letter (is_mine q)
side_letter Forall q = letter (is_mine (flip q))

-- the line of a move and the lines below it
abbrev pub branch_lines : Branch → List ℕ
branch_lines b = text_line (move_words b.term) ++ tree_text (skeleton_of b.rest)
