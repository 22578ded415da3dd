-- What a section of a strategy file is worth for a problem: the first of its lines that is not in order, or acceptance.
use Rattle.std.specs.Prelude.{ℕ, suc, ◌+◌, ◌&&◌, nat_lt, Bool, true, false, if◌then◌else◌, Option, Some, None, is_none, List, [], ◌∷◌}
use Rattle.lin_term.specs.declared.Sort.{Sort}
use Rattle.lin_term.specs.Move.{Move, lowest}
use Rattle.lin_term.specs.Definition.{move_numbers}
use Rattle.lin_term.specs.Same.{same_move}
use Rattle.lin_term.specs.Wide.{first_past}
use Rattle.dom_core.specs.declared.Quant.{Quant}
use Rattle.dom_core.specs.declared.Quant.TheVariants as quant
use Rattle.dom_core.specs.declared.Side.{Side}
use Rattle.dom_core.specs.Game.{Problem}
use Rattle.dom_core.specs.Sides.{problem_for}
use Rattle.game_tree.specs.Skeleton.{Skeleton, Branches, end, theirs, mine, no_more, branch, nodes, node_limit}
use Rattle.game_tree.specs.View.{skeleton_of}
use Rattle.cube_rules.specs.declared.Rule.TheVariants as rule
use Rattle.cube_rules.specs.declared.Step.{Step}
use Rattle.proof_rules.specs.declared.BadLine.{BadLine}
use Rattle.proof_rules.specs.Checked.{first_bad}
use Rattle.strat_text.specs.declared.Section.{Section}
use Rattle.strat_text.specs.declared.Section.TheVariants as section
use Rattle.strat_check.specs.declared.checked.Checked.{Checked}
use Rattle.strat_check.specs.declared.checked.Checked.TheVariants as checked

abbrev pub is_mine : Quant → Bool
is_mine quant.Exists = true
is_mine quant.Forall = false

-- true for a variable of Exists
abbrev pub turns_of : List Quant → List Bool
turns_of [] = []
turns_of (q ∷ qs) = is_mine q ∷ turns_of qs

abbrev pub same_turns : List Bool → List Bool → Bool
same_turns [] [] = true
same_turns [] (u ∷ us) = false
same_turns (t ∷ ts) [] = false
same_turns (true ∷ ts) (true ∷ us) = same_turns ts us
same_turns (true ∷ ts) (false ∷ us) = false
same_turns (false ∷ ts) (true ∷ us) = false
same_turns (false ∷ ts) (false ∷ us) = same_turns ts us

-- in lowest form, with its numbers and those of its definition within the cap
abbrev pub is_kept : Sort → Move → Bool
is_kept s m = same_move (lowest s m) m && is_none (first_past (move_numbers s m))

-- the lines of a tree in a file: one for a variable of the other player, one for a count of moves, one for each move
abbrev mutual
  pub tree_lines : Skeleton → ℕ
  tree_lines end = 0
  tree_lines (theirs t) = suc (tree_lines t)
  tree_lines (mine bs) = suc (branch_lines bs)

  pub branch_lines : Branches → ℕ
  branch_lines no_more = 0
  branch_lines (branch m t bs) = suc (tree_lines t) + branch_lines bs

abbrev pub or_else : Option ℕ → Option ℕ → Option ℕ
or_else None other = other
or_else (Some l) other = Some l

-- the first line of a tree that is the node past the limit or has a move that is not kept; the tree begins at this line, behind this
-- many nodes
abbrev mutual
  pub bad_move : Skeleton → Sort → ℕ → ℕ → Option ℕ
  bad_move end s line before = None
  bad_move (theirs t) s line before = if nat_lt before node_limit then bad_move t s (suc line) (suc before) else Some line
  bad_move (mine bs) s line before = bad_branch bs s (suc line) before

  pub bad_branch : Branches → Sort → ℕ → ℕ → Option ℕ
  bad_branch no_more s line before = None
  bad_branch (branch m t bs) s line before =
      if nat_lt before node_limit && is_kept s m
      then or_else (bad_move t s (suc line) (suc before)) (bad_branch bs s (suc line + tree_lines t) (suc before + nodes t))
      else Some line

abbrev pub by_proof : Side → ℕ → Option BadLine → Checked
by_proof owner first None = checked.Accepted owner
by_proof owner first (Some b) = checked.Rejected (first + b.line) b.rule

abbrev pub by_move : Checked → Option ℕ → Checked
by_move next None = next
by_move next (Some line) = checked.Rejected line rule.Move

-- turns, then moves, then the proof; its `goal` stands at this line, and P is the owner's problem
abbrev pub judged_claim : Sort → Problem → Side → List Bool → Skeleton → List Step → ℕ → Checked
judged_claim s P owner turns S proof line =
    if same_turns turns (turns_of P.prefix)
    then by_move (by_proof owner (line + 3 + tree_lines S) (first_bad s P S proof)) (bad_move S s (line + 2) 0)
    else checked.Rejected (line + 1) rule.Turns

-- what a section is worth for the problem of its goal
abbrev pub verdict : Sort → Problem → Section → Checked
verdict s P section.Unknown = checked.Unclaimed
verdict s P (section.Claimed owner turns tree proof line) =
    judged_claim s (problem_for s owner P) owner turns (skeleton_of tree) proof line
