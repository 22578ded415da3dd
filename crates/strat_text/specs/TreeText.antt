-- What a skeleton is written as, and a tree that stands for it.
use Rattle.std.specs.Prelude.{ℕ, ◌+◌, List, [], ◌∷◌, ◌++◌, codes}
use Rattle.game_tree.specs.declared.Tree.{Tree}
use Rattle.game_tree.specs.declared.Tree.TheVariants as trees
use Rattle.game_tree.specs.declared.Branch.{Branch}
use Rattle.game_tree.specs.Skeleton.{Skeleton, end, theirs, mine, Branches, no_more, branch}
use Rattle.strat_words.specs.Spelled.{natural}
use Rattle.strat_text.specs.Written.{move_words}

abbrev pub text_line : List ℕ → List ℕ
text_line text = text ++ 10 ∷ []

abbrev pub move_count : Branches → ℕ
move_count no_more = 0
move_count (branch m S bs) = 1 + move_count bs

-- the lines of a tree in a file
abbrev mutual
  pub tree_text : Skeleton → List ℕ
  tree_text end = []
  tree_text (theirs S) = text_line (codes "t") ++ tree_text S
  tree_text (mine bs) = text_line (codes "o" ++ natural (move_count bs)) ++ branch_text bs

  pub branch_text : Branches → List ℕ
  branch_text no_more = []
  branch_text (branch m S bs) = text_line (move_words m) ++ (tree_text S ++ branch_text bs)

-- the tree as it is held
abbrev mutual
  pub tree_of : Skeleton → Tree
  tree_of end = trees.End
  tree_of (theirs S) = trees.Theirs (tree_of S)
  tree_of (mine bs) = trees.Mine (list_of bs)

  pub list_of : Branches → List Branch
  list_of no_more = []
  list_of (branch m S bs) = record { term = m; rest = tree_of S } ∷ list_of bs
