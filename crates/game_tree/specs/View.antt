-- The skeleton that a tree of `src/` stands for.
use Rattle.std.specs.Prelude.{List, [], ◌∷◌, map}
use Rattle.lin_term.specs.Move.{Move}
use Rattle.game_tree.specs.declared.tree.Tree.{Tree, fold-Tree}
use Rattle.game_tree.specs.declared.tree.Branch.{Branch, fold-Branch}
use Rattle.game_tree.specs.declared.tree.Tree.TheOpen.{Tree-F, Branch-F}
use Rattle.game_tree.specs.Skeleton.{Skeleton, end, theirs, mine, Branches, no_more, branch}

abbrev pub branches_from : List (Move × Skeleton) → Branches
branches_from [] = no_more
branches_from (b ∷ bs) = branch b.0 b.1 (branches_from bs)

-- one level, with each part already seen
abbrev pub tree_step : Tree-F Skeleton (Move × Skeleton) → Skeleton
tree_step Tree-F.End = end
tree_step (Tree-F.Theirs t) = theirs t
tree_step (Tree-F.Mine bs) = mine (branches_from bs)

abbrev pub branch_step : Branch-F Skeleton (Move × Skeleton) → Move × Skeleton
branch_step b = (b.term, b.rest)

abbrev pub skeleton_of : Tree → Skeleton
skeleton_of = fold-Tree Skeleton (Move × Skeleton) tree_step branch_step

abbrev pub branch_of : Branch → Move × Skeleton
branch_of = fold-Branch Skeleton (Move × Skeleton) tree_step branch_step

-- the branches of one node
abbrev pub branches_of : List Branch → Branches
branches_of bs = branches_from (map branch_of bs)
