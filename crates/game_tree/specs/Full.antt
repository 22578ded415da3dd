-- Trees without equal moves at a node, and trees with a move at each node of the owner.
use Rattle.std.specs.Prelude.{Option, List, ⊤}
use Rattle.lin_term.specs.Move.{Move}
use Rattle.game_tree.specs.Among.{IsAmong}
use Rattle.game_tree.specs.Skeleton.{Skeleton, end, theirs, mine, Branches, no_more, branch, branch_paths, IsNew, IsSomeBranch}

abbrev mutual
  pub IsDistinctTree : Skeleton → Type 0
  IsDistinctTree end = ⊤
  IsDistinctTree (theirs S) = IsDistinctTree S
  IsDistinctTree (mine bs) = AreDistinctTrees bs

  pub AreDistinctTrees : Branches → Type 0
  AreDistinctTrees no_more = ⊤
  AreDistinctTrees (branch m S bs) = IsNew m bs × IsDistinctTree S × AreDistinctTrees bs

abbrev mutual
  pub IsFullTree : Skeleton → Type 0
  IsFullTree end = ⊤
  IsFullTree (theirs S) = IsFullTree S
  IsFullTree (mine bs) = IsSomeBranch bs × AreFullTrees bs

  pub AreFullTrees : Branches → Type 0
  AreFullTrees no_more = ⊤
  AreFullTrees (branch m S bs) = IsFullTree S × AreFullTrees bs

-- every path of the first branches is one of the second
abbrev pub AllIn : Branches → Branches → Type 0
AllIn cs bs = (path : List (Option Move)) → IsAmong path (branch_paths cs) → IsAmong path (branch_paths bs)
