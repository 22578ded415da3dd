-- The paths of two skeletons together, and when one skeleton has every path of another.
use Rattle.std.specs.Prelude.{if◌then◌else◌, Option, List, [], ◌∷◌}
use Rattle.lin_term.specs.Move.{Move}
use Rattle.lin_term.specs.Same.{same_move}
use Rattle.game_tree.specs.Skeleton.{Skeleton, end, theirs, mine, Branches, no_more, branch, paths}
use Rattle.game_tree.specs.Among.{IsAmong}

-- every path of the first is a path of the second
abbrev pub In : Skeleton → Skeleton → Type 0
In S T = (path : List (Option Move)) → IsAmong path (paths S) → IsAmong path (paths T)

-- what stands below a move goes to the same move, and else behind the others
abbrev pub put_branch : Move → (Skeleton → Skeleton) → Skeleton → Branches → Branches
put_branch m f T no_more = branch m T no_more
put_branch m f T (branch n S bs) = if same_move n m then branch n (f S) bs else branch n S (put_branch m f T bs)

-- the paths of S, and behind them at each node the new moves of T
abbrev mutual
  pub with_paths : Skeleton → Skeleton → Skeleton
  with_paths end S = S
  with_paths (theirs T) end = end
  with_paths (theirs T) (theirs S) = theirs (with_paths T S)
  with_paths (theirs T) (mine bs) = mine bs
  with_paths (mine cs) end = end
  with_paths (mine cs) (theirs S) = theirs S
  with_paths (mine cs) (mine bs) = mine (with_branches cs bs)

  pub with_branches : Branches → Branches → Branches
  with_branches no_more bs = bs
  with_branches (branch m T cs) bs = with_branches cs (put_branch m (λ S. with_paths T S) T bs)

abbrev pub union : Skeleton → Skeleton → Skeleton
union S T = with_paths T S

-- the paths of all, those of the first before those of the second, and so on
abbrev pub union_all : Skeleton → List Skeleton → Skeleton
union_all S [] = S
union_all S (T ∷ Ts) = union_all (union S T) Ts
