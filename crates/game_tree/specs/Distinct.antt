-- Branches with distinct moves.
use Rattle.std.specs.Prelude.{⊤}
use Rattle.game_tree.specs.Skeleton.{Branches, no_more, branch, IsNew}

-- no two of the branches have the same move
abbrev pub AreDistinct : Branches → Type 0
AreDistinct no_more = ⊤
AreDistinct (branch m t bs) = IsNew m bs × AreDistinct bs
