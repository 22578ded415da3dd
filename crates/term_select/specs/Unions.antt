-- The union of a list of skeletons.
use Rattle.std.specs.Prelude.{List, [], ◌∷◌}
use Rattle.game_tree.specs.Skeleton.{Skeleton, end}
use Rattle.game_tree.specs.Union.{union_all}

-- from the first on; of none the tree without variables
abbrev pub union_of_all : List Skeleton → Skeleton
union_of_all [] = end
union_of_all (S ∷ Ss) = union_all S Ss
