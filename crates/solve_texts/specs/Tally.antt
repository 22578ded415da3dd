-- What the entries of a history added.
use Rattle.std.specs.Prelude.{ℕ, ◌+◌, List, [], ◌∷◌, ◌++◌}
use Rattle.dom_core.specs.declared.Side.TheVariants.{Exists, Forall}
use Rattle.game_tree.specs.Skeleton.{Skeleton}
use Rattle.game_history.specs.History.{Entry, added, held, spent, too_large, noted, won, found}

-- 1 for an entry that added a version
abbrev pub added_by : Entry → ℕ
added_by (added side v C m) = 1
added_by (held side v C) = 0
added_by (spent side v C) = 0
added_by (too_large side v C n) = 0
added_by (noted side v y) = 0
added_by (won side v) = 0
added_by (found side S) = 0

abbrev pub added_in : List Entry → ℕ
added_in [] = 0
added_in (e ∷ H) = added_by e + added_in H

-- what Exists added by this entry
abbrev pub paths_by : Entry → List Skeleton
paths_by (added Exists v C m) = C ∷ []
paths_by (added Forall v C m) = []
paths_by (held side v C) = []
paths_by (spent side v C) = []
paths_by (too_large side v C n) = []
paths_by (noted side v y) = []
paths_by (won side v) = []
paths_by (found side S) = []

abbrev pub paths_in : List Entry → List Skeleton
paths_in [] = []
paths_in (e ∷ H) = paths_by e ++ paths_in H
