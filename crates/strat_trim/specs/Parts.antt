-- What is left of a tree.
use Rattle.std.specs.Prelude.{ℕ, ◌≡◌, Bool, true, false, if◌then◌else◌, Option, Some, None, List}
use Rattle.lin_term.specs.Move.{Move}
use Rattle.game_tree.specs.declared.Tree.{Tree}
use Rattle.game_tree.specs.declared.Branch.{Branch}
use Rattle.game_tree.specs.Skeleton.{Skeleton, Branches, no_more, branch}
use Rattle.game_tree.specs.View.{skeleton_of, branches_of}
use Rattle.strat_trim.specs.Trimmed.{has_path, prune}

-- none where no path is chosen, else the tree of the chosen paths
abbrev pub IsPart : Option Tree → Skeleton → (ℕ → Bool) → ℕ → Type 0
IsPart None S chosen k = has_path S chosen k ≡ false
IsPart (Some t) S chosen k = (has_path S chosen k ≡ true) × (skeleton_of t ≡ prune S chosen k)

-- branches before others
abbrev pub joined : Branches → Branches → Branches
joined no_more cs = cs
joined (branch m t bs) cs = branch m t (joined bs cs)

-- what is left of the branch stands behind the others, where anything is
abbrev pub Adds : Move → Skeleton → (ℕ → Bool) → ℕ → List Branch → List Branch → Type 0
Adds m S chosen k old new =
    (cs : Branches) → joined (branches_of new) cs ≡ joined (branches_of old) (if has_path S chosen k then branch m (prune S chosen k) cs else cs)
