-- What a version shows of one move, with more behind it, against branches.
use Rattle.std.specs.Prelude.{ℕ, ◌≡◌, List, [], ◌∷◌, ◌++◌}
use Rattle.game_tree.specs.declared.Tree.{Tree}
use Rattle.game_tree.specs.declared.Branch.{Branch}
use Rattle.game_tree.specs.View.{branches_of}
use Rattle.grown_tree.specs.declared.marks.Mark.{Mark}
use Rattle.grown_tree.specs.Shown.{visible}

abbrev pub IsShown : ℕ → Mark → Tree → List Branch → List Branch → Type 0
IsShown v m t xs bs = branches_of (visible v (m ∷ []) (t ∷ []) ++ xs) ≡ branches_of bs
