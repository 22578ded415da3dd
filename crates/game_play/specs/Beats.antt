-- One skeleton against another, played with actual values. The numbers have no bound here.
use Rattle.std.specs.Prelude.{◌⊎◌, List, [], ◌∷◌, ⊤}
use Rattle.lin_term.specs.declared.Sort.{Sort}
use Rattle.lin_term.specs.Linear.{Point, origin}
use Rattle.lin_term.specs.Move.{Move}
use Rattle.dom_core.specs.declared.Quant.{Quant}
use Rattle.dom_core.specs.declared.Quant.TheVariants.{Exists, Forall}
use Rattle.dom_core.specs.Game.{Matrix, HoldsIn, Problem}
use Rattle.dom_core.specs.Pick.{played}
use Rattle.game_tree.specs.Skeleton.{Skeleton, end, theirs, mine, Branches, no_more, branch}

abbrev pub SomeBranch : Branches → (Move → Skeleton → Type 0) → Type 0
SomeBranch no_more F = ⊥
SomeBranch (branch m S bs) F = F m S ⊎ SomeBranch bs F

abbrev pub EachBranch : Branches → (Move → Skeleton → Type 0) → Type 0
EachBranch no_more F = ⊤
EachBranch (branch m S bs) F = F m S × EachBranch bs F

-- From this point on the owner of S, who is Exists in the prefix, wins against U: at a variable of Exists some move of S
-- wins, at one of Forall each move of U leaves a win, at the end the matrix holds.
abbrev pub Wins : List Quant → Sort → Matrix → Skeleton → Skeleton → Point → Type 0
Wins [] s m S U p = HoldsIn m p
Wins (Exists ∷ qs) s m (mine bs) (theirs U) p = SomeBranch bs (λ mv S. Wins qs s m S U (played s mv p))
Wins (Exists ∷ qs) s m (mine bs) end p = ⊥
Wins (Exists ∷ qs) s m (mine bs) (mine cs) p = ⊥
Wins (Exists ∷ qs) s m end U p = ⊥
Wins (Exists ∷ qs) s m (theirs S) U p = ⊥
Wins (Forall ∷ qs) s m (theirs S) (mine cs) p = EachBranch cs (λ mv U. Wins qs s m S U (played s mv p))
Wins (Forall ∷ qs) s m (theirs S) end p = ⊥
Wins (Forall ∷ qs) s m (theirs S) (theirs U) p = ⊥
Wins (Forall ∷ qs) s m end U p = ⊥
Wins (Forall ∷ qs) s m (mine bs) U p = ⊥

-- S of the problem's Exists wins against U of its dual's
abbrev pub Beats : Sort → Problem → Skeleton → Skeleton → Type 0
Beats s P S U = Wins P.prefix s P.matrix S U origin
