-- The play of one skeleton against another from left to right, moves in order, up to the first that decides.
use Rattle.std.specs.Prelude.{true, false, List, [], ◌∷◌, ◌++◌}
use Rattle.lin_term.specs.declared.Sort.{Sort}
use Rattle.lin_term.specs.Linear.{Value}
use Rattle.lin_term.specs.Move.{Move}
use Rattle.dom_core.specs.declared.Quant.{Quant}
use Rattle.dom_core.specs.declared.Quant.TheVariants.{Exists, Forall}
use Rattle.dom_core.specs.Game.{Matrix, Problem}
use Rattle.game_tree.specs.Skeleton.{Skeleton, end, theirs, mine, Branches, no_more, branch}
use Rattle.game_play.specs.Worth.{move_worth, move_steps}
use Rattle.game_play.specs.Course.{Course, decided, after, or_else, and_then, tested}

-- up to the first branch that wins
abbrev pub first_branch : Branches → (Move → Skeleton → Course) → Course
first_branch no_more F = decided false
first_branch (branch m S bs) F = or_else (F m S) (first_branch bs F)

-- up to the first branch that does not win
abbrev pub every_branch : Branches → (Move → Skeleton → Course) → Course
every_branch no_more F = decided true
every_branch (branch m S bs) F = and_then (F m S) (every_branch bs F)

-- the values with the move's value for the next variable
abbrev pub with_move : Sort → Move → List Value → List Value
with_move s m vs = vs ++ move_worth s m vs ∷ []

-- S is of the player who is Exists in the prefix, U of the other
abbrev pub play : List Quant → Sort → Matrix → Skeleton → Skeleton → List Value → Course
play [] s m S U vs = tested m vs
play (Exists ∷ qs) s m (mine bs) (theirs U) vs =
    first_branch bs (λ mv S. after (move_steps s mv vs) (play qs s m S U (with_move s mv vs)))
play (Exists ∷ qs) s m (mine bs) end vs = decided false
play (Exists ∷ qs) s m (mine bs) (mine cs) vs = decided false
play (Exists ∷ qs) s m end U vs = decided false
play (Exists ∷ qs) s m (theirs S) U vs = decided false
play (Forall ∷ qs) s m (theirs S) (mine cs) vs =
    every_branch cs (λ mv U. after (move_steps s mv vs) (play qs s m S U (with_move s mv vs)))
play (Forall ∷ qs) s m (theirs S) end vs = decided false
play (Forall ∷ qs) s m (theirs S) (theirs U) vs = decided false
play (Forall ∷ qs) s m end U vs = decided false
play (Forall ∷ qs) s m (mine bs) U vs = decided false

-- the play of a problem
abbrev pub played_out : Sort → Problem → Skeleton → Skeleton → Course
played_out s P S U = play P.prefix s P.matrix S U []
