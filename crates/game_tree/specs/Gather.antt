-- Branches put together by their moves: to which group each goes, and what the groups say.
use Rattle.std.specs.Prelude.{ℕ, zero, suc, ◌+◌, ◌≡◌, if◌then◌else◌, Option, Some, None, List, [], ◌∷◌, ◌++◌, map, length}
use Rattle.std.specs.Option.{option_map, unwrap_or}
use Rattle.lin_term.specs.Move.{Move}
use Rattle.lin_term.specs.Same.{same_move}
use Rattle.game_tree.specs.declared.tree.Branch.{Branch}
use Rattle.game_tree.specs.declared.group.Group.{Group}
use Rattle.game_tree.specs.Skeleton.{Skeleton, end, theirs, mine, Branches, no_more, branch}
use Rattle.game_tree.specs.View.{skeleton_of, branches_from, branch_of}
use Rattle.game_tree.specs.Union.{union_all}

-- the first place of the move
abbrev pub place : Move → List Move → Option ℕ
place m [] = None
place m (n ∷ ns) = if same_move n m then Some 0 else option_map (λ i. suc i) (place m ns)

-- the moves with this one, which stands last if it is new
abbrev pub with_new_move : List Move → Move → List Move
with_new_move [] m = m ∷ []
with_new_move (n ∷ ns) m = if same_move n m then n ∷ ns else n ∷ with_new_move ns m

-- where this one then stands
abbrev pub home : List Move → Move → ℕ
home ns m = unwrap_or (place m ns) (length ns)

abbrev pub all_moves : List Move → List Move → List Move
all_moves ns [] = ns
all_moves ns (m ∷ ms) = all_moves (with_new_move ns m) ms

-- where each of these stands when its turn comes
abbrev pub homes_from : List Move → List Move → List ℕ
homes_from ns [] = []
homes_from ns (m ∷ ms) = home ns m ∷ homes_from (with_new_move ns m) ms

-- a move with the skeletons below it, the first apart
abbrev pub Gathered : Type 0
Gathered = Move × Skeleton × List Skeleton

abbrev pub group_of : Group → Gathered
group_of g = (g.term, skeleton_of g.first, map skeleton_of g.more.items)

abbrev pub single : Move × Skeleton → Gathered
single b = (b.0, b.1, [])

-- the skeleton goes to the group at this place, or opens one behind the others
abbrev pub add_at : ℕ → Move → Skeleton → List Gathered → List Gathered
add_at i m T [] = (m, T, []) ∷ []
add_at zero m T (g ∷ gs) = (g.0, g.1, g.2 ++ T ∷ []) ∷ gs
add_at (suc i) m T (g ∷ gs) = g ∷ add_at i m T gs

abbrev pub add_all : List ℕ → List Gathered → List (Move × Skeleton) → List Gathered
add_all [] gs bs = gs
add_all (i ∷ is) gs [] = gs
add_all (i ∷ is) gs (b ∷ bs) = add_all is (add_at i b.0 b.1 gs) bs

abbrev pub terms : List Gathered → List Move
terms gs = map (λ g. g.0) gs

-- the branches and those of the others behind them, put together
abbrev pub gathered : List (Move × Skeleton) → List (Move × Skeleton) → List Gathered
gathered bs cs = add_all (homes_from (map (λ b. b.0) bs) (map (λ b. b.0) cs)) (map single bs) cs

-- the branches that the groups stand for
abbrev pub whole : Gathered → Move × Skeleton
whole g = (g.0, union_all g.1 g.2)

abbrev pub seen : List Gathered → Branches
seen gs = branches_from (map whole gs)

abbrev pub listed : Branches → List (Move × Skeleton)
listed no_more = []
listed (branch m S bs) = (m, S) ∷ listed bs

-- the branches of those that begin with a variable of the owner
abbrev pub joined_branches : List Skeleton → List (Move × Skeleton)
joined_branches [] = []
joined_branches (end ∷ Ts) = joined_branches Ts
joined_branches (theirs S ∷ Ts) = joined_branches Ts
joined_branches (mine bs ∷ Ts) = listed bs ++ joined_branches Ts

-- what stands below those that begin with a variable of the other player
abbrev pub rests : List Skeleton → List Skeleton
rests [] = []
rests (end ∷ Ts) = rests Ts
rests (theirs S ∷ Ts) = S ∷ rests Ts
rests (mine bs ∷ Ts) = rests Ts

-- the moves of branches
abbrev pub moves_of : List Branch → List Move
moves_of bs = map (λ b. b.term) bs

abbrev pub pairs_of : List Branch → List (Move × Skeleton)
pairs_of bs = map branch_of bs
