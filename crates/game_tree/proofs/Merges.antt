-- What goes below a node of a union, tree by tree.
use Rattle.std.specs.Prelude.{ℕ, ◌+◌, ◌<◌, ◌≤◌, ◌≡◌, List, [], ◌∷◌, ◌++◌, map, length}
use Rattle.std.proofs.Common.{arith, ap, ap₂, ◌∙◌, sym, subst, refl, append-nil}
use Rattle.std.proofs.lemmas.List.{map-append}
use Rattle.lin_term.specs.Move.{Move}
use Rattle.game_tree.specs.declared.tree.Tree.{Tree}
use Rattle.game_tree.specs.declared.tree.Branch.{Branch}
use Rattle.game_tree.specs.declared.group.Group.{Group}
use Rattle.game_tree.specs.Skeleton.{Skeleton, end, theirs, mine, Branches, no_more, branch}
use Rattle.game_tree.specs.View.{skeleton_of, branches_of, branch_of, branches_from}
use Rattle.game_tree.specs.Union.{union_all, with_branches}
use Rattle.game_tree.specs.Gather.{Gathered, group_of, whole, seen, gathered, rests, joined_branches, listed, moves_of, pairs_of, homes_from, add_all, single}
use Rattle.game_tree.proofs.Views.{branch_is}
use Rattle.game_tree.proofs.Gathers.{rests_append, joined_append, listed_from, gathered_seen, union_theirs, union_mine, weight, branch_weight, weight_all, pair_weight, group_weight, gathered_weight, rests_weight, joined_weight, from_weight}

abbrev all_seen : List Tree → List Skeleton
all_seen ts = map skeleton_of ts

pub rest_end : (Ss : List Skeleton) (t : Tree) → skeleton_of t ≡ end → Ss ≡ Ss ++ rests (skeleton_of t ∷ [])
rest_end Ss t e = sym (append-nil Ss) ∙ ap (λ (U : Skeleton). Ss ++ rests (U ∷ [])) (sym e)

pub rest_mine : (Ss : List Skeleton) (t : Tree) (bs : Branches) → skeleton_of t ≡ mine bs → Ss ≡ Ss ++ rests (skeleton_of t ∷ [])
rest_mine Ss t bs e = sym (append-nil Ss) ∙ ap (λ (U : Skeleton). Ss ++ rests (U ∷ [])) (sym e)

pub rest_theirs : (below new : List Tree) (t r : Tree) → skeleton_of t ≡ theirs (skeleton_of r) → new ≡ below ++ r ∷ [] → all_seen new ≡ all_seen below ++ rests (skeleton_of t ∷ [])
rest_theirs below new t r e h =
    ap all_seen h ∙ map-append skeleton_of below (r ∷ []) ∙ ap (λ (U : Skeleton). all_seen below ++ rests (U ∷ [])) (sym e)

pub rests_more : (ys : List Tree) (t : Tree) (old new : List Skeleton) → old ≡ rests (all_seen ys) → new ≡ old ++ rests (skeleton_of t ∷ []) → new ≡ rests (all_seen (ys ++ t ∷ []))
rests_more ys t old new h e =
    e ∙ ap (λ (Ss : List Skeleton). Ss ++ rests (skeleton_of t ∷ [])) h ∙ sym (rests_append (all_seen ys) (skeleton_of t ∷ []))
    ∙ ap rests (sym (map-append skeleton_of ys (t ∷ [])))

pub branches_end : (ps : List (Move × Skeleton)) (t : Tree) → skeleton_of t ≡ end → ps ≡ ps ++ joined_branches (skeleton_of t ∷ [])
branches_end ps t e = sym (append-nil ps) ∙ ap (λ (U : Skeleton). ps ++ joined_branches (U ∷ [])) (sym e)

pub branches_theirs : (ps : List (Move × Skeleton)) (t : Tree) (S : Skeleton) → skeleton_of t ≡ theirs S → ps ≡ ps ++ joined_branches (skeleton_of t ∷ [])
branches_theirs ps t S e = sym (append-nil ps) ∙ ap (λ (U : Skeleton). ps ++ joined_branches (U ∷ [])) (sym e)

pub branches_mine : (all new : List Branch) (t : Tree) (bs : List Branch) → skeleton_of t ≡ mine (branches_of bs) → new ≡ all ++ bs → pairs_of new ≡ pairs_of all ++ joined_branches (skeleton_of t ∷ [])
branches_mine all new t bs e h =
    ap pairs_of h ∙ map-append branch_of all bs ∙ ap (λ (ps : List (Move × Skeleton)). pairs_of all ++ ps) (sym (append-nil (pairs_of bs) ∙ refl))
    ∙ ap (λ (ps : List (Move × Skeleton)). pairs_of all ++ (ps ++ [])) (sym (listed_from (pairs_of bs)))
    ∙ ap (λ (U : Skeleton). pairs_of all ++ joined_branches (U ∷ [])) (sym e)

pub branches_more : (ys : List Tree) (t : Tree) (old new : List (Move × Skeleton)) → old ≡ joined_branches (all_seen ys) → new ≡ old ++ joined_branches (skeleton_of t ∷ []) → new ≡ joined_branches (all_seen (ys ++ t ∷ []))
branches_more ys t old new h e =
    e ∙ ap (λ (ps : List (Move × Skeleton)). ps ++ joined_branches (skeleton_of t ∷ [])) h ∙ sym (joined_append (all_seen ys) (skeleton_of t ∷ []))
    ∙ ap joined_branches (sym (map-append skeleton_of ys (t ∷ [])))

-- ---- groups

pairs_moves : (bs : List Branch) → map (λ b. b.0) (pairs_of bs) ≡ moves_of bs
pairs_moves [] = refl
pairs_moves (b ∷ bs) = ap₂ (λ (m : Move) (ms : List Move). m ∷ ms) (ap (λ (x : Move × Skeleton). x.0) (branch_is b)) (pairs_moves bs)

pub grouped_so : (bs cs turned : List Branch) (homes : List ℕ) (singles all : List Gathered) → homes ≡ homes_from (moves_of bs) (moves_of cs) → singles ≡ map single (pairs_of bs) → turned ≡ cs → all ≡ add_all homes singles (pairs_of turned) → all ≡ gathered (pairs_of bs) (pairs_of cs)
grouped_so bs cs turned homes singles all h s t a =
    a ∙ ap (λ (is : List ℕ). add_all is singles (pairs_of turned)) (h ∙ ap₂ homes_from (sym (pairs_moves bs)) (sym (pairs_moves cs)))
    ∙ ap₂ (λ (gs : List Gathered) (xs : List Branch). add_all (homes_from (map (λ b. b.0) (pairs_of bs)) (map (λ b. b.0) (pairs_of cs))) gs (pairs_of xs)) s t

-- one more group is put together
pub group_whole : (all : List Branch) (gs : List Group) (b : Branch) (g : Group) → pairs_of all ≡ map whole (map group_of gs) → b.term ≡ g.term → skeleton_of b.rest ≡ union_all (skeleton_of g.first) (map skeleton_of g.more.items)
    → pairs_of (all ++ b ∷ []) ≡ map whole (map group_of (gs ++ g ∷ []))
group_whole all gs b g h m r =
    map-append branch_of all (b ∷ [])
    ∙ ap₂ (λ (xs : List (Move × Skeleton)) (x : Move × Skeleton). xs ++ x ∷ []) h (branch_is b ∙ ap₂ pair m r)
    ∙ sym (ap (map whole) (map-append group_of gs (g ∷ [])) ∙ map-append whole (map group_of gs) (group_of g ∷ []))
  where
    pair : Move → Skeleton → Move × Skeleton
    pair x y = (x, y)

-- ---- the union at a node

pub theirs_whole : (r t : Tree) (first : Tree) (more below : List Tree) (result : Tree) → skeleton_of first ≡ theirs (skeleton_of r) → all_seen below ≡ rests (all_seen more) → skeleton_of t ≡ union_all (skeleton_of r) (all_seen below) → skeleton_of result ≡ theirs (skeleton_of t)
    → skeleton_of result ≡ union_all (skeleton_of first) (all_seen more)
theirs_whole r t first more below result f b u e =
    e ∙ ap theirs (u ∙ ap (λ (Ss : List Skeleton). union_all (skeleton_of r) Ss) b) ∙ sym (union_theirs (skeleton_of r) (all_seen more))
    ∙ ap (λ (S : Skeleton). union_all S (all_seen more)) (sym f)

pub mine_whole : (own others merged : List Branch) (groups : List Gathered) (first : Tree) (more : List Tree) (result : Tree) → skeleton_of first ≡ mine (branches_of own) → pairs_of others ≡ joined_branches (all_seen more)
    → groups ≡ gathered (pairs_of own) (pairs_of others) → branches_of merged ≡ seen groups → skeleton_of result ≡ mine (branches_of merged) → skeleton_of result ≡ union_all (skeleton_of first) (all_seen more)
mine_whole own others merged groups first more result f o g m e =
    e ∙ ap mine (m ∙ ap seen g ∙ gathered_seen (pairs_of own) (pairs_of others) ∙ ap (λ (ps : List (Move × Skeleton)). with_branches (branches_from ps) (branches_of own)) o)
    ∙ sym (union_mine (branches_of own) (all_seen more)) ∙ ap (λ (S : Skeleton). union_all S (all_seen more)) (sym f)

-- ---- what is left weighs less

pub rest_lighter : (first r : Tree) (more below : List Tree) → skeleton_of first ≡ theirs (skeleton_of r) → all_seen below ≡ rests (all_seen more)
    → weight (skeleton_of r) + weight_all (all_seen below) < weight (skeleton_of first) + weight_all (all_seen more)
rest_lighter first r more below f b =
    let h = rests_weight (all_seen more) in
    let e = ap weight_all b in
    let g = ap weight f in omega arith

pub groups_lighter : (first : Tree) (own others : List Branch) (more : List Tree) (groups : List Gathered) → skeleton_of first ≡ mine (branches_of own) → pairs_of others ≡ joined_branches (all_seen more) → groups ≡ gathered (pairs_of own) (pairs_of others)
    → group_weight groups < weight (skeleton_of first) + weight_all (all_seen more)
groups_lighter first own others more groups f o g =
    let h = gathered_weight (pairs_of own) (pairs_of others) in
    let e = ap group_weight g in
    let j = joined_weight (all_seen more) in
    let p = ap pair_weight o in
    let w = ap weight f in
    let u = from_weight (pairs_of own) in omega arith

among_lighter : (xs behind : List Group) (g : Group) → weight (skeleton_of g.first) + weight_all (map skeleton_of g.more.items) ≤ group_weight (map group_of (xs ++ g ∷ behind))
among_lighter [] behind g = omega arith
among_lighter (x ∷ xs) behind g = let h = among_lighter xs behind g in omega arith

pub one_lighter : (gs : List Group) (before behind : List Group) (g : Group) → gs ≡ before ++ g ∷ behind → weight (skeleton_of g.first) + weight_all (map skeleton_of g.more.items) ≤ group_weight (map group_of gs)
one_lighter gs before behind g e = let h = ap (λ (xs : List Group). group_weight (map group_of xs)) e in let k = among_lighter before behind g in omega arith
