-- Groups by moves stand for the union, and weigh no more than what goes into them.
use Rattle.std.specs.Prelude.{ℕ, zero, suc, ◌+◌, ◌≤◌, ◌<◌, ◌≡◌, Bool, true, false, if◌then◌else◌, Option, Some, None, List, [], ◌∷◌, ◌++◌, map, length}
use Rattle.std.specs.Option.{option_map, unwrap_or}
use Rattle.std.proofs.Common.{arith, ap, ap₂, ◌∙◌, sym, subst, refl, append_assoc, append-nil}
use Rattle.lin_term.specs.Move.{Move}
use Rattle.lin_term.specs.Same.{same_move}
use Rattle.game_tree.specs.Skeleton.{Skeleton, end, theirs, mine, Branches, no_more, branch}
use Rattle.game_tree.specs.View.{branches_from}
use Rattle.game_tree.specs.Union.{put_branch, with_paths, with_branches, union, union_all}
use Rattle.game_tree.specs.Gather.{place, with_new_move, home, all_moves, homes_from, Gathered, single, add_at, add_all, terms, gathered, whole, seen, listed, joined_branches, rests}

pub union_all_push : (S : Skeleton) (Ts : List Skeleton) (T : Skeleton) → union_all S (Ts ++ T ∷ []) ≡ with_paths T (union_all S Ts)
union_all_push S [] T = refl
union_all_push S (U ∷ Ts) T = union_all_push (with_paths U S) Ts T

-- ---- one branch goes home

next_home : (o : Option ℕ) (n : ℕ) → unwrap_or (option_map (λ i. suc i) o) (suc n) ≡ suc (unwrap_or o n)
next_home None n = refl
next_home (Some i) n = refl

pub put_home : (m : Move) (T : Skeleton) (gs : List Gathered) → seen (add_at (home (terms gs) m) m T gs) ≡ put_branch m (λ S. with_paths T S) T (seen gs)
put_home m T [] = refl
put_home m T (g ∷ gs) = by (same_move g.0 m) (put_home m T gs)
  where
    by : (b : Bool) → seen (add_at (home (terms gs) m) m T gs) ≡ put_branch m (λ S. with_paths T S) T (seen gs)
        → seen (add_at (unwrap_or (if b then Some 0 else option_map (λ i. suc i) (place m (terms gs))) (suc (length (terms gs)))) m T (g ∷ gs))
        ≡ (if b then branch g.0 (with_paths T (union_all g.1 g.2)) (seen gs) else branch g.0 (union_all g.1 g.2) (put_branch m (λ S. with_paths T S) T (seen gs)))
    by true h = ap (λ (S : Skeleton). branch g.0 S (seen gs)) (union_all_push g.1 g.2 T)
    by false h =
        ap (λ (i : ℕ). seen (add_at i m T (g ∷ gs))) (next_home (place m (terms gs)) (length (terms gs)))
        ∙ ap (λ (bs : Branches). branch g.0 (union_all g.1 g.2) bs) h

pub terms_home : (m : Move) (T : Skeleton) (gs : List Gathered) → terms (add_at (home (terms gs) m) m T gs) ≡ with_new_move (terms gs) m
terms_home m T [] = refl
terms_home m T (g ∷ gs) = by (same_move g.0 m) (terms_home m T gs)
  where
    by : (b : Bool) → terms (add_at (home (terms gs) m) m T gs) ≡ with_new_move (terms gs) m
        → terms (add_at (unwrap_or (if b then Some 0 else option_map (λ i. suc i) (place m (terms gs))) (suc (length (terms gs)))) m T (g ∷ gs))
        ≡ (if b then g.0 ∷ terms gs else g.0 ∷ with_new_move (terms gs) m)
    by true h = refl
    by false h =
        ap (λ (i : ℕ). terms (add_at i m T (g ∷ gs))) (next_home (place m (terms gs)) (length (terms gs)))
        ∙ ap (λ (ms : List Move). g.0 ∷ ms) h

-- ---- all of them

pub seen_all : (gs : List Gathered) (bs : List (Move × Skeleton)) → seen (add_all (homes_from (terms gs) (map (λ b. b.0) bs)) gs bs) ≡ with_branches (branches_from bs) (seen gs)
seen_all gs [] = refl
seen_all gs (b ∷ bs) =
    ap (λ (ms : List Move). seen (add_all (homes_from ms (map (λ b. b.0) bs)) (add_at (home (terms gs) b.0) b.0 b.1 gs) bs)) (sym (terms_home b.0 b.1 gs))
    ∙ seen_all (add_at (home (terms gs) b.0) b.0 b.1 gs) bs
    ∙ ap (λ (cs : Branches). with_branches (branches_from bs) cs) (put_home b.0 b.1 gs)

single_terms : (bs : List (Move × Skeleton)) → terms (map single bs) ≡ map (λ b. b.0) bs
single_terms [] = refl
single_terms (b ∷ bs) = ap (λ (ms : List Move). b.0 ∷ ms) (single_terms bs)

single_seen : (bs : List (Move × Skeleton)) → seen (map single bs) ≡ branches_from bs
single_seen [] = refl
single_seen (b ∷ bs) = ap (λ (cs : Branches). branch b.0 b.1 cs) (single_seen bs)

pub gathered_seen : (bs cs : List (Move × Skeleton)) → seen (gathered bs cs) ≡ with_branches (branches_from cs) (branches_from bs)
gathered_seen bs cs =
    ap (λ (ms : List Move). seen (add_all (homes_from ms (map (λ b. b.0) cs)) (map single bs) cs)) (sym (single_terms bs))
    ∙ seen_all (map single bs) cs ∙ ap (λ (x : Branches). with_branches (branches_from cs) x) (single_seen bs)

-- ---- unions by their cases

pub union_end : (Ts : List Skeleton) → union_all end Ts ≡ end
union_end [] = refl
union_end (end ∷ Ts) = union_end Ts
union_end (theirs T ∷ Ts) = union_end Ts
union_end (mine cs ∷ Ts) = union_end Ts

pub union_theirs : (S : Skeleton) (Ts : List Skeleton) → union_all (theirs S) Ts ≡ theirs (union_all S (rests Ts))
union_theirs S [] = refl
union_theirs S (end ∷ Ts) = union_theirs S Ts
union_theirs S (theirs T ∷ Ts) = union_theirs (with_paths T S) Ts
union_theirs S (mine cs ∷ Ts) = union_theirs S Ts

pub listed_back : (bs : Branches) → branches_from (listed bs) ≡ bs
listed_back no_more = refl
listed_back (branch m S bs) = ap (λ (cs : Branches). branch m S cs) (listed_back bs)

pub listed_from : (bs : List (Move × Skeleton)) → listed (branches_from bs) ≡ bs
listed_from [] = refl
listed_from (b ∷ bs) = ap (λ (cs : List (Move × Skeleton)). b ∷ cs) (listed_from bs)

with_appended : (xs ys : List (Move × Skeleton)) (bs : Branches) → with_branches (branches_from (xs ++ ys)) bs ≡ with_branches (branches_from ys) (with_branches (branches_from xs) bs)
with_appended [] ys bs = refl
with_appended (x ∷ xs) ys bs = with_appended xs ys (put_branch x.0 (λ S. with_paths x.1 S) x.1 bs)

pub union_mine : (bs : Branches) (Ts : List Skeleton) → union_all (mine bs) Ts ≡ mine (with_branches (branches_from (joined_branches Ts)) bs)
union_mine bs [] = refl
union_mine bs (end ∷ Ts) = union_mine bs Ts
union_mine bs (theirs T ∷ Ts) = union_mine bs Ts
union_mine bs (mine cs ∷ Ts) =
    union_mine (with_branches cs bs) Ts
    ∙ ap (λ (x : Branches). mine (with_branches (branches_from (joined_branches Ts)) (with_branches x bs))) (sym (listed_back cs))
    ∙ ap mine (sym (with_appended (listed cs) (joined_branches Ts) bs))

-- ---- lists at their end

pub rests_append : (xs ys : List Skeleton) → rests (xs ++ ys) ≡ rests xs ++ rests ys
rests_append [] ys = refl
rests_append (end ∷ xs) ys = rests_append xs ys
rests_append (theirs S ∷ xs) ys = ap (λ (zs : List Skeleton). S ∷ zs) (rests_append xs ys)
rests_append (mine bs ∷ xs) ys = rests_append xs ys

pub joined_append : (xs ys : List Skeleton) → joined_branches (xs ++ ys) ≡ joined_branches xs ++ joined_branches ys
joined_append [] ys = refl
joined_append (end ∷ xs) ys = joined_append xs ys
joined_append (theirs S ∷ xs) ys = joined_append xs ys
joined_append (mine bs ∷ xs) ys =
    ap (λ (zs : List (Move × Skeleton)). listed bs ++ zs) (joined_append xs ys) ∙ sym (append_assoc (listed bs) (joined_branches xs) (joined_branches ys))

pub homes_push : (ns ms : List Move) (m : Move) → homes_from ns (ms ++ m ∷ []) ≡ homes_from ns ms ++ home (all_moves ns ms) m ∷ []
homes_push ns [] m = refl
homes_push ns (u ∷ ms) m = ap (λ (is : List ℕ). home ns u ∷ is) (homes_push (with_new_move ns u) ms m)

pub moves_push : (ns ms : List Move) (m : Move) → all_moves ns (ms ++ m ∷ []) ≡ with_new_move (all_moves ns ms) m
moves_push ns [] m = refl
moves_push ns (u ∷ ms) m = moves_push (with_new_move ns u) ms m

-- ---- weights, which fall from a node to what stands below it

abbrev mutual
  pub weight : Skeleton → ℕ
  weight end = 0
  weight (theirs S) = 1 + weight S
  weight (mine bs) = 1 + branch_weight bs

  pub branch_weight : Branches → ℕ
  branch_weight no_more = 0
  branch_weight (branch m S bs) = weight S + branch_weight bs

abbrev pub weight_all : List Skeleton → ℕ
weight_all [] = 0
weight_all (S ∷ Ss) = weight S + weight_all Ss

abbrev pub pair_weight : List (Move × Skeleton) → ℕ
pair_weight [] = 0
pair_weight (b ∷ bs) = weight b.1 + pair_weight bs

abbrev pub group_weight : List Gathered → ℕ
group_weight [] = 0
group_weight (g ∷ gs) = (weight g.1 + weight_all g.2) + group_weight gs

weight_push : (Ss : List Skeleton) (S : Skeleton) → weight_all (Ss ++ S ∷ []) ≡ weight_all Ss + weight S
weight_push [] S = omega arith
weight_push (T ∷ Ss) S = let h = weight_push Ss S in omega arith

added_weight : (i : ℕ) (m : Move) (T : Skeleton) (gs : List Gathered) → group_weight (add_at i m T gs) ≡ group_weight gs + weight T
added_weight i m T [] = omega arith
added_weight zero m T (g ∷ gs) = let h = weight_push g.2 T in omega arith
added_weight (suc i) m T (g ∷ gs) = let h = added_weight i m T gs in omega arith

all_weight : (is : List ℕ) (gs : List Gathered) (bs : List (Move × Skeleton)) → group_weight (add_all is gs bs) ≤ group_weight gs + pair_weight bs
all_weight [] gs bs = omega arith
all_weight (i ∷ is) gs [] = omega arith
all_weight (i ∷ is) gs (b ∷ bs) = let h = all_weight is (add_at i b.0 b.1 gs) bs in let k = added_weight i b.0 b.1 gs in omega arith

single_weight : (bs : List (Move × Skeleton)) → group_weight (map single bs) ≡ pair_weight bs
single_weight [] = refl
single_weight (b ∷ bs) = let h = single_weight bs in omega arith

pub gathered_weight : (bs cs : List (Move × Skeleton)) → group_weight (gathered bs cs) ≤ pair_weight bs + pair_weight cs
gathered_weight bs cs =
    let h = all_weight (homes_from (map (λ b. b.0) bs) (map (λ b. b.0) cs)) (map single bs) cs in
    let k = single_weight bs in omega arith

pub rests_weight : (Ts : List Skeleton) → weight_all (rests Ts) ≤ weight_all Ts
rests_weight [] = omega arith
rests_weight (end ∷ Ts) = let h = rests_weight Ts in omega arith
rests_weight (theirs S ∷ Ts) = let h = rests_weight Ts in omega arith
rests_weight (mine bs ∷ Ts) = let h = rests_weight Ts in omega arith

listed_weight : (bs : Branches) (xs : List (Move × Skeleton)) → pair_weight (listed bs ++ xs) ≡ branch_weight bs + pair_weight xs
listed_weight no_more xs = omega arith
listed_weight (branch m S bs) xs = let h = listed_weight bs xs in omega arith

pub joined_weight : (Ts : List Skeleton) → pair_weight (joined_branches Ts) ≤ weight_all Ts
joined_weight [] = omega arith
joined_weight (end ∷ Ts) = let h = joined_weight Ts in omega arith
joined_weight (theirs S ∷ Ts) = let h = joined_weight Ts in omega arith
joined_weight (mine bs ∷ Ts) = let h = joined_weight Ts in let k = listed_weight bs (joined_branches Ts) in omega arith

pub from_weight : (bs : List (Move × Skeleton)) → branch_weight (branches_from bs) ≡ pair_weight bs
from_weight [] = refl
from_weight (b ∷ bs) = let h = from_weight bs in omega arith
