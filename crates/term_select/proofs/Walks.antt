-- The walk over a tree of `src/`: what its parts ask and give.
use Rattle.std.specs.Prelude.{ℕ, suc, ◌+◌, ◌<◌, ◌≤◌, ◌≡◌, ℤ, true, Option, Some, None, Result, Ok, Err, List, [], ◌∷◌, ◌++◌, drop, get_or, length, map}
use Rattle.std.specs.Option.{MatchOption}
use Rattle.std.specs.Result.{OnOk}
use Rattle.std.proofs.Common.{arith, ap, ◌∙◌, sym, subst, refl, length-append}
use Rattle.std.proofs.lemmas.List.{same_from_push}
use Rattle.lin_term.specs.declared.Sort.{Sort}
use Rattle.lin_term.specs.declared.Short.{Short}
use Rattle.lin_term.specs.declared.Lit.{Lit}
use Rattle.lin_term.specs.Linear.{Point, origin, extend}
use Rattle.lin_term.specs.Fixing.{at_names}
use Rattle.lin_term.specs.Move.{Move}
use Rattle.lin_term.specs.Wide.{first_past}
use Rattle.dom_core.specs.Game.{Matrix}
use Rattle.dom_core.specs.PutMove.{with_new, put_in, put_in_numbers}
use Rattle.game_play.specs.Course.{IsOver}
use Rattle.game_tree.specs.declared.Tree.{Tree}
use Rattle.game_tree.specs.declared.Tree.TheVariants as trees
use Rattle.game_tree.specs.declared.Branch.{Branch}
use Rattle.game_tree.specs.Skeleton.{Skeleton, end, theirs, mine, Branches, no_more, branch, nodes, branch_nodes, IsMoveAt}
use Rattle.game_tree.specs.View.{skeleton_of, branches_of}
use Rattle.game_tree.proofs.Views.{seen_end, seen_theirs, seen_mine, branches_at, branches_done, fewer_left}
use Rattle.term_select.specs.declared.part.Part.{Part}
use Rattle.term_select.specs.declared.part.LowerPart.{LowerPart}
use Rattle.term_select.specs.declared.part.Met.{Met}
use Rattle.term_select.specs.declared.part.Stop.{Stop}
use Rattle.term_select.specs.Guided.{value_of, true_at, implicant, first_wide, with_pick, guided_from, guided_branches, under_theirs}
use Rattle.term_select.specs.Unions.{union_of_all}
use Rattle.term_select.specs.Walk.{values_on, CanSelect, CanSelectEach, IsKeptCube, CappedAt, Gives, GivesBelow}
use Rattle.term_select.proofs.Alike.{AreAlike, path_length}
use Rattle.term_select.proofs.Going.{values_push, longer, here_on, alike_below, can_below, can_branches, can_first, first_move, leaf_over, leaf_true, leaf_implicant, leaf_kept}
use Rattle.term_select.proofs.Giving.{theirs_given, theirs_short, moved_short, moved_wide, moved_given}
use Rattle.term_select.proofs.Meeting.{Walked, one_part, walked_more, walked_short, walked_last, once_kept}
use Rattle.term_select.proofs.Earlier.{pick_earlier}

-- ---- the form of a tree

pub theirs_is : (T t u : Tree) → T ≡ trees.Theirs t → u ≡ t → skeleton_of T ≡ theirs (skeleton_of u)
theirs_is T t u e h = ap skeleton_of e ∙ seen_theirs t ∙ ap (λ (w : Tree). theirs (skeleton_of w)) (sym h)

pub mine_is : (T : Tree) (bs cs : List Branch) → T ≡ trees.Mine bs → cs ≡ bs → skeleton_of T ≡ mine (branches_of cs)
mine_is T bs cs e h = ap skeleton_of e ∙ seen_mine bs ∙ ap (λ (ds : List Branch). mine (branches_of ds)) (sym h)

pub end_is : (T : Tree) → T ≡ trees.End → skeleton_of T ≡ end
end_is T e = ap skeleton_of e ∙ seen_end

pub can_as : (s : Sort) (M : Matrix) (p : Point) (T U : Skeleton) (v : ℕ) (names : List ℕ) → T ≡ U → CanSelect s M p T v names → CanSelect s M p U v names
can_as s M p T U v names e c = subst (λ (S : Skeleton). CanSelect s M p S v names) e c

long_on : (s : Sort) (M : Matrix) (p : Point) (T : Skeleton) (v : ℕ) (names : List ℕ) → CanSelect s M p T v names → length (values_on p names).nums ≡ length names
long_on s M p T v names c = (here_on s p names c.point).long

-- ---- a leaf

pub end_over : (s : Sort) (M : Matrix) (p : Point) (T : Tree) (v : ℕ) (names ws : List ℕ) → T ≡ trees.End → ws ≡ names → CanSelect s M p (skeleton_of T) v names → IsOver M (length ws)
end_over s M p T v names ws e w c = subst (λ (ns : List ℕ). IsOver M (length ns)) (sym w) (leaf_over s M p v names (can_as s M p (skeleton_of T) end v names (end_is T e) c))

pub end_true : (s : Sort) (M : Matrix) (p : Point) (T : Tree) (v : ℕ) (names ws : List ℕ) → T ≡ trees.End → ws ≡ names → CanSelect s M p (skeleton_of T) v names → true_at M (at_names ws p) ≡ true
end_true s M p T v names ws e w c = subst (λ (ns : List ℕ). true_at M (at_names ns p) ≡ true) (sym w) (leaf_true s M p v names (can_as s M p (skeleton_of T) end v names (end_is T e) c))

pub end_gives : (s : Sort) (M : Matrix) (p : Point) (T : Tree) (v : ℕ) (names ws : List ℕ) (part : Part) → T ≡ trees.End → ws ≡ names → CanSelect s M p (skeleton_of T) v names → part.cube ≡ implicant M (at_names ws p) → skeleton_of part.tree ≡ end → part.next ≡ v
    → Gives (guided_from (skeleton_of T) s M p (length names) v (values_on p names)) (v + nodes (skeleton_of T)) (Ok part)
end_gives s M p T v names ws part e w c k t n =
    subst (λ (S : Skeleton). Gives (guided_from S s M p (length names) v (values_on p names)) (v + nodes S) (Ok part)) (sym (end_is T e)) (
      refl,
      k ∙ ap (λ (ns : List ℕ). implicant M (at_names ns p)) w ∙ sym (leaf_implicant s M p v names (can_as s M p (skeleton_of T) end v names (end_is T e) c)),
      t,
      n ∙ (let z : v ≡ v + 0 = omega arith in z),
    )

pub end_kept : (s : Sort) (M : Matrix) (p : Point) (T : Tree) (v : ℕ) (names ws : List ℕ) (part : Part) → T ≡ trees.End → ws ≡ names → CanSelect s M p (skeleton_of T) v names → part.cube ≡ implicant M (at_names ws p) → IsKeptCube s (length names) part.cube
end_kept s M p T v names ws part e w c k =
    let d = can_as s M p (skeleton_of T) end v names (end_is T e) c in
    subst (λ (ls : List Lit). IsKeptCube s (length names) ls) (sym (k ∙ ap (λ (ns : List ℕ). implicant M (at_names ns p)) w ∙ sym (leaf_implicant s M p v names d))) (leaf_kept s M p v names d)

-- ---- a node of the player who selects

pub theirs_can : (s : Sort) (M : Matrix) (p : Point) (T t u : Tree) (v : ℕ) (names : List ℕ) → T ≡ trees.Theirs t → u ≡ t → CanSelect s M p (skeleton_of T) v names → CanSelect s M p (skeleton_of u) (suc v) (names ++ v ∷ [])
theirs_can s M p T t u v names e h c = can_below s M p (skeleton_of u) v names (can_as s M p (skeleton_of T) (theirs (skeleton_of u)) v names (theirs_is T t u e h) c)

pub theirs_fewer : (T t u : Tree) → T ≡ trees.Theirs t → u ≡ t → nodes (skeleton_of T) ≡ 1 + nodes (skeleton_of u)
theirs_fewer T t u e h = ap nodes (theirs_is T t u e h)

pub here_long : (p q : Point) (names : List ℕ) (v : ℕ) → q ≡ at_names (names ++ v ∷ []) p → length q.nums ≡ suc (length names)
here_long p q names v e = ap (λ (r : Point). length r.nums) e ∙ path_length p (names ++ v ∷ []) ∙ (let a = length-append names (v ∷ []) in let b : length (names ++ v ∷ []) ≡ suc (length names) = omega arith in b)

after_one : (v n : ℕ) → v + (1 + n) ≡ suc v + n
after_one v n = omega arith

pub theirs_gives : (s : Sort) (M : Matrix) (p : Point) (T t u : Tree) (v : ℕ) (names : List ℕ) (below : LowerPart) (result : Result Part (Short Stop)) → T ≡ trees.Theirs t → u ≡ t → CanSelect s M p (skeleton_of T) v names
    → GivesBelow (guided_from (skeleton_of u) s M p (suc (length names)) (suc v) (extend (values_on p names) (value_of p v))) (suc v + nodes (skeleton_of u)) (Ok below) → below.here ≡ at_names (names ++ v ∷ []) p
    → ((numbers : List (ℕ × ℤ)) → first_wide numbers ≡ None → Gives (with_pick s (length names) below.here below.here (record { cube = below.part.cube; tree = skeleton_of below.part.tree; numbers = numbers })) below.part.next result)
    → Gives (guided_from (skeleton_of T) s M p (length names) v (values_on p names)) (v + nodes (skeleton_of T)) result
theirs_gives s M p T t u v names below result e h c g q k =
    let U = skeleton_of u in
    let x : ℕ = length names in
    let b = values_on p names in
    let r = guided_from U s M p (suc x) (suc v) (extend b (value_of p v)) in
    subst (λ (S : Skeleton). Gives (guided_from S s M p x v b) (v + nodes S) result) (sym (theirs_is T t u e h))
    (subst (λ (n : ℕ). Gives (with_pick s x b (extend b (value_of p v)) r) n result) (sym (after_one v (nodes U)))
    (theirs_given s x p b v (suc v + nodes U) r below result c.point (long_on s M p (skeleton_of T) v names c)
    (pick_earlier s M p U v names (theirs_can s M p T t u v names e h c) g.0)
    (subst (λ (z : Point). AreAlike s (extend b (value_of p v)) z) (sym q) (alike_below s p names v c.point)) g k))

pub theirs_stops : (s : Sort) (M : Matrix) (p : Point) (T t u : Tree) (v n : ℕ) (names : List ℕ) (fault : Short Stop) → T ≡ trees.Theirs t → u ≡ t
    → GivesBelow (guided_from (skeleton_of u) s M p (suc (length names)) (suc v) (extend (values_on p names) (value_of p v))) n (Err fault)
    → Gives (guided_from (skeleton_of T) s M p (length names) v (values_on p names)) (v + nodes (skeleton_of T)) (Err fault)
theirs_stops s M p T t u v n names fault e h g =
    let x : ℕ = length names in
    let b = values_on p names in
    let r = guided_from (skeleton_of u) s M p (suc x) (suc v) (extend b (value_of p v)) in
    subst (λ (S : Skeleton). Gives (guided_from S s M p x v b) (v + nodes S) (Err fault)) (sym (theirs_is T t u e h))
    (theirs_short s x b (extend b (value_of p v)) n (v + (1 + nodes (skeleton_of u))) r fault g)

-- ---- a branch of the attacked player

pub branch_gives : (s : Sort) (M : Matrix) (p : Point) (b : Branch) (v : ℕ) (names : List ℕ) (below : LowerPart) (c : List Lit) → CanSelect s M p (skeleton_of b.rest) (suc v) (names ++ v ∷ []) → IsMoveAt s (length names) b.term
    → GivesBelow (guided_from (skeleton_of b.rest) s M p (suc (length names)) (suc v) (extend (values_on p names) (value_of p v))) (suc v + nodes (skeleton_of b.rest)) (Ok below) → below.here ≡ at_names (names ++ v ∷ []) p
    → (first_past (put_in_numbers s (length names) b.term below.here below.part.cube) ≡ None) × (c ≡ put_in s (length names) b.term below.here below.part.cube)
    → Gives (one_part s M p (length names) v (values_on p names) b.term (skeleton_of b.rest)) (suc v + nodes (skeleton_of b.rest)) (Ok (record { cube = c; tree = below.part.tree; next = below.part.next }))
branch_gives s M p b v names below c d m g q k =
    let x : ℕ = length names in
    let e = values_on p names in
    let r = guided_from (skeleton_of b.rest) s M p (suc x) (suc v) (extend e (value_of p v)) in
    moved_given s x b.term p e v (suc v + nodes (skeleton_of b.rest)) r below c d.point (here_on s p names d.point).long m.earlier
    (subst (λ (z : Point). AreAlike s (extend e (value_of p v)) z) (sym q) (alike_below s p names v d.point)) g k

pub branch_wide : (s : Sort) (M : Matrix) (p : Point) (b : Branch) (v n : ℕ) (names : List ℕ) (below : LowerPart) (fault : Short Stop) → CanSelect s M p (skeleton_of b.rest) (suc v) (names ++ v ∷ []) → IsMoveAt s (length names) b.term
    → GivesBelow (guided_from (skeleton_of b.rest) s M p (suc (length names)) (suc v) (extend (values_on p names) (value_of p v))) n (Ok below) → below.here ≡ at_names (names ++ v ∷ []) p
    → CappedAt (length names) (put_in_numbers s (length names) b.term below.here below.part.cube) (put_in s (length names) b.term below.here below.part.cube) (Err fault)
    → Gives (one_part s M p (length names) v (values_on p names) b.term (skeleton_of b.rest)) (suc v + nodes (skeleton_of b.rest)) (Err fault)
branch_wide s M p b v n names below fault d m g q k =
    let x : ℕ = length names in
    let e = values_on p names in
    let r = guided_from (skeleton_of b.rest) s M p (suc x) (suc v) (extend e (value_of p v)) in
    moved_wide s x b.term p e v n (suc v + nodes (skeleton_of b.rest)) r below fault d.point (here_on s p names d.point).long m.earlier
    (subst (λ (z : Point). AreAlike s (extend e (value_of p v)) z) (sym q) (alike_below s p names v d.point)) g k

pub branch_stops : (s : Sort) (M : Matrix) (p : Point) (b : Branch) (v n : ℕ) (names : List ℕ) (fault : Short Stop)
    → GivesBelow (guided_from (skeleton_of b.rest) s M p (suc (length names)) (suc v) (extend (values_on p names) (value_of p v))) n (Err fault)
    → Gives (one_part s M p (length names) v (values_on p names) b.term (skeleton_of b.rest)) (suc v + nodes (skeleton_of b.rest)) (Err fault)
branch_stops s M p b v n names fault g =
    moved_short s (length names) b.term (values_on p names) n (suc v + nodes (skeleton_of b.rest)) (guided_from (skeleton_of b.rest) s M p (suc (length names)) (suc v) (extend (values_on p names) (value_of p v))) fault g

-- ---- all branches

pub mine_can : (s : Sort) (M : Matrix) (p : Point) (T : Tree) (bs cs : List Branch) (v : ℕ) (names : List ℕ) → T ≡ trees.Mine bs → cs ≡ bs → CanSelect s M p (skeleton_of T) v names → CanSelectEach s M p (branches_of cs) v names
mine_can s M p T bs cs v names e h c = can_branches s M p (branches_of cs) v names (can_as s M p (skeleton_of T) (mine (branches_of cs)) v names (mine_is T bs cs e h) c)

pub mine_gives : (s : Sort) (M : Matrix) (p : Point) (T : Tree) (bs cs : List Branch) (v : ℕ) (names : List ℕ) (result : Result Part (Short Stop)) → T ≡ trees.Mine bs → cs ≡ bs
    → Gives (under_theirs (guided_branches (branches_of cs) s M p (length names) v (values_on p names))) (v + branch_nodes (branches_of cs)) result
    → Gives (guided_from (skeleton_of T) s M p (length names) v (values_on p names)) (v + nodes (skeleton_of T)) result
mine_gives s M p T bs cs v names result e h g = subst (λ (S : Skeleton). Gives (guided_from S s M p (length names) v (values_on p names)) (v + nodes S) result) (sym (mine_is T bs cs e h)) g

-- the branch at place i
walked_at : (s : Sort) (M : Matrix) (p : Point) (names : List ℕ) (met : Met) (bs : List Branch) (i : ℕ) (b : Branch) (v : ℕ) → i < length bs → b ≡ get_or bs i b → Walked s M p (values_on p names) names met (branches_of (drop i bs)) (branches_of bs) v
    → Walked s M p (values_on p names) names met (branch b.term (skeleton_of b.rest) (branches_of (drop (i + 1) bs))) (branches_of bs) v
walked_at s M p names met bs i b v l e w = subst (λ (rest : Branches). Walked s M p (values_on p names) names met rest (branches_of bs) v) (branches_at bs i b l e) w

pub each_can : (s : Sort) (M : Matrix) (p : Point) (names : List ℕ) (met : Met) (bs : List Branch) (i : ℕ) (b : Branch) (v : ℕ) → i < length bs → b ≡ get_or bs i b → Walked s M p (values_on p names) names met (branches_of (drop i bs)) (branches_of bs) v
    → CanSelect s M p (skeleton_of b.rest) (suc met.next) (names ++ met.next ∷ [])
each_can s M p names met bs i b v l e w = can_first s M p b.term (skeleton_of b.rest) (branches_of (drop (i + 1) bs)) met.next names (walked_at s M p names met bs i b v l e w).can

pub each_move : (s : Sort) (M : Matrix) (p : Point) (names : List ℕ) (met : Met) (bs : List Branch) (i : ℕ) (b : Branch) (v : ℕ) → i < length bs → b ≡ get_or bs i b → Walked s M p (values_on p names) names met (branches_of (drop i bs)) (branches_of bs) v
    → IsMoveAt s (length names) b.term
each_move s M p names met bs i b v l e w = first_move s M p b.term (skeleton_of b.rest) (branches_of (drop (i + 1) bs)) met.next names (walked_at s M p names met bs i b v l e w).can

-- a branch is smaller than all
pub each_smaller : (bs : List Branch) (i : ℕ) (b : Branch) → i < length bs → b ≡ get_or bs i b → 1 + nodes (skeleton_of b.rest) ≤ branch_nodes (branches_of bs)
each_smaller bs i b l e =
    let a = ap branch_nodes (branches_at bs i b l e) in
    let c = fewer_left bs i in
    omega arith

pub each_more : (s : Sort) (M : Matrix) (p : Point) (names : List ℕ) (met new : Met) (bs : List Branch) (i : ℕ) (b : Branch) (v : ℕ) (part : Part) → i < length bs → b ≡ get_or bs i b → Walked s M p (values_on p names) names met (branches_of (drop i bs)) (branches_of bs) v
    → Gives (one_part s M p (length names) met.next (values_on p names) b.term (skeleton_of b.rest)) (suc met.next + nodes (skeleton_of b.rest)) (Ok part) → IsKeptCube s (length names) part.cube
    → new.lits ≡ met.lits ++ part.cube → new.trees.items ≡ met.trees.items ++ part.tree ∷ [] → new.next ≡ part.next → Walked s M p (values_on p names) names new (branches_of (drop (i + 1) bs)) (branches_of bs) v
each_more s M p names met new bs i b v part l e w g k el et en =
    walked_more s M p (values_on p names) names met new b.term (skeleton_of b.rest) (branches_of (drop (i + 1) bs)) (branches_of bs) v part (walked_at s M p names met bs i b v l e w) g k el et en

pub each_stops : (s : Sort) (M : Matrix) (p : Point) (names : List ℕ) (met : Met) (bs : List Branch) (i : ℕ) (b : Branch) (v n k : ℕ) (fault : Short Stop) → i < length bs → b ≡ get_or bs i b → Walked s M p (values_on p names) names met (branches_of (drop i bs)) (branches_of bs) v
    → Gives (one_part s M p (length names) met.next (values_on p names) b.term (skeleton_of b.rest)) n (Err fault) → Gives (under_theirs (guided_branches (branches_of bs) s M p (length names) v (values_on p names))) k (Err fault)
each_stops s M p names met bs i b v n k fault l e w g =
    walked_short s M p (values_on p names) names met b.term (skeleton_of b.rest) (branches_of (drop (i + 1) bs)) (branches_of bs) v n k fault (walked_at s M p names met bs i b v l e w) g

walked_end : (s : Sort) (M : Matrix) (p : Point) (names : List ℕ) (met : Met) (bs : List Branch) (i v : ℕ) → length bs ≤ i → Walked s M p (values_on p names) names met (branches_of (drop i bs)) (branches_of bs) v
    → Walked s M p (values_on p names) names met no_more (branches_of bs) v
walked_end s M p names met bs i v l w = subst (λ (rest : Branches). Walked s M p (values_on p names) names met rest (branches_of bs) v) (branches_done bs i l) w

pub each_gives : (s : Sort) (M : Matrix) (p : Point) (names : List ℕ) (met : Met) (bs : List Branch) (i v : ℕ) (part : Part) → length bs ≤ i → Walked s M p (values_on p names) names met (branches_of (drop i bs)) (branches_of bs) v
    → part.cube ≡ with_new [] met.lits → skeleton_of part.tree ≡ theirs (union_of_all (map skeleton_of met.trees.items)) → part.next ≡ met.next
    → Gives (under_theirs (guided_branches (branches_of bs) s M p (length names) v (values_on p names))) (v + branch_nodes (branches_of bs)) (Ok part)
each_gives s M p names met bs i v part l w c t n = walked_last s M p (values_on p names) names met (branches_of bs) v part (walked_end s M p names met bs i v l w) c t n

pub each_kept : (s : Sort) (M : Matrix) (p : Point) (names : List ℕ) (met : Met) (bs : List Branch) (i v : ℕ) (part : Part) → Walked s M p (values_on p names) names met (branches_of (drop i bs)) (branches_of bs) v → part.cube ≡ with_new [] met.lits → IsKeptCube s (length names) part.cube
each_kept s M p names met bs i v part w c = once_kept s (length names) part.cube met.lits c w.kept

-- ---- a node put on the way, and taken off again

pub pushed_long : (names way : List ℕ) (v : ℕ) → way ≡ names ++ v ∷ [] → length way ≡ suc (length names)
pushed_long names way v e = ap length e ∙ longer names v

pub pushed_can : (s : Sort) (M : Matrix) (p : Point) (U : Skeleton) (v next : ℕ) (names way : List ℕ) → next ≡ suc v → way ≡ names ++ v ∷ [] → CanSelect s M p U (suc v) (names ++ v ∷ []) → CanSelect s M p U next way
pushed_can s M p U v next names way n e c =
    subst (λ (ns : List ℕ). CanSelect s M p U next ns) (sym e) (subst (λ (k : ℕ). CanSelect s M p U k (names ++ v ∷ [])) (sym n) c)

pub pushed_gives : (s : Sort) (M : Matrix) (p : Point) (U : Skeleton) (v next : ℕ) (names way : List ℕ) (result : Result Part (Short Stop)) → next ≡ suc v → way ≡ names ++ v ∷ []
    → Gives (guided_from U s M p (length way) next (values_on p way)) (next + nodes U) result
    → Gives (guided_from U s M p (suc (length names)) (suc v) (extend (values_on p names) (value_of p v))) (suc v + nodes U) result
pushed_gives s M p U v next names way result n e g =
    let deeper = extend (values_on p names) (value_of p v) in
    subst (λ (k : ℕ). Gives (guided_from U s M p (suc (length names)) k deeper) (k + nodes U) result) n
    (subst (λ (x : ℕ). Gives (guided_from U s M p x next deeper) (next + nodes U) result) (pushed_long names way v e)
    (subst (λ (q : Point). Gives (guided_from U s M p (length way) next q) (next + nodes U) result) (ap (λ (ns : List ℕ). values_on p ns) e ∙ values_push p origin names v) g))

pub kept_at : (s : Sort) (n k : ℕ) (c : List Lit) → n ≡ k → IsKeptCube s n c → IsKeptCube s k c
kept_at s n k c e h = subst (λ (j : ℕ). IsKeptCube s j c) e h

pub kept_above : (s : Sort) (n k : ℕ) (c : List Lit) → n ≡ k → IsKeptCube s (suc k) c → IsKeptCube s (suc n) c
kept_above s n k c e h = subst (λ (j : ℕ). IsKeptCube s (suc j) c) (sym e) h

nonempty : (names : List ℕ) (v : ℕ) → names ++ v ∷ [] ≡ [] → ⊥
nonempty names v e = let l = longer names v in let k : length (names ++ v ∷ []) ≡ 0 = ap length e in omega arith

pub popped : (r : Option ℕ) (old new names : List ℕ) (v : ℕ) → MatchOption r ((old ≡ []) × (new ≡ [])) (λ last. old ≡ new ++ last ∷ []) → old ≡ names ++ v ∷ [] → new ≡ names
popped None old new names v h e = absurd (nonempty names v (sym e ∙ h.0))
popped (Some l) old new names v h e = (same_from_push new names l v (sym h ∙ e)).0

-- ---- the position as it was read

pub theirs_gives_at : (s : Sort) (M : Matrix) (p : Point) (T t u : Tree) (v x : ℕ) (names : List ℕ) (below : LowerPart) (result : Result Part (Short Stop)) → x ≡ length names → T ≡ trees.Theirs t → u ≡ t → CanSelect s M p (skeleton_of T) v names
    → GivesBelow (guided_from (skeleton_of u) s M p (suc (length names)) (suc v) (extend (values_on p names) (value_of p v))) (suc v + nodes (skeleton_of u)) (Ok below) → below.here ≡ at_names (names ++ v ∷ []) p
    → ((numbers : List (ℕ × ℤ)) → first_wide numbers ≡ None → Gives (with_pick s x below.here below.here (record { cube = below.part.cube; tree = skeleton_of below.part.tree; numbers = numbers })) below.part.next result)
    → Gives (guided_from (skeleton_of T) s M p (length names) v (values_on p names)) (v + nodes (skeleton_of T)) result
theirs_gives_at s M p T t u v x names below result l e h c g q k =
    theirs_gives s M p T t u v names below result e h c g q
    (subst (λ (y : ℕ). (numbers : List (ℕ × ℤ)) → first_wide numbers ≡ None → Gives (with_pick s y below.here below.here (record { cube = below.part.cube; tree = skeleton_of below.part.tree; numbers = numbers })) below.part.next result) l k)

pub capped_at : (s : Sort) (x y : ℕ) (m : Move) (q : Point) (c : List Lit) (result : Result (List Lit) (Short Stop)) → x ≡ y → CappedAt x (put_in_numbers s x m q c) (put_in s x m q c) result → CappedAt y (put_in_numbers s y m q c) (put_in s y m q c) result
capped_at s x y m q c result e h = subst (λ (n : ℕ). CappedAt n (put_in_numbers s n m q c) (put_in s n m q c) result) e h

-- ---- the way as it is in the loop

pub can_on : (s : Sort) (M : Matrix) (p : Point) (U : Skeleton) (v : ℕ) (names way : List ℕ) → way ≡ names → CanSelect s M p U (suc v) (names ++ v ∷ []) → CanSelect s M p U (suc v) (way ++ v ∷ [])
can_on s M p U v names way e c = subst (λ (ns : List ℕ). CanSelect s M p U (suc v) (ns ++ v ∷ [])) (sym e) c

pub move_on : (s : Sort) (m : Move) (names way : List ℕ) → way ≡ names → IsMoveAt s (length names) m → IsMoveAt s (length way) m
move_on s m names way e h = subst (λ (ns : List ℕ). IsMoveAt s (length ns) m) (sym e) h

pub gives_on : (s : Sort) (M : Matrix) (p : Point) (m : Move) (U : Skeleton) (v n : ℕ) (names way : List ℕ) (result : Result Part (Short Stop)) → way ≡ names
    → Gives (one_part s M p (length way) v (values_on p way) m U) n result → Gives (one_part s M p (length names) v (values_on p names) m U) n result
gives_on s M p m U v n names way result e g = subst (λ (ns : List ℕ). Gives (one_part s M p (length ns) v (values_on p ns) m U) n result) e g

pub kept_on : (s : Sort) (names way : List ℕ) (c : List Lit) → way ≡ names → IsKeptCube s (length way) c → IsKeptCube s (length names) c
kept_on s names way c e h = subst (λ (ns : List ℕ). IsKeptCube s (length ns) c) e h

pub on_ok : {A E : Type 0} (r : Result A E) (P : Type 0) → P → OnOk r P
on_ok (Ok a) P p = p
on_ok (Err e) P p = tt
