-- Whether every path of one tree is a path of another, node by node.
use Rattle.std.specs.Prelude.{ℕ, zero, suc, ◌+◌, ◌<◌, ◌≤◌, ◌≡◌, ◌⊎◌, ◌↔◌, IsTrue, Bool, true, false, if◌then◌else◌, Option, Some, None, List, [], ◌∷◌, ◌++◌, map, length, get_or, drop}
use Rattle.std.specs.Option.{option_map}
use Rattle.std.proofs.Common.{arith, ap, ◌∙◌, sym, subst, refl, inl, inr}
use Rattle.lin_term.specs.declared.Sort.{Sort}
use Rattle.lin_term.specs.Move.{Move}
use Rattle.lin_term.specs.Same.{same_move}
use Rattle.lin_term.proofs.Comparing.{move_decides}
use Rattle.dom_core.specs.declared.Quant.{Quant}
use Rattle.dom_core.specs.declared.Quant.TheVariants.{Exists, Forall}
use Rattle.game_tree.specs.declared.tree.Branch.{Branch}
use Rattle.game_tree.specs.Skeleton.{Skeleton, end, theirs, mine, Branches, no_more, branch, paths, branch_paths, IsNew, Follows, EachFollows}
use Rattle.game_tree.specs.View.{skeleton_of, branches_of, branch_of}
use Rattle.game_tree.specs.Among.{IsAmong}
use Rattle.game_tree.specs.Union.{In}
use Rattle.game_tree.specs.Full.{IsDistinctTree, AreDistinctTrees, IsFullTree, AreFullTrees, AllIn}
use Rattle.game_tree.specs.Gather.{place, moves_of}
use Rattle.game_tree.proofs.Unions.{among_left, among_right, among_each, among_map, behind_more}
use Rattle.game_tree.specs.declared.tree.Tree.{Tree, out-Tree, roll-Tree, roll-out-Tree}
use Rattle.game_tree.specs.declared.tree.Tree.TheOpen.{Tree-F}
use Rattle.game_tree.specs.declared.tree.Tree.TheVariants as trees
use Rattle.game_tree.proofs.Views.{branch_is, branches_at, branches_done, seen_end, seen_theirs, seen_mine}

abbrev Path : Type 0
Path = List (Option Move)

fails : {P : Type 0} → ¬ P → IsTrue false ↔ P
fails h = (λ e. absurd (cc), λ p. absurd (h p))

holds : {P : Type 0} → P → IsTrue true ↔ P
holds p = (λ e. p, λ q. refl)

-- ---- what a skeleton keeps

mutual
  pub follows_distinct : (S : Skeleton) (s : Sort) (qs : List Quant) (k : ℕ) → Follows S s qs k → IsDistinctTree S
  follows_distinct end s qs k f = tt
  follows_distinct (theirs S) s [] k f = absurd f
  follows_distinct (theirs S) s (Exists ∷ qs) k f = absurd f
  follows_distinct (theirs S) s (Forall ∷ qs) k f = follows_distinct S s qs (suc k) f
  follows_distinct (mine bs) s [] k f = absurd f
  follows_distinct (mine bs) s (Forall ∷ qs) k f = absurd f
  follows_distinct (mine bs) s (Exists ∷ qs) k f = branches_distinct bs s qs k f.1

  branches_distinct : (bs : Branches) (s : Sort) (qs : List Quant) (k : ℕ) → EachFollows bs s qs k → AreDistinctTrees bs
  branches_distinct no_more s qs k f = tt
  branches_distinct (branch m S bs) s qs k f = (f.1, follows_distinct S s qs (suc k) f.2, branches_distinct bs s qs k f.3)

mutual
  pub follows_full : (S : Skeleton) (s : Sort) (qs : List Quant) (k : ℕ) → Follows S s qs k → IsFullTree S
  follows_full end s qs k f = tt
  follows_full (theirs S) s [] k f = absurd f
  follows_full (theirs S) s (Exists ∷ qs) k f = absurd f
  follows_full (theirs S) s (Forall ∷ qs) k f = follows_full S s qs (suc k) f
  follows_full (mine bs) s [] k f = absurd f
  follows_full (mine bs) s (Forall ∷ qs) k f = absurd f
  follows_full (mine bs) s (Exists ∷ qs) k f = (f.0, branches_full bs s qs k f.1)

  branches_full : (bs : Branches) (s : Sort) (qs : List Quant) (k : ℕ) → EachFollows bs s qs k → AreFullTrees bs
  branches_full no_more s qs k f = tt
  branches_full (branch m S bs) s qs k f = (follows_full S s qs (suc k) f.2, branches_full bs s qs k f.3)

-- ---- a full tree has a path

record HasPath (S : Skeleton) : Type 0 where
  path : Path
  own : IsAmong path (paths S)

record HasMove (bs : Branches) : Type 0 where
  move : Move
  rest : Path
  own : IsAmong (Some move ∷ rest) (branch_paths bs)

abbrev behind : Option Move → List Path → List Path
behind x ps = map (λ path. x ∷ path) ps

first_path : (m : Move) (S : Skeleton) (bs : Branches) → HasPath S → HasMove (branch m S bs)
first_path m S bs h = record { move = m; rest = h.path; own = among_left (Some m ∷ h.path) (behind (Some m) (paths S)) (branch_paths bs) (among_map (Some m) h.path (paths S) h.own) }

path_of : (S : Skeleton) → IsFullTree S → HasPath S
path_of end f = record { path = []; own = inl refl }
path_of (theirs S) f = let h = path_of S f in record { path = None ∷ h.path; own = among_map None h.path (paths S) h.own }
path_of (mine no_more) f = absurd f.0
path_of (mine (branch m S bs)) f = let h = first_path m S bs (path_of S f.1.0) in record { path = Some h.move ∷ h.rest; own = h.own }

some_move : (bs : Branches) → IsFullTree (mine bs) → HasMove bs
some_move no_more f = absurd f.0
some_move (branch m S bs) f = first_path m S bs (path_of S f.1.0)

-- ---- paths of other kinds

nil_behind : (x : Option Move) (ps : List Path) → ¬ IsAmong [] (behind x ps)
nil_behind x [] h = h
nil_behind x (p ∷ ps) (inl e) = nil_cons e
  where
    nil_cons : [] ≡ x ∷ p → ⊥
    nil_cons e = cc
nil_behind x (p ∷ ps) (inr h) = nil_behind x ps h

nil_branches : (bs : Branches) → ¬ IsAmong [] (branch_paths bs)
nil_branches no_more h = h
nil_branches (branch m S bs) h = among_each [] (behind (Some m) (paths S)) (branch_paths bs) ⊥ (nil_behind (Some m) (paths S)) (nil_branches bs) h

some_behind_none : (m : Move) (p : Path) (ps : List Path) → ¬ IsAmong (Some m ∷ p) (behind None ps)
some_behind_none m p [] h = h
some_behind_none m p (q ∷ ps) (inl e) = other e
  where
    other : Some m ∷ p ≡ None ∷ q → ⊥
    other e = cc
some_behind_none m p (q ∷ ps) (inr h) = some_behind_none m p ps h

none_behind_some : (m : Move) (p : Path) (ps : List Path) → ¬ IsAmong (None ∷ p) (behind (Some m) ps)
none_behind_some m p [] h = h
none_behind_some m p (q ∷ ps) (inl e) = other e
  where
    other : None ∷ p ≡ Some m ∷ q → ⊥
    other e = cc
none_behind_some m p (q ∷ ps) (inr h) = none_behind_some m p ps h

none_branches : (p : Path) (bs : Branches) → ¬ IsAmong (None ∷ p) (branch_paths bs)
none_branches p no_more h = h
none_branches p (branch m S bs) h = among_each (None ∷ p) (behind (Some m) (paths S)) (branch_paths bs) ⊥ (none_behind_some m p (paths S)) (none_branches p bs) h

cons_nil : (x : Option Move) (p : Path) → ¬ IsAmong (x ∷ p) ([] ∷ [])
cons_nil x p (inl e) = other e
  where
    other : x ∷ p ≡ [] → ⊥
    other e = cc
cons_nil x p (inr h) = h

under_none : (p : Path) (ps : List Path) → IsAmong (None ∷ p) (behind None ps) → IsAmong p ps
under_none p [] h = h
under_none p (q ∷ ps) (inl e) = inl (tail e)
  where
    tail : None ∷ p ≡ None ∷ q → p ≡ q
    tail e = cc
under_none p (q ∷ ps) (inr h) = inr (under_none p ps h)

-- ---- trees by their cases, the whole before the part

pub end_end : IsTrue true ↔ In end end
end_end = holds (λ p h. h)

pub end_theirs : (T : Skeleton) → IsFullTree T → IsTrue false ↔ In (theirs T) end
end_theirs T f = fails (λ h. let o = path_of T f in cons_nil None o.path (h (None ∷ o.path) (among_map None o.path (paths T) o.own)))

pub end_mine : (cs : Branches) → IsFullTree (mine cs) → IsTrue false ↔ In (mine cs) end
end_mine cs f = fails (λ h. let o = some_move cs f in cons_nil (Some o.move) o.rest (h (Some o.move ∷ o.rest) o.own))

pub theirs_end : (S : Skeleton) → IsTrue false ↔ In end (theirs S)
theirs_end S = fails (λ h. nil_behind None (paths S) (h [] (inl refl)))

pub mine_end : (bs : Branches) → IsTrue false ↔ In end (mine bs)
mine_end bs = fails (λ h. nil_branches bs (h [] (inl refl)))

pub theirs_mine : (S : Skeleton) (cs : Branches) → IsFullTree (mine cs) → IsTrue false ↔ In (mine cs) (theirs S)
theirs_mine S cs f = fails (λ h. let o = some_move cs f in some_behind_none o.move o.rest (paths S) (h (Some o.move ∷ o.rest) o.own))

pub mine_theirs : (bs : Branches) (T : Skeleton) → IsFullTree T → IsTrue false ↔ In (theirs T) (mine bs)
mine_theirs bs T f = fails (λ h. let o = path_of T f in none_branches o.path bs (h (None ∷ o.path) (among_map None o.path (paths T) o.own)))

pub theirs_both : (r : Bool) (S T : Skeleton) → (IsTrue r ↔ In T S) → IsTrue r ↔ In (theirs T) (theirs S)
theirs_both r S T h = (
  λ e. behind_more None (paths T) (paths S) (h.0 e),
  λ k. h.1 (λ p a. under_none p (paths S) (k (None ∷ p) (among_map None p (paths T) a))),
)

-- ---- one branch among branches

head_same : (m n : Move) (p q : Path) → Some m ∷ p ≡ Some n ∷ q → m ≡ n
head_same m n p q e = cc

tail_same : (m n : Move) (p q : Path) → Some m ∷ p ≡ Some n ∷ q → p ≡ q
tail_same m n p q e = cc

record Behind (m n : Move) (p : Path) (ps : List Path) : Type 0 where
  same : m ≡ n
  path : IsAmong p ps

under_some : (m n : Move) (p : Path) (ps : List Path) → IsAmong (Some m ∷ p) (behind (Some n) ps) → Behind m n p ps
under_some m n p [] h = absurd h
under_some m n p (q ∷ ps) (inl h) = record { same = head_same m n p q h; path = inl (tail_same m n p q h) }
under_some m n p (q ∷ ps) (inr h) = let k = under_some m n p ps h in record { same = k.same; path = inr k.path }

abbrev pub IsBranch : Move → Skeleton → Branches → Type 0
IsBranch m T no_more = ⊥
IsBranch m T (branch n S bs) = ((m ≡ n) × (T ≡ S)) ⊎ IsBranch m T bs

record Below (m : Move) (p : Path) (bs : Branches) : Type 0 where
  tree : Skeleton
  there : IsBranch m tree bs
  path : IsAmong p (paths tree)

-- a path behind a move comes from a branch of that move
from_branch : (m : Move) (p : Path) (bs : Branches) → IsAmong (Some m ∷ p) (branch_paths bs) → Below m p bs
from_branch m p no_more h = absurd h
from_branch m p (branch n S bs) h =
    among_each (Some m ∷ p) (behind (Some n) (paths S)) (branch_paths bs) (Below m p (branch n S bs))
    (λ a. let k = under_some m n p (paths S) a in record { tree = S; there = inl (k.same, refl); path = k.path })
    (λ a. let k = from_branch m p bs a in record { tree = k.tree; there = inr k.there; path = k.path }) h

in_branch : (m : Move) (T : Skeleton) (bs : Branches) (p : Path) → IsBranch m T bs → IsAmong p (paths T) → IsAmong (Some m ∷ p) (branch_paths bs)
in_branch m T no_more p h a = absurd h
in_branch m T (branch n S bs) p (inl h) a =
    subst (λ (x : Move). IsAmong (Some m ∷ p) (behind (Some x) (paths S) ++ branch_paths bs)) h.0
    (among_left (Some m ∷ p) (behind (Some m) (paths S)) (branch_paths bs) (among_map (Some m) p (paths S) (subst (λ (V : Skeleton). IsAmong p (paths V)) h.1 a)))
in_branch m T (branch n S bs) p (inr h) a = among_right (Some m ∷ p) (behind (Some n) (paths S)) (branch_paths bs) (in_branch m T bs p h a)

not_new : (m : Move) (T : Skeleton) (bs : Branches) → IsNew m bs → IsBranch m T bs → ⊥
not_new m T no_more n h = h
not_new m T (branch k S bs) n (inl h) = n.0 h.0
not_new m T (branch k S bs) n (inr h) = not_new m T bs n.1 h

one_branch : (m : Move) (T V : Skeleton) (bs : Branches) → AreDistinctTrees bs → IsBranch m T bs → IsBranch m V bs → T ≡ V
one_branch m T V no_more f a b = absurd a
one_branch m T V (branch n S bs) f (inl a) (inl b) = a.1 ∙ sym b.1
one_branch m T V (branch n S bs) f (inl a) (inr b) = absurd (not_new n V bs f.0 (subst (λ (x : Move). IsBranch x V bs) a.0 b))
one_branch m T V (branch n S bs) f (inr a) (inl b) = absurd (not_new n T bs f.0 (subst (λ (x : Move). IsBranch x T bs) b.0 a))
one_branch m T V (branch n S bs) f (inr a) (inr b) = one_branch m T V bs f.2 a b

-- ---- the place of a move

none_inside : (o : Option ℕ) → option_map (λ i. suc i) o ≡ None → o ≡ None
none_inside None e = refl
none_inside (Some i) e = absurd (cc)

-- a move without a place has no branch
no_branch : (m : Move) (T : Skeleton) (bs : List Branch) → place m (moves_of bs) ≡ None → ¬ IsBranch m T (branches_of bs)
no_branch m T [] e h = h
no_branch m T (b ∷ bs) e h = by (same_move b.term m) refl (λ k a. no_branch m T bs k a) e
  where
    some_none : (i : ℕ) → Some i ≡ None → ⊥
    some_none i e = cc

    true_false : true ≡ false → ⊥
    true_false e = cc

    first : same_move b.term m ≡ false → (IsBranch m T (branches_of bs) → ⊥) → ((m ≡ b.term) × (T ≡ skeleton_of b.rest)) ⊎ IsBranch m T (branches_of bs) → ⊥
    first q rec (inl a) = let u = (move_decides b.term m).1 (sym a.0) in true_false (sym u ∙ q)
    first q rec (inr a) = rec a

    by : (r : Bool) → same_move b.term m ≡ r → (place m (moves_of bs) ≡ None → IsBranch m T (branches_of bs) → ⊥) → (if r then Some 0 else option_map (λ i. suc i) (place m (moves_of bs))) ≡ None → ⊥
    by true q rec k = some_none 0 k
    by false q rec k =
        first q (rec (none_inside (place m (moves_of bs)) k)) (subst (λ (x : Move × Skeleton). ((m ≡ x.0) × (T ≡ x.1)) ⊎ IsBranch m T (branches_of bs)) (branch_is b) h)

pub record Standing (m : Move) (bs : List Branch) (j : ℕ) : Type 0 where
  pub below : j < length bs
  pub there : (b : Branch) → b ≡ get_or bs j b → IsBranch m (skeleton_of b.rest) (branches_of bs)

-- a place is that of a branch with the move
pub at_place : (m : Move) (bs : List Branch) (j : ℕ) → place m (moves_of bs) ≡ Some j → Standing m bs j
at_place m [] j e = absurd (none_some j e)
  where
    none_some : (i : ℕ) → None ≡ Some i → ⊥
    none_some i e = cc
at_place m (x ∷ bs) j e = by (same_move x.term m) refl (λ i p. at_place m bs i p) e
  where
    some_same : (i k : ℕ) → Some i ≡ Some k → i ≡ k
    some_same i k e = cc

    none_some : (i : ℕ) → None ≡ Some i → ⊥
    none_some i e = cc

    here : same_move x.term m ≡ true → Standing m (x ∷ bs) 0
    here q = record {
      below = omega arith;
      there = λ b k. subst (λ (y : Move × Skeleton). ((m ≡ y.0) × (skeleton_of b.rest ≡ y.1)) ⊎ IsBranch m (skeleton_of b.rest) (branches_of bs)) (sym (branch_is x))
          (inl (sym ((move_decides x.term m).0 q), ap (λ (y : Branch). skeleton_of y.rest) k));
    }

    later : (i : ℕ) → Standing m bs i → Standing m (x ∷ bs) (suc i)
    later i w = record { below = let l = w.below in omega arith; there = λ b k. inr (w.there b k) }

    inner : ((i : ℕ) → place m (moves_of bs) ≡ Some i → Standing m bs i) → (o : Option ℕ) → place m (moves_of bs) ≡ o → option_map (λ i. suc i) o ≡ Some j → Standing m (x ∷ bs) j
    inner rec None p k = absurd (none_some j k)
    inner rec (Some i) p k = subst (λ (n : ℕ). Standing m (x ∷ bs) n) (some_same (suc i) j k) (later i (rec i p))

    by : (r : Bool) → same_move x.term m ≡ r → ((i : ℕ) → place m (moves_of bs) ≡ Some i → Standing m bs i) → (if r then Some 0 else option_map (λ i. suc i) (place m (moves_of bs))) ≡ Some j → Standing m (x ∷ bs) j
    by true q rec k = subst (λ (n : ℕ). Standing m (x ∷ bs) n) (some_same 0 j k) (here q)
    by false q rec k = inner rec (place m (moves_of bs)) refl k

-- ---- the loop over the branches of the part

later_in : (cs : List Branch) (i : ℕ) (bs : Branches) → AllIn (branches_of cs) bs → AllIn (branches_of (drop i cs)) bs
later_in [] zero bs h = h
later_in [] (suc i) bs h = h
later_in (c ∷ cs) zero bs h = h
later_in (c ∷ cs) (suc i) bs h = later_in cs i bs (λ p a. h p (among_right p (behind (Some (branch_of c).0) (paths (branch_of c).1)) (branch_paths (branches_of cs)) a))

pub full_at : (cs : List Branch) (i : ℕ) (c : Branch) → i < length cs → c ≡ get_or cs i c → AreFullTrees (branches_of cs) → IsFullTree (skeleton_of c.rest)
full_at [] i c l e f = absurd (omega (arith, l))
full_at (x ∷ cs) zero c l e f = subst (λ (y : Branch). IsFullTree (skeleton_of y.rest)) (sym e) (subst (λ (y : Move × Skeleton). IsFullTree y.1) (branch_is x) f.0)
full_at (x ∷ cs) (suc i) c l e f = full_at cs i c (omega (arith, l)) e f.1

pub distinct_at : (m : Move) (T : Skeleton) (bs : Branches) → AreDistinctTrees bs → IsBranch m T bs → IsDistinctTree T
distinct_at m T no_more f h = absurd h
distinct_at m T (branch n S bs) f (inl h) = subst IsDistinctTree (sym h.1) f.1
distinct_at m T (branch n S bs) f (inr h) = distinct_at m T bs f.2 h

-- the paths of one branch are in the whole
own_in : (cs : List Branch) (i : ℕ) (c : Branch) (bs : Branches) → i < length cs → c ≡ get_or cs i c → AllIn (branches_of cs) bs → (p : Path) → IsAmong p (paths (skeleton_of c.rest)) → IsAmong (Some c.term ∷ p) (branch_paths bs)
own_in cs i c bs l e h p a =
    let k = subst (λ (x : Branches). AllIn x bs) (branches_at cs i c l e) (later_in cs i bs h) in
    k (Some c.term ∷ p) (among_left (Some c.term ∷ p) (behind (Some c.term) (paths (skeleton_of c.rest))) (branch_paths (branches_of (drop (i + 1) cs))) (among_map (Some c.term) p (paths (skeleton_of c.rest)) a))

pub no_place : (cs bs : List Branch) (i : ℕ) (c : Branch) → i < length cs → c ≡ get_or cs i c → AreFullTrees (branches_of cs) → place c.term (moves_of bs) ≡ None → IsTrue false ↔ AllIn (branches_of cs) (branches_of bs)
no_place cs bs i c l e f q = fails (λ h.
    let o = path_of (skeleton_of c.rest) (full_at cs i c l e f) in
    let w = from_branch c.term o.path (branches_of bs) (own_in cs i c (branches_of bs) l e h o.path o.own) in
    no_branch c.term w.tree bs q w.there)

pub not_inside : (cs bs : List Branch) (i : ℕ) (c : Branch) (T : Skeleton) → i < length cs → c ≡ get_or cs i c → AreDistinctTrees (branches_of bs) → IsBranch c.term T (branches_of bs) → ¬ In (skeleton_of c.rest) T → IsTrue false ↔ AllIn (branches_of cs) (branches_of bs)
not_inside cs bs i c T l e d t n = fails (λ h. n (λ p a.
    let w = from_branch c.term p (branches_of bs) (own_in cs i c (branches_of bs) l e h p a) in
    subst (λ (V : Skeleton). IsAmong p (paths V)) (one_branch c.term w.tree T (branches_of bs) d w.there t) w.path))

behind_within : (m : Move) (ps qs : List Path) → ((q : Path) → IsAmong q ps → IsAmong (Some m ∷ q) qs) → (p : Path) → IsAmong p (behind (Some m) ps) → IsAmong p qs
behind_within m [] qs w p b = absurd b
behind_within m (r ∷ ps) qs w p (inl b) = subst (λ (x : Path). IsAmong x qs) (sym b) (w r (inl refl))
behind_within m (r ∷ ps) qs w p (inr b) = behind_within m ps qs (λ q d. w q (inr d)) p b

pub one_inside : (cs : List Branch) (bs : Branches) (i : ℕ) (c : Branch) (T : Skeleton) → i < length cs → c ≡ get_or cs i c → IsBranch c.term T bs → In (skeleton_of c.rest) T
    → (AllIn (branches_of (drop i cs)) bs → AllIn (branches_of cs) bs) → AllIn (branches_of (drop (i + 1) cs)) bs → AllIn (branches_of cs) bs
one_inside cs bs i c T l e t k f h = f (subst (λ (x : Branches). AllIn x bs) (sym (branches_at cs i c l e)) both)
  where
    first : (p : Path) → IsAmong p (behind (Some c.term) (paths (skeleton_of c.rest))) → IsAmong p (branch_paths bs)
    first p a = behind_within c.term (paths (skeleton_of c.rest)) (branch_paths bs) (λ q b. in_branch c.term T bs q t (k q b)) p a

    both : AllIn (branch c.term (skeleton_of c.rest) (branches_of (drop (i + 1) cs))) bs
    both p a = among_each p (behind (Some c.term) (paths (skeleton_of c.rest))) (branch_paths (branches_of (drop (i + 1) cs))) (IsAmong p (branch_paths bs)) (first p) (h p) a

pub all_inside : (cs : List Branch) (bs : Branches) (i : ℕ) → length cs ≤ i → (AllIn (branches_of (drop i cs)) bs → AllIn (branches_of cs) bs) → IsTrue true ↔ AllIn (branches_of cs) bs
all_inside cs bs i l f = holds (f (subst (λ (x : Branches). AllIn x bs) (sym (branches_done cs i l)) (λ p a. absurd a)))

-- ---- written trees by their cases

tree_by : (P : Skeleton → Type 0) (t : Tree) → (t ≡ trees.End → P end) → ((r : Tree) → t ≡ trees.Theirs r → P (theirs (skeleton_of r))) → ((bs : List Branch) → t ≡ trees.Mine bs → P (mine (branches_of bs))) → P (skeleton_of t)
tree_by P t f g h = by (out-Tree t) (sym (roll-out-Tree t))
  where
    by : (k : Tree-F Tree Branch) → t ≡ roll-Tree k → P (skeleton_of t)
    by Tree-F.End e = let q = e ∙ trees.rolls-End in subst P (sym (ap skeleton_of q ∙ seen_end)) (f q)
    by (Tree-F.Theirs r) e = let q = e ∙ trees.rolls-Theirs r in subst P (sym (ap skeleton_of q ∙ seen_theirs r)) (g r q)
    by (Tree-F.Mine bs) e = let q = e ∙ trees.rolls-Mine bs in subst P (sym (ap skeleton_of q ∙ seen_mine bs)) (h bs q)

pub not_in_end : (w t : Tree) → w ≡ trees.End → ¬ (t ≡ trees.End) → IsFullTree (skeleton_of t) → IsTrue false ↔ In (skeleton_of t) (skeleton_of w)
not_in_end w t e n f =
    subst (λ (W : Skeleton). IsTrue false ↔ In (skeleton_of t) W) (sym (ap skeleton_of e ∙ seen_end))
    (tree_by (λ S. IsFullTree S → IsTrue false ↔ In S end) t (λ q. absurd (n q)) (λ r q. end_theirs (skeleton_of r)) (λ bs q. end_mine (branches_of bs)) f)

pub not_in_theirs : (w t r : Tree) → w ≡ trees.Theirs r → ((u : Tree) → t ≡ trees.Theirs u → ⊥) → IsFullTree (skeleton_of t) → IsTrue false ↔ In (skeleton_of t) (skeleton_of w)
not_in_theirs w t r e n f =
    subst (λ (W : Skeleton). IsTrue false ↔ In (skeleton_of t) W) (sym (ap skeleton_of e ∙ seen_theirs r))
    (tree_by (λ S. IsFullTree S → IsTrue false ↔ In S (theirs (skeleton_of r))) t (λ q g. theirs_end (skeleton_of r)) (λ u q. absurd (n u q)) (λ bs q. theirs_mine (skeleton_of r) (branches_of bs)) f)

pub not_in_mine : (w t : Tree) (bs : List Branch) → w ≡ trees.Mine bs → ((cs : List Branch) → t ≡ trees.Mine cs → ⊥) → IsFullTree (skeleton_of t) → IsTrue false ↔ In (skeleton_of t) (skeleton_of w)
not_in_mine w t bs e n f =
    subst (λ (W : Skeleton). IsTrue false ↔ In (skeleton_of t) W) (sym (ap skeleton_of e ∙ seen_mine bs))
    (tree_by (λ S. IsFullTree S → IsTrue false ↔ In S (mine (branches_of bs))) t (λ q g. mine_end (branches_of bs)) (λ u q. mine_theirs (branches_of bs) (skeleton_of u)) (λ cs q. absurd (n cs q)) f)

pub both_theirs : (b : Bool) (w t r u x y : Tree) → w ≡ trees.Theirs r → t ≡ trees.Theirs u → x ≡ r → y ≡ u → (IsTrue b ↔ In (skeleton_of y) (skeleton_of x)) → IsTrue b ↔ In (skeleton_of t) (skeleton_of w)
both_theirs b w t r u x y e f p q h =
    subst (λ (W : Skeleton). IsTrue b ↔ In (skeleton_of t) W) (sym (ap skeleton_of e ∙ seen_theirs r))
    (subst (λ (T : Skeleton). IsTrue b ↔ In T (theirs (skeleton_of r))) (sym (ap skeleton_of f ∙ seen_theirs u))
    (theirs_both b (skeleton_of r) (skeleton_of u) (subst (λ (z : Tree). IsTrue b ↔ In (skeleton_of u) (skeleton_of z)) p (subst (λ (z : Tree). IsTrue b ↔ In (skeleton_of z) (skeleton_of x)) q h))))

pub both_mine : (b : Bool) (w t : Tree) (bs cs xs ys : List Branch) → w ≡ trees.Mine bs → t ≡ trees.Mine cs → xs ≡ bs → ys ≡ cs → (IsTrue b ↔ AllIn (branches_of ys) (branches_of xs)) → IsTrue b ↔ In (skeleton_of t) (skeleton_of w)
both_mine b w t bs cs xs ys e f p q h =
    subst (λ (W : Skeleton). IsTrue b ↔ In (skeleton_of t) W) (sym (ap skeleton_of e ∙ seen_mine bs))
    (subst (λ (T : Skeleton). IsTrue b ↔ In T (mine (branches_of bs))) (sym (ap skeleton_of f ∙ seen_mine cs))
    (subst (λ (zs : List Branch). IsTrue b ↔ AllIn (branches_of cs) (branches_of zs)) p (subst (λ (zs : List Branch). IsTrue b ↔ AllIn (branches_of zs) (branches_of xs)) q h)))

-- the tree below a place is one of the branch's move
pub placed : (m : Move) (bs : List Branch) (j : ℕ) (b : Branch) → Some j ≡ place m (moves_of bs) → b ≡ get_or bs j b → IsBranch m (skeleton_of b.rest) (branches_of bs)
placed m bs j b e k = (at_place m bs j (sym e)).there b k

pub placed_below : (m : Move) (bs : List Branch) (j : ℕ) → Some j ≡ place m (moves_of bs) → j < length bs
placed_below m bs j e = (at_place m bs j (sym e)).below
