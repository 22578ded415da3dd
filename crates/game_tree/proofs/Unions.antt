-- The union of two skeletons is a skeleton with the paths of both.
use Rattle.std.specs.Prelude.{ℕ, suc, ◌≡◌, ◌≢◌, ◌⊎◌, Bool, true, false, if◌then◌else◌, Option, Some, None, List, [], ◌∷◌, ◌++◌, map}
use Rattle.std.proofs.Common.{ap, sym, subst, refl, inl, inr}
use Rattle.lin_term.specs.declared.Sort.{Sort}
use Rattle.lin_term.specs.Move.{Move}
use Rattle.lin_term.specs.Same.{same_move}
use Rattle.dom_core.specs.declared.Quant.{Quant}
use Rattle.dom_core.specs.declared.Quant.TheVariants.{Exists, Forall}
use Rattle.game_tree.specs.Skeleton.{Skeleton, end, theirs, mine, Branches, no_more, branch, paths, branch_paths, IsMoveAt, IsNew, IsSomeBranch, Follows, EachFollows}
use Rattle.game_tree.specs.Among.{IsAmong}
use Rattle.game_tree.specs.Union.{In, put_branch, with_paths, with_branches, union}
use Rattle.lin_term.proofs.Comparing.{move_decides}

abbrev Path : Type 0
Path = List (Option Move)

pub among_left : (p : Path) (ps qs : List Path) → IsAmong p ps → IsAmong p (ps ++ qs)
among_left p [] qs h = absurd h
among_left p (r ∷ ps) qs (inl h) = inl h
among_left p (r ∷ ps) qs (inr h) = inr (among_left p ps qs h)

pub among_right : (p : Path) (ps qs : List Path) → IsAmong p qs → IsAmong p (ps ++ qs)
among_right p [] qs h = h
among_right p (r ∷ ps) qs h = inr (among_right p ps qs h)

-- what holds of the paths of either list holds of those of both
pub among_each : (p : Path) (ps qs : List Path) (A : Type 0) → (IsAmong p ps → A) → (IsAmong p qs → A) → IsAmong p (ps ++ qs) → A
among_each p [] qs A f g h = g h
among_each p (r ∷ ps) qs A f g (inl h) = f (inl h)
among_each p (r ∷ ps) qs A f g (inr h) = among_each p ps qs A (λ k. f (inr k)) g h

abbrev behind : Option Move → List Path → List Path
behind x ps = map (λ path. x ∷ path) ps

pub among_map : (x : Option Move) (p : Path) (ps : List Path) → IsAmong p ps → IsAmong (x ∷ p) (behind x ps)
among_map x p [] h = absurd h
among_map x p (r ∷ ps) (inl h) = inl (ap (λ (t : Path). x ∷ t) h)
among_map x p (r ∷ ps) (inr h) = inr (among_map x p ps h)

-- more paths behind the same move
pub behind_more : (x : Option Move) (ps qs : List Path) → ((p : Path) → IsAmong p ps → IsAmong p qs) → (p : Path) → IsAmong p (behind x ps) → IsAmong p (behind x qs)
behind_more x [] qs k p h = absurd h
behind_more x (r ∷ ps) qs k p (inl h) = subst (λ (t : Path). IsAmong t (behind x qs)) (sym h) (among_map x r qs (k r (inl refl)))
behind_more x (r ∷ ps) qs k p (inr h) = behind_more x ps qs (λ t a. k t (inr a)) p h

-- ---- the paths of S

put_keeps : (m : Move) (f : Skeleton → Skeleton) (T : Skeleton) (bs : Branches) → ((S : Skeleton) → In S (f S)) → (p : Path) → IsAmong p (branch_paths bs) → IsAmong p (branch_paths (put_branch m f T bs))
put_keeps m f T no_more k p h = absurd h
put_keeps m f T (branch n S bs) k p h =
    among_each p (behind (Some n) (paths S)) (branch_paths bs) (IsAmong p (branch_paths (put_branch m f T (branch n S bs))))
    (λ a. first (same_move n m) a) (λ a. later (same_move n m) a (put_keeps m f T bs k p a)) h
  where
    first : (b : Bool) → IsAmong p (behind (Some n) (paths S)) → IsAmong p (branch_paths (if b then branch n (f S) bs else branch n S (put_branch m f T bs)))
    first true a = among_left p (behind (Some n) (paths (f S))) (branch_paths bs) (behind_more (Some n) (paths S) (paths (f S)) (k S) p a)
    first false a = among_left p (behind (Some n) (paths S)) (branch_paths (put_branch m f T bs)) a

    later : (b : Bool) → IsAmong p (branch_paths bs) → IsAmong p (branch_paths (put_branch m f T bs)) → IsAmong p (branch_paths (if b then branch n (f S) bs else branch n S (put_branch m f T bs)))
    later true a g = among_right p (behind (Some n) (paths (f S))) (branch_paths bs) a
    later false a g = among_right p (behind (Some n) (paths S)) (branch_paths (put_branch m f T bs)) g

mutual
  pub has_own : (T S : Skeleton) → In S (with_paths T S)
  has_own end S p h = h
  has_own (theirs T) end p h = h
  has_own (theirs T) (mine bs) p h = h
  has_own (theirs T) (theirs S) p h = behind_more None (paths S) (paths (with_paths T S)) (has_own T S) p h
  has_own (mine cs) end p h = h
  has_own (mine cs) (theirs S) p h = h
  has_own (mine cs) (mine bs) p h = branches_have cs bs p h

  pub branches_have : (cs bs : Branches) (p : Path) → IsAmong p (branch_paths bs) → IsAmong p (branch_paths (with_branches cs bs))
  branches_have no_more bs p h = h
  branches_have (branch m T cs) bs p h =
      branches_have cs (put_branch m (λ S. with_paths T S) T bs) p (put_keeps m (λ S. with_paths T S) T bs (has_own T) p h)

-- each version contains the one before
pub union_contains : (S T : Skeleton) → In S (union S T)
union_contains S T = has_own T S

-- ---- it follows the prefix where both do

put_new : (n m : Move) (f : Skeleton → Skeleton) (T : Skeleton) (bs : Branches) → n ≢ m → IsNew n bs → IsNew n (put_branch m f T bs)
put_new n m f T no_more d h = (d, tt)
put_new n m f T (branch o S bs) d h = by (same_move o m) (put_new n m f T bs d h.1)
  where
    by : (b : Bool) → IsNew n (put_branch m f T bs) → IsNew n (if b then branch o (f S) bs else branch o S (put_branch m f T bs))
    by true g = h
    by false g = (h.0, g)

pub put_follows : (m : Move) (f : Skeleton → Skeleton) (T : Skeleton) (bs : Branches) (s : Sort) (qs : List Quant) (k : ℕ) → ((S : Skeleton) → Follows S s qs (suc k) → Follows (f S) s qs (suc k)) → IsMoveAt s k m → Follows T s qs (suc k) → EachFollows bs s qs k → EachFollows (put_branch m f T bs) s qs k
put_follows m f T no_more s qs k w i t a = (i, tt, t, tt)
put_follows m f T (branch n S bs) s qs k w i t a = by (same_move n m) refl (put_follows m f T bs s qs k w i t a.3)
  where
    by : (b : Bool) → same_move n m ≡ b → EachFollows (put_branch m f T bs) s qs k → EachFollows (if b then branch n (f S) bs else branch n S (put_branch m f T bs)) s qs k
    by true e g = (a.0, a.1, w S a.2, a.3)
    by false e g = (a.0, put_new n m f T bs (λ (d : n ≡ m). let t = (move_decides n m).1 d in absurd (cc)) a.1, a.2, g)

put_some : (m : Move) (f : Skeleton → Skeleton) (T : Skeleton) (bs : Branches) → IsSomeBranch (put_branch m f T bs)
put_some m f T no_more = tt
put_some m f T (branch n S bs) = by (same_move n m)
  where
    by : (b : Bool) → IsSomeBranch (if b then branch n (f S) bs else branch n S (put_branch m f T bs))
    by true = tt
    by false = tt

with_some : (cs bs : Branches) → IsSomeBranch bs → IsSomeBranch (with_branches cs bs)
with_some no_more bs h = h
with_some (branch m T cs) bs h = with_some cs (put_branch m (λ S. with_paths T S) T bs) (put_some m (λ S. with_paths T S) T bs)

mutual
  pub both_follow : (T S : Skeleton) (s : Sort) (qs : List Quant) (k : ℕ) → Follows T s qs k → Follows S s qs k → Follows (with_paths T S) s qs k
  both_follow end S s qs k t f = f
  both_follow (theirs T) end s qs k t f = f
  both_follow (theirs T) (mine bs) s qs k t f = f
  both_follow (theirs T) (theirs S) s [] k t f = absurd f
  both_follow (theirs T) (theirs S) s (Exists ∷ qs) k t f = absurd f
  both_follow (theirs T) (theirs S) s (Forall ∷ qs) k t f = both_follow T S s qs (suc k) t f
  both_follow (mine cs) end s qs k t f = f
  both_follow (mine cs) (theirs S) s qs k t f = f
  both_follow (mine cs) (mine bs) s [] k t f = absurd f
  both_follow (mine cs) (mine bs) s (Forall ∷ qs) k t f = absurd f
  both_follow (mine cs) (mine bs) s (Exists ∷ qs) k t f = (with_some cs bs f.0, branches_follow cs bs s qs k t.1 f.1)

  pub branches_follow : (cs bs : Branches) (s : Sort) (qs : List Quant) (k : ℕ) → EachFollows cs s qs k → EachFollows bs s qs k → EachFollows (with_branches cs bs) s qs k
  branches_follow no_more bs s qs k t f = f
  branches_follow (branch m T cs) bs s qs k t f =
      branches_follow cs (put_branch m (λ S. with_paths T S) T bs) s qs k t.3
      (put_follows m (λ S. with_paths T S) T bs s qs k (λ S h. both_follow T S s qs (suc k) t.2 h) t.0 t.2 f)

pub union_follows : (S T : Skeleton) (s : Sort) (qs : List Quant) (k : ℕ) → Follows S s qs k → Follows T s qs k → Follows (union S T) s qs k
union_follows S T s qs k f t = both_follow T S s qs k t f

-- ---- the paths of T

put_adds : (m : Move) (f : Skeleton → Skeleton) (T : Skeleton) (bs : Branches) (s : Sort) (qs : List Quant) (k : ℕ) → ((S : Skeleton) → Follows S s qs (suc k) → In T (f S)) → EachFollows bs s qs k → (p : Path) → IsAmong p (behind (Some m) (paths T)) → IsAmong p (branch_paths (put_branch m f T bs))
put_adds m f T no_more s qs k w a p h = among_left p (behind (Some m) (paths T)) [] h
put_adds m f T (branch n S bs) s qs k w a p h = by (same_move n m) refl (put_adds m f T bs s qs k w a.3 p h)
  where
    by : (b : Bool) → same_move n m ≡ b → IsAmong p (branch_paths (put_branch m f T bs)) → IsAmong p (branch_paths (if b then branch n (f S) bs else branch n S (put_branch m f T bs)))
    by true e g =
        among_left p (behind (Some n) (paths (f S))) (branch_paths bs)
        (subst (λ (x : Move). IsAmong p (behind (Some x) (paths (f S)))) (sym ((move_decides n m).0 e)) (behind_more (Some m) (paths T) (paths (f S)) (w S a.2) p h))
    by false e g = among_right p (behind (Some n) (paths S)) (branch_paths (put_branch m f T bs)) g

mutual
  pub has_other : (T S : Skeleton) (s : Sort) (qs : List Quant) (k : ℕ) → Follows T s qs k → Follows S s qs k → In T (with_paths T S)
  has_other end end s qs k t f p h = h
  has_other end (theirs S) s [] k t f p h = absurd f
  has_other end (mine bs) s [] k t f p h = absurd f
  has_other end (theirs S) s (q ∷ qs) k t f p h = absurd t
  has_other end (mine bs) s (q ∷ qs) k t f p h = absurd t
  has_other (theirs T) S s [] k t f p h = absurd t
  has_other (theirs T) S s (Exists ∷ qs) k t f p h = absurd t
  has_other (theirs T) end s (Forall ∷ qs) k t f p h = absurd f
  has_other (theirs T) (mine bs) s (Forall ∷ qs) k t f p h = absurd f
  has_other (theirs T) (theirs S) s (Forall ∷ qs) k t f p h =
      behind_more None (paths T) (paths (with_paths T S)) (has_other T S s qs (suc k) t f) p h
  has_other (mine cs) S s [] k t f p h = absurd t
  has_other (mine cs) S s (Forall ∷ qs) k t f p h = absurd t
  has_other (mine cs) end s (Exists ∷ qs) k t f p h = absurd f
  has_other (mine cs) (theirs S) s (Exists ∷ qs) k t f p h = absurd f
  has_other (mine cs) (mine bs) s (Exists ∷ qs) k t f p h = branches_others cs bs s qs k t.1 f.1 p h

  pub branches_others : (cs bs : Branches) (s : Sort) (qs : List Quant) (k : ℕ) → EachFollows cs s qs k → EachFollows bs s qs k → (p : Path) → IsAmong p (branch_paths cs) → IsAmong p (branch_paths (with_branches cs bs))
  branches_others no_more bs s qs k t f p h = absurd h
  branches_others (branch m T cs) bs s qs k t f p h =
      let w = λ (S : Skeleton). with_paths T S in
      let put = put_branch m w T bs in
      among_each p (behind (Some m) (paths T)) (branch_paths cs) (IsAmong p (branch_paths (with_branches cs put)))
      (λ a. branches_have cs put p (put_adds m w T bs s qs k (λ S g. has_other T S s qs (suc k) t.2 g) f p a))
      (λ a. branches_others cs put s qs k t.3 (put_follows m w T bs s qs k (λ S g. both_follow T S s qs (suc k) t.2 g) t.0 t.2 f) p a) h

pub union_adds : (S T : Skeleton) (s : Sort) (qs : List Quant) (k : ℕ) → Follows S s qs k → Follows T s qs k → In T (union S T)
union_adds S T s qs k f t = has_other T S s qs k t f

-- ---- and no others

split_behind : (x : Option Move) (ps ts ss rest : List Path) → ((p : Path) → IsAmong p ps → IsAmong p ts ⊎ IsAmong p ss) → (p : Path) → IsAmong p (behind x ps) → IsAmong p (behind x ts) ⊎ IsAmong p (behind x ss ++ rest)
split_behind x [] ts ss rest k p h = absurd h
split_behind x (r ∷ ps) ts ss rest k p (inl h) = by (k r (inl refl))
  where
    by : IsAmong r ts ⊎ IsAmong r ss → IsAmong p (behind x ts) ⊎ IsAmong p (behind x ss ++ rest)
    by (inl a) = inl (subst (λ (t : Path). IsAmong t (behind x ts)) (sym h) (among_map x r ts a))
    by (inr a) = inr (among_left p (behind x ss) rest (subst (λ (t : Path). IsAmong t (behind x ss)) (sym h) (among_map x r ss a)))
split_behind x (r ∷ ps) ts ss rest k p (inr h) = split_behind x ps ts ss rest (λ t a. k t (inr a)) p h

drop_rest : (p : Path) (ts ss : List Path) → IsAmong p ts ⊎ IsAmong p (ss ++ []) → IsAmong p ts ⊎ IsAmong p ss
drop_rest p ts ss (inl a) = inl a
drop_rest p ts ss (inr a) = inr (among_each p ss [] (IsAmong p ss) (λ c. c) (λ c. absurd c) a)

first_of : (p : Path) (ms cs put bs : List Path) → (IsAmong p put → IsAmong p ms ⊎ IsAmong p bs) → IsAmong p cs ⊎ IsAmong p put → IsAmong p (ms ++ cs) ⊎ IsAmong p bs
first_of p ms cs put bs k (inl a) = inl (among_right p ms cs a)
first_of p ms cs put bs k (inr a) = by (k a)
  where
    by : IsAmong p ms ⊎ IsAmong p bs → IsAmong p (ms ++ cs) ⊎ IsAmong p bs
    by (inl c) = inl (among_left p ms cs c)
    by (inr c) = inr c

put_only : (m : Move) (f : Skeleton → Skeleton) (T : Skeleton) (bs : Branches) → ((S : Skeleton) (p : Path) → IsAmong p (paths (f S)) → IsAmong p (paths T) ⊎ IsAmong p (paths S)) → (p : Path) → IsAmong p (branch_paths (put_branch m f T bs)) → IsAmong p (behind (Some m) (paths T)) ⊎ IsAmong p (branch_paths bs)
put_only m f T no_more w p h = inl (among_each p (behind (Some m) (paths T)) [] (IsAmong p (behind (Some m) (paths T))) (λ a. a) (λ a. absurd a) h)
put_only m f T (branch n S bs) w p h = by (same_move n m) refl h (put_only m f T bs w p)
  where
    later : IsAmong p (behind (Some m) (paths T)) ⊎ IsAmong p (branch_paths bs) → IsAmong p (behind (Some m) (paths T)) ⊎ IsAmong p (behind (Some n) (paths S) ++ branch_paths bs)
    later (inl a) = inl a
    later (inr a) = inr (among_right p (behind (Some n) (paths S)) (branch_paths bs) a)

    by : (b : Bool) → same_move n m ≡ b → IsAmong p (branch_paths (if b then branch n (f S) bs else branch n S (put_branch m f T bs))) → (IsAmong p (branch_paths (put_branch m f T bs)) → IsAmong p (behind (Some m) (paths T)) ⊎ IsAmong p (branch_paths bs)) → IsAmong p (behind (Some m) (paths T)) ⊎ IsAmong p (behind (Some n) (paths S) ++ branch_paths bs)
    by true e a g =
        among_each p (behind (Some n) (paths (f S))) (branch_paths bs) (IsAmong p (behind (Some m) (paths T)) ⊎ IsAmong p (behind (Some n) (paths S) ++ branch_paths bs))
        (λ c. subst (λ (x : Move). IsAmong p (behind (Some x) (paths T)) ⊎ IsAmong p (behind (Some n) (paths S) ++ branch_paths bs)) ((move_decides n m).0 e) (split_behind (Some n) (paths (f S)) (paths T) (paths S) (branch_paths bs) (w S) p c))
        (λ c. inr (among_right p (behind (Some n) (paths S)) (branch_paths bs) c)) a
    by false e a g =
        among_each p (behind (Some n) (paths S)) (branch_paths (put_branch m f T bs)) (IsAmong p (behind (Some m) (paths T)) ⊎ IsAmong p (behind (Some n) (paths S) ++ branch_paths bs))
        (λ c. inr (among_left p (behind (Some n) (paths S)) (branch_paths bs) c))
        (λ c. later (g c)) a

mutual
  pub only_both : (T S : Skeleton) (p : Path) → IsAmong p (paths (with_paths T S)) → IsAmong p (paths T) ⊎ IsAmong p (paths S)
  only_both end S p h = inr h
  only_both (theirs T) end p h = inr h
  only_both (theirs T) (mine bs) p h = inr h
  only_both (theirs T) (theirs S) p h = drop_rest p (behind None (paths T)) (behind None (paths S)) (split_behind None (paths (with_paths T S)) (paths T) (paths S) [] (only_both T S) p h)
  only_both (mine cs) end p h = inr h
  only_both (mine cs) (theirs S) p h = inr h
  only_both (mine cs) (mine bs) p h = only_branches cs bs p h

  pub only_branches : (cs bs : Branches) (p : Path) → IsAmong p (branch_paths (with_branches cs bs)) → IsAmong p (branch_paths cs) ⊎ IsAmong p (branch_paths bs)
  only_branches no_more bs p h = inr h
  only_branches (branch m T cs) bs p h =
      first_of p (behind (Some m) (paths T)) (branch_paths cs) (branch_paths (put_branch m (λ S. with_paths T S) T bs)) (branch_paths bs)
      (put_only m (λ S. with_paths T S) T bs (only_both T) p) (only_branches cs (put_branch m (λ S. with_paths T S) T bs) p h)

pub union_only : (S T : Skeleton) (p : Path) → IsAmong p (paths (union S T)) → IsAmong p (paths S) ⊎ IsAmong p (paths T)
union_only S T p h = turned (only_both T S p h)
  where
    turned : IsAmong p (paths T) ⊎ IsAmong p (paths S) → IsAmong p (paths S) ⊎ IsAmong p (paths T)
    turned (inl a) = inr a
    turned (inr a) = inl a
