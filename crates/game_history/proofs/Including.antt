-- A skeleton that has every path of another wins where that one does.
use Rattle.std.specs.Prelude.{ℕ, suc, ◌≡◌, ◌⊎◌, Option, Some, None, List, [], ◌∷◌, map}
use Rattle.std.proofs.Common.{ap, ◌∙◌, sym, subst, refl, inl, inr}
use Rattle.lin_term.specs.declared.Sort.{Sort}
use Rattle.lin_term.specs.Linear.{Point, origin}
use Rattle.lin_term.specs.Move.{Move}
use Rattle.dom_core.specs.declared.Quant.{Quant}
use Rattle.dom_core.specs.declared.Quant.TheVariants.{Exists, Forall}
use Rattle.dom_core.specs.Game.{Matrix, Problem}
use Rattle.game_tree.specs.Skeleton.{Skeleton, end, theirs, mine, Branches, no_more, branch, paths, branch_paths, IsNew, Follows, EachFollows}
use Rattle.game_tree.specs.Among.{IsAmong}
use Rattle.game_tree.specs.Union.{In}
use Rattle.dom_core.specs.Pick.{played}
use Rattle.game_play.specs.Beats.{SomeBranch, Wins, Beats}
use Rattle.term_select.proofs.Winning.{each_weaker}
use Rattle.game_tree.proofs.Unions.{among_left, among_right, among_each}

abbrev Path : Type 0
Path = List (Option Move)

among_map : (x : Option Move) (p : Path) (ps : List Path) → IsAmong p ps → IsAmong (x ∷ p) (map (λ path. x ∷ path) ps)
among_map x p [] h = absurd h
among_map x p (r ∷ ps) (inl h) = inl (ap (λ (t : Path). x ∷ t) h)
among_map x p (r ∷ ps) (inr h) = inr (among_map x p ps h)

-- a path behind a move comes from that move
record Behind (m n : Move) (p : Path) (ps : List Path) : Type 0 where
  same : m ≡ n
  path : IsAmong p ps

head_same : (m n : Move) (p q : Path) → Some m ∷ p ≡ Some n ∷ q → m ≡ n
head_same m n p q e = cc

tail_same : (m n : Move) (p q : Path) → Some m ∷ p ≡ Some n ∷ q → p ≡ q
tail_same m n p q e = cc

under_some : (m n : Move) (p : Path) (ps : List Path) → IsAmong (Some m ∷ p) (map (λ path. Some n ∷ path) ps) → Behind m n p ps
under_some m n p [] h = absurd h
under_some m n p (q ∷ ps) (inl h) = record { same = head_same m n p q h; path = inl (tail_same m n p q h) }
under_some m n p (q ∷ ps) (inr h) = let k = under_some m n p ps h in record { same = k.same; path = inr k.path }

none_tail : (p q : Path) → None ∷ p ≡ None ∷ q → p ≡ q
none_tail p q e = cc

under_none : (p : Path) (ps : List Path) → IsAmong (None ∷ p) (map (λ path. None ∷ path) ps) → IsAmong p ps
under_none p [] h = absurd h
under_none p (q ∷ ps) (inl h) = inl (none_tail p q h)
under_none p (q ∷ ps) (inr h) = inr (under_none p ps h)

-- ---- branches

abbrev IsBranch : Move → Skeleton → Branches → Type 0
IsBranch m T no_more = ⊥
IsBranch m T (branch n S bs) = ((m ≡ n) × (T ≡ S)) ⊎ IsBranch m T bs

record Found (m : Move) (p : Path) (cs : Branches) : Type 0 where
  tree : Skeleton
  there : IsBranch m tree cs
  path : IsAmong p (paths tree)

find : (m : Move) (p : Path) (cs : Branches) → IsAmong (Some m ∷ p) (branch_paths cs) → Found m p cs
find m p no_more h = absurd h
find m p (branch n S cs) h =
    among_each (Some m ∷ p) (map (λ path. Some n ∷ path) (paths S)) (branch_paths cs) (Found m p (branch n S cs))
    (λ a. let k = under_some m n p (paths S) a in record { tree = S; there = inl (k.same, refl); path = k.path })
    (λ a. let k = find m p cs a in record { tree = k.tree; there = inr k.there; path = k.path }) h

not_new : (m : Move) (T : Skeleton) (cs : Branches) → IsNew m cs → IsBranch m T cs → ⊥
not_new m T no_more n h = h
not_new m T (branch k S cs) n (inl h) = n.0 h.0
not_new m T (branch k S cs) n (inr h) = not_new m T cs n.1 h

one_branch : (m : Move) (T V : Skeleton) (cs : Branches) (s : Sort) (qs : List Quant) (k : ℕ) → EachFollows cs s qs k → IsBranch m T cs → IsBranch m V cs → T ≡ V
one_branch m T V no_more s qs k f a b = absurd a
one_branch m T V (branch n S cs) s qs k f (inl a) (inl b) = a.1 ∙ sym b.1
one_branch m T V (branch n S cs) s qs k f (inl a) (inr b) = absurd (not_new n V cs f.1 (subst (λ (x : Move). IsBranch x V cs) a.0 b))
one_branch m T V (branch n S cs) s qs k f (inr a) (inl b) = absurd (not_new n T cs f.1 (subst (λ (x : Move). IsBranch x T cs) b.0 a))
one_branch m T V (branch n S cs) s qs k f (inr a) (inr b) = one_branch m T V cs s qs k f.3 a b

branch_follows : (m : Move) (T : Skeleton) (cs : Branches) (s : Sort) (qs : List Quant) (k : ℕ) → EachFollows cs s qs k → IsBranch m T cs → Follows T s qs (suc k)
branch_follows m T no_more s qs k f h = absurd h
branch_follows m T (branch n S cs) s qs k f (inl h) = subst (λ (V : Skeleton). Follows V s qs (suc k)) (sym h.1) f.2
branch_follows m T (branch n S cs) s qs k f (inr h) = branch_follows m T cs s qs k f.3 h

some_branch : (m : Move) (T : Skeleton) (cs : Branches) (G : Move → Skeleton → Type 0) → IsBranch m T cs → G m T → SomeBranch cs G
some_branch m T no_more G h g = absurd h
some_branch m T (branch n S cs) G (inl h) g = inl (subst (λ (x : Move). G x S) h.0 (subst (λ (V : Skeleton). G m V) h.1 g))
some_branch m T (branch n S cs) G (inr h) g = inr (some_branch m T cs G h g)

-- ---- a skeleton has a path

record HasPath (S : Skeleton) : Type 0 where
  path : Path
  own : IsAmong path (paths S)

has_path : (qs : List Quant) (S : Skeleton) (s : Sort) (k : ℕ) → Follows S s qs k → HasPath S
has_path [] end s k f = record { path = []; own = inl refl }
has_path [] (theirs S) s k f = absurd f
has_path [] (mine bs) s k f = absurd f
has_path (Exists ∷ qs) end s k f = absurd f
has_path (Exists ∷ qs) (theirs S) s k f = absurd f
has_path (Exists ∷ qs) (mine no_more) s k f = absurd f.0
has_path (Exists ∷ qs) (mine (branch m S bs)) s k f =
    let h = has_path qs S s (suc k) f.1.2 in
    record { path = Some m ∷ h.path; own = among_left (Some m ∷ h.path) (map (λ path. Some m ∷ path) (paths S)) (branch_paths bs) (among_map (Some m) h.path (paths S) h.own) }
has_path (Forall ∷ qs) end s k f = absurd f
has_path (Forall ∷ qs) (mine bs) s k f = absurd f
has_path (Forall ∷ qs) (theirs S) s k f =
    let h = has_path qs S s (suc k) f in record { path = None ∷ h.path; own = among_map None h.path (paths S) h.own }

-- ---- more paths win where fewer do

-- one branch of the smaller one in the larger
record Inside (m : Move) (S : Skeleton) (cs : Branches) : Type 0 where
  tree : Skeleton
  there : IsBranch m tree cs
  holds : In S tree

inside : (m : Move) (S : Skeleton) (cs : Branches) (s : Sort) (qs : List Quant) (k : ℕ) → Follows S s qs (suc k) → EachFollows cs s qs k → ((p : Path) → IsAmong p (paths S) → IsAmong (Some m ∷ p) (branch_paths cs)) → Inside m S cs
inside m S cs s qs k f g h =
    let o = has_path qs S s (suc k) f in
    let a = find m o.path cs (h o.path o.own) in
    record {
      tree = a.tree;
      there = a.there;
      holds = λ p i. let b = find m p cs (h p i) in subst (λ (T : Skeleton). IsAmong p (paths T)) (one_branch m b.tree a.tree cs s qs k g b.there a.there) b.path;
    }

some_inside : (bs cs : Branches) (s : Sort) (qs : List Quant) (k : ℕ) (F G : Move → Skeleton → Type 0) → EachFollows bs s qs k → EachFollows cs s qs k → ((p : Path) → IsAmong p (branch_paths bs) → IsAmong p (branch_paths cs)) → ((m : Move) (S T : Skeleton) → Follows S s qs (suc k) → Follows T s qs (suc k) → In S T → F m S → G m T) → SomeBranch bs F → SomeBranch cs G
some_inside no_more cs s qs k F G f g h w i = absurd i
some_inside (branch m S bs) cs s qs k F G f g h w (inl i) =
    let a = inside m S cs s qs k f.2 g (λ p j. h (Some m ∷ p) (among_left (Some m ∷ p) (map (λ path. Some m ∷ path) (paths S)) (branch_paths bs) (among_map (Some m) p (paths S) j))) in
    some_branch m a.tree cs G a.there (w m S a.tree f.2 (branch_follows m a.tree cs s qs k g a.there) a.holds i)
some_inside (branch m S bs) cs s qs k F G f g h w (inr i) =
    some_inside bs cs s qs k F G f.3 g (λ p j. h p (among_right p (map (λ path. Some m ∷ path) (paths S)) (branch_paths bs) j)) w i

pub including_wins : (qs : List Quant) (s : Sort) (M : Matrix) (C N U : Skeleton) (k : ℕ) (p : Point) → Follows C s qs k → Follows N s qs k → In C N → Wins qs s M C U p → Wins qs s M N U p
including_wins [] s M C N U k p f g i w = w
including_wins (Exists ∷ qs) s M end N U k p f g i w = absurd f
including_wins (Exists ∷ qs) s M (theirs C) N U k p f g i w = absurd f
including_wins (Exists ∷ qs) s M (mine bs) end U k p f g i w = absurd g
including_wins (Exists ∷ qs) s M (mine bs) (theirs N) U k p f g i w = absurd g
including_wins (Exists ∷ qs) s M (mine bs) (mine cs) end k p f g i w = absurd w
including_wins (Exists ∷ qs) s M (mine bs) (mine cs) (mine ds) k p f g i w = absurd w
including_wins (Exists ∷ qs) s M (mine bs) (mine cs) (theirs U) k p f g i w =
    some_inside bs cs s qs k (λ mv S. Wins qs s M S U (played s mv p)) (λ mv S. Wins qs s M S U (played s mv p)) f.1 g.1 i
    (λ m S T a b j x. including_wins qs s M S T U (suc k) (played s m p) a b j x) w
including_wins (Forall ∷ qs) s M end N U k p f g i w = absurd f
including_wins (Forall ∷ qs) s M (mine bs) N U k p f g i w = absurd f
including_wins (Forall ∷ qs) s M (theirs C) end U k p f g i w = absurd g
including_wins (Forall ∷ qs) s M (theirs C) (mine cs) U k p f g i w = absurd g
including_wins (Forall ∷ qs) s M (theirs C) (theirs N) end k p f g i w = absurd w
including_wins (Forall ∷ qs) s M (theirs C) (theirs N) (theirs U) k p f g i w = absurd w
including_wins (Forall ∷ qs) s M (theirs C) (theirs N) (mine ds) k p f g i w =
    each_weaker ds (λ mv U. Wins qs s M C U (played s mv p)) (λ mv U. Wins qs s M N U (played s mv p))
    (λ m U x. including_wins qs s M C N U (suc k) (played s m p) f g (λ q j. under_none q (paths N) (i (None ∷ q) (among_map None q (paths C) j))) x) w

pub including_beats : (s : Sort) (P : Problem) (C N U : Skeleton) → Follows C s P.prefix 0 → Follows N s P.prefix 0 → In C N → Beats s P C U → Beats s P N U
including_beats s P C N U f g i w = including_wins P.prefix s P.matrix C N U 0 origin f g i w
