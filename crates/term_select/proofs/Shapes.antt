-- The shape of a tree along a prefix, and of unions and selected trees.
use Rattle.std.specs.Prelude.{ℕ, suc, ◌+◌, Bool, true, false, if◌then◌else◌, List, [], ◌∷◌, ⊤}
use Rattle.lin_term.specs.declared.Sort.{Sort}
use Rattle.lin_term.specs.Linear.{Point, extend}
use Rattle.lin_term.specs.Move.{Move}
use Rattle.dom_core.specs.declared.Quant.{Quant}
use Rattle.dom_core.specs.declared.Quant.TheVariants.{Exists, Forall}
use Rattle.dom_core.specs.Game.{Matrix, flip_all}
use Rattle.game_tree.specs.Skeleton.{Skeleton, end, theirs, mine, Branches, no_more, branch, nodes, Follows, EachFollows}
use Rattle.lin_term.specs.Same.{same_move}
use Rattle.game_tree.specs.Union.{put_branch, with_paths, with_branches}
use Rattle.term_select.specs.Guided.{Chosen, value_of, with_move, joined, guided_from, guided_rest}

abbrev mutual
  pub HasShape : Skeleton → List Quant → Type 0
  HasShape end [] = ⊤
  HasShape end (q ∷ qs) = ⊥
  HasShape (theirs S) [] = ⊥
  HasShape (theirs S) (Exists ∷ qs) = ⊥
  HasShape (theirs S) (Forall ∷ qs) = HasShape S qs
  HasShape (mine bs) [] = ⊥
  HasShape (mine bs) (Forall ∷ qs) = ⊥
  HasShape (mine bs) (Exists ∷ qs) = EachShape bs qs

  pub EachShape : Branches → List Quant → Type 0
  EachShape no_more qs = ⊤
  EachShape (branch m S bs) qs = HasShape S qs × EachShape bs qs

mutual
  pub follows_shape : (S : Skeleton) (s : Sort) (qs : List Quant) (k : ℕ) → Follows S s qs k → HasShape S qs
  follows_shape end s [] k f = tt
  follows_shape end s (q ∷ qs) k f = absurd f
  follows_shape (theirs S) s [] k f = absurd f
  follows_shape (theirs S) s (Exists ∷ qs) k f = absurd f
  follows_shape (theirs S) s (Forall ∷ qs) k f = follows_shape S s qs (suc k) f
  follows_shape (mine bs) s [] k f = absurd f
  follows_shape (mine bs) s (Forall ∷ qs) k f = absurd f
  follows_shape (mine bs) s (Exists ∷ qs) k f = branches_shape bs s qs k f.1

  branches_shape : (bs : Branches) (s : Sort) (qs : List Quant) (k : ℕ) → EachFollows bs s qs k → EachShape bs qs
  branches_shape no_more s qs k f = tt
  branches_shape (branch m S bs) s qs k f = (follows_shape S s qs (suc k) f.2, branches_shape bs s qs k f.3)

pub put_shape : (m : Move) (f : Skeleton → Skeleton) (T : Skeleton) (bs : Branches) (qs : List Quant) → ((S : Skeleton) → HasShape S qs → HasShape (f S) qs) → HasShape T qs → EachShape bs qs → EachShape (put_branch m f T bs) qs
put_shape m f T no_more qs k t a = (t, tt)
put_shape m f T (branch n S bs) qs k t a = by (same_move n m) (put_shape m f T bs qs k t a.1)
  where
    by : (b : Bool) → EachShape (put_branch m f T bs) qs → EachShape (if b then branch n (f S) bs else branch n S (put_branch m f T bs)) qs
    by true g = (k S a.0, a.1)
    by false g = (a.0, g)

mutual
  pub both_shape : (T S : Skeleton) (qs : List Quant) → HasShape T qs → HasShape S qs → HasShape (with_paths T S) qs
  both_shape end S qs t h = h
  both_shape (theirs T) end qs t h = h
  both_shape (theirs T) (mine bs) qs t h = h
  both_shape (theirs T) (theirs S) [] t h = absurd h
  both_shape (theirs T) (theirs S) (Exists ∷ qs) t h = absurd h
  both_shape (theirs T) (theirs S) (Forall ∷ qs) t h = both_shape T S qs t h
  both_shape (mine cs) end qs t h = h
  both_shape (mine cs) (theirs S) qs t h = h
  both_shape (mine cs) (mine bs) [] t h = absurd h
  both_shape (mine cs) (mine bs) (Forall ∷ qs) t h = absurd h
  both_shape (mine cs) (mine bs) (Exists ∷ qs) t h = all_shape cs bs qs t h

  all_shape : (cs bs : Branches) (qs : List Quant) → EachShape cs qs → EachShape bs qs → EachShape (with_branches cs bs) qs
  all_shape no_more bs qs t h = h
  all_shape (branch m T cs) bs qs t h =
      all_shape cs (put_branch m (λ S. with_paths T S) T bs) qs t.1 (put_shape m (λ S. with_paths T S) T bs qs (λ S g. both_shape T S qs t.0 g) t.0 h)

-- the selected tree has the shape of the attacker's prefix
mutual
  pub guided_shape : (U : Skeleton) (s : Sort) (M : Matrix) (qs : List Quant) (p : Point) (x v : ℕ) (e : Point) → Follows U s (flip_all qs) x → HasShape (guided_from U s M p x v e).tree qs
  guided_shape end s M [] p x v e f = tt
  guided_shape end s M (Exists ∷ qs) p x v e f = absurd f
  guided_shape end s M (Forall ∷ qs) p x v e f = absurd f
  guided_shape (theirs U) s M [] p x v e f = absurd f
  guided_shape (theirs U) s M (Forall ∷ qs) p x v e f = absurd f
  guided_shape (theirs U) s M (Exists ∷ qs) p x v e f = (guided_shape U s M qs p (suc x) (suc v) (extend e (value_of p v)) f, tt)
  guided_shape (mine bs) s M [] p x v e f = absurd f
  guided_shape (mine bs) s M (Exists ∷ qs) p x v e f = absurd f
  guided_shape (mine no_more) s M (Forall ∷ qs) p x v e f = absurd f.0
  guided_shape (mine (branch mv U bs)) s M (Forall ∷ qs) p x v e f =
      rest_shape bs s M qs p x (suc v + nodes U) e (with_move s x mv e (guided_from U s M p (suc x) (suc v) (extend e (value_of p v)))) f.1.3
      (guided_shape U s M qs p (suc x) (suc v) (extend e (value_of p v)) f.1.2)

  pub rest_shape : (bs : Branches) (s : Sort) (M : Matrix) (qs : List Quant) (p : Point) (x v : ℕ) (e : Point) (f : Chosen) → EachFollows bs s (flip_all qs) x → HasShape f.tree qs → HasShape (guided_rest bs s M p x v e f).tree qs
  rest_shape no_more s M qs p x v e f g h = h
  rest_shape (branch mv U bs) s M qs p x v e f g h =
      let one = guided_from U s M p (suc x) (suc v) (extend e (value_of p v)) in
      rest_shape bs s M qs p x (suc v + nodes U) e (joined f (with_move s x mv e one)) g.3
      (both_shape one.tree f.tree qs (guided_shape U s M qs p (suc x) (suc v) (extend e (value_of p v)) g.2) h)
