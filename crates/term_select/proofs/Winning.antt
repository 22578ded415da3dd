-- A win stays a win with more paths.
use Rattle.std.specs.Prelude.{◌≡◌, Bool, true, false, if◌then◌else◌, List, [], ◌∷◌}
use Rattle.std.proofs.Common.{sym, subst, refl, inl, inr}
use Rattle.lin_term.specs.declared.Sort.{Sort}
use Rattle.lin_term.specs.Linear.{Point}
use Rattle.lin_term.specs.Move.{Move}
use Rattle.dom_core.specs.declared.Quant.{Quant}
use Rattle.dom_core.specs.declared.Quant.TheVariants.{Exists, Forall}
use Rattle.dom_core.specs.Game.{Matrix}
use Rattle.game_tree.specs.Skeleton.{Skeleton, end, theirs, mine, Branches, no_more, branch}
use Rattle.lin_term.specs.Same.{same_move}
use Rattle.game_tree.specs.Union.{put_branch, with_paths, with_branches}
use Rattle.lin_term.proofs.Comparing.{move_decides}
use Rattle.dom_core.specs.Pick.{played}
use Rattle.game_play.specs.Beats.{SomeBranch, EachBranch, Wins}
use Rattle.term_select.proofs.Shapes.{HasShape, EachShape, put_shape, both_shape}

pub each_weaker : (bs : Branches) (F G : Move → Skeleton → Type 0) → ((m : Move) (S : Skeleton) → F m S → G m S) → EachBranch bs F → EachBranch bs G
each_weaker no_more F G k h = tt
each_weaker (branch m S bs) F G k h = (k m S h.0, each_weaker bs F G k h.1)

-- what a branch keeps where f keeps it
put_keeps : (m : Move) (f : Skeleton → Skeleton) (T : Skeleton) (bs : Branches) (F : Move → Skeleton → Type 0) → ((n : Move) (S : Skeleton) → F n S → F n (f S)) → SomeBranch bs F → SomeBranch (put_branch m f T bs) F
put_keeps m f T no_more F k h = absurd h
put_keeps m f T (branch n S bs) F k h = by (same_move n m) h (λ i. put_keeps m f T bs F k i)
  where
    by : (b : Bool) → SomeBranch (branch n S bs) F → (SomeBranch bs F → SomeBranch (put_branch m f T bs) F) → SomeBranch (if b then branch n (f S) bs else branch n S (put_branch m f T bs)) F
    by true (inl h) g = inl (k n S h)
    by true (inr h) g = inr h
    by false (inl h) g = inl h
    by false (inr h) g = inr (g h)

-- the branch that is put in
put_adds : (m : Move) (f : Skeleton → Skeleton) (T : Skeleton) (bs : Branches) (qs : List Quant) (F : Move → Skeleton → Type 0) → ((S : Skeleton) → HasShape S qs → F m (f S)) → F m T → EachShape bs qs → SomeBranch (put_branch m f T bs) F
put_adds m f T no_more qs F w h a = inl h
put_adds m f T (branch n S bs) qs F w h a = by (same_move n m) refl (put_adds m f T bs qs F w h a.1)
  where
    by : (b : Bool) → same_move n m ≡ b → SomeBranch (put_branch m f T bs) F → SomeBranch (if b then branch n (f S) bs else branch n S (put_branch m f T bs)) F
    by true e g = inl (subst (λ (x : Move). F x (f S)) (sym ((move_decides n m).0 e)) (w S a.0))
    by false e g = inr g

-- ---- S wins with the paths of T too

mutual
  pub own_wins : (T : Skeleton) (qs : List Quant) (s : Sort) (m : Matrix) (S U : Skeleton) (p : Point) → Wins qs s m S U p → Wins qs s m (with_paths T S) U p
  own_wins end qs s m S U p h = h
  own_wins (theirs T) [] s m S U p h = h
  own_wins (theirs T) (Exists ∷ qs) s m end U p h = absurd h
  own_wins (theirs T) (Exists ∷ qs) s m (theirs S) U p h = absurd h
  own_wins (theirs T) (Exists ∷ qs) s m (mine bs) U p h = h
  own_wins (theirs T) (Forall ∷ qs) s m end U p h = absurd h
  own_wins (theirs T) (Forall ∷ qs) s m (mine bs) U p h = absurd h
  own_wins (theirs T) (Forall ∷ qs) s m (theirs S) end p h = absurd h
  own_wins (theirs T) (Forall ∷ qs) s m (theirs S) (theirs U) p h = absurd h
  own_wins (theirs T) (Forall ∷ qs) s m (theirs S) (mine cs) p h =
      each_weaker cs (λ mv U. Wins qs s m S U (played s mv p)) (λ mv U. Wins qs s m (with_paths T S) U (played s mv p)) (λ mv U k. own_wins T qs s m S U (played s mv p) k) h
  own_wins (mine cs) [] s m S U p h = h
  own_wins (mine cs) (Exists ∷ qs) s m end U p h = absurd h
  own_wins (mine cs) (Exists ∷ qs) s m (theirs S) U p h = absurd h
  own_wins (mine cs) (Exists ∷ qs) s m (mine bs) end p h = absurd h
  own_wins (mine cs) (Exists ∷ qs) s m (mine bs) (mine ds) p h = absurd h
  own_wins (mine cs) (Exists ∷ qs) s m (mine bs) (theirs U) p h = own_branches cs qs s m bs U p h
  own_wins (mine cs) (Forall ∷ qs) s m end U p h = absurd h
  own_wins (mine cs) (Forall ∷ qs) s m (mine bs) U p h = absurd h
  own_wins (mine cs) (Forall ∷ qs) s m (theirs S) U p h = h

  pub own_branches : (cs : Branches) (qs : List Quant) (s : Sort) (m : Matrix) (bs : Branches) (U : Skeleton) (p : Point) → SomeBranch bs (λ mv S. Wins qs s m S U (played s mv p)) → SomeBranch (with_branches cs bs) (λ mv S. Wins qs s m S U (played s mv p))
  own_branches no_more qs s m bs U p h = h
  own_branches (branch mv T cs) qs s m bs U p h =
      own_branches cs qs s m (put_branch mv (λ S. with_paths T S) T bs) U p
      (put_keeps mv (λ S. with_paths T S) T bs (λ n S. Wins qs s m S U (played s n p)) (λ n S k. own_wins T qs s m S U (played s n p) k) h)

-- ---- T wins with the paths of S too

mutual
  pub other_wins : (T : Skeleton) (qs : List Quant) (s : Sort) (m : Matrix) (S U : Skeleton) (p : Point) → HasShape T qs → HasShape S qs → Wins qs s m T U p → Wins qs s m (with_paths T S) U p
  other_wins end [] s m S U p t f h = h
  other_wins end (q ∷ qs) s m S U p t f h = absurd t
  other_wins (theirs T) [] s m S U p t f h = absurd t
  other_wins (theirs T) (Exists ∷ qs) s m S U p t f h = absurd t
  other_wins (theirs T) (Forall ∷ qs) s m end U p t f h = absurd f
  other_wins (theirs T) (Forall ∷ qs) s m (mine bs) U p t f h = absurd f
  other_wins (theirs T) (Forall ∷ qs) s m (theirs S) end p t f h = absurd h
  other_wins (theirs T) (Forall ∷ qs) s m (theirs S) (theirs U) p t f h = absurd h
  other_wins (theirs T) (Forall ∷ qs) s m (theirs S) (mine cs) p t f h =
      each_weaker cs (λ mv U. Wins qs s m T U (played s mv p)) (λ mv U. Wins qs s m (with_paths T S) U (played s mv p)) (λ mv U w. other_wins T qs s m S U (played s mv p) t f w) h
  other_wins (mine cs) [] s m S U p t f h = absurd t
  other_wins (mine cs) (Forall ∷ qs) s m S U p t f h = absurd t
  other_wins (mine cs) (Exists ∷ qs) s m end U p t f h = absurd f
  other_wins (mine cs) (Exists ∷ qs) s m (theirs S) U p t f h = absurd f
  other_wins (mine cs) (Exists ∷ qs) s m (mine bs) end p t f h = absurd h
  other_wins (mine cs) (Exists ∷ qs) s m (mine bs) (mine ds) p t f h = absurd h
  other_wins (mine cs) (Exists ∷ qs) s m (mine bs) (theirs U) p t f h = other_branches cs qs s m bs U p t f h

  pub other_branches : (cs : Branches) (qs : List Quant) (s : Sort) (m : Matrix) (bs : Branches) (U : Skeleton) (p : Point) → EachShape cs qs → EachShape bs qs → SomeBranch cs (λ mv S. Wins qs s m S U (played s mv p)) → SomeBranch (with_branches cs bs) (λ mv S. Wins qs s m S U (played s mv p))
  other_branches no_more qs s m bs U p t f h = absurd h
  other_branches (branch mv T cs) qs s m bs U p t f (inl h) =
      own_branches cs qs s m (put_branch mv (λ S. with_paths T S) T bs) U p
      (put_adds mv (λ S. with_paths T S) T bs qs (λ n S. Wins qs s m S U (played s n p)) (λ S g. other_wins T qs s m S U (played s mv p) t.0 g h) h f)
  other_branches (branch mv T cs) qs s m bs U p t f (inr h) =
      other_branches cs qs s m (put_branch mv (λ S. with_paths T S) T bs) U p t.1
      (put_shape mv (λ S. with_paths T S) T bs qs (λ S g. both_shape T S qs t.0 g) t.0 f) h
