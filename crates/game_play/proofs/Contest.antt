-- Of a skeleton of a problem and one of its dual exactly one beats the other.
use Rattle.std.specs.Prelude.{ℕ, suc, ◌⊎◌, Bool, true, false, Result, Ok, Err, List, [], ◌∷◌, length, Decides, IfOk, IsTrue, ◌↔◌}
use Rattle.std.proofs.Common.{refl, inl, inr}
use Rattle.std.proofs.lemmas.Bool.Decides.{not_from_Decides}
use Rattle.lin_term.specs.declared.Sort.{Sort}
use Rattle.lin_term.specs.declared.Short.{Short}
use Rattle.lin_term.specs.declared.Wide.{Wide}
use Rattle.lin_term.specs.Linear.{Point, Value, IsPoint, origin}
use Rattle.lin_term.specs.Move.{Move}
use Rattle.dom_core.specs.declared.Quant.{Quant}
use Rattle.dom_core.specs.declared.Quant.TheVariants.{Exists, Forall}
use Rattle.dom_core.specs.Game.{Matrix, IsMatrix, Problem, dual, flip_all, neg_matrix}
use Rattle.dom_core.specs.Pick.{played}
use Rattle.dom_core.proofs.Contrary.{neg_matrix_apart, neg_matrix_from}
use Rattle.game_tree.specs.Skeleton.{Skeleton, end, theirs, mine, Branches, no_more, branch, IsMoveAt, Follows}
use Rattle.game_play.specs.Beats.{SomeBranch, EachBranch, Wins, Beats}
use Rattle.game_play.specs.Play.{with_move, play}
use Rattle.game_play.proofs.Standing.{EachStands}
use Rattle.game_play.proofs.Meaning.{EachAt, each_at, played_point, played_stand, play_decides, origin_point}

-- ---- the branches of a node

not_some_and_each : (bs : Branches) (s : Sort) (k : ℕ) (A : Skeleton → Type 0) (F G : Move → Skeleton → Type 0) → ((m : Move) (t : Skeleton) → IsMoveAt s k m → A t → F m t → G m t → ⊥) → EachAt bs s k A → SomeBranch bs F → EachBranch bs G → ⊥
not_some_and_each no_more s k A F G n a f g = f
not_some_and_each (branch m t bs) s k A F G n a (inl f) g = n m t a.0.0 a.0.1 f g.0
not_some_and_each (branch m t bs) s k A F G n a (inr f) g = not_some_and_each bs s k A F G n a.1 f g.1

each_where_none : (bs : Branches) (s : Sort) (k : ℕ) (A : Skeleton → Type 0) (F G : Move → Skeleton → Type 0) → ((m : Move) (t : Skeleton) → IsMoveAt s k m → A t → ¬ F m t → G m t) → EachAt bs s k A → ¬ SomeBranch bs F → EachBranch bs G
each_where_none no_more s k A F G n a h = tt
each_where_none (branch m t bs) s k A F G n a h = (n m t a.0.0 a.0.1 (λ f. h (inl f)), each_where_none bs s k A F G n a.1 (λ f. h (inr f)))

some_where_not_each : (bs : Branches) (s : Sort) (k : ℕ) (A : Skeleton → Type 0) (F G : Move → Skeleton → Type 0) → ((m : Move) (t : Skeleton) → IsMoveAt s k m → A t → F m t ⊎ (¬ F m t)) → ((m : Move) (t : Skeleton) → IsMoveAt s k m → A t → ¬ F m t → G m t) → EachAt bs s k A → ¬ EachBranch bs F → SomeBranch bs G
some_where_not_each no_more s k A F G d n a h = absurd (h tt)
some_where_not_each (branch m t bs) s k A F G d n a h =
    elim (d m t a.0.0 a.0.1) [
      | inl f ↦ inr (some_where_not_each bs s k A F G d n a.1 (λ e. h (f, e)))
      | inr f ↦ inl (n m t a.0.0 a.0.1 f)
    ]

-- ---- the play

decided : {P : Type 0} (b : Bool) → Decides b P → P ⊎ (¬ P)
decided true d = inl (d.0 refl)
decided false d = inr (not_from_Decides false d refl)

not_both : (qs : List Quant) (s : Sort) (m : Matrix) (n k : ℕ) (S U : Skeleton) (p : Point) → IsMatrix m s n → IsPoint s p → Follows S s qs k → Follows U s (flip_all qs) k → Wins qs s m S U p → Wins (flip_all qs) s (neg_matrix m s) U S p → ⊥
not_both [] s m n k S U p i o f g h j = neg_matrix_apart m s n p i o j h
not_both (Exists ∷ qs) s m n k end U p i o f g h j = absurd f
not_both (Exists ∷ qs) s m n k (theirs S) U p i o f g h j = absurd f
not_both (Exists ∷ qs) s m n k (mine bs) end p i o f g h j = absurd g
not_both (Exists ∷ qs) s m n k (mine bs) (mine cs) p i o f g h j = absurd g
not_both (Exists ∷ qs) s m n k (mine bs) (theirs U) p i o f g h j =
    not_some_and_each bs s k (λ t. Follows t s qs (suc k)) (λ mv S. Wins qs s m S U (played s mv p)) (λ mv S. Wins (flip_all qs) s (neg_matrix m s) U S (played s mv p))
    (λ mv S a b x y. not_both qs s m n (suc k) S U (played s mv p) i (played_point s mv k p a o) b g x y)
    (each_at bs s qs k f.1) h j
not_both (Forall ∷ qs) s m n k end U p i o f g h j = absurd f
not_both (Forall ∷ qs) s m n k (mine bs) U p i o f g h j = absurd f
not_both (Forall ∷ qs) s m n k (theirs S) end p i o f g h j = absurd g
not_both (Forall ∷ qs) s m n k (theirs S) (theirs U) p i o f g h j = absurd g
not_both (Forall ∷ qs) s m n k (theirs S) (mine cs) p i o f g h j =
    not_some_and_each cs s k (λ t. Follows t s (flip_all qs) (suc k)) (λ mv U. Wins (flip_all qs) s (neg_matrix m s) U S (played s mv p)) (λ mv U. Wins qs s m S U (played s mv p))
    (λ mv U a b x y. not_both qs s m n (suc k) S U (played s mv p) i (played_point s mv k p a o) f b y x)
    (each_at cs s (flip_all qs) k g.1) j h

one_wins : (qs : List Quant) (s : Sort) (m : Matrix) (n k : ℕ) (S U : Skeleton) (p : Point) (vs : List Value) → IsMatrix m s n → IsPoint s p → EachStands p.den p.nums vs → Follows S s qs k → Follows U s (flip_all qs) k → ¬ Wins qs s m S U p → Wins (flip_all qs) s (neg_matrix m s) U S p
one_wins [] s m n k S U p vs i o e f g h = neg_matrix_from m s n p i o h
one_wins (Exists ∷ qs) s m n k end U p vs i o e f g h = absurd f
one_wins (Exists ∷ qs) s m n k (theirs S) U p vs i o e f g h = absurd f
one_wins (Exists ∷ qs) s m n k (mine bs) end p vs i o e f g h = absurd g
one_wins (Exists ∷ qs) s m n k (mine bs) (mine cs) p vs i o e f g h = absurd g
one_wins (Exists ∷ qs) s m n k (mine bs) (theirs U) p vs i o e f g h =
    each_where_none bs s k (λ t. Follows t s qs (suc k)) (λ mv S. Wins qs s m S U (played s mv p)) (λ mv S. Wins (flip_all qs) s (neg_matrix m s) U S (played s mv p))
    (λ mv S a b x. one_wins qs s m n (suc k) S U (played s mv p) (with_move s mv vs) i (played_point s mv k p a o) (played_stand s mv k p vs a o e) b g x)
    (each_at bs s qs k f.1) h
one_wins (Forall ∷ qs) s m n k end U p vs i o e f g h = absurd f
one_wins (Forall ∷ qs) s m n k (mine bs) U p vs i o e f g h = absurd f
one_wins (Forall ∷ qs) s m n k (theirs S) end p vs i o e f g h = absurd g
one_wins (Forall ∷ qs) s m n k (theirs S) (theirs U) p vs i o e f g h = absurd g
one_wins (Forall ∷ qs) s m n k (theirs S) (mine cs) p vs i o e f g h =
    some_where_not_each cs s k (λ t. Follows t s (flip_all qs) (suc k)) (λ mv U. Wins qs s m S U (played s mv p)) (λ mv U. Wins (flip_all qs) s (neg_matrix m s) U S (played s mv p))
    (λ mv U a b. decided (play qs s m S U (with_move s mv vs)).wins (play_decides qs s m S U (suc k) (played s mv p) (with_move s mv vs) (played_point s mv k p a o) (played_stand s mv k p vs a o e) f b))
    (λ mv U a b x. one_wins qs s m n (suc k) S U (played s mv p) (with_move s mv vs) i (played_point s mv k p a o) (played_stand s mv k p vs a o e) f b x)
    (each_at cs s (flip_all qs) k g.1) h

pub cannot_both : (s : Sort) (P : Problem) (S U : Skeleton) → IsMatrix P.matrix s (length P.prefix) → Follows S s P.prefix 0 → Follows U s (flip_all P.prefix) 0 → Beats s P S U → ¬ Beats s (dual s P) U S
cannot_both s P S U i f g h j = not_both P.prefix s P.matrix (length P.prefix) 0 S U origin i (origin_point s) f g h j

pub one_beats : (s : Sort) (P : Problem) (S U : Skeleton) → IsMatrix P.matrix s (length P.prefix) → Follows S s P.prefix 0 → Follows U s (flip_all P.prefix) 0 → ¬ Beats s P S U → Beats s (dual s P) U S
one_beats s P S U i f g h = one_wins P.prefix s P.matrix (length P.prefix) 0 S U origin [] i (origin_point s) tt f g h

-- what an answer says of the dual
dual_decides : (s : Sort) (P : Problem) (S U : Skeleton) (b : Bool) → IsMatrix P.matrix s (length P.prefix) → Follows S s P.prefix 0 → Follows U s (flip_all P.prefix) 0 → Decides b (Beats s P S U) → Decides b (¬ Beats s (dual s P) U S)
dual_decides s P S U true i f g d = (λ e. cannot_both s P S U i f g (d.0 refl), λ n. refl)
dual_decides s P S U false i f g d = (λ e. absurd (cc), λ n. absurd (n (one_beats s P S U i f g (not_from_Decides false d refl))))

pub answer_dual : (s : Sort) (P : Problem) (S U : Skeleton) (r : Result Bool (Short Wide)) → IsMatrix P.matrix s (length P.prefix) → Follows S s P.prefix 0 → Follows U s (flip_all P.prefix) 0 → IfOk r (λ b. IsTrue b ↔ Beats s P S U) → IfOk r (λ b. IsTrue b ↔ (¬ Beats s (dual s P) U S))
answer_dual s P S U (Ok b) i f g h = dual_decides s P S U b i f g h
answer_dual s P S U (Err e) i f g h = tt
