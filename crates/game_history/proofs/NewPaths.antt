-- Where a skeleton has not every path of another, that one has a new path.
use Rattle.std.specs.Prelude.{◌≡◌, ◌⊎◌, Bool, true, false, Option, Some, None, List, [], ◌∷◌, Decides}
use Rattle.std.proofs.Common.{ap, ap₂, sym, subst, refl, inl, inr}
use Rattle.std.proofs.lemmas.Bool.Decides.{not_from_Decides}
use Rattle.lin_term.specs.Move.{Move}
use Rattle.lin_term.specs.Same.{same_move}
use Rattle.lin_term.proofs.Comparing.{move_decides}
use Rattle.game_tree.specs.Skeleton.{Skeleton, paths}
use Rattle.game_tree.specs.Among.{IsAmong}
use Rattle.game_tree.specs.Union.{In}
use Rattle.game_history.specs.Legal.{HasNewPath}

abbrev Path : Type 0
Path = List (Option Move)

by_test : {P : Type 0} (b : Bool) → Decides b P → P ⊎ (¬ P)
by_test true d = inl (d.0 refl)
by_test false d = inr (not_from_Decides false d refl)

some_inner : (m n : Move) → Some m ≡ Some n → m ≡ n
some_inner m n e = cc

same_step : (x y : Option Move) → (x ≡ y) ⊎ (¬ (x ≡ y))
same_step None None = inl refl
same_step None (Some n) = inr (λ e. absurd (cc))
same_step (Some m) None = inr (λ e. absurd (cc))
same_step (Some m) (Some n) =
    elim (by_test (same_move m n) (move_decides m n)) [
      | inl e ↦ inl (ap (λ (k : Move). Some k) e)
      | inr h ↦ inr (λ e. h (some_inner m n e))
    ]

head_is : (x y : Option Move) (p q : Path) → x ∷ p ≡ y ∷ q → x ≡ y
head_is x y p q e = cc

tail_is : (x y : Option Move) (p q : Path) → x ∷ p ≡ y ∷ q → p ≡ q
tail_is x y p q e = cc

same_path : (p q : Path) → (p ≡ q) ⊎ (¬ (p ≡ q))
same_path [] [] = inl refl
same_path [] (y ∷ q) = inr (λ e. absurd (cc))
same_path (x ∷ p) [] = inr (λ e. absurd (cc))
same_path (x ∷ p) (y ∷ q) = by (same_step x y) (same_path p q)
  where
    by : (x ≡ y) ⊎ (¬ (x ≡ y)) → (p ≡ q) ⊎ (¬ (p ≡ q)) → (x ∷ p ≡ y ∷ q) ⊎ (¬ (x ∷ p ≡ y ∷ q))
    by (inl e) (inl f) = inl (ap₂ (λ (a : Option Move) (r : Path). a ∷ r) e f)
    by (inl e) (inr h) = inr (λ g. h (tail_is x y p q g))
    by (inr h) f = inr (λ g. h (head_is x y p q g))

neither : (p q : Path) (ps : List Path) → ¬ (p ≡ q) → ¬ IsAmong p ps → (p ≡ q) ⊎ IsAmong p ps → ⊥
neither p q ps a b (inl e) = a e
neither p q ps a b (inr i) = b i

path_among : (p : Path) (ps : List Path) → IsAmong p ps ⊎ (¬ IsAmong p ps)
path_among p [] = inr (λ h. h)
path_among p (q ∷ ps) = by (same_path p q) (path_among p ps)
  where
    by : (p ≡ q) ⊎ (¬ (p ≡ q)) → IsAmong p ps ⊎ (¬ IsAmong p ps) → IsAmong p (q ∷ ps) ⊎ (¬ IsAmong p (q ∷ ps))
    by (inl e) h = inl (inl e)
    by (inr a) (inl i) = inl (inr i)
    by (inr a) (inr b) = inr (λ h. neither p q ps a b h)

-- one of the first paths that is not among the second
record IsExtra (ps qs : List Path) : Type 0 where
  path : Path
  own : IsAmong path ps
  new : ¬ IsAmong path qs

abbrev AreIn : List Path → List Path → Type 0
AreIn ps qs = (p : Path) → IsAmong p ps → IsAmong p qs

first_in : (p : Path) (ps qs : List Path) → IsAmong p qs → AreIn ps qs → AreIn (p ∷ ps) qs
first_in p ps qs i a r (inl e) = subst (λ (x : Path). IsAmong x qs) (sym e) i
first_in p ps qs i a r (inr h) = a r h

extra_or_in : (ps qs : List Path) → AreIn ps qs ⊎ IsExtra ps qs
extra_or_in [] qs = inl (λ p h. absurd h)
extra_or_in (p ∷ ps) qs = by (path_among p qs) (extra_or_in ps qs)
  where
    by : IsAmong p qs ⊎ (¬ IsAmong p qs) → AreIn ps qs ⊎ IsExtra ps qs → AreIn (p ∷ ps) qs ⊎ IsExtra (p ∷ ps) qs
    by (inr n) h = inr (record { path = p; own = inl refl; new = n })
    by (inl i) (inl a) = inl (first_in p ps qs i a)
    by (inl i) (inr e) = inr (record { path = e.path; own = inr e.own; new = e.new })

pub new_path : (C S : Skeleton) → ¬ In C S → HasNewPath C S
new_path C S n =
    elim (extra_or_in (paths C) (paths S)) [
      | inl a ↦ absurd (n a)
      | inr e ↦ record { path = e.path; own = e.own; new = e.new }
    ]
