-- Each and some element of a list.
use Rattle.std.specs.Prelude.{ℕ, zero, suc, ◌<◌, ◌≡◌, ◌⊎◌, Some, slice_get, List, [], ◌∷◌, ◌++◌, length}
use Rattle.std.proofs.Common.{arith, ap, sym, subst, refl, inl, inr}
use Rattle.game_tree.specs.Among.{IsAmong, EachIs}

pub each_push : {A : Type 0} → (P : A → Type 0) (xs : List A) (x : A) → EachIs P xs → P x → EachIs P (xs ++ x ∷ [])
each_push {A} P [] x h k = (k, tt)
each_push {A} P (y ∷ xs) x h k = (h.0, each_push P xs x h.1 k)

pub each_last : {A : Type 0} → (P : A → Type 0) (xs : List A) (x : A) → EachIs P (xs ++ x ∷ []) → P x
each_last {A} P [] x h = h.0
each_last {A} P (y ∷ xs) x h = each_last P xs x h.1

some_same : {A : Type 0} → (y x : A) → Some y ≡ Some x → y ≡ x
some_same {A} y x e = cc

pub each_get : {A : Type 0} → (P : A → Type 0) (xs : List A) (i : ℕ) (x : A) → EachIs P xs → slice_get xs i ≡ Some x → P x
each_get {A} P [] i x h e = absurd (cc)
each_get {A} P (y ∷ xs) zero x h e = subst P (some_same y x e) h.0
each_get {A} P (y ∷ xs) (suc i) x h e = each_get P xs i x h.1 e

pub get_below : {A : Type 0} → (xs : List A) (i : ℕ) (x : A) → slice_get xs i ≡ Some x → i < length xs
get_below {A} [] i x e = absurd (cc)
get_below {A} (y ∷ xs) zero x e = omega arith
get_below {A} (y ∷ xs) (suc i) x e = let h = get_below xs i x e in omega arith

-- the list without one element
pub record Without {A : Type 0} (x : A) (xs : List A) : Type 0 where
  pub rest : List A
  pub one : length xs ≡ suc (length rest)
  pub others : (y : A) → IsAmong y xs → (y ≡ x) ⊎ IsAmong y rest

move_over : {A : Type 0} → (y x z : A) (xs : List A) → x ≡ z → (y ≡ z) ⊎ IsAmong y xs → (y ≡ x) ⊎ IsAmong y xs
move_over {A} y x z xs h (inl e) = inl (subst (λ (t : A). y ≡ t) (sym h) e)
move_over {A} y x z xs h (inr e) = inr e

one_before : {A : Type 0} → (y x z : A) (rest : List A) → (y ≡ x) ⊎ IsAmong y rest → (y ≡ x) ⊎ IsAmong y (z ∷ rest)
one_before {A} y x z rest (inl e) = inl e
one_before {A} y x z rest (inr e) = inr (inr e)

kept_before : {A : Type 0} → (y x z : A) (xs rest : List A) → (IsAmong y xs → (y ≡ x) ⊎ IsAmong y rest) → (y ≡ z) ⊎ IsAmong y xs → (y ≡ x) ⊎ IsAmong y (z ∷ rest)
kept_before {A} y x z xs rest k (inl e) = inr (inl e)
kept_before {A} y x z xs rest k (inr e) = one_before y x z rest (k e)

pub taken_out : {A : Type 0} → (x : A) (xs : List A) → IsAmong x xs → Without x xs
taken_out {A} x [] h = absurd h
taken_out {A} x (z ∷ xs) (inl h) = record { rest = xs; one = refl; others = λ y k. move_over y x z xs h k }
taken_out {A} x (z ∷ xs) (inr h) =
    let w = taken_out x xs h in
    record { rest = z ∷ w.rest; one = ap suc w.one; others = λ y k. kept_before y x z xs w.rest (w.others y) k }
