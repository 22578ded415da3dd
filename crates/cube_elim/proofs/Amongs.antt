-- What a list has.
use Rattle.std.specs.Prelude.{ℕ, zero, suc, ◌<◌, ◌≡◌, ℤ, Bool, true, false, cond, Some, None, List, [], ◌∷◌, ◌++◌, length, get_or, map}
use Rattle.std.specs.List.{flat_map}
use Rattle.std.proofs.Common.{arith, ap, ◌∙◌, sym, subst, refl, inl, inr}
use Rattle.lin_term.specs.Wide.{fits, first_past}
use Rattle.cube_elim.specs.Among.{IsAmong}
use Rattle.cube_elim.specs.Determined.{IsPast}

pub among_left : {A : Type 0} (xs ys : List A) (w : A) → IsAmong w xs → IsAmong w (xs ++ ys)
among_left [] ys w h = absurd h
among_left (x ∷ xs) ys w (inl h) = inl h
among_left (x ∷ xs) ys w (inr h) = inr (among_left xs ys w h)

pub among_right : {A : Type 0} (xs ys : List A) (w : A) → IsAmong w ys → IsAmong w (xs ++ ys)
among_right [] ys w h = h
among_right (x ∷ xs) ys w h = inr (among_right xs ys w h)

pub among_each : {A B : Type 0} (f : A → List B) (cs : List A) (i : ℕ) (d : A) (w : B) → i < length cs → IsAmong w (f (get_or cs i d)) → IsAmong w (flat_map f cs)
among_each f [] i d w h a = absurd (omega arith)
among_each f (c ∷ cs) zero d w h a = among_left (f c) (flat_map f cs) w a
among_each f (c ∷ cs) (suc i) d w h a = among_right (f c) (flat_map f cs) w (among_each f cs i d w (omega arith) a)

pub among_flat : {A B : Type 0} (f : A → List B) (cs : List A) (c : A) (w : B) → IsAmong c cs → IsAmong w (f c) → IsAmong w (flat_map f cs)
among_flat f [] c w h a = absurd h
among_flat f (b ∷ cs) c w (inl h) a = among_left (f b) (flat_map f cs) w (subst (λ d. IsAmong w (f d)) h a)
among_flat f (b ∷ cs) c w (inr h) a = among_right (f b) (flat_map f cs) w (among_flat f cs c w h a)

pub among_map : {A B : Type 0} (f : A → B) (cs : List A) (c : A) → IsAmong c cs → IsAmong (f c) (map f cs)
among_map f [] c h = absurd h
among_map f (b ∷ cs) c (inl h) = inl (ap f h)
among_map f (b ∷ cs) c (inr h) = inr (among_map f cs c h)

-- ---- the first number past the cap

past_is : (z : ℤ) (b : Bool) (zs : List ℤ) (w : ℤ) → fits z ≡ b → cond b (first_past zs) (Some z) ≡ Some w → (first_past zs ≡ Some w → IsAmong w zs × IsPast w) → IsAmong w (z ∷ zs) × IsPast w
past_is z true zs w e h k = let r = k h in (inr r.0, r.1)
past_is z false zs w e h k =
    let q : z ≡ w = some_is z w h in
    (inl (sym q), subst (λ (y : ℤ). IsPast y) q (ap (λ (b : Bool). cond b (first_past []) (Some z)) e))
  where
    some_is : (a b : ℤ) → Some a ≡ Some b → a ≡ b
    some_is a b e = cc

pub past_among : (zs : List ℤ) (w : ℤ) → first_past zs ≡ Some w → IsAmong w zs × IsPast w
past_among [] w h = absurd (cc)
past_among (z ∷ zs) w h = past_is z (fits z) zs w refl h (λ k. past_among zs w k)
