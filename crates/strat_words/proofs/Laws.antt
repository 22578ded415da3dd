-- One thing after the other: what is read is spelled so, and what is spelled so is read.
use Rattle.std.proofs.Common.{◌≡◌, ℕ, zero, suc, ◌≤◌, ◌<◌, Bool, true, false, cond, List, [], ◌∷◌, ◌++◌, length, Result, Ok, refl, sym, ap, subst, ◌∙◌, append_assoc, arith, inl, inr, ◌⊎◌}
use Rattle.std.specs.List.{flat_map}
use Rattle.std.proofs.lemmas.List.Concat.{flat_map-cons}
use Rattle.strat_words.specs.Spot.{Spot, Place, Taken, ◌>>=◌, number_behind_space}
use Rattle.strat_words.specs.Many.{made, many, times, Chain}
use Rattle.strat_words.proofs.WordLaws.{bind_ok, done, ok_is, made_ok, Takes, Takes-then, Reads, Parted, bind_again, made_again}

-- no word and no number goes on here
pub record Stops (z : List ℕ) : Type 0 where
  pub parted : Parted z
  pub no_more : number_behind_space z ≡ false

cond_ok : {A : Type 0} (b : Bool) (x : Result A Place) (y z : A) → cond b x (Ok y) ≡ done z → ((b ≡ true) × (x ≡ Ok z)) ⊎ ((b ≡ false) × (y ≡ z))
cond_ok true x y z e = inl (refl, e)
cond_ok false x y z e = inr (refl, ok_is y z e)

module _ {A K : Type 0} (begins : List ℕ → Bool) (one : K → Spot → Taken A) (after : K → A → K) (text : A → List ℕ) (Fit : K → A → Type 0) where
  pub many_takes : ((k : K) (s : Spot) (x : A × Spot) → one k s ≡ Ok x → Takes s (text x.0) x.1 × Fit k x.0)
      → (left : ℕ) (k : K) (s : Spot) (x : List A × Spot) → many begins one after left k s ≡ Ok x → Takes s (flat_map text x.0) x.1 × Chain Fit after k x.0
  unfolding many
  many_takes h zero k s x e = subst (λ (y : List A × Spot). Takes s (flat_map text y.0) y.1 × Chain Fit after k y.0) (ok_is ([], s) x e) (record { parts = refl }, tt)
  many_takes h (suc left) k s x e =
      elim (cond_ok (begins s.rest) (one k s >>= λ y. made (λ ys. y.0 ∷ ys) (many begins one after left (after k y.0) y.1)) ([], s) x e) [
        | inl p ↦
            let a = bind_ok (one k s) _ x p.1 in
            let b = made_ok (λ ys. a.0.0 ∷ ys) (many begins one after left (after k a.0.0) a.0.1) x a.2 in
            let ta = h k s a.0 a.1 in
            let tb = many_takes h left (after k a.0.0) a.0.1 b.0 b.1 in
            let whole = Takes-then s (text a.0.0) a.0.1 (flat_map text b.0.0) b.0.1 ta.0 tb.0 in
            subst (λ (y : List A × Spot). Takes s (flat_map text y.0) y.1 × Chain Fit after k y.0) b.2 (rw flat_map-cons whole, (ta.1, tb.1))
        | inr p ↦ subst (λ (y : List A × Spot). Takes s (flat_map text y.0) y.1 × Chain Fit after k y.0) p.1 (record { parts = refl }, tt)
      ]

  -- where one begins there is one
  pub many_some : (left : ℕ) (k : K) (s : Spot) (x : List A × Spot) → 0 < left → begins s.rest ≡ true → many begins one after left k s ≡ Ok x → 1 ≤ length x.0
  unfolding many
  many_some zero k s x some on e = absurd (omega (arith, some))
  many_some (suc left) k s x some on e =
      elim (cond_ok (begins s.rest) (one k s >>= λ y. made (λ ys. y.0 ∷ ys) (many begins one after left (after k y.0) y.1)) ([], s) x e) [
        | inl p ↦
            let a = bind_ok (one k s) _ x p.1 in
            let b = made_ok (λ ys. a.0.0 ∷ ys) (many begins one after left (after k a.0.0) a.0.1) x a.2 in
            subst (λ (y : List A × Spot). 1 ≤ length y.0) b.2 (omega arith)
        | inr p ↦ absurd (let q : true ≡ false = sym on ∙ p.0 in cc)
      ]

  behind_all : (Behind : List ℕ → Type 0) → ((x : A) (z : List ℕ) → Behind (text x ++ z)) → (xs : List A) (z : List ℕ) → Behind z → Behind (flat_map text xs ++ z)
  behind_all Behind starts [] z p = p
  behind_all Behind starts (x ∷ xs) z p = subst Behind (sym (append_assoc (text x) (flat_map text xs) z) ∙ ap (λ (t : List ℕ). t ++ z) (sym (flat_map-cons text x xs))) (starts x (flat_map text xs ++ z))

  -- what stands behind each of them, another one or the end, is such that the one is read again
  pub many_again : (Behind : List ℕ → Type 0) → ((k : K) (s : Spot) (x : A) (z : List ℕ) → Fit k x → Behind z → s.rest ≡ text x ++ z → Reads (one k s) x z)
      → ((x : A) (z : List ℕ) → Behind (text x ++ z)) → ((k : K) (x : A) (z : List ℕ) → Fit k x → begins (text x ++ z) ≡ true)
      → (left : ℕ) (k : K) (s : Spot) (xs : List A) (z : List ℕ) → Chain Fit after k xs → length xs ≤ left → Behind z → begins z ≡ false → s.rest ≡ flat_map text xs ++ z → Reads (many begins one after left k s) xs z
  unfolding many
  many_again Behind h starts spaces zero k s [] z c le stop off e = record { at = s; is = refl; rest = e }
  many_again Behind h starts spaces zero k s (x ∷ xs) z c le stop off e = absurd (omega (arith, le))
  many_again Behind h starts spaces (suc left) k s [] z c le stop off e =
      let none : begins s.rest ≡ false = ap begins e ∙ off in
      record { at = s; is = rw none refl; rest = e }
  many_again Behind h starts spaces (suc left) k s (x ∷ xs) z c le stop off e =
      let split : s.rest ≡ text x ++ (flat_map text xs ++ z) = e ∙ ap (λ (t : List ℕ). t ++ z) (flat_map-cons text x xs) ∙ append_assoc (text x) (flat_map text xs) z in
      let on : begins s.rest ≡ true = ap begins split ∙ spaces k x (flat_map text xs ++ z) c.0 in
      rw on (bind_again (one k s) _ (x ∷ xs) z (h k s x (flat_map text xs ++ z) c.0 (behind_all Behind starts xs z stop) split)
      (λ s1 e1. made_again (λ ys. x ∷ ys) (many begins one after left (after k x) s1) (many_again Behind h starts spaces left (after k x) s1 xs z c.1 (omega (arith, le)) stop off e1)))

module _ {A K : Type 0} (one : K → Spot → Taken A) (after : K → A → K) (text : K → A → List ℕ) (Fit : K → A → Type 0) where
  -- the texts, one after the other
  abbrev pub in_turn : K → List A → List ℕ
  in_turn k [] = []
  in_turn k (x ∷ xs) = text k x ++ in_turn (after k x) xs

  pub times_takes : ((k : K) (s : Spot) (x : A × Spot) → one k s ≡ Ok x → Takes s (text k x.0) x.1 × Fit k x.0)
      → (n : ℕ) (k : K) (s : Spot) (x : List A × Spot) → times one after n k s ≡ Ok x → Takes s (in_turn k x.0) x.1 × Chain Fit after k x.0 × (length x.0 ≡ n)
  unfolding times
  times_takes h zero k s x e = subst (λ (y : List A × Spot). Takes s (in_turn k y.0) y.1 × Chain Fit after k y.0 × (length y.0 ≡ 0)) (ok_is ([], s) x e) (record { parts = refl }, tt, refl)
  times_takes h (suc n) k s x e =
      let a = bind_ok (one k s) _ x e in
      let b = made_ok (λ ys. a.0.0 ∷ ys) (times one after n (after k a.0.0) a.0.1) x a.2 in
      let ta = h k s a.0 a.1 in
      let tb = times_takes h n (after k a.0.0) a.0.1 b.0 b.1 in
      let whole = Takes-then s (text k a.0.0) a.0.1 (in_turn (after k a.0.0) b.0.0) b.0.1 ta.0 tb.0 in
      subst (λ (y : List A × Spot). Takes s (in_turn k y.0) y.1 × Chain Fit after k y.0 × (length y.0 ≡ suc n)) b.2 (whole, (ta.1, tb.1), ap suc tb.2)

  pub times_again : ((k : K) (s : Spot) (x : A) (z : List ℕ) → Fit k x → s.rest ≡ text k x ++ z → Reads (one k s) x z)
      → (k : K) (s : Spot) (xs : List A) (z : List ℕ) → Chain Fit after k xs → s.rest ≡ in_turn k xs ++ z → Reads (times one after (length xs) k s) xs z
  unfolding times
  times_again h k s [] z c e = record { at = s; is = refl; rest = e }
  times_again h k s (x ∷ xs) z c e =
      bind_again (one k s) _ (x ∷ xs) z (h k s x (in_turn (after k x) xs ++ z) c.0 (e ∙ append_assoc (text k x) (in_turn (after k x) xs) z))
      (λ s1 e1. made_again (λ ys. x ∷ ys) (times one after (length xs) (after k x) s1) (times_again h (after k x) s1 xs z c.1 e1))
