-- Reading one thing after the other, as a loop does.
use Rattle.std.proofs.Common.{◌≡◌, ℕ, zero, suc, ◌-◌, ◌+◌, ◌≤◌, ◌<◌, Bool, true, false, List, [], ◌∷◌, ◌++◌, length, Ok, Err, refl, sym, ap, ◌∙◌, append_assoc, arith}
use Rattle.std.proofs.lemmas.List.{append-nil, length-append}
use Rattle.strat_words.specs.declared.fault.FileFault.{FileFault}
use Rattle.strat_words.specs.declared.fault.FileFault.TheVariants as faults
use Rattle.strat_words.specs.Spot.{Spot, Taken, number_follows, number_behind_space, goes_on, begins_with_space, Fails}
use Rattle.strat_words.specs.Many.{made, many, times, state_behind}

-- what was read before, and what is still read
abbrev pub with_front : {A : Type 0} → List A → Taken (List A) → Taken (List A)
with_front front read = made (λ xs. front ++ xs) read

pub regroup : {A : Type 0} (front : List A) (x : A) (read : Taken (List A)) → with_front front (made (λ xs. x ∷ xs) read) ≡ with_front (front ++ x ∷ []) read
regroup front x (Ok y) = ap (λ xs. Ok (xs, y.1)) (simp append_assoc)
regroup front x (Err p) = refl

some_left_in : (z : List ℕ) → number_behind_space z ≡ true → 0 < length z
some_left_in [] on = absurd cc
some_left_in (c ∷ z) on = omega arith

word_left_in : (z : List ℕ) → begins_with_space z ≡ true → 0 < length z
word_left_in [] on = absurd cc
word_left_in (c ∷ z) on = omega arith

module _ {A K : Type 0} (begins : List ℕ → Bool) (one : K → Spot → Taken A) (after : K → A → K) where
  -- ---- as many as the line has

  pub many_on : (front : List A) (most i : ℕ) (k : K) (s : Spot) (x : A) (s' : Spot) (total : Taken (List A)) → i < most → begins s.rest ≡ true → one k s ≡ Ok (x, s')
      → with_front front (many begins one after (most - i) k s) ≡ total → with_front (front ++ x ∷ []) (many begins one after (most - (i + 1)) (after k x) s') ≡ total
  unfolding many
  many_on front most i k s x s' total some on h so_far =
      let n : most - i ≡ suc (most - (i + 1)) = omega arith in
      let e : with_front front (many begins one after (most - i) k s) ≡ with_front (front ++ x ∷ []) (many begins one after (most - (i + 1)) (after k x) s') = rw (n, on, h) (regroup front x (many begins one after (most - (i + 1)) (after k x) s')) in
      sym e ∙ so_far

  pub many_fails : (e : FileFault) (front : List A) (most i : ℕ) (k : K) (s : Spot) (total : Taken (List A)) → i < most → begins s.rest ≡ true → Fails e (one k s)
      → with_front front (many begins one after (most - i) k s) ≡ total → Fails e total
  unfolding many
  many_fails faults.Memory front most i k s total some on h so_far = tt
  many_fails (faults.Bad l w) front most i k s total some on h so_far =
      let n : most - i ≡ suc (most - (i + 1)) = omega arith in
      let e : with_front front (many begins one after (most - i) k s) ≡ Err (record { line = l; word = w }) = rw (n, on, h) refl in
      sym so_far ∙ e

  pub many_done : (front : List A) (left : ℕ) (k : K) (s : Spot) (total : Taken (List A)) → begins s.rest ≡ false
      → with_front front (many begins one after left k s) ≡ total → total ≡ Ok (front, s)
  unfolding many
  many_done front zero k s total off so_far = sym so_far ∙ ap (λ xs. Ok (xs, s)) (append-nil front)
  many_done front (suc left) k s total off so_far =
      let e : with_front front (many begins one after (suc left) k s) ≡ Ok (front, s) = rw off (ap (λ xs. Ok (xs, s)) (append-nil front)) in
      sym so_far ∙ e

module _ {A K : Type 0} (one : K → Spot → Taken A) (after : K → A → K) where
  -- ---- a number of them

  pub times_on : (front : List A) (count i : ℕ) (k : K) (s : Spot) (x : A) (s' : Spot) (total : Taken (List A)) → i < count → one k s ≡ Ok (x, s')
      → with_front front (times one after (count - i) k s) ≡ total → with_front (front ++ x ∷ []) (times one after (count - (i + 1)) (after k x) s') ≡ total
  unfolding times
  times_on front count i k s x s' total lt h so_far =
      let n : count - i ≡ suc (count - (i + 1)) = omega arith in
      let e : with_front front (times one after (count - i) k s) ≡ with_front (front ++ x ∷ []) (times one after (count - (i + 1)) (after k x) s') = rw (n, h) (regroup front x (times one after (count - (i + 1)) (after k x) s')) in
      sym e ∙ so_far

  pub times_fails : (e : FileFault) (front : List A) (count i : ℕ) (k : K) (s : Spot) (total : Taken (List A)) → i < count → Fails e (one k s)
      → with_front front (times one after (count - i) k s) ≡ total → Fails e total
  unfolding times
  times_fails faults.Memory front count i k s total lt h so_far = tt
  times_fails (faults.Bad l w) front count i k s total lt h so_far =
      let n : count - i ≡ suc (count - (i + 1)) = omega arith in
      let e : with_front front (times one after (count - i) k s) ≡ Err (record { line = l; word = w }) = rw (n, h) refl in
      sym so_far ∙ e

  pub times_done : (front : List A) (count i : ℕ) (k : K) (s : Spot) (total : Taken (List A)) → count ≤ i
      → with_front front (times one after (count - i) k s) ≡ total → total ≡ Ok (front, s)
  unfolding times
  times_done front count i k s total le so_far =
      let n : count - i ≡ 0 = omega arith in
      let e : with_front front (times one after (count - i) k s) ≡ Ok (front, s) = rw n (ap (λ xs. Ok (xs, s)) (append-nil front)) in
      sym so_far ∙ e

pub some_left : (s : Spot) → number_follows s ≡ true → 0 < length s.rest
some_left s on = some_left_in s.rest on

pub word_left : (s : Spot) → goes_on s ≡ true → 0 < length s.rest
word_left s on = word_left_in s.rest on

pub length_more : {A : Type 0} (xs : List A) (x : A) → length (xs ++ x ∷ []) ≡ length xs + 1
length_more xs x = omega (arith, length-append xs (x ∷ []))

pub state_more : {A K : Type 0} (after : K → A → K) (k : K) (xs : List A) (x : A) → state_behind after k (xs ++ x ∷ []) ≡ after (state_behind after k xs) x
state_more after k [] x = refl
state_more after k (y ∷ ys) x = state_more after (after k y) ys x
