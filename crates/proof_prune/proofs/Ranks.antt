-- New numbers of facts, where some of them do not stay.
use Rattle.std.specs.Prelude.{ℕ, zero, suc, ◌+◌, ◌-◌, ◌≤◌, ◌<◌, ◌≡◌, min, Bool, true, false, Some, slice_get, List, [], ◌∷◌, ◌++◌, length, take, replicate, slice_index_or}
use Rattle.std.proofs.Common.{arith, ap, ◌∙◌, sym, refl, append-nil}
use Rattle.proof_prune.specs.Writing.{new_number, last_number, fitted, grown}
use Rattle.proof_prune.proofs.Kept.{ranks_from, ranks}

-- ---- which facts stay

abbrev pub stays : List Bool → ℕ → Bool
stays us k = slice_index_or us k false

-- how many before this one stay
abbrev pub rank : List Bool → ℕ → ℕ
rank [] k = 0
rank (u ∷ us) zero = 0
rank (true ∷ us) (suc k) = suc (rank us k)
rank (false ∷ us) (suc k) = rank us k

abbrev pub staying : List Bool → ℕ
staying [] = 0
staying (true ∷ us) = suc (staying us)
staying (false ∷ us) = staying us

abbrev pub thinned : {X : Type 0} → List Bool → List X → List X
thinned us [] = []
thinned [] (x ∷ xs) = []
thinned (true ∷ us) (x ∷ xs) = x ∷ thinned us xs
thinned (false ∷ us) (x ∷ xs) = thinned us xs

pub rank_below : (us : List Bool) (k : ℕ) → rank us k ≤ k
rank_below [] k = omega arith
rank_below (u ∷ us) zero = omega arith
rank_below (true ∷ us) (suc k) = let h = rank_below us k in omega (arith, h)
rank_below (false ∷ us) (suc k) = let h = rank_below us k in omega (arith, h)

pub staying_below : (us : List Bool) → staying us ≤ length us
staying_below [] = omega arith
staying_below (true ∷ us) = let h = staying_below us in omega (arith, h)
staying_below (false ∷ us) = let h = staying_below us in omega (arith, h)

pub rank_length : (us : List Bool) → rank us (length us) ≡ staying us
rank_length [] = refl
rank_length (true ∷ us) = ap suc (rank_length us)
rank_length (false ∷ us) = rank_length us

pub rank_front : (us vs : List Bool) (k : ℕ) → k ≤ length us → rank (us ++ vs) k ≡ rank us k
rank_front [] [] zero h = refl
rank_front [] (v ∷ vs) zero h = refl
rank_front [] vs (suc k) h = absurd (omega (arith, h))
rank_front (true ∷ us) vs zero h = refl
rank_front (false ∷ us) vs zero h = refl
rank_front (true ∷ us) vs (suc k) h = ap suc (rank_front us vs k (omega (arith, h)))
rank_front (false ∷ us) vs (suc k) h = rank_front us vs k (omega (arith, h))

pub staying_more : (us : List Bool) (a : ℕ) → staying (us ++ replicate a true) ≡ staying us + a
staying_more [] zero = refl
staying_more [] (suc a) = ap suc (staying_more [] a) ∙ (let o : suc (0 + a) ≡ 0 + suc a = omega arith in o)
staying_more (true ∷ us) a = ap suc (staying_more us a) ∙ (let o : suc (staying us + a) ≡ suc (staying us) + a = omega arith in o)
staying_more (false ∷ us) a = staying_more us a

pub staying_same : (us : List Bool) (a : ℕ) → staying (us ++ replicate a false) ≡ staying us
staying_same [] zero = refl
staying_same [] (suc a) = staying_same [] a
staying_same (true ∷ us) a = ap suc (staying_same us a)
staying_same (false ∷ us) a = staying_same us a

pub marks_length : (us : List Bool) (a : ℕ) (b : Bool) → length (us ++ replicate a b) ≡ length us + a
marks_length [] zero b = refl
marks_length [] (suc a) b = ap suc (marks_length [] a b) ∙ (let o : suc (0 + a) ≡ 0 + suc a = omega arith in o)
marks_length (u ∷ us) a b = ap suc (marks_length us a b) ∙ (let o : suc (length us + a) ≡ suc (length us) + a = omega arith in o)

pub stays_front : (us vs : List Bool) (k : ℕ) → k < length us → stays (us ++ vs) k ≡ stays us k
stays_front [] vs k h = absurd (omega (arith, h))
stays_front (u ∷ us) vs zero h = refl
stays_front (u ∷ us) vs (suc k) h = stays_front us vs k (omega (arith, h))

pub stays_behind : (us : List Bool) (a k : ℕ) → length us ≤ k → k < length us + a → stays (us ++ replicate a true) k ≡ true
stays_behind [] zero k l h = absurd (omega (arith, h))
stays_behind [] (suc a) zero l h = refl
stays_behind [] (suc a) (suc k) l h = stays_behind [] a k (omega arith) (omega (arith, h))
stays_behind (u ∷ us) a zero l h = absurd (omega (arith, l))
stays_behind (u ∷ us) a (suc k) l h = stays_behind us a k (omega (arith, l)) (omega (arith, h))

-- ---- the list of numbers

ranks_at : (r : ℕ) (us : List Bool) (k : ℕ) → k ≤ length us → slice_index_or (ranks_from r us) k 0 ≡ r + rank us k
ranks_at r [] zero h = omega arith
ranks_at r [] (suc k) h = absurd (omega (arith, h))
ranks_at r (true ∷ us) zero h = omega arith
ranks_at r (false ∷ us) zero h = omega arith
ranks_at r (true ∷ us) (suc k) h = ranks_at (suc r) us k (omega (arith, h)) ∙ (let o : suc r + rank us k ≡ r + suc (rank us k) = omega arith in o)
ranks_at r (false ∷ us) (suc k) h = ranks_at r us k (omega (arith, h))

pub new_is : (us : List Bool) (k : ℕ) → k ≤ length us → new_number (ranks us) k ≡ rank us k
new_is us k h =
    let e = ranks_at 0 us k h in
    let b = rank_below us k in
    ap (λ (n : ℕ). min n k) e ∙ (let o : min (0 + rank us k) k ≡ rank us k = omega (arith, b) in o)

ranks_length : (r : ℕ) (us : List Bool) → length (ranks_from r us) ≡ suc (length us)
ranks_length r [] = refl
ranks_length r (true ∷ us) = ap suc (ranks_length (suc r) us)
ranks_length r (false ∷ us) = ap suc (ranks_length r us)

ranks_last : (us : List Bool) → last_number (ranks us) ≡ staying us
ranks_last us =
    let l = ranks_length 0 us in
    let o : length (ranks us) - 1 ≡ length us = omega (arith, l) in
    ap (λ (n : ℕ). slice_index_or (ranks us) n 0) o ∙ ranks_at 0 us (length us) (omega arith) ∙ (let z : 0 + rank us (length us) ≡ rank us (length us) = omega arith in z) ∙ rank_length us

ranks_push : (r : ℕ) (us : List Bool) → ranks_from r us ++ (r + staying us + 1) ∷ [] ≡ ranks_from r (us ++ true ∷ [])
ranks_push r [] = ap (λ (n : ℕ). r ∷ n ∷ []) (let o : r + 0 + 1 ≡ suc r = omega arith in o)
ranks_push r (true ∷ us) = ap (λ (xs : List ℕ). r ∷ xs) (ap (λ (n : ℕ). ranks_from (suc r) us ++ n ∷ []) (let o : r + suc (staying us) + 1 ≡ suc r + staying us + 1 = omega arith in o) ∙ ranks_push (suc r) us)
ranks_push r (false ∷ us) = ap (λ (xs : List ℕ). r ∷ xs) (ranks_push r us)

pub one_push : (us : List Bool) (a : ℕ) (b : Bool) → (us ++ b ∷ []) ++ replicate a b ≡ us ++ replicate (suc a) b
one_push [] a b = refl
one_push (u ∷ us) a b = ap (λ (vs : List Bool). u ∷ vs) (one_push us a b)

-- facts that stay are added
pub grown_is : (us : List Bool) (a : ℕ) → grown a (ranks us) ≡ ranks (us ++ replicate a true)
grown_is us zero = ap ranks (sym (append-nil us))
grown_is us (suc a) =
    let l = ranks_length 0 us in
    let b = staying_below us in
    let o : min (staying us) (length (ranks us) - 1) + 1 ≡ 0 + staying us + 1 = omega (arith, l, b) in
    ap (λ (n : ℕ). grown a (ranks us ++ (min n (length (ranks us) - 1) + 1) ∷ [])) (ranks_last us)
    ∙ ap (λ (n : ℕ). grown a (ranks us ++ n ∷ [])) o
    ∙ ap (grown a) (ranks_push 0 us)
    ∙ grown_is (us ++ true ∷ []) a
    ∙ ap ranks (one_push us a true)

-- ---- so many numbers, the last one repeated

abbrev pub filled : ℕ → ℕ → List ℕ → List ℕ
filled r zero xs = []
filled r (suc n) [] = r ∷ filled r n []
filled r (suc n) (x ∷ xs) = x ∷ filled x n xs

abbrev last_of : ℕ → List ℕ → ℕ
last_of r [] = r
last_of r (x ∷ xs) = last_of x xs

last_is : (x : ℕ) (xs : List ℕ) → slice_index_or (x ∷ xs) (length xs) 0 ≡ last_of x xs
last_is x [] = refl
last_is x (y ∷ xs) = last_is y xs

last_number_is : (xs : List ℕ) → last_number xs ≡ last_of 0 xs
last_number_is [] = refl
last_number_is (x ∷ xs) = (let o : suc (length xs) - 1 ≡ length xs = omega arith in ap (λ (n : ℕ). slice_index_or (x ∷ xs) n 0) o) ∙ last_is x xs

filled_none : (r n : ℕ) → filled r n [] ≡ replicate n r
filled_none r zero = refl
filled_none r (suc n) = ap (λ (xs : List ℕ). r ∷ xs) (filled_none r n)

filled_is : (r n : ℕ) (xs : List ℕ) → filled r n xs ≡ take n xs ++ replicate (n - length xs) (last_of r xs)
filled_is r zero [] = refl
filled_is r zero (x ∷ xs) = let o : 0 ≡ 0 - suc (length xs) = omega arith in ap (λ (m : ℕ). replicate m (last_of x xs)) o
filled_is r (suc n) [] = ap (λ (xs : List ℕ). r ∷ xs) (filled_none r n) ∙ (let o : suc n ≡ suc n - 0 = omega arith in ap (λ (m : ℕ). replicate m r) o)
filled_is r (suc n) (x ∷ xs) = ap (λ (ys : List ℕ). x ∷ ys) (filled_is x n xs) ∙ (let o : n - length xs ≡ suc n - suc (length xs) = omega arith in ap (λ (m : ℕ). x ∷ (take n xs ++ replicate m (last_of x xs))) o)

pub fitted_is : (n : ℕ) (xs : List ℕ) → fitted n xs ≡ filled 0 (suc n) xs
fitted_is n xs =
    let o : n + 1 ≡ suc n = omega arith in
    ap (λ (r : ℕ). take (n + 1) xs ++ replicate (n + 1 - length xs) r) (last_number_is xs)
    ∙ ap (λ (m : ℕ). take m xs ++ replicate (m - length xs) (last_of 0 xs)) o
    ∙ sym (filled_is 0 (suc n) xs)

filled_twice : (r m n : ℕ) (xs : List ℕ) → m ≤ n → filled r m (filled r n xs) ≡ filled r m xs
filled_twice r zero n xs h = refl
filled_twice r (suc m) zero xs h = absurd (omega (arith, h))
filled_twice r (suc m) (suc n) [] h = ap (λ (xs : List ℕ). r ∷ xs) (filled_twice r m n [] (omega (arith, h)))
filled_twice r (suc m) (suc n) (x ∷ xs) h = ap (λ (ys : List ℕ). x ∷ ys) (filled_twice x m n xs (omega (arith, h)))

filled_front : (q r m : ℕ) (us vs : List Bool) → m ≤ suc (length us) → filled q m (ranks_from r (us ++ vs)) ≡ filled q m (ranks_from r us)
filled_front q r zero us vs h = refl
filled_front q r (suc zero) [] [] h = refl
filled_front q r (suc zero) [] (true ∷ vs) h = refl
filled_front q r (suc zero) [] (false ∷ vs) h = refl
filled_front q r (suc (suc m)) [] vs h = absurd (omega (arith, h))
filled_front q r (suc m) (true ∷ us) vs h = ap (λ (xs : List ℕ). r ∷ xs) (filled_front r (suc r) m us vs (omega (arith, h)))
filled_front q r (suc m) (false ∷ us) vs h = ap (λ (xs : List ℕ). r ∷ xs) (filled_front r r m us vs (omega (arith, h)))

filled_whole : (q r : ℕ) (us : List Bool) (a : ℕ) → filled q (suc (length us + a)) (ranks_from r us) ≡ ranks_from r (us ++ replicate a false)
filled_whole q r [] zero = refl
filled_whole q r [] (suc a) =
    ap (λ (xs : List ℕ). r ∷ xs) ((let o : 0 + suc a ≡ suc (0 + a) = omega arith in ap (λ (n : ℕ). filled r n []) o) ∙ again r a)
  where
    again : (r a : ℕ) → filled r (suc (0 + a)) [] ≡ ranks_from r (replicate a false)
    again r zero = refl
    again r (suc a) = ap (λ (xs : List ℕ). r ∷ xs) ((let o : 0 + suc a ≡ suc (0 + a) = omega arith in ap (λ (n : ℕ). filled r n []) o) ∙ again r a)
filled_whole q r (true ∷ us) a = ap (λ (xs : List ℕ). r ∷ xs) ((let o : suc (length us) + a ≡ suc (length us + a) = omega arith in ap (λ (n : ℕ). filled r n (ranks_from (suc r) us)) o) ∙ filled_whole r (suc r) us a)
filled_whole q r (false ∷ us) a = ap (λ (xs : List ℕ). r ∷ xs) ((let o : suc (length us) + a ≡ suc (length us + a) = omega arith in ap (λ (n : ℕ). filled r n (ranks_from r us)) o) ∙ filled_whole r r us a)

-- fewer numbers of so many
pub fitted_twice : (m n : ℕ) (xs : List ℕ) → m ≤ n → fitted m (fitted n xs) ≡ fitted m xs
fitted_twice m n xs h = fitted_is m (fitted n xs) ∙ ap (filled 0 (suc m)) (fitted_is n xs) ∙ filled_twice 0 (suc m) (suc n) xs (omega (arith, h)) ∙ sym (fitted_is m xs)

pub fitted_front : (m : ℕ) (us vs : List Bool) → m ≤ length us → fitted m (ranks (us ++ vs)) ≡ fitted m (ranks us)
fitted_front m us vs h = fitted_is m (ranks (us ++ vs)) ∙ filled_front 0 0 (suc m) us vs (omega (arith, h)) ∙ sym (fitted_is m (ranks us))

-- facts that do not stay are added
pub fitted_more : (us : List Bool) (a : ℕ) → fitted (length us + a) (ranks us) ≡ ranks (us ++ replicate a false)
fitted_more us a = fitted_is (length us + a) (ranks us) ∙ filled_whole 0 0 us a

pub fitted_same : (us : List Bool) → fitted (length us) (ranks us) ≡ ranks us
fitted_same us = (let o : length us ≡ length us + 0 = omega arith in ap (λ (n : ℕ). fitted n (ranks us)) o) ∙ fitted_more us 0 ∙ ap ranks (append-nil us)

-- ---- what stays of a list

pub thinned_append : {X : Type 0} (us vs : List Bool) (xs ys : List X) → length xs ≡ length us → thinned (us ++ vs) (xs ++ ys) ≡ thinned us xs ++ thinned vs ys
thinned_append [] vs [] ys h = refl
thinned_append [] vs (x ∷ xs) ys h = absurd (omega (arith, h))
thinned_append (u ∷ us) vs [] ys h = absurd (omega (arith, h))
thinned_append (true ∷ us) vs (x ∷ xs) ys h = ap (λ zs. x ∷ zs) (thinned_append us vs xs ys (omega (arith, h)))
thinned_append (false ∷ us) vs (x ∷ xs) ys h = thinned_append us vs xs ys (omega (arith, h))

thinned_whole : {X : Type 0} (xs : List X) (a : ℕ) → length xs ≡ a → thinned (replicate a true) xs ≡ xs
thinned_whole [] a h = refl
thinned_whole (x ∷ xs) zero h = absurd (omega (arith, h))
thinned_whole (x ∷ xs) (suc a) h = ap (λ zs. x ∷ zs) (thinned_whole xs a (omega (arith, h)))

thinned_none : {X : Type 0} (xs : List X) (a : ℕ) → thinned (replicate a false) xs ≡ []
thinned_none [] a = refl
thinned_none (x ∷ xs) zero = refl
thinned_none (x ∷ xs) (suc a) = thinned_none xs a

pub thinned_more : {X : Type 0} (us : List Bool) (xs ys : List X) (a : ℕ) → length xs ≡ length us → length ys ≡ a → thinned (us ++ replicate a true) (xs ++ ys) ≡ thinned us xs ++ ys
thinned_more us xs ys a h k = thinned_append us (replicate a true) xs ys h ∙ ap (λ zs. thinned us xs ++ zs) (thinned_whole ys a k)

pub thinned_same : {X : Type 0} (us : List Bool) (xs ys : List X) (a : ℕ) → length xs ≡ length us → thinned (us ++ replicate a false) (xs ++ ys) ≡ thinned us xs
thinned_same us xs ys a h = thinned_append us (replicate a false) xs ys h ∙ ap (λ zs. thinned us xs ++ zs) (thinned_none ys a) ∙ append-nil (thinned us xs)

pub get_below : {X : Type 0} (xs : List X) (k : ℕ) (x : X) → slice_get xs k ≡ Some x → k < length xs
get_below [] k x e = absurd (cc)
get_below (y ∷ xs) zero x e = omega arith
get_below (y ∷ xs) (suc k) x e = let h = get_below xs k x e in omega (arith, h)

thinned_get : {X : Type 0} (us : List Bool) (xs : List X) (k : ℕ) (x : X) → length xs ≡ length us → slice_get xs k ≡ Some x → stays us k ≡ true → slice_get (thinned us xs) (rank us k) ≡ Some x
thinned_get us [] k x l e s = absurd (cc)
thinned_get [] (y ∷ xs) k x l e s = absurd (omega (arith, l))
thinned_get (true ∷ us) (y ∷ xs) zero x l e s = e
thinned_get (false ∷ us) (y ∷ xs) zero x l e s = absurd (cc)
thinned_get (true ∷ us) (y ∷ xs) (suc k) x l e s = thinned_get us xs k x (omega (arith, l)) e s
thinned_get (false ∷ us) (y ∷ xs) (suc k) x l e s = thinned_get us xs k x (omega (arith, l)) e s

-- a fact that stays is found at its new number
pub new_get : {X : Type 0} (us : List Bool) (xs : List X) (k : ℕ) (x : X) → length xs ≡ length us → slice_get xs k ≡ Some x → (k < length us → stays us k ≡ true) → slice_get (thinned us xs) (new_number (ranks us) k) ≡ Some x
new_get us xs k x l e s =
    let b = get_below xs k x e in
    let k' : k < length us = omega (arith, l, b) in
    ap (slice_get (thinned us xs)) (new_is us k (omega (arith, k'))) ∙ thinned_get us xs k x l e (s k')
