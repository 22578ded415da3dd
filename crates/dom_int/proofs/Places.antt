-- The cases of the lower literals, literal by literal.
use Rattle.std.specs.Prelude.{ℕ, zero, suc, ◌+◌, ◌-◌, ◌*◌, ◌<◌, ◌≤◌, ◌≡◌, pos, Bool, true, false, cond, List, [], ◌∷◌, ◌++◌, length, get_or, take, drop, map}
use Rattle.std.specs.List.{list_any, range_with_len}
use Rattle.std.proofs.Common.{arith, ap, ◌∙◌, sym, subst, refl, length-append, mul-le-mul}
use Rattle.std.proofs.lemmas.List.{get_or_append_left, get_or_default, drop_more, take_more}
use Rattle.std.proofs.lemmas.List.FromFn.{length-map-range_with_len, get_or-map-range_with_len}
use Rattle.lin_term.specs.declared.Lit.{Lit}
use Rattle.lin_term.specs.declared.Lit.TheVariants.{AtLeast}
use Rattle.lin_term.specs.Linear.{constant_form}
use Rattle.dom_core.specs.Elimination.{size_at, is_lower, last_of, lower_case, lower_cases, count_sums}
use Rattle.dom_int.specs.Counts.{count_at}
use Rattle.dom_int.specs.Place.{lit_at, IsPlace}

abbrev own_cases : ℕ → ℕ → List Lit → Lit → List Lit → List (List Lit)
own_cases x n before l after = cond (is_lower x l) (map (lower_case x before l after) (range_with_len 0 (size_at x l * n))) []

length-own : (x n : ℕ) (before : List Lit) (l : Lit) (after : List Lit) → length (own_cases x n before l after) ≡ count_at x n l
length-own x n before l after = by (is_lower x l)
  where
    by : (b : Bool) → length (cond b (map (lower_case x before l after) (range_with_len 0 (size_at x l * n))) []) ≡ cond b (size_at x l * n) 0
    by true = length-map-range_with_len (lower_case x before l after) 0 (size_at x l * n)
    by false = refl

pub length_more : (x n : ℕ) (before : List Lit) (l : Lit) (after : List Lit) → length (lower_cases x n before (l ∷ after)) ≡ count_at x n l + length (lower_cases x n (before ++ l ∷ []) after)
length_more x n before l after =
    length-append (own_cases x n before l after) (lower_cases x n (before ++ l ∷ []) after) ∙ ap (λ (k : ℕ). k + length (lower_cases x n (before ++ l ∷ []) after)) (length-own x n before l after)

pub place_here : (x n : ℕ) (before : List Lit) (l : Lit) (after : List Lit) (k : ℕ) → k < count_at x n l → (is_lower x l ≡ true) × (k < size_at x l * n) × (get_or (lower_cases x n before (l ∷ after)) k [] ≡ lower_case x before l after k)
place_here x n before l after k h = by (is_lower x l) refl h
  where
    by : (b : Bool) → is_lower x l ≡ b → k < cond b (size_at x l * n) 0 → (is_lower x l ≡ true) × (k < size_at x l * n) × (get_or (cond b (map (lower_case x before l after) (range_with_len 0 (size_at x l * n))) [] ++ lower_cases x n (before ++ l ∷ []) after) k [] ≡ lower_case x before l after k)
    by true e h =
        (e, h, get_or_append_left (map (lower_case x before l after) (range_with_len 0 (size_at x l * n))) (lower_cases x n (before ++ l ∷ []) after) [] k (omega (arith, length-map-range_with_len (lower_case x before l after) 0 (size_at x l * n))) ∙ get_or-map-range_with_len (lower_case x before l after) 0 (size_at x l * n) k k [] h (omega arith))
    by false e h = absurd (omega arith)

get_or-append_right : {A : Type 0} (xs ys : List A) (d : A) (i : ℕ) → length xs ≤ i → get_or (xs ++ ys) i d ≡ get_or ys (i - length xs) d
get_or-append_right [] ys d i h = ap (λ (k : ℕ). get_or ys k d) (let e : i ≡ i - 0 = omega arith in e)
get_or-append_right (x ∷ xs) ys d zero h = absurd (omega arith)
get_or-append_right (x ∷ xs) ys d (suc i) h =
    get_or-append_right xs ys d i (omega arith) ∙ ap (λ (k : ℕ). get_or ys k d) (let e : i - length xs ≡ suc i - suc (length xs) = omega arith in e)

pub place_next : (x n : ℕ) (before : List Lit) (l : Lit) (after : List Lit) (k : ℕ) → count_at x n l ≤ k → get_or (lower_cases x n before (l ∷ after)) k [] ≡ get_or (lower_cases x n (before ++ l ∷ []) after) (k - count_at x n l) []
place_next x n before l after k h =
    let e = length-own x n before l after in
    get_or-append_right (own_cases x n before l after) (lower_cases x n (before ++ l ∷ []) after) [] k (omega arith) ∙ ap (λ (j : ℕ). get_or (lower_cases x n (before ++ l ∷ []) after) (k - j) []) e

-- ---- how many there are

pub length-lower_cases : (x n total : ℕ) (before c : List Lit) → total + length (lower_cases x n before c) ≡ last_of total (count_sums x n total c)
length-lower_cases x n total before [] = omega arith
length-lower_cases x n total before (l ∷ c) =
    let e = length_more x n before l c in
    (let u : total + length (lower_cases x n before (l ∷ c)) ≡ (total + count_at x n l) + length (lower_cases x n (before ++ l ∷ []) c) = omega arith in u)
    ∙ length-lower_cases x n (total + count_at x n l) (before ++ l ∷ []) c ∙ by (is_lower x l)
  where
    by : (b : Bool) → last_of (total + cond b (size_at x l * n) 0) (count_sums x n (total + cond b (size_at x l * n) 0) c) ≡ last_of total (cond b ((total + size_at x l * n) ∷ count_sums x n (total + size_at x l * n) c) (count_sums x n total c))
    by true = refl
    by false = ap (λ (k : ℕ). last_of k (count_sums x n k c)) (let e : total + 0 ≡ total = omega arith in e)

-- ---- along the cube

split_at : (c : List Lit) (j : ℕ) (l : Lit) → j < length c → l ≡ get_or c j l → drop j c ≡ l ∷ drop (j + 1) c
split_at c j l h e = drop_more c j l h ∙ ap (λ (y : Lit). y ∷ drop (j + 1) c) (sym e)

taken_at : (c : List Lit) (j : ℕ) (l : Lit) → j < length c → l ≡ get_or c j l → take (j + 1) c ≡ take j c ++ l ∷ []
taken_at c j l h e = take_more c j l h ∙ ap (λ (y : Lit). take j c ++ y ∷ []) (sym e)

pub place_found : (x n : ℕ) (c : List Lit) (index place k j : ℕ) (l : Lit) → j < length c → l ≡ get_or c j l → place ≡ j → get_or (lower_cases x n (take j c) (drop j c)) k [] ≡ get_or (lower_cases x n [] c) index [] → k < count_at x n l → IsPlace x n c index place k
place_found x n c index place k j l h e p s o =
    let r = place_here x n (take j c) l (drop (j + 1) c) k o in
    let a : l ≡ lit_at c j = e ∙ get_or_default c j l (AtLeast (constant_form (pos 0))) h in
    let b : l ≡ lit_at c place = a ∙ ap (λ (i : ℕ). lit_at c i) (sym p) in
    record {
      within = omega arith;
      lower = subst (λ (y : Lit). is_lower x y ≡ true) b r.0;
      count = subst (λ (y : Lit). k < size_at x y * n) b r.1;
      case = sym s ∙ ap (λ (us : List Lit). get_or (lower_cases x n (take j c) us) k []) (split_at c j l h e) ∙ r.2
          ∙ ap (λ (y : Lit). lower_case x (take j c) y (drop (j + 1) c) k) a
          ∙ ap (λ (i : ℕ). lower_case x (take i c) (lit_at c i) (drop (i + 1) c) k) (sym p);
    }

pub step_within : (x n : ℕ) (c : List Lit) (k j : ℕ) (l : Lit) → j < length c → l ≡ get_or c j l → k < length (lower_cases x n (take j c) (drop j c)) → count_at x n l ≤ k → k - count_at x n l < length (lower_cases x n (take (j + 1) c) (drop (j + 1) c))
step_within x n c k j l h e w o =
    let a = ap (λ (us : List Lit). length (lower_cases x n (take j c) us)) (split_at c j l h e) in
    let b = length_more x n (take j c) l (drop (j + 1) c) in
    let d = ap (λ (us : List Lit). length (lower_cases x n us (drop (j + 1) c))) (taken_at c j l h e) in
    omega arith

pub step_case : (x n : ℕ) (c : List Lit) (k j : ℕ) (l : Lit) → j < length c → l ≡ get_or c j l → count_at x n l ≤ k → get_or (lower_cases x n (take (j + 1) c) (drop (j + 1) c)) (k - count_at x n l) [] ≡ get_or (lower_cases x n (take j c) (drop j c)) k []
step_case x n c k j l h e o =
    ap (λ (us : List Lit). get_or (lower_cases x n us (drop (j + 1) c)) (k - count_at x n l) []) (taken_at c j l h e)
    ∙ sym (place_next x n (take j c) l (drop (j + 1) c) k o)
    ∙ ap (λ (us : List Lit). get_or (lower_cases x n (take j c) us) k []) (sym (split_at c j l h e))
