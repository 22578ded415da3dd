-- The values of the cases, by number.
use Rattle.std.specs.Prelude.{ℕ, zero, suc, ◌-◌, ◌*◌, ◌<◌, ◌≤◌, ◌≡◌, ℤ, Bool, true, false, cond, List, [], ◌∷◌, ◌++◌, length, get_or, map}
use Rattle.std.specs.List.{list_any, range_with_len}
use Rattle.std.proofs.Common.{arith, ap, ◌∙◌, sym, refl, length-append}
use Rattle.std.proofs.lemmas.List.{get_or_append_left}
use Rattle.std.proofs.lemmas.List.FromFn.{length-map-range_with_len, get_or-map-range_with_len}
use Rattle.lin_term.specs.declared.Lit.{Lit}
use Rattle.lin_term.specs.Linear.{Point}
use Rattle.dom_core.specs.Elimination.{size_at, is_lower, delta, lower_cases, free_case, cooper}
use Rattle.dom_int.specs.Counts.{count_at}
use Rattle.dom_int.proofs.Places.{length_more}
use Rattle.cube_elim.specs.Determined.{lower_value, lower_values, free_value, case_values}
use Rattle.cube_elim.specs.Values.{no_value}

abbrev own_values : ℕ → ℕ → Lit → List (Point → ℤ)
own_values x n l = cond (is_lower x l) (map (lower_value x l) (range_with_len 0 (size_at x l * n))) []

length-own : (x n : ℕ) (l : Lit) → length (own_values x n l) ≡ count_at x n l
length-own x n l = by (is_lower x l)
  where
    by : (b : Bool) → length (cond b (map (lower_value x l) (range_with_len 0 (size_at x l * n))) []) ≡ cond b (size_at x l * n) 0
    by true = length-map-range_with_len (lower_value x l) 0 (size_at x l * n)
    by false = refl

pub length-lower_values : (x n : ℕ) (before c : List Lit) → length (lower_values x n c) ≡ length (lower_cases x n before c)
length-lower_values x n before [] = refl
length-lower_values x n before (l ∷ c) =
    let a = length-append (own_values x n l) (lower_values x n c) in
    let b = length-own x n l in
    let d = length-lower_values x n (before ++ l ∷ []) c in
    let e = length_more x n before l c in
    omega arith

pub value_here : (x n : ℕ) (l : Lit) (c : List Lit) (k : ℕ) → k < count_at x n l → get_or (lower_values x n (l ∷ c)) k no_value ≡ lower_value x l k
value_here x n l c k h = by (is_lower x l) h
  where
    by : (b : Bool) → k < cond b (size_at x l * n) 0 → get_or (cond b (map (lower_value x l) (range_with_len 0 (size_at x l * n))) [] ++ lower_values x n c) k no_value ≡ lower_value x l k
    by true h =
        get_or_append_left (map (lower_value x l) (range_with_len 0 (size_at x l * n))) (lower_values x n c) no_value k (omega (arith, length-map-range_with_len (lower_value x l) 0 (size_at x l * n)))
        ∙ get_or-map-range_with_len (lower_value x l) 0 (size_at x l * n) k k no_value h (omega arith)
    by false h = absurd (omega arith)

get_or-append_right : {A : Type 0} (xs ys : List A) (d : A) (i : ℕ) → length xs ≤ i → get_or (xs ++ ys) i d ≡ get_or ys (i - length xs) d
get_or-append_right [] ys d i h = ap (λ (k : ℕ). get_or ys k d) (let e : i ≡ i - 0 = omega arith in e)
get_or-append_right (x ∷ xs) ys d zero h = absurd (omega arith)
get_or-append_right (x ∷ xs) ys d (suc i) h =
    get_or-append_right xs ys d i (omega arith) ∙ ap (λ (k : ℕ). get_or ys k d) (let e : i - length xs ≡ suc i - suc (length xs) = omega arith in e)

pub value_next : (x n : ℕ) (l : Lit) (c : List Lit) (k : ℕ) → count_at x n l ≤ k → get_or (lower_values x n (l ∷ c)) k no_value ≡ get_or (lower_values x n c) (k - count_at x n l) no_value
value_next x n l c k h =
    let e = length-own x n l in
    get_or-append_right (own_values x n l) (lower_values x n c) no_value k (omega arith) ∙ ap (λ (j : ℕ). get_or (lower_values x n c) (k - j) no_value) e

-- as many values as cases
pub length-case_values : (x : ℕ) (c : List Lit) → length (case_values x c) ≡ length (cooper c x)
length-case_values x c = by (list_any (is_lower x) c)
  where
    by : (b : Bool) → length (cond b (lower_values x (delta c x) c) (map (free_value x c) (range_with_len 0 (delta c x)))) ≡ length (cond b (lower_cases x (delta c x) [] c) (map (free_case x c) (range_with_len 0 (delta c x))))
    by true = length-lower_values x (delta c x) [] c
    by false = length-map-range_with_len (free_value x c) 0 (delta c x) ∙ sym (length-map-range_with_len (free_case x c) 0 (delta c x))
