-- The cases of the lower literals, counted by their coefficients.
use Rattle.std.specs.Prelude.{ℕ, ◌+◌, ◌-◌, ◌*◌, ◌/◌, ◌<◌, ◌≤◌, ◌≡◌, Bool, true, false, ◌||◌, cond, List, [], ◌∷◌, ◌++◌, length, get_or, drop, map}
use Rattle.std.specs.List.{list_any, range_with_len}
use Rattle.std.proofs.Common.{arith, ap, ◌∙◌, sym, refl, mul-le-mul}
use Rattle.std.proofs.Math.Nat.{mul-div_cancel_left}
use Rattle.std.proofs.lemmas.List.FromFn.{length-map-range_with_len, get_or-map-range_with_len}
use Rattle.lin_term.specs.Form.{cap}
use Rattle.lin_term.specs.declared.Lit.{Lit}
use Rattle.dom_core.specs.Elimination.{size_at, is_lower, delta, lower_cases, free_case, cooper}
use Rattle.dom_core.proofs.AddingLemmas.{split_at}
use Rattle.dom_core.proofs.Picking.{lower_size as lower_positive}
use Rattle.dom_int.specs.Counts.{count_at}
use Rattle.dom_int.proofs.Places.{length_more}
use Rattle.cube_elim.specs.Determined.{lower_value, lower_values, free_value, case_values}
use Rattle.cube_elim.specs.Values.{no_value, lower_size, sizes}
use Rattle.cube_elim.proofs.CaseValues.{value_here, value_next}

count_is : (x n : ℕ) (l : Lit) → count_at x n l ≡ lower_size x l * n
count_is x n l = by (is_lower x l)
  where
    by : (b : Bool) → cond b (size_at x l * n) 0 ≡ cond b (size_at x l) 0 * n
    by true = refl
    by false = omega arith

length-cases : (x n : ℕ) (before c : List Lit) → length (lower_cases x n before c) ≡ sizes x c * n
length-cases x n before [] = omega arith
length-cases x n before (l ∷ c) =
    let a = length_more x n before l c in
    let b = count_is x n l in
    let d = length-cases x n (before ++ l ∷ []) c in
    let e : (lower_size x l + sizes x c) * n ≡ lower_size x l * n + sizes x c * n = omega arith in
    omega arith

sizes_none : (x : ℕ) (c : List Lit) → list_any (is_lower x) c ≡ false → sizes x c ≡ 0
sizes_none x [] e = refl
sizes_none x (l ∷ c) e = by (is_lower x l) e (λ u. sizes_none x c u)
  where
    by : (b : Bool) → (b || list_any (is_lower x) c) ≡ false → (list_any (is_lower x) c ≡ false → sizes x c ≡ 0) → cond b (size_at x l) 0 + sizes x c ≡ 0
    by true e k = absurd (cc)
    by false e k = let h = k e in omega arith

sizes_some : (x : ℕ) (c : List Lit) → list_any (is_lower x) c ≡ true → 1 ≤ sizes x c
sizes_some x [] e = absurd (cc)
sizes_some x (l ∷ c) e = by (is_lower x l) refl e (λ u. sizes_some x c u)
  where
    by : (b : Bool) → is_lower x l ≡ b → (b || list_any (is_lower x) c) ≡ true → (list_any (is_lower x) c ≡ true → 1 ≤ sizes x c) → 1 ≤ cond b (size_at x l) 0 + sizes x c
    by true q e k = let h = lower_positive x l q in omega arith
    by false q e k = let h = k e in omega arith

at_least_one : (s n : ℕ) → 1 ≤ n → s ≤ s * n
at_least_one s n h = let m = mul-le-mul (let e : s ≤ s = omega arith in e) h in omega arith

pub sizes_kept : (x : ℕ) (c : List Lit) → 1 ≤ delta c x → length (cooper c x) ≤ cap → sizes x c ≤ cap
sizes_kept x c o h = by (list_any (is_lower x) c) refl h
  where
    by : (b : Bool) → list_any (is_lower x) c ≡ b → length (cond b (lower_cases x (delta c x) [] c) (map (free_case x c) (range_with_len 0 (delta c x)))) ≤ cap → sizes x c ≤ cap
    by true e h =
        let a = length-cases x (delta c x) [] c in
        let b = at_least_one (sizes x c) (delta c x) o in
        omega arith
    by false e h = let a = sizes_none x c e in omega arith

-- without a lower literal
pub free_at : (x : ℕ) (c : List Lit) (j : ℕ) → sizes x c ≡ 0 → j < length (cooper c x) → (get_or (case_values x c) j no_value ≡ free_value x c j) × (length (cooper c x) ≡ delta c x)
free_at x c j z h = by (list_any (is_lower x) c) refl h
  where
    by : (b : Bool) → list_any (is_lower x) c ≡ b → j < length (cond b (lower_cases x (delta c x) [] c) (map (free_case x c) (range_with_len 0 (delta c x)))) → (get_or (cond b (lower_values x (delta c x) c) (map (free_value x c) (range_with_len 0 (delta c x)))) j no_value ≡ free_value x c j) × (length (cond b (lower_cases x (delta c x) [] c) (map (free_case x c) (range_with_len 0 (delta c x)))) ≡ delta c x)
    by true e h = absurd (let s = sizes_some x c e in omega arith)
    by false e h =
        let n = length-map-range_with_len (free_case x c) 0 (delta c x) in
        (get_or-map-range_with_len (free_value x c) 0 (delta c x) j j no_value (omega arith) (omega arith), n)

quotient_is : (s n : ℕ) → 1 ≤ s → (s * n) / s ≡ n
quotient_is s n h = mul-div_cancel_left n {n = s} (omega arith)

-- with one
pub lower_at : (x : ℕ) (c : List Lit) (j : ℕ) → 1 ≤ sizes x c → (get_or (case_values x c) j no_value ≡ get_or (lower_values x (delta c x) c) j no_value) × (length (cooper c x) / sizes x c ≡ delta c x)
lower_at x c j z = by (list_any (is_lower x) c) refl
  where
    by : (b : Bool) → list_any (is_lower x) c ≡ b → (get_or (cond b (lower_values x (delta c x) c) (map (free_value x c) (range_with_len 0 (delta c x)))) j no_value ≡ get_or (lower_values x (delta c x) c) j no_value) × (length (cond b (lower_cases x (delta c x) [] c) (map (free_case x c) (range_with_len 0 (delta c x)))) / sizes x c ≡ delta c x)
    by true e =
        (refl, ap (λ (k : ℕ). k / sizes x c) (length-cases x (delta c x) [] c) ∙ quotient_is (sizes x c) (delta c x) z)
    by false e = absurd (let s = sizes_none x c e in omega arith)

-- ---- along the cube

pub step_here : (x n : ℕ) (c : List Lit) (k j : ℕ) (l : Lit) → j < length c → l ≡ get_or c j l → k < lower_size x l * n → get_or (lower_values x n (drop j c)) k no_value ≡ lower_value x l k
step_here x n c k j l h e o =
    ap (λ (us : List Lit). get_or (lower_values x n us) k no_value) (split_at c j l h e)
    ∙ value_here x n l (drop (j + 1) c) k (let q = count_is x n l in omega arith)

pub lower_of : (x n : ℕ) (l : Lit) (k : ℕ) → k < lower_size x l * n → is_lower x l ≡ true
lower_of x n l k h = by (is_lower x l) h
  where
    by : (b : Bool) → k < cond b (size_at x l) 0 * n → b ≡ true
    by true h = refl
    by false h = absurd (omega arith)

pub step_next : (x n : ℕ) (c : List Lit) (k m j : ℕ) (l : Lit) → j < length c → l ≡ get_or c j l → m ≡ lower_size x l * n → m ≤ k → get_or (lower_values x n (drop (j + 1) c)) (k - m) no_value ≡ get_or (lower_values x n (drop j c)) k no_value
step_next x n c k m j l h e q o =
    let i = count_is x n l in
    ap (λ (u : ℕ). get_or (lower_values x n (drop (j + 1) c)) (k - u) no_value) (q ∙ sym i)
    ∙ sym (value_next x n l (drop (j + 1) c) k (omega arith))
    ∙ ap (λ (us : List Lit). get_or (lower_values x n us) k no_value) (sym (split_at c j l h e))
