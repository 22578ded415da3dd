-- How many cases there are, and a case in its parts.
use Rattle.std.specs.Prelude.{ℕ, suc, ◌+◌, ◌<◌, ◌≤◌, ◌≡◌, ◌≢◌, ℤ, pos, Bool, true, false, ◌||◌, not, cond, Option, Some, None, Result, Ok, Err, List, [], ◌∷◌, ◌++◌, length, get_or, take, drop, map, filter, zero, ◌*◌}
use Rattle.std.specs.List.{flat_map, list_any, range_with_len}
use Rattle.std.proofs.Common.{arith, ap, ◌∙◌, sym, subst, refl, length-append, mul-le-mul}
use Rattle.std.proofs.lemmas.List.{drop_more, drop_all}
use Rattle.std.proofs.lemmas.List.FromFn.{length-map-range_with_len, get_or-map-range_with_len}
use Rattle.lin_term.specs.Form.{Form}
use Rattle.lin_term.specs.declared.Lit.{Lit}
use Rattle.lin_term.specs.declared.Sort.{Sort}
use Rattle.lin_term.specs.declared.Sort.TheVariants.{Int}
use Rattle.lin_term.specs.declared.Lit.TheVariants.{Divides}
use Rattle.lin_term.specs.Literal.{IsPrimitive, prim}
use Rattle.lin_term.specs.Linear.{constant_form}
use Rattle.lin_term.specs.PutIn.{put_lit}
use Rattle.lin_term.specs.Primable.{IsPrimable}
use Rattle.lin_term.specs.declared.Short.{Short}
use Rattle.lin_term.specs.declared.Short.TheVariants as short
use Rattle.lin_term.specs.declared.Wide.{Wide}
use Rattle.lin_term.specs.Wide.{first_past, lit_numbers, Capped}
use Rattle.lin_term.proofs.Capping.{past-append, past-append_some}
use Rattle.dom_core.specs.Cube.{IsCube, IsPrimitiveCube}
use Rattle.dom_core.specs.Elimination.{put_all, size_at, is_lower, is_upper, last_of, lower_cases, free_case, cooper, delta, count_sums, cube_numbers}
use Rattle.dom_core.proofs.Periods.{delta_period}
use Rattle.dom_int.specs.Counts.{count_at}
use Rattle.dom_core.specs.Adding.{AddsLit, AddsCube}
use Rattle.dom_core.proofs.AddingLemmas.{append_assoc, split_at, numbers-append}
use Rattle.dom_int.specs.Case.{term_case}
use Rattle.dom_int.proofs.Places.{length_more, length-lower_cases}

-- ---- how many cases there are

count_some : (x n : ℕ) (l : Lit) → 1 ≤ n → is_lower x l ≡ true → 1 ≤ size_at x l → 1 ≤ count_at x n l
count_some x n l o t s = subst (λ (b : Bool). 1 ≤ cond b (size_at x l * n) 0) (sym t) (mul-le-mul s o)

pub some_cases : (x n : ℕ) (before c : List Lit) → 1 ≤ n → ((l : Lit) → is_lower x l ≡ true → 1 ≤ size_at x l) → list_any (is_lower x) c ≡ true → 1 ≤ length (lower_cases x n before c)
some_cases x n before [] o s t = absurd (cc)
some_cases x n before (l ∷ c) o s t =
    by (is_lower x l) refl t (λ (u : list_any (is_lower x) c ≡ true). some_cases x n (before ++ l ∷ []) c o s u)
  where
    by : (b : Bool) → is_lower x l ≡ b → (b || list_any (is_lower x) c) ≡ true → (list_any (is_lower x) c ≡ true → 1 ≤ length (lower_cases x n (before ++ l ∷ []) c)) → 1 ≤ length (lower_cases x n before (l ∷ c))
    by true q t k = let e = length_more x n before l c in let p = count_some x n l o q (s l q) in omega arith
    by false q t k = let e = length_more x n before l c in let p = k t in omega arith

pub no_cases : (x n : ℕ) (before c : List Lit) → list_any (is_lower x) c ≡ false → length (lower_cases x n before c) ≡ 0
no_cases x n before [] t = refl
no_cases x n before (l ∷ c) t =
    by (is_lower x l) refl t (λ (u : list_any (is_lower x) c ≡ false). no_cases x n (before ++ l ∷ []) c u)
  where
    by : (b : Bool) → is_lower x l ≡ b → (b || list_any (is_lower x) c) ≡ false → (list_any (is_lower x) c ≡ false → length (lower_cases x n (before ++ l ∷ []) c) ≡ 0) → length (lower_cases x n before (l ∷ c)) ≡ 0
    by true q t k = absurd (cc)
    by false q t k =
        let e = length_more x n before l c in
        let p = k t in
        let z : count_at x n l ≡ 0 = ap (λ (b : Bool). cond b (size_at x l * n) 0) q in
        omega arith

-- what the total of the lower cases says of all cases
pub record Counted (c : List Lit) (x total : ℕ) : Type 0 where
  pub none : total ≡ 0 → cooper c x ≡ map (free_case x c) (range_with_len 0 (delta c x))
  pub some : total ≢ 0 → cooper c x ≡ lower_cases x (delta c x) [] c
  pub length_none : total ≡ 0 → length (cooper c x) ≡ delta c x
  pub length_some : total ≢ 0 → length (cooper c x) ≡ total

pub counted : (c : List Lit) (x n total : ℕ) → ((l : Lit) → is_lower x l ≡ true → 1 ≤ size_at x l) → IsCube Int c → n ≡ delta c x → total ≡ last_of 0 (count_sums x n 0 c) → Counted c x total
counted c x n total s o p t = by (list_any (is_lower x) c) refl
  where
    whole : total ≡ length (lower_cases x (delta c x) [] c)
    whole = t ∙ ap (λ (m : ℕ). last_of 0 (count_sums x m 0 c)) p ∙ sym (length-lower_cases x (delta c x) 0 [] c) ∙ (let e : 0 + length (lower_cases x (delta c x) [] c) ≡ length (lower_cases x (delta c x) [] c) = omega arith in e)

    cases : (b : Bool) → list_any (is_lower x) c ≡ b → cooper c x ≡ cond b (lower_cases x (delta c x) [] c) (map (free_case x c) (range_with_len 0 (delta c x)))
    cases b q = ap (λ (b : Bool). cond b (lower_cases x (delta c x) [] c) (map (free_case x c) (range_with_len 0 (delta c x)))) q

    by : (b : Bool) → list_any (is_lower x) c ≡ b → Counted c x total
    by true q =
        let h = some_cases x (delta c x) [] c (delta_period c x o).0 s q in
        record {
          none = λ e. absurd (omega (arith, whole));
          some = λ n. cases true q;
          length_none = λ e. absurd (omega (arith, whole));
          length_some = λ n. ap length (cases true q) ∙ sym whole;
        }
    by false q =
        let h = no_cases x (delta c x) [] c q in
        record {
          none = λ e. cases false q;
          some = λ n. absurd (n (whole ∙ h));
          length_none = λ e. ap length (cases false q) ∙ length-map-range_with_len (free_case x c) 0 (delta c x);
          length_some = λ n. absurd (n (whole ∙ h));
        }

pub free_split : (x : ℕ) (c : List Lit) (i k : ℕ) (l : Lit) → i < length c → l ≡ get_or c i l → free_case x (drop i c) k ≡ free_case x (l ∷ []) k ++ free_case x (drop (i + 1) c) k
free_split x c i k l h e = ap (λ (us : List Lit). free_case x us k) (split_at c i l h e) ∙ by (is_upper x l)
  where
    by : (b : Bool) → map (λ m. put_lit Int x 1 (constant_form (pos k)) m) (cond (not b) (l ∷ filter (λ m. not (is_upper x m)) (drop (i + 1) c)) (filter (λ m. not (is_upper x m)) (drop (i + 1) c)))
        ≡ map (λ m. put_lit Int x 1 (constant_form (pos k)) m) (cond (not b) (l ∷ []) []) ++ free_case x (drop (i + 1) c) k
    by true = refl
    by false = refl

-- ---- a case in its three parts

term_numbers : (x a : ℕ) (t : Form) (c : List Lit) (place : ℕ) → cube_numbers (term_case x a t c place) ≡ cube_numbers (put_all Int x a t (take place c)) ++ (lit_numbers (prim Int (Divides a t)) ++ cube_numbers (put_all Int x a t (drop (place + 1) c)))
term_numbers x a t c place = numbers-append (put_all Int x a t (take place c)) (prim Int (Divides a t) ∷ put_all Int x a t (drop (place + 1) c))

pub first_part_refused : {A : Type 0} (out new : List Lit) (x a : ℕ) (t : Form) (c : List Lit) (place : ℕ) (value : A) (e : Short Wide) → AddsCube out new (put_all Int x a t (take place c)) (Err e) → Capped {A = A} (cube_numbers (term_case x a t c place)) value (Err e)
first_part_refused out new x a t c place value (short.Fault w) h =
    ap first_past (term_numbers x a t c place) ∙ past-append_some (cube_numbers (put_all Int x a t (take place c))) (lit_numbers (prim Int (Divides a t)) ++ cube_numbers (put_all Int x a t (drop (place + 1) c))) w.number h
first_part_refused out new x a t c place value short.Memory h = tt

pub divides_refused : {A : Type 0} (out new : List Lit) (x a : ℕ) (t : Form) (c : List Lit) (place : ℕ) (value : A) (e : Short Wide) → first_past (cube_numbers (put_all Int x a t (take place c))) ≡ None → AddsLit out new (prim Int (Divides a t)) (Err e) → Capped {A = A} (cube_numbers (term_case x a t c place)) value (Err e)
divides_refused out new x a t c place value (short.Fault w) n h =
    ap first_past (term_numbers x a t c place) ∙ past-append (cube_numbers (put_all Int x a t (take place c))) (lit_numbers (prim Int (Divides a t)) ++ cube_numbers (put_all Int x a t (drop (place + 1) c))) n
    ∙ past-append_some (lit_numbers (prim Int (Divides a t))) (cube_numbers (put_all Int x a t (drop (place + 1) c))) w.number h
divides_refused out new x a t c place value short.Memory n h = tt

last_numbers : (x a : ℕ) (t : Form) (c : List Lit) (place : ℕ) → first_past (cube_numbers (put_all Int x a t (take place c))) ≡ None → first_past (lit_numbers (prim Int (Divides a t))) ≡ None → first_past (cube_numbers (term_case x a t c place)) ≡ first_past (cube_numbers (put_all Int x a t (drop (place + 1) c)))
last_numbers x a t c place n m =
    ap first_past (term_numbers x a t c place) ∙ past-append (cube_numbers (put_all Int x a t (take place c))) (lit_numbers (prim Int (Divides a t)) ++ cube_numbers (put_all Int x a t (drop (place + 1) c))) n
    ∙ past-append (lit_numbers (prim Int (Divides a t))) (cube_numbers (put_all Int x a t (drop (place + 1) c))) m

pub last_part_refused : {A : Type 0} (out new : List Lit) (x a : ℕ) (t : Form) (c : List Lit) (place : ℕ) (value : A) (e : Short Wide) → first_past (cube_numbers (put_all Int x a t (take place c))) ≡ None → first_past (lit_numbers (prim Int (Divides a t))) ≡ None → AddsCube out new (put_all Int x a t (drop (place + 1) c)) (Err e) → Capped {A = A} (cube_numbers (term_case x a t c place)) value (Err e)
last_part_refused out new x a t c place value (short.Fault w) n m h = last_numbers x a t c place n m ∙ h
last_part_refused out new x a t c place value short.Memory n m h = tt

pub all_parts : (one two three result : List Lit) (x a : ℕ) (t : Form) (c : List Lit) (place : ℕ) → (first_past (cube_numbers (put_all Int x a t (take place c))) ≡ None) × (one ≡ [] ++ put_all Int x a t (take place c)) → (first_past (lit_numbers (prim Int (Divides a t))) ≡ None) × (two ≡ one ++ prim Int (Divides a t) ∷ []) → (first_past (cube_numbers (put_all Int x a t (drop (place + 1) c))) ≡ None) × (three ≡ two ++ put_all Int x a t (drop (place + 1) c)) → result ≡ three → (first_past (cube_numbers (term_case x a t c place)) ≡ None) × (result ≡ term_case x a t c place)
all_parts one two three result x a t c place p q r e = (
  last_numbers x a t c place p.0 q.0 ∙ r.0,
  e ∙ r.1 ∙ ap (λ us. us ++ put_all Int x a t (drop (place + 1) c)) (q.1 ∙ ap (λ us. us ++ prim Int (Divides a t) ∷ []) p.1)
      ∙ append_assoc (put_all Int x a t (take place c)) (prim Int (Divides a t) ∷ []) (put_all Int x a t (drop (place + 1) c)),
)
