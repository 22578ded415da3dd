-- A variable taken out of a cube of integers, at other names.
use Rattle.std.specs.Prelude.{ℕ, ◌+◌, ◌*◌, ◌≡◌, ℤ, pos, negsuc, ◌+ℤ◌, nat_abs, Bool, true, false, not, ◌||◌, cond, eqb, List, [], ◌∷◌, ◌++◌, map, filter, get_or}
use Rattle.std.specs.List.{flat_map, list_any, range_with_len, AllByRecursion}
use Rattle.std.proofs.Common.{ap, ap₂, ◌∙◌, sym, refl}
use Rattle.std.proofs.lemmas.List.{map-append}
use Rattle.lin_term.specs.Form.{Form}
use Rattle.lin_term.specs.declared.Sort.TheVariants.{Int}
use Rattle.lin_term.specs.declared.Lit.{Lit}
use Rattle.lin_term.specs.declared.Lit.TheVariants.{AtLeast, Above, Divides, NotDivides}
use Rattle.lin_term.specs.Linear.{rename, rename_terms, plus, times, constant_form}
use Rattle.lin_term.specs.Literal.{form_of, rename_lit, prim}
use Rattle.lin_term.specs.PutIn.{coef, without, rest_of, put_form, put_raw, occurs, put_lit}
use Rattle.dom_core.specs.Elimination.{coef_at, size_at, is_positive, is_negative, is_lower, is_upper, next_delta, partial_deltas, last_of, delta, put_all, above_bound, lower_case, lower_cases, free_case, cooper, count_sums, cube_numbers, elimination_numbers}
use Rattle.strat_trim.proofs.RenamedForms.{Keeps, Within, LitWithin, name_eq, within_plus, within_times, within_prim, plus_renamed, times_renamed, prim_renamed, numbers_renamed}

-- each literal's variables are kept
abbrev pub CubeWithin : (ℕ → Type 0) → List Lit → Type 0
CubeWithin K c = AllByRecursion (LitWithin K) c

abbrev pub rename_cube : List ℕ → List Lit → List Lit
rename_cube names c = map (rename_lit names) c

pub form_renamed : (names : List ℕ) (l : Lit) → form_of (rename_lit names l) ≡ rename names (form_of l)
form_renamed names (AtLeast f) = refl
form_renamed names (Above f) = refl
form_renamed names (Divides d f) = refl
form_renamed names (NotDivides d f) = refl

-- ---- one variable of a form

coef_renamed : (names : List ℕ) (K : ℕ → Type 0) (x : ℕ) (ts : List (ℕ × ℤ)) → Keeps names K → K x → Within K ts → coef (rename_terms names ts) (get_or names x 0) ≡ coef ts x
coef_renamed names K x [] k h w = refl
coef_renamed names K x (t ∷ ts) k h w =
    ap₂ (λ (b : Bool) (z : ℤ). cond b (t.1 +ℤ z) z) (name_eq names K t.0 x k w.0 h) (coef_renamed names K x ts k h w.1)

without_renamed : (names : List ℕ) (K : ℕ → Type 0) (x : ℕ) (ts : List (ℕ × ℤ)) → Keeps names K → K x → Within K ts → without (rename_terms names ts) (get_or names x 0) ≡ rename_terms names (without ts x)
without_renamed names K x [] k h w = refl
without_renamed names K x (t ∷ ts) k h w =
    ap₂ (λ (b : Bool) (us : List (ℕ × ℤ)). cond b us ((get_or names t.0 0, t.1) ∷ us)) (name_eq names K t.0 x k w.0 h) (without_renamed names K x ts k h w.1)
    ∙ by (eqb t.0 x)
  where
    by : (b : Bool) → cond b (rename_terms names (without ts x)) ((get_or names t.0 0, t.1) ∷ rename_terms names (without ts x)) ≡ rename_terms names (cond b (without ts x) (t ∷ without ts x))
    by true = refl
    by false = refl

occurs_renamed : (names : List ℕ) (K : ℕ → Type 0) (x : ℕ) (ts : List (ℕ × ℤ)) → Keeps names K → K x → Within K ts → occurs (rename_terms names ts) (get_or names x 0) ≡ occurs ts x
occurs_renamed names K x [] k h w = refl
occurs_renamed names K x (t ∷ ts) k h w =
    ap₂ (λ (b c : Bool). cond b true c) (name_eq names K t.0 x k w.0 h) (occurs_renamed names K x ts k h w.1)

within_without : (K : ℕ → Type 0) (x : ℕ) (ts : List (ℕ × ℤ)) → Within K ts → Within K (without ts x)
within_without K x [] w = tt
within_without K x (t ∷ ts) w = by (eqb t.0 x) (within_without K x ts w.1)
  where
    by : (b : Bool) → Within K (without ts x) → Within K (cond b (without ts x) (t ∷ without ts x))
    by true r = r
    by false r = (w.0, r)

rest_renamed : (names : List ℕ) (K : ℕ → Type 0) (x : ℕ) (f : Form) → Keeps names K → K x → Within K f.terms → rest_of (rename names f) (get_or names x 0) ≡ rename names (rest_of f x)
rest_renamed names K x f k h w =
    ap (λ (ts : List (ℕ × ℤ)). record { terms = ts; constant = f.constant }) (without_renamed names K x f.terms k h w)

-- ---- one literal

coef_at_renamed : (names : List ℕ) (K : ℕ → Type 0) (x : ℕ) (l : Lit) → Keeps names K → K x → LitWithin K l → coef_at (get_or names x 0) (rename_lit names l) ≡ coef_at x l
coef_at_renamed names K x l k h w =
    ap (λ (f : Form). coef f.terms (get_or names x 0)) (form_renamed names l) ∙ coef_renamed names K x (form_of l).terms k h w

size_renamed : (names : List ℕ) (K : ℕ → Type 0) (x : ℕ) (l : Lit) → Keeps names K → K x → LitWithin K l → size_at (get_or names x 0) (rename_lit names l) ≡ size_at x l
size_renamed names K x l k h w = ap nat_abs (coef_at_renamed names K x l k h w)

lower_renamed : (names : List ℕ) (K : ℕ → Type 0) (x : ℕ) (l : Lit) → Keeps names K → K x → LitWithin K l → is_lower (get_or names x 0) (rename_lit names l) ≡ is_lower x l
lower_renamed names K x (AtLeast f) k h w = ap is_positive (coef_renamed names K x f.terms k h w)
lower_renamed names K x (Above f) k h w = ap is_positive (coef_renamed names K x f.terms k h w)
lower_renamed names K x (Divides d f) k h w = refl
lower_renamed names K x (NotDivides d f) k h w = refl

upper_renamed : (names : List ℕ) (K : ℕ → Type 0) (x : ℕ) (l : Lit) → Keeps names K → K x → LitWithin K l → is_upper (get_or names x 0) (rename_lit names l) ≡ is_upper x l
upper_renamed names K x (AtLeast f) k h w = ap is_negative (coef_renamed names K x f.terms k h w)
upper_renamed names K x (Above f) k h w = ap is_negative (coef_renamed names K x f.terms k h w)
upper_renamed names K x (Divides d f) k h w = refl
upper_renamed names K x (NotDivides d f) k h w = refl

put_form_renamed : (names : List ℕ) (K : ℕ → Type 0) (x a : ℕ) (t f : Form) → Keeps names K → K x → Within K t.terms → Within K f.terms → put_form (rename names f) (get_or names x 0) a (rename names t) ≡ rename names (put_form f x a t)
put_form_renamed names K x a t f k h v w =
    ap₂ (λ (z : ℤ) (g : Form). plus (times z (rename names t)) (times (pos a) g)) (coef_renamed names K x f.terms k h w) (rest_renamed names K x f k h w)
    ∙ ap₂ plus (times_renamed names (coef f.terms x) t) (times_renamed names (pos a) (rest_of f x))
    ∙ plus_renamed names K (times (coef f.terms x) t) (times (pos a) (rest_of f x)) k (within_times K (coef f.terms x) t.terms v) (within_times K (pos a) (without f.terms x) (within_without K x f.terms w))

within_put_form : (K : ℕ → Type 0) (x a : ℕ) (t f : Form) → Within K t.terms → Within K f.terms → Within K (put_form f x a t).terms
within_put_form K x a t f v w =
    within_plus K (times (coef f.terms x) t).terms (times (pos a) (rest_of f x)).terms (within_times K (coef f.terms x) t.terms v) (within_times K (pos a) (without f.terms x) (within_without K x f.terms w))

put_raw_renamed : (names : List ℕ) (K : ℕ → Type 0) (x a : ℕ) (t : Form) (l : Lit) → Keeps names K → K x → Within K t.terms → LitWithin K l → put_raw (get_or names x 0) a (rename names t) (rename_lit names l) ≡ rename_lit names (put_raw x a t l)
put_raw_renamed names K x a t (AtLeast f) k h v w = ap (λ (g : Form). AtLeast g) (put_form_renamed names K x a t f k h v w)
put_raw_renamed names K x a t (Above f) k h v w = ap (λ (g : Form). Above g) (put_form_renamed names K x a t f k h v w)
put_raw_renamed names K x a t (Divides d f) k h v w = ap (λ (g : Form). Divides (a * d) g) (put_form_renamed names K x a t f k h v w)
put_raw_renamed names K x a t (NotDivides d f) k h v w = ap (λ (g : Form). NotDivides (a * d) g) (put_form_renamed names K x a t f k h v w)

within_put_raw : (K : ℕ → Type 0) (x a : ℕ) (t : Form) (l : Lit) → Within K t.terms → LitWithin K l → LitWithin K (put_raw x a t l)
within_put_raw K x a t (AtLeast f) v w = within_put_form K x a t f v w
within_put_raw K x a t (Above f) v w = within_put_form K x a t f v w
within_put_raw K x a t (Divides d f) v w = within_put_form K x a t f v w
within_put_raw K x a t (NotDivides d f) v w = within_put_form K x a t f v w

put_lit_renamed : (names : List ℕ) (K : ℕ → Type 0) (x a : ℕ) (t : Form) (l : Lit) → Keeps names K → K x → Within K t.terms → LitWithin K l → put_lit Int (get_or names x 0) a (rename names t) (rename_lit names l) ≡ rename_lit names (put_lit Int x a t l)
put_lit_renamed names K x a t l k h v w =
    ap₂ (λ (b : Bool) (r : Lit). cond b (prim Int r) (rename_lit names l)) (ap (λ (f : Form). occurs f.terms (get_or names x 0)) (form_renamed names l) ∙ occurs_renamed names K x (form_of l).terms k h w) (put_raw_renamed names K x a t l k h v w)
    ∙ by (occurs (form_of l).terms x)
  where
    by : (b : Bool) → cond b (prim Int (rename_lit names (put_raw x a t l))) (rename_lit names l) ≡ rename_lit names (cond b (prim Int (put_raw x a t l)) l)
    by true = prim_renamed Int names K (put_raw x a t l) k (within_put_raw K x a t l v w)
    by false = refl

within_put_lit : (K : ℕ → Type 0) (x a : ℕ) (t : Form) (l : Lit) → Within K t.terms → LitWithin K l → LitWithin K (put_lit Int x a t l)
within_put_lit K x a t l v w = by (occurs (form_of l).terms x)
  where
    by : (b : Bool) → LitWithin K (cond b (prim Int (put_raw x a t l)) l)
    by true = within_prim K Int (put_raw x a t l) (within_put_raw K x a t l v w)
    by false = w

-- ---- cubes

put_all_renamed : (names : List ℕ) (K : ℕ → Type 0) (x a : ℕ) (t : Form) (c : List Lit) → Keeps names K → K x → Within K t.terms → CubeWithin K c → put_all Int (get_or names x 0) a (rename names t) (rename_cube names c) ≡ rename_cube names (put_all Int x a t c)
put_all_renamed names K x a t [] k h v w = refl
put_all_renamed names K x a t (l ∷ ls) k h v w =
    ap₂ (λ (m : Lit) (ms : List Lit). m ∷ ms) (put_lit_renamed names K x a t l k h v w.0) (put_all_renamed names K x a t ls k h v w.1)

within_put_all : (K : ℕ → Type 0) (x a : ℕ) (t : Form) (c : List Lit) → Within K t.terms → CubeWithin K c → CubeWithin K (put_all Int x a t c)
within_put_all K x a t [] v w = tt
within_put_all K x a t (l ∷ ls) v w = (within_put_lit K x a t l v w.0, within_put_all K x a t ls v w.1)

pub cube_append : (K : ℕ → Type 0) (c d : List Lit) → CubeWithin K c → CubeWithin K d → CubeWithin K (c ++ d)
cube_append K [] d v w = w
cube_append K (l ∷ ls) d v w = (v.0, cube_append K ls d v.1 w)

any_renamed : (names : List ℕ) (K : ℕ → Type 0) (x : ℕ) (c : List Lit) → Keeps names K → K x → CubeWithin K c → list_any (is_lower (get_or names x 0)) (rename_cube names c) ≡ list_any (is_lower x) c
any_renamed names K x [] k h w = refl
any_renamed names K x (l ∷ ls) k h w =
    ap₂ (λ (a b : Bool). a || b) (lower_renamed names K x l k h w.0) (any_renamed names K x ls k h w.1)

deltas_renamed : (names : List ℕ) (K : ℕ → Type 0) (x n : ℕ) (c : List Lit) → Keeps names K → K x → CubeWithin K c → partial_deltas n (rename_cube names c) (get_or names x 0) ≡ partial_deltas n c x
deltas_renamed names K x n [] k h w = refl
deltas_renamed names K x n (AtLeast f ∷ ls) k h w = deltas_renamed names K x n ls k h w.1
deltas_renamed names K x n (Above f ∷ ls) k h w = deltas_renamed names K x n ls k h w.1
deltas_renamed names K x n (Divides d f ∷ ls) k h w =
    ap (λ (z : ℤ). next_delta n d z ∷ partial_deltas (next_delta n d z) (rename_cube names ls) (get_or names x 0)) (coef_renamed names K x f.terms k h w.0)
    ∙ ap (λ (ns : List ℕ). next_delta n d (coef f.terms x) ∷ ns) (deltas_renamed names K x (next_delta n d (coef f.terms x)) ls k h w.1)
deltas_renamed names K x n (NotDivides d f ∷ ls) k h w =
    ap (λ (z : ℤ). next_delta n d z ∷ partial_deltas (next_delta n d z) (rename_cube names ls) (get_or names x 0)) (coef_renamed names K x f.terms k h w.0)
    ∙ ap (λ (ns : List ℕ). next_delta n d (coef f.terms x) ∷ ns) (deltas_renamed names K x (next_delta n d (coef f.terms x)) ls k h w.1)

delta_renamed : (names : List ℕ) (K : ℕ → Type 0) (x : ℕ) (c : List Lit) → Keeps names K → K x → CubeWithin K c → delta (rename_cube names c) (get_or names x 0) ≡ delta c x
delta_renamed names K x c k h w = ap (last_of 1) (deltas_renamed names K x 1 c k h w)

within_bound : (K : ℕ → Type 0) (x : ℕ) (l : Lit) (j : ℕ) → LitWithin K l → Within K (above_bound x l j).terms
within_bound K x l j w = within_times K (negsuc 0) (without (form_of l).terms x) (within_without K x (form_of l).terms w)

bound_renamed : (names : List ℕ) (K : ℕ → Type 0) (x : ℕ) (l : Lit) (j : ℕ) → Keeps names K → K x → LitWithin K l → above_bound (get_or names x 0) (rename_lit names l) j ≡ rename names (above_bound x l j)
bound_renamed names K x l j k h w =
    ap (λ (f : Form). plus (constant_form (pos j)) (times (negsuc 0) (rest_of f (get_or names x 0)))) (form_renamed names l)
    ∙ ap (λ (g : Form). plus (constant_form (pos j)) (times (negsuc 0) g)) (rest_renamed names K x (form_of l) k h w)
    ∙ ap (plus (constant_form (pos j))) (times_renamed names (negsuc 0) (rest_of (form_of l) x))
    ∙ plus_renamed names K (constant_form (pos j)) (times (negsuc 0) (rest_of (form_of l) x)) k tt (within_bound K x l j w)

-- the case with the divisor and the term handed in
abbrev case_with : ℕ → List Lit → List Lit → ℕ → Form → List Lit
case_with x before after a t = put_all Int x a t before ++ prim Int (Divides a t) ∷ put_all Int x a t after

case_renamed : (names : List ℕ) (K : ℕ → Type 0) (x : ℕ) (before : List Lit) (l : Lit) (after : List Lit) (j : ℕ) → Keeps names K → K x → CubeWithin K before → LitWithin K l → CubeWithin K after → lower_case (get_or names x 0) (rename_cube names before) (rename_lit names l) (rename_cube names after) j ≡ rename_cube names (lower_case x before l after j)
case_renamed names K x before l after j k h u v w =
    let a : ℕ = size_at x l in
    let t : Form = above_bound x l j in
    let i = within_bound K x l j v in
    ap₂ (λ (b : ℕ) (r : Form). case_with (get_or names x 0) (rename_cube names before) (rename_cube names after) b r) (size_renamed names K x l k h v) (bound_renamed names K x l j k h v)
    ∙ ap₂ (λ (c d : List Lit). c ++ prim Int (Divides a (rename names t)) ∷ d) (put_all_renamed names K x a t before k h i u) (put_all_renamed names K x a t after k h i w)
    ∙ ap (λ (m : Lit). rename_cube names (put_all Int x a t before) ++ m ∷ rename_cube names (put_all Int x a t after)) (prim_renamed Int names K (Divides a t) k i)
    ∙ sym (map-append (rename_lit names) (put_all Int x a t before) (prim Int (Divides a t) ∷ put_all Int x a t after))

within_case : (K : ℕ → Type 0) (x : ℕ) (before : List Lit) (l : Lit) (after : List Lit) (j : ℕ) → CubeWithin K before → LitWithin K l → CubeWithin K after → CubeWithin K (lower_case x before l after j)
within_case K x before l after j u v w =
    let a : ℕ = size_at x l in
    let t : Form = above_bound x l j in
    let i = within_bound K x l j v in
    cube_append K (put_all Int x a t before) (prim Int (Divides a t) ∷ put_all Int x a t after) (within_put_all K x a t before i u)
    (within_prim K Int (Divides a t) i, within_put_all K x a t after i w)

-- ---- all cases

abbrev pub rename_cubes : List ℕ → List (List Lit) → List (List Lit)
rename_cubes names cs = map (rename_cube names) cs

abbrev pub CubesWithin : (ℕ → Type 0) → List (List Lit) → Type 0
CubesWithin K cs = AllByRecursion (CubeWithin K) cs

each_renamed : (names : List ℕ) (f g : ℕ → List Lit) (js : List ℕ) → ((j : ℕ) → f j ≡ rename_cube names (g j)) → map f js ≡ rename_cubes names (map g js)
each_renamed names f g [] e = refl
each_renamed names f g (j ∷ js) e = ap₂ (λ (c : List Lit) (cs : List (List Lit)). c ∷ cs) (e j) (each_renamed names f g js e)

each_within : (K : ℕ → Type 0) (g : ℕ → List Lit) (js : List ℕ) → ((j : ℕ) → CubeWithin K (g j)) → CubesWithin K (map g js)
each_within K g [] e = tt
each_within K g (j ∷ js) e = (e j, each_within K g js e)

cubes_append : (K : ℕ → Type 0) (cs ds : List (List Lit)) → CubesWithin K cs → CubesWithin K ds → CubesWithin K (cs ++ ds)
cubes_append K [] ds v w = w
cubes_append K (c ∷ cs) ds v w = (v.0, cubes_append K cs ds v.1 w)

cases_renamed : (names : List ℕ) (K : ℕ → Type 0) (x n : ℕ) (before after : List Lit) → Keeps names K → K x → CubeWithin K before → CubeWithin K after → lower_cases (get_or names x 0) n (rename_cube names before) (rename_cube names after) ≡ rename_cubes names (lower_cases x n before after)
cases_renamed names K x n before [] k h u w = refl
cases_renamed names K x n before (l ∷ after) k h u w =
    let y : ℕ = get_or names x 0 in
    let here : ℕ → List Lit = lower_case y (rename_cube names before) (rename_lit names l) (rename_cube names after) in
    ap₂ (λ (b : Bool) (m : ℕ). cond b (map here (range_with_len 0 (m * n))) [] ++ lower_cases y n (rename_cube names before ++ rename_lit names l ∷ []) (rename_cube names after)) (lower_renamed names K x l k h w.0) (size_renamed names K x l k h w.0)
    ∙ ap₂ (λ (cs ds : List (List Lit)). cs ++ ds) (by (is_lower x l))
    (ap (λ (c : List Lit). lower_cases y n c (rename_cube names after)) (sym (map-append (rename_lit names) before (l ∷ [])))
    ∙ cases_renamed names K x n (before ++ l ∷ []) after k h (cube_append K before (l ∷ []) u (w.0, tt)) w.1)
    ∙ sym (map-append (rename_cube names) (cond (is_lower x l) (map (lower_case x before l after) (range_with_len 0 (size_at x l * n))) []) (lower_cases x n (before ++ l ∷ []) after))
  where
    by : (b : Bool) → cond b (map (lower_case (get_or names x 0) (rename_cube names before) (rename_lit names l) (rename_cube names after)) (range_with_len 0 (size_at x l * n))) [] ≡ rename_cubes names (cond b (map (lower_case x before l after) (range_with_len 0 (size_at x l * n))) [])
    by true =
        each_renamed names (lower_case (get_or names x 0) (rename_cube names before) (rename_lit names l) (rename_cube names after)) (lower_case x before l after) (range_with_len 0 (size_at x l * n))
        (λ j. case_renamed names K x before l after j k h u w.0 w.1)
    by false = refl

within_cases : (K : ℕ → Type 0) (x n : ℕ) (before after : List Lit) → CubeWithin K before → CubeWithin K after → CubesWithin K (lower_cases x n before after)
within_cases K x n before [] u w = tt
within_cases K x n before (l ∷ after) u w =
    cubes_append K (cond (is_lower x l) (map (lower_case x before l after) (range_with_len 0 (size_at x l * n))) []) (lower_cases x n (before ++ l ∷ []) after)
    (by (is_lower x l)) (within_cases K x n (before ++ l ∷ []) after (cube_append K before (l ∷ []) u (w.0, tt)) w.1)
  where
    by : (b : Bool) → CubesWithin K (cond b (map (lower_case x before l after) (range_with_len 0 (size_at x l * n))) [])
    by true = each_within K (lower_case x before l after) (range_with_len 0 (size_at x l * n)) (λ j. within_case K x before l after j u w.0 w.1)
    by false = tt

free_renamed : (names : List ℕ) (K : ℕ → Type 0) (x : ℕ) (c : List Lit) → Keeps names K → K x → CubeWithin K c → filter (λ l. not (is_upper (get_or names x 0) l)) (rename_cube names c) ≡ rename_cube names (filter (λ l. not (is_upper x l)) c)
free_renamed names K x [] k h w = refl
free_renamed names K x (l ∷ ls) k h w =
    ap₂ (λ (b : Bool) (ms : List Lit). cond (not b) (rename_lit names l ∷ ms) ms) (upper_renamed names K x l k h w.0) (free_renamed names K x ls k h w.1)
    ∙ by (not (is_upper x l))
  where
    by : (b : Bool) → cond b (rename_lit names l ∷ rename_cube names (filter (λ l. not (is_upper x l)) ls)) (rename_cube names (filter (λ l. not (is_upper x l)) ls)) ≡ rename_cube names (cond b (l ∷ filter (λ l. not (is_upper x l)) ls) (filter (λ l. not (is_upper x l)) ls))
    by true = refl
    by false = refl

within_free : (K : ℕ → Type 0) (x : ℕ) (c : List Lit) → CubeWithin K c → CubeWithin K (filter (λ l. not (is_upper x l)) c)
within_free K x [] w = tt
within_free K x (l ∷ ls) w = by (not (is_upper x l)) (within_free K x ls w.1)
  where
    by : (b : Bool) → CubeWithin K (filter (λ l. not (is_upper x l)) ls) → CubeWithin K (cond b (l ∷ filter (λ l. not (is_upper x l)) ls) (filter (λ l. not (is_upper x l)) ls))
    by true r = (w.0, r)
    by false r = r

free_case_renamed : (names : List ℕ) (K : ℕ → Type 0) (x : ℕ) (c : List Lit) (j : ℕ) → Keeps names K → K x → CubeWithin K c → free_case (get_or names x 0) (rename_cube names c) j ≡ rename_cube names (free_case x c j)
free_case_renamed names K x c j k h w =
    ap (put_all Int (get_or names x 0) 1 (constant_form (pos j))) (free_renamed names K x c k h w)
    ∙ put_all_renamed names K x 1 (constant_form (pos j)) (filter (λ l. not (is_upper x l)) c) k h tt (within_free K x c w)

pub cooper_renamed : (names : List ℕ) (K : ℕ → Type 0) (x : ℕ) (c : List Lit) → Keeps names K → K x → CubeWithin K c → cooper (rename_cube names c) (get_or names x 0) ≡ rename_cubes names (cooper c x)
cooper_renamed names K x c k h w =
    let y : ℕ = get_or names x 0 in
    ap₂ (λ (b : Bool) (n : ℕ). cond b (lower_cases y n [] (rename_cube names c)) (map (free_case y (rename_cube names c)) (range_with_len 0 n))) (any_renamed names K x c k h w) (delta_renamed names K x c k h w)
    ∙ by (list_any (is_lower x) c)
  where
    by : (b : Bool) → cond b (lower_cases (get_or names x 0) (delta c x) [] (rename_cube names c)) (map (free_case (get_or names x 0) (rename_cube names c)) (range_with_len 0 (delta c x))) ≡ rename_cubes names (cond b (lower_cases x (delta c x) [] c) (map (free_case x c) (range_with_len 0 (delta c x))))
    by true = cases_renamed names K x (delta c x) [] c k h tt w
    by false =
        each_renamed names (free_case (get_or names x 0) (rename_cube names c)) (free_case x c) (range_with_len 0 (delta c x)) (λ j. free_case_renamed names K x c j k h w)

pub within_cooper : (K : ℕ → Type 0) (x : ℕ) (c : List Lit) → CubeWithin K c → CubesWithin K (cooper c x)
within_cooper K x c w = by (list_any (is_lower x) c)
  where
    by : (b : Bool) → CubesWithin K (cond b (lower_cases x (delta c x) [] c) (map (free_case x c) (range_with_len 0 (delta c x))))
    by true = within_cases K x (delta c x) [] c tt w
    by false = each_within K (free_case x c) (range_with_len 0 (delta c x)) (λ j. within_put_all K x 1 (constant_form (pos j)) (filter (λ l. not (is_upper x l)) c) tt (within_free K x c w))

-- ---- the numbers

cube_numbers_renamed : (names : List ℕ) (c : List Lit) → cube_numbers (rename_cube names c) ≡ cube_numbers c
cube_numbers_renamed names [] = refl
cube_numbers_renamed names (l ∷ ls) = ap₂ (λ (xs ys : List ℤ). xs ++ ys) (numbers_renamed names l) (cube_numbers_renamed names ls)

cubes_numbers_renamed : (names : List ℕ) (cs : List (List Lit)) → flat_map cube_numbers (rename_cubes names cs) ≡ flat_map cube_numbers cs
cubes_numbers_renamed names [] = refl
cubes_numbers_renamed names (c ∷ cs) = ap₂ (λ (xs ys : List ℤ). xs ++ ys) (cube_numbers_renamed names c) (cubes_numbers_renamed names cs)

sums_renamed : (names : List ℕ) (K : ℕ → Type 0) (x n total : ℕ) (c : List Lit) → Keeps names K → K x → CubeWithin K c → count_sums (get_or names x 0) n total (rename_cube names c) ≡ count_sums x n total c
sums_renamed names K x n total [] k h w = refl
sums_renamed names K x n total (l ∷ ls) k h w =
    ap₂ (λ (b : Bool) (m : ℕ). cond b ((total + m * n) ∷ count_sums (get_or names x 0) n (total + m * n) (rename_cube names ls)) (count_sums (get_or names x 0) n total (rename_cube names ls))) (lower_renamed names K x l k h w.0) (size_renamed names K x l k h w.0)
    ∙ ap₂ (λ (ms os : List ℕ). cond (is_lower x l) ((total + size_at x l * n) ∷ ms) os) (sums_renamed names K x n (total + size_at x l * n) ls k h w.1) (sums_renamed names K x n total ls k h w.1)

pub elimination_numbers_renamed : (names : List ℕ) (K : ℕ → Type 0) (x : ℕ) (c : List Lit) → Keeps names K → K x → CubeWithin K c → elimination_numbers Int (rename_cube names c) (get_or names x 0) ≡ elimination_numbers Int c x
elimination_numbers_renamed names K x c k h w =
    let y : ℕ = get_or names x 0 in
    ap (λ (ns : List ℕ). map pos ns ++ map pos (count_sums y (last_of 1 ns) 0 (rename_cube names c)) ++ flat_map cube_numbers (cooper (rename_cube names c) y)) (deltas_renamed names K x 1 c k h w)
    ∙ ap₂ (λ (ns : List ℕ) (cs : List (List Lit)). map pos (partial_deltas 1 c x) ++ map pos ns ++ flat_map cube_numbers cs) (sums_renamed names K x (delta c x) 0 c k h w) (cooper_renamed names K x c k h w)
    ∙ ap (λ (zs : List ℤ). map pos (partial_deltas 1 c x) ++ map pos (count_sums x (delta c x) 0 c) ++ zs) (cubes_numbers_renamed names (cooper c x))
