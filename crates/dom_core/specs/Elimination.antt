-- One variable x taken out of a cube: over the rationals by Fourier and Motzkin, over the integers by Cooper 1972.
use Rattle.std.specs.Prelude.{ℕ, zero, suc, ◌+◌, ◌*◌, ◌/◌, ℤ, pos, negsuc, nat_abs, Bool, true, false, not, if◌then◌else◌, List, [], ◌∷◌, ◌++◌, map, filter}
use Rattle.std.specs.List.{flat_map, list_any, range_with_len}
use Rattle.lin_term.specs.declared.Sort.{Sort}
use Rattle.lin_term.specs.declared.Sort.TheVariants.{Rat, Int}
use Rattle.lin_term.specs.declared.Lit.{Lit}
use Rattle.lin_term.specs.declared.Lit.TheVariants.{AtLeast, Above, Divides, NotDivides}
use Rattle.lin_term.specs.Linear.{Form, plus, times, constant_form}
use Rattle.lin_term.specs.Literal.{form_of, gcd, prim}
use Rattle.lin_term.specs.PutIn.{coef, rest_of, put_lit}
use Rattle.lin_term.specs.Sum.{sum_of}
use Rattle.lin_term.specs.Wide.{lit_numbers}

abbrev pub coef_at : ℕ → Lit → ℤ
coef_at x l = coef (form_of l).terms x

abbrev pub size_at : ℕ → Lit → ℕ
size_at x l = nat_abs (coef_at x l)

abbrev pub is_positive : ℤ → Bool
is_positive (pos zero) = false
is_positive (pos (suc n)) = true
is_positive (negsuc n) = false

abbrev pub is_negative : ℤ → Bool
is_negative (pos n) = false
is_negative (negsuc n) = true

abbrev pub is_zero : ℤ → Bool
is_zero (pos zero) = true
is_zero (pos (suc n)) = false
is_zero (negsuc n) = false

-- an inequality that bounds x from below
abbrev pub is_lower : ℕ → Lit → Bool
is_lower x (AtLeast f) = is_positive (coef f.terms x)
is_lower x (Above f) = is_positive (coef f.terms x)
is_lower x (Divides d f) = false
is_lower x (NotDivides d f) = false

-- an inequality that bounds x from above
abbrev pub is_upper : ℕ → Lit → Bool
is_upper x (AtLeast f) = is_negative (coef f.terms x)
is_upper x (Above f) = is_negative (coef f.terms x)
is_upper x (Divides d f) = false
is_upper x (NotDivides d f) = false

abbrev pub is_free : ℕ → Lit → Bool
is_free x l = is_zero (coef_at x l)

-- ---- Rat

-- the sum of a lower and an upper literal by the least positive multipliers that cancel x
abbrev pub resolvent : ℕ → Lit → Lit → Lit
resolvent x l u =
    let g = gcd (size_at x l) (size_at x u) in
    prim Rat (sum_of (pos (size_at x u / g)) l (pos (size_at x l / g)) u)

-- the literals without x, and each lower one with each upper one
abbrev pub fourier_motzkin : List Lit → ℕ → List Lit
fourier_motzkin c x =
    filter (is_free x) c ++ flat_map (λ l. map (λ u. resolvent x l u) (filter (is_upper x) c)) (filter (is_lower x) c)

-- ---- Int

-- the least common multiple of n and d / gcd(d, b)
abbrev pub next_delta : ℕ → ℕ → ℤ → ℕ
next_delta n d b = let m = d / gcd d (nat_abs b) in n * (m / gcd n m)

-- for the first divisibility, for the first two, and so on: the least number n with d | b*n for each b*x + r by d
abbrev pub partial_deltas : ℕ → List Lit → ℕ → List ℕ
partial_deltas n [] x = []
partial_deltas n (AtLeast f ∷ ls) x = partial_deltas n ls x
partial_deltas n (Above f ∷ ls) x = partial_deltas n ls x
partial_deltas n (Divides d f ∷ ls) x =
    next_delta n d (coef f.terms x) ∷ partial_deltas (next_delta n d (coef f.terms x)) ls x
partial_deltas n (NotDivides d f ∷ ls) x =
    next_delta n d (coef f.terms x) ∷ partial_deltas (next_delta n d (coef f.terms x)) ls x

abbrev pub last_of : ℕ → List ℕ → ℕ
last_of n [] = n
last_of n (m ∷ ms) = last_of m ms

-- the period of the divisibilities
abbrev pub delta : List Lit → ℕ → ℕ
delta c x = last_of 1 (partial_deltas 1 c x)

-- t/a put in for x in each literal
abbrev pub put_all : Sort → ℕ → ℕ → Form → List Lit → List Lit
put_all s x a t c = map (λ l. put_lit s x a t l) c

-- k - l, where the lower literal is a*x + l >= 0
abbrev pub above_bound : ℕ → Lit → ℕ → Form
above_bound x l k = plus (constant_form (pos k)) (times (negsuc 0) (rest_of (form_of l) x))

-- a*x + l = k: (k - l)/a is put in, and the lower literal itself becomes a | k - l
abbrev pub lower_case : ℕ → List Lit → Lit → List Lit → ℕ → List Lit
lower_case x before l after k =
    let a = size_at x l in
    let t = above_bound x l k in
    put_all Int x a t before ++ prim Int (Divides a t) ∷ put_all Int x a t after

-- for each lower literal in order, k from 0 to a*n - 1
abbrev pub lower_cases : ℕ → ℕ → List Lit → List Lit → List (List Lit)
lower_cases x n before [] = []
lower_cases x n before (l ∷ after) =
    (if is_lower x l then map (lower_case x before l after) (range_with_len 0 (size_at x l * n)) else [])
    ++ lower_cases x n (before ++ l ∷ []) after

-- x = k far below: no upper literal is left
abbrev pub free_case : ℕ → List Lit → ℕ → List Lit
free_case x c k = put_all Int x 1 (constant_form (pos k)) (filter (λ l. not (is_upper x l)) c)

abbrev pub cooper : List Lit → ℕ → List (List Lit)
cooper c x =
    if list_any (is_lower x) c then lower_cases x (delta c x) [] c
    else map (free_case x c) (range_with_len 0 (delta c x))

-- ---- both

-- the cubes of which one has a solution exactly where the cube has one
abbrev pub eliminated : Sort → List Lit → ℕ → List (List Lit)
eliminated Rat c x = fourier_motzkin c x ∷ []
eliminated Int c x = cooper c x

-- the partial sums of the counts a*n of the lower literals
abbrev pub count_sums : ℕ → ℕ → ℕ → List Lit → List ℕ
count_sums x n total [] = []
count_sums x n total (l ∷ ls) =
    if is_lower x l then (total + size_at x l * n) ∷ count_sums x n (total + size_at x l * n) ls
    else count_sums x n total ls

abbrev pub cube_numbers : List Lit → List ℤ
cube_numbers c = flat_map lit_numbers c

-- the numbers in the order in which they are formed
abbrev pub elimination_numbers : Sort → List Lit → ℕ → List ℤ
elimination_numbers Rat c x = cube_numbers (fourier_motzkin c x)
elimination_numbers Int c x =
    map pos (partial_deltas 1 c x) ++ map pos (count_sums x (delta c x) 0 c) ++ flat_map cube_numbers (cooper c x)
