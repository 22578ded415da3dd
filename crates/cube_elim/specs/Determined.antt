-- Elimination of all variables of a cube, the highest first, and the point that it determines, from the lowest variable up.
use Rattle.std.specs.Prelude.{ℕ, zero, suc, ◌*◌, ◌/◌, ◌%◌, ◌≡◌, ◌⊎◌, ℤ, pos, negsuc, ◌+ℤ◌, ◌-ℤ◌, ◌*ℤ◌, nat_abs, nat_lt, nat_eq, int_le, int_lt, Bool, not, if◌then◌else◌, max, Option, Some, None, List, [], ◌∷◌, ◌++◌, map, filter}
use Rattle.std.specs.List.{flat_map, list_all, list_any, range_with_len}
use Rattle.lin_term.specs.declared.Sort.{Sort}
use Rattle.lin_term.specs.declared.Sort.TheVariants.{Rat, Int}
use Rattle.lin_term.specs.declared.Lit.{Lit}
use Rattle.lin_term.specs.declared.Lit.TheVariants.{AtLeast, Above, Divides, NotDivides}
use Rattle.lin_term.specs.Fraction.{lowest_value}
use Rattle.lin_term.specs.Linear.{Point, Value, dot, extend, origin, floor_div}
use Rattle.lin_term.specs.Literal.{form_of, gcd, residue}
use Rattle.lin_term.specs.Move.{Move, move_value}
use Rattle.lin_term.specs.PutIn.{rest_of}
use Rattle.lin_term.specs.Wide.{first_past}
use Rattle.dom_core.specs.Elimination.{eliminated, elimination_numbers, size_at, is_lower, is_upper, above_bound, delta}
use Rattle.dom_core.specs.Pick.{lowers, uppers, greatest, least, moved, constant_move}
use Rattle.cube_elim.specs.Among.{IsAmong}

-- 1 above the highest variable
abbrev pub height_of_terms : List (ℕ × ℤ) → ℕ
height_of_terms [] = 0
height_of_terms (t ∷ ts) = max (suc t.0) (height_of_terms ts)

abbrev pub height : List Lit → ℕ
height [] = 0
height (l ∷ ls) = max (height_of_terms (form_of l).terms) (height ls)

-- the numbers that arise when the variables below n are taken out
abbrev pub numbers_below : ℕ → Sort → List Lit → List ℤ
numbers_below zero s c = []
numbers_below (suc x) s c = elimination_numbers s c x ++ flat_map (λ d. numbers_below x s d) (eliminated s c x)

-- ---- the truth of a cube at a point

abbrev pub holds_at : Lit → Point → Bool
holds_at (AtLeast f) p = int_le (pos 0) (dot f p)
holds_at (Above f) p = int_lt (pos 0) (dot f p)
holds_at (Divides d f) p = nat_eq (nat_abs (dot f p) % (d * p.den)) 0
holds_at (NotDivides d f) p = not (nat_eq (nat_abs (dot f p) % (d * p.den)) 0)

abbrev pub all_hold_at : List Lit → Point → Bool
all_hold_at c p = list_all (λ l. holds_at l p) c

-- ---- the next value in Rat

abbrev pub whole : ℤ → Value
whole z = record { num = z; den = 1 }

-- the whole numbers beside a bound
abbrev pub beside : Point → Move → List ℤ
beside p m =
    let z = floor_div (dot m.numer p) (m.div * p.den) in
    (z -ℤ pos 1) ∷ z ∷ (z +ℤ pos 1) ∷ []

abbrev pub nearest_with : ℤ → List ℤ → ℤ
nearest_with z [] = z
nearest_with z (y ∷ ys) = nearest_with (if nat_lt (nat_abs y) (nat_abs z) then y else z) ys

-- the one nearest to 0
abbrev pub nearest : List ℤ → Option ℤ
nearest [] = None
nearest (z ∷ zs) = Some (nearest_with z zs)

-- the whole number nearest to 0 that makes the cube true as the next value
abbrev pub nearest_whole : ℕ → List Lit → Point → Option ℤ
nearest_whole x c p =
    nearest (filter (λ z. all_hold_at c (extend p (whole z))) (pos 0 ∷ flat_map (beside p) (lowers Rat x c ++ uppers x c)))

abbrev pub middle_value : Value → Value → Value
middle_value v w = lowest_value (record { num = v.num *ℤ pos w.den +ℤ w.num *ℤ pos v.den; den = 2 * (v.den * w.den) })

-- two bounds and their middle; where a bound is missing, which leaves room for a whole number, the value that a pick takes
abbrev pub middle_of : Point → Option Move → Option Move → List Value
middle_of p (Some m) (Some n) =
    let v = lowest_value (move_value Rat m p) in
    let w = lowest_value (move_value Rat n p) in
    v ∷ w ∷ middle_value v w ∷ []
middle_of p (Some m) None = lowest_value (move_value Rat (moved m (pos 1)) p) ∷ []
middle_of p None (Some n) = lowest_value (move_value Rat (moved n (negsuc 0)) p) ∷ []
middle_of p None None = lowest_value (move_value Rat (constant_move (pos 0)) p) ∷ []

-- the value alone, or two bounds before their middle
abbrev pub values_by : ℕ → List Lit → Point → Option ℤ → List Value
values_by x c p (Some z) = whole z ∷ []
values_by x c p None = middle_of p (greatest Rat p (lowers Rat x c)) (least Rat p (uppers x c))

abbrev pub rat_values : ℕ → List Lit → Point → List Value
rat_values x c p = values_by x c p (nearest_whole x c p)

-- ---- the next value in Int

-- (k - l)/a, where the lower literal is a*x + l >= 0
abbrev pub lower_value : ℕ → Lit → ℕ → Point → ℤ
lower_value x l k p = floor_div (dot (above_bound x l k) p) (size_at x l)

-- for each lower literal in order, k from 0 to a*n - 1
abbrev pub lower_values : ℕ → ℕ → List Lit → List (Point → ℤ)
lower_values x n [] = []
lower_values x n (l ∷ ls) =
    (if is_lower x l then map (lower_value x l) (range_with_len 0 (size_at x l * n)) else []) ++ lower_values x n ls

-- u/b rounded down, where the upper literal is -b*x + u >= 0
abbrev pub upper_value : ℕ → Lit → Point → ℤ
upper_value x l p = floor_div (dot (rest_of (form_of l) x) p) (size_at x l)

abbrev pub lesser : ℤ → Option ℤ → ℤ
lesser z None = z
lesser z (Some w) = if int_le z w then z else w

abbrev pub lesser_upper : ℕ → Lit → Point → Option ℤ → Option ℤ
lesser_upper x l p best = if is_upper x l then Some (lesser (upper_value x l p) best) else best

-- the least of the values of the upper literals
abbrev pub least_upper : ℕ → Option ℤ → List Lit → Point → Option ℤ
least_upper x best [] p = best
least_upper x best (l ∷ ls) p = least_upper x (lesser_upper x l p best) ls p

-- the greatest number up to the bound with the residue k, and k where there is no bound
abbrev pub up_to : ℕ → ℕ → Option ℤ → ℤ
up_to d k None = pos k
up_to d k (Some z) = z -ℤ pos (residue (z -ℤ pos k) d)

abbrev pub free_value : ℕ → List Lit → ℕ → Point → ℤ
free_value x c k p = up_to (delta c x) k (least_upper x None c p)

-- the value in each case of the elimination, in order
abbrev pub case_values : ℕ → List Lit → List (Point → ℤ)
case_values x c =
    if list_any (is_lower x) c then lower_values x (delta c x) c
    else map (free_value x c) (range_with_len 0 (delta c x))

-- ---- the point

-- a point, and the numbers of it that were formed
pub record Determined : Type 0 where
  pub point : Point
  pub numbers : List ℤ

abbrev pub last_value : Value → List Value → Value
last_value v [] = v
last_value v (w ∷ ws) = last_value w ws

-- one more value, over the least common denominator
abbrev pub with_value : Point → Value → Point
with_value p v =
    let d = p.den * (v.den / gcd p.den v.den) in
    record { den = d; nums = map (λ z. z *ℤ pos (d / p.den)) p.nums ++ (v.num *ℤ pos (d / v.den)) ∷ [] }

-- the last of the values is the next of the point
abbrev pub with_values : Determined → List Value → Determined
with_values d vs =
    let p = with_value d.point (last_value (whole (pos 0)) vs) in
    record { point = p; numbers = d.numbers ++ (flat_map (λ v. v.num ∷ pos v.den ∷ []) vs ++ pos p.den ∷ p.nums) }

-- the first case that has a point
abbrev pub first_case : List (Point → ℤ) → List (Option Determined) → Option Determined
first_case [] ds = None
first_case (f ∷ fs) [] = None
first_case (f ∷ fs) (Some d ∷ ds) = Some (with_values d (whole (f d.point) ∷ []))
first_case (f ∷ fs) (None ∷ ds) = first_case fs ds

abbrev pub start : Determined
start = record { point = origin; numbers = [] }

-- the one cube's point, and the next value
abbrev pub next_rat : ℕ → List Lit → List (Option Determined) → Option Determined
next_rat x c [] = None
next_rat x c (None ∷ ds) = None
next_rat x c (Some d ∷ ds) = Some (with_values d (rat_values x c d.point))

-- the point of the variables below n
abbrev pub determined : ℕ → Sort → List Lit → Option Determined
determined zero s c = if all_hold_at c origin then Some start else None
determined (suc x) Rat c = next_rat x c (map (λ d. determined x Rat d) (eliminated Rat c x))
determined (suc x) Int c = first_case (case_values x c) (map (λ d. determined x Int d) (eliminated Int c x))

abbrev pub point_numbers : Option Determined → List ℤ
point_numbers None = []
point_numbers (Some d) = d.numbers

-- ---- wide cubes

-- past the cap
abbrev pub IsPast : ℤ → Type 0
IsPast z = first_past (z ∷ []) ≡ Some z

-- past the cap, and a number of the elimination of the variables below n, or the first such of the point that it determines
abbrev pub WideBelow : ℕ → Sort → List Lit → ℤ → Type 0
WideBelow n s c z =
    (IsAmong z (numbers_below n s c) × IsPast z) ⊎ (first_past (point_numbers (determined n s c)) ≡ Some z)

-- the same of all variables of the cube
abbrev pub WideAt : Sort → List Lit → ℤ → Type 0
WideAt s c z = WideBelow (height c) s c z
