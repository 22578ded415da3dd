-- The next value over the rationals, by the bounds of the lower and the upper literals at a point that has 0 for the variable.
use Rattle.std.specs.Prelude.{ℕ, ◌*◌, ℤ, pos, ◌+ℤ◌, ◌-ℤ◌, ◌*ℤ◌, neg_ℤ, int_le, int_lt, Bool, ◌&&◌, true, if◌then◌else◌, Option, Some, None, List, [], ◌∷◌, ◌++◌}
use Rattle.std.specs.List.{flat_map}
use Rattle.lin_term.specs.declared.Lit.{Lit}
use Rattle.lin_term.specs.Fraction.{lowest_value, value_numbers}
use Rattle.lin_term.specs.Linear.{Point, Value, dot, floor_div}
use Rattle.lin_term.specs.Literal.{form_of}
use Rattle.lin_term.specs.Sum.{is_strict}
use Rattle.dom_core.specs.Elimination.{size_at}
use Rattle.cube_elim.specs.declared.bound.Bound.{Bound}
use Rattle.cube_elim.specs.Determined.{whole, middle_value, lesser}

-- ---- whole numbers

-- the least one that a lower literal allows
abbrev pub least_whole : ℕ → Point → Lit → ℤ
least_whole x t l =
    if is_strict l then floor_div (neg_ℤ (dot (form_of l) t)) (size_at x l * t.den) +ℤ pos 1
    else neg_ℤ (floor_div (dot (form_of l) t) (size_at x l * t.den))

-- the greatest one that an upper literal allows
abbrev pub greatest_whole : ℕ → Point → Lit → ℤ
greatest_whole x t l =
    if is_strict l then neg_ℤ (floor_div (neg_ℤ (dot (form_of l) t)) (size_at x l * t.den)) -ℤ pos 1
    else floor_div (dot (form_of l) t) (size_at x l * t.den)

abbrev pub greater : ℤ → Option ℤ → ℤ
greater z None = z
greater z (Some w) = if int_le w z then z else w

-- the least one that all lower literals allow
abbrev pub from_below : ℕ → Point → Option ℤ → List Lit → Option ℤ
from_below x t best [] = best
from_below x t best (l ∷ ls) = from_below x t (Some (greater (least_whole x t l) best)) ls

-- the greatest one that all upper literals allow
abbrev pub from_above : ℕ → Point → Option ℤ → List Lit → Option ℤ
from_above x t best [] = best
from_above x t best (l ∷ ls) = from_above x t (Some (lesser (greatest_whole x t l) best)) ls

abbrev pub is_above : Option ℤ → ℤ → Bool
is_above None z = true
is_above (Some a) z = int_le a z

abbrev pub is_below : Option ℤ → ℤ → Bool
is_below None z = true
is_below (Some b) z = int_le z b

-- the one nearest to 0 from a on
abbrev pub nearest_from : Option ℤ → ℤ
nearest_from None = pos 0
nearest_from (Some a) = if int_le a (pos 0) then pos 0 else a

-- the one nearest to z up to b
abbrev pub nearest_up_to : Option ℤ → ℤ → ℤ
nearest_up_to None z = z
nearest_up_to (Some b) z = if int_le z b then z else b

-- the one nearest to 0 between the two
abbrev pub nearest_between : Option ℤ → Option ℤ → Option ℤ
nearest_between low high =
    let z = nearest_up_to high (nearest_from low) in
    if is_above low z then Some z else None

-- ---- bounds

abbrev pub lower_seen : ℕ → Point → Lit → Bound
lower_seen x t l = record { num = neg_ℤ (dot (form_of l) t); div = size_at x l }

abbrev pub upper_seen : ℕ → Point → Lit → Bound
upper_seen x t l = record { num = dot (form_of l) t; div = size_at x l }

abbrev pub is_lesser : Bound → Bound → Bool
is_lesser b c = int_lt (b.num *ℤ pos c.div) (c.num *ℤ pos b.div)

-- the first of those with the greatest value
abbrev pub highest : ℕ → Point → Bound → List Lit → Bound
highest x t b [] = b
highest x t b (l ∷ ls) = highest x t (if is_lesser b (lower_seen x t l) then lower_seen x t l else b) ls

-- the first of those with the least value
abbrev pub lowest_bound : ℕ → Point → Bound → List Lit → Bound
lowest_bound x t b [] = b
lowest_bound x t b (l ∷ ls) = lowest_bound x t (if is_lesser (upper_seen x t l) b then upper_seen x t l else b) ls

abbrev pub first_seen : ℕ → Point → List Lit → Bound
first_seen x t [] = record { num = pos 0; div = 1 }
first_seen x t (l ∷ ls) = lower_seen x t l

abbrev pub first_upper : ℕ → Point → List Lit → Bound
first_upper x t [] = record { num = pos 0; div = 1 }
first_upper x t (l ∷ ls) = upper_seen x t l

-- in lowest terms, where the numbers are over the point's denominator
abbrev pub bound_value : Bound → ℕ → Value
bound_value b d = lowest_value (record { num = b.num; den = b.div * d })

-- two bounds and their middle
abbrev pub middle_values : Bound → Bound → ℕ → List Value
middle_values b c d =
    bound_value b d ∷ bound_value c d ∷ middle_value (bound_value b d) (bound_value c d) ∷ []

-- ---- the next value

abbrev pub values_between : ℕ → Point → List Lit → List Lit → Option ℤ → List Value
values_between x t ls us (Some z) = whole z ∷ []
values_between x t ls us None =
    middle_values (highest x t (first_seen x t ls) ls) (lowest_bound x t (first_upper x t us) us) t.den

-- the value alone, or two bounds before their middle
abbrev pub bounded_values : ℕ → Point → List Lit → List Lit → List Value
bounded_values x t ls us = values_between x t ls us (nearest_between (from_below x t None ls) (from_above x t None us))

-- the numerator of each before its denominator
abbrev pub numbers_of : List Value → List ℤ
numbers_of vs = flat_map value_numbers vs
