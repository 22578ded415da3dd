-- The next value by the bounds is that of the point that the cube determines.
use Rattle.std.specs.Prelude.{ℕ, ◌*◌, ◌≤◌, ◌≡◌, ℤ, pos, ◌*ℤ◌, neg_ℤ, int_lt, int_le, Bool, true, false, cond, Option, Some, None, List, [], ◌∷◌, length, map, filter}
use Rattle.std.proofs.Common.{arith, ap, ap₂, ◌∙◌, sym, subst, refl}
use Rattle.std.proofs.lemmas.Int.{ints}
use Rattle.lin_term.specs.declared.Sort.TheVariants.{Rat}
use Rattle.lin_term.specs.declared.Lit.{Lit}
use Rattle.lin_term.specs.Linear.{Point, Value, dot}
use Rattle.lin_term.specs.Literal.{form_of}
use Rattle.lin_term.specs.Move.{Move, move_value}
use Rattle.lin_term.proofs.Ring.{mul_assoc_ℤ}
use Rattle.dom_core.specs.Cube.{CubeHolds, IsCube}
use Rattle.dom_core.specs.Elimination.{size_at, is_lower, is_upper, is_free}
use Rattle.dom_core.specs.Pick.{lower_bound, upper_bound, lowers, uppers, is_less, greatest_with, greatest, least_with, least}
use Rattle.cube_elim.specs.declared.bound.Bound.{Bound}
use Rattle.cube_elim.specs.Determined.{middle_of, nearest_whole, values_by, rat_values}
use Rattle.cube_elim.specs.Values.{with_zeros}
use Rattle.cube_elim.specs.Between.{from_below, from_above, nearest_between, nearest_from, nearest_up_to, is_above, lower_seen, upper_seen, is_lesser, highest, lowest_bound, first_seen, first_upper, middle_values, values_between, bounded_values, least_whole, greatest_whole, greater}
use Rattle.cube_elim.specs.Determined.{lesser}
use Rattle.cube_elim.proofs.Orders.{le_true}
use Rattle.cube_elim.proofs.WholeBounds.{trial_rest, scaled_lt_is}
use Rattle.cube_elim.proofs.Nearest.{bound_dot, whole_between}

-- a bound that is seen as a move
abbrev seen : Point → Move → Bound
seen p m = record { num = dot m.numer p; div = m.div }

abbrev bound_with : ℕ → ℤ → Bound
bound_with d z = record { num = z; div = d }

lower_is : (x : ℕ) (p : Point) (l : Lit) → length p.nums ≡ x → lower_seen x (with_zeros p 1) l ≡ seen p (lower_bound Rat x l)
lower_is x p l n = ap (bound_with (size_at x l)) (sym (bound_dot x l p n))

upper_is : (x : ℕ) (p : Point) (l : Lit) → length p.nums ≡ x → upper_seen x (with_zeros p 1) l ≡ seen p (upper_bound x l)
upper_is x p l n = ap (bound_with (size_at x l)) (trial_rest (form_of l) x p n)

pos_times : (a b : ℕ) → pos (a * b) ≡ pos a *ℤ pos b
pos_times a b = omega (arith, ints)

spread : (z : ℤ) (a E : ℕ) → z *ℤ pos (a * E) ≡ (z *ℤ pos a) *ℤ pos E
spread z a E = ap (λ (y : ℤ). z *ℤ y) (pos_times a E) ∙ sym (mul_assoc_ℤ z (pos a) (pos E))

less_is : (p : Point) (m n : Move) → 1 ≤ p.den → is_less (move_value Rat m p) (move_value Rat n p) ≡ is_lesser (seen p m) (seen p n)
less_is p m n o =
    ap₂ (λ (y z : ℤ). int_lt y z) (spread (dot m.numer p) n.div p.den) (spread (dot n.numer p) m.div p.den)
    ∙ scaled_lt_is (dot m.numer p *ℤ pos n.div) (dot n.numer p *ℤ pos m.div) p.den o

seen_of : (p : Point) (b : Bool) (m n : Move) → cond b (seen p n) (seen p m) ≡ seen p (cond b n m)
seen_of p true m n = refl
seen_of p false m n = refl

highest_is : (x : ℕ) (p : Point) (m : Move) (ls : List Lit) → 1 ≤ p.den → length p.nums ≡ x → highest x (with_zeros p 1) (seen p m) ls ≡ seen p (greatest_with Rat p m (map (lower_bound Rat x) ls))
highest_is x p m [] o n = refl
highest_is x p m (l ∷ ls) o n =
    let k = lower_bound Rat x l in
    ap (λ (b : Bound). highest x (with_zeros p 1) (cond (is_lesser (seen p m) b) b (seen p m)) ls) (lower_is x p l n)
    ∙ ap (λ (t : Bool). highest x (with_zeros p 1) (cond t (seen p k) (seen p m)) ls) (sym (less_is p m k o))
    ∙ ap (λ (b : Bound). highest x (with_zeros p 1) b ls) (seen_of p (is_less (move_value Rat m p) (move_value Rat k p)) m k)
    ∙ highest_is x p (cond (is_less (move_value Rat m p) (move_value Rat k p)) k m) ls o n

lowest_is : (x : ℕ) (p : Point) (m : Move) (ls : List Lit) → 1 ≤ p.den → length p.nums ≡ x → lowest_bound x (with_zeros p 1) (seen p m) ls ≡ seen p (least_with Rat p m (map (upper_bound x) ls))
lowest_is x p m [] o n = refl
lowest_is x p m (l ∷ ls) o n =
    let k = upper_bound x l in
    ap (λ (b : Bound). lowest_bound x (with_zeros p 1) (cond (is_lesser b (seen p m)) b (seen p m)) ls) (upper_is x p l n)
    ∙ ap (λ (t : Bool). lowest_bound x (with_zeros p 1) (cond t (seen p k) (seen p m)) ls) (sym (less_is p k m o))
    ∙ ap (λ (b : Bound). lowest_bound x (with_zeros p 1) b ls) (seen_of p (is_less (move_value Rat k p) (move_value Rat m p)) m k)
    ∙ lowest_is x p (cond (is_less (move_value Rat k p) (move_value Rat m p)) k m) ls o n

same_twice : (t : Bool) (b : Bound) → cond t b b ≡ b
same_twice true b = refl
same_twice false b = refl

from_some : (x : ℕ) (t : Point) (a : ℤ) (ls : List Lit) → from_below x t (Some a) ls ≡ None → ⊥
from_some x t a [] e = cc
from_some x t a (l ∷ ls) e = from_some x t (greater (least_whole x t l) (Some a)) ls e

above_some : (x : ℕ) (t : Point) (a : ℤ) (ls : List Lit) → from_above x t (Some a) ls ≡ None → ⊥
above_some x t a [] e = cc
above_some x t a (l ∷ ls) e = above_some x t (lesser (greatest_whole x t l) (Some a)) ls e

not_none : (z : ℤ) → Some z ≡ None → ⊥
not_none z e = cc

-- where no whole number is left, there is a bound on each side
pub low_needed : (high : Option ℤ) → nearest_between None high ≡ None → ⊥
low_needed high e = not_none (nearest_up_to high (pos 0)) e

le_cond : (a : ℤ) → cond (int_le a (cond (int_le a (pos 0)) (pos 0) a)) (Some (cond (int_le a (pos 0)) (pos 0) a)) None ≡ None → ⊥
le_cond a e = by (int_le a (pos 0)) refl e
  where
    by : (t : Bool) → int_le a (pos 0) ≡ t → cond (int_le a (cond t (pos 0) a)) (Some (cond t (pos 0) a)) None ≡ None → ⊥
    by true q e = not_none (pos 0) (ap (λ (s : Bool). cond s (Some (pos 0)) None) (sym q) ∙ e)
    by false q e = not_none a (ap (λ (s : Bool). cond s (Some a) None) (sym (le_true a a (omega (arith, ints)))) ∙ e)

pub high_needed : (low : Option ℤ) → nearest_between low None ≡ None → ⊥
high_needed None e = not_none (pos 0) e
high_needed (Some a) e = le_cond a e

pub lowers_needed : (x : ℕ) (t : Point) (ls us : List Lit) → nearest_between (from_below x t None ls) (from_above x t None us) ≡ None → 1 ≤ length ls
lowers_needed x t [] us e = absurd (low_needed (from_above x t None us) e)
lowers_needed x t (l ∷ ls) us e = omega arith

pub uppers_needed : (x : ℕ) (t : Point) (ls us : List Lit) → nearest_between (from_below x t None ls) (from_above x t None us) ≡ None → 1 ≤ length us
uppers_needed x t ls [] e = absurd (high_needed (from_below x t None ls) e)
uppers_needed x t ls (l ∷ us) e = omega arith

middles : (x : ℕ) (p : Point) (ls us : List Lit) → 1 ≤ p.den → length p.nums ≡ x → 1 ≤ length ls → 1 ≤ length us → middle_values (highest x (with_zeros p 1) (first_seen x (with_zeros p 1) ls) ls) (lowest_bound x (with_zeros p 1) (first_upper x (with_zeros p 1) us) us) p.den ≡ middle_of p (greatest Rat p (map (lower_bound Rat x) ls)) (least Rat p (map (upper_bound x) us))
middles x p [] us o n h k = absurd (omega arith)
middles x p (l ∷ ls) [] o n h k = absurd (omega arith)
middles x p (l ∷ ls) (u ∷ us) o n h k =
    let t = with_zeros p 1 in
    ap₂ (λ (b c : Bound). middle_values b c p.den)
    (ap (λ (b : Bound). highest x t b ls) (same_twice (is_lesser (lower_seen x t l) (lower_seen x t l)) (lower_seen x t l) ∙ lower_is x p l n) ∙ highest_is x p (lower_bound Rat x l) ls o n)
    (ap (λ (b : Bound). lowest_bound x t b us) (same_twice (is_lesser (upper_seen x t u) (upper_seen x t u)) (upper_seen x t u) ∙ upper_is x p u n) ∙ lowest_is x p (upper_bound x u) us o n)

pub values_are : (x : ℕ) (c : List Lit) (p : Point) → 1 ≤ p.den → length p.nums ≡ x → IsCube Rat c → CubeHolds (filter (is_free x) c) p → bounded_values x (with_zeros p 1) (filter (is_lower x) c) (filter (is_upper x) c) ≡ rat_values x c p
values_are x c p o n i h =
    by (nearest_between (from_below x (with_zeros p 1) None (filter (is_lower x) c)) (from_above x (with_zeros p 1) None (filter (is_upper x) c))) refl
    ∙ ap (values_by x c p) (sym (whole_between x c p o n i h))
  where
    by : (r : Option ℤ) → nearest_between (from_below x (with_zeros p 1) None (filter (is_lower x) c)) (from_above x (with_zeros p 1) None (filter (is_upper x) c)) ≡ r → values_between x (with_zeros p 1) (filter (is_lower x) c) (filter (is_upper x) c) r ≡ values_by x c p r
    by (Some z) e = refl
    by None e =
        middles x p (filter (is_lower x) c) (filter (is_upper x) c) o n
        (lowers_needed x (with_zeros p 1) (filter (is_lower x) c) (filter (is_upper x) c) e)
        (uppers_needed x (with_zeros p 1) (filter (is_lower x) c) (filter (is_upper x) c) e)
