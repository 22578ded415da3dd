-- The bounds that literals set for a variable at a point, as a loop meets them.
use Rattle.std.specs.Prelude.{◌≡◌, ◌≤◌, ◌≤ℤ◌, ◌^◌, ℕ, ℤ, pos, nat_abs, true, if◌then◌else◌, Option, Some, None, List, ⊤}
use Rattle.lin_term.specs.declared.Sort.{Sort}
use Rattle.lin_term.specs.declared.Sort.TheVariants.{Rat, Int}
use Rattle.lin_term.specs.declared.Lit.{Lit}
use Rattle.lin_term.specs.Form.{cap}
use Rattle.lin_term.specs.Linear.{Point, Value, dot, floor_div}
use Rattle.lin_term.specs.Move.{Move}
use Rattle.dom_core.specs.Elimination.{size_at, is_lower, is_upper, above_bound}
use Rattle.dom_core.specs.Pick.{lower_bound, upper_bound, greatest, greatest_with, least, least_with, is_less, moved}
use Rattle.dom_core.specs.declared.bound.Bound.{Bound}

-- the move's value times the point's denominator
abbrev pub scaled_value : Sort → Move → Point → Value
scaled_value Rat m p = record { num = dot m.numer p; den = m.div }
scaled_value Int m p = record { num = floor_div (dot m.numer p) m.div; den = 1 }

-- num/div is that value; div is from 1 to the cap, num of at most 2^126
abbrev pub IsScaled : Sort → Move → Point → ℤ → ℤ → Type 0
IsScaled s m p num div = (num ≡ (scaled_value s m p).num) × (div ≡ pos (scaled_value s m p).den) × (pos 1 ≤ℤ div) × (nat_abs div ≤ cap) × (nat_abs num ≤ 2 ^ 126)

abbrev pub value_with : ℤ → ℕ → Value
value_with n d = record { num = n; den = d }

-- the bound's value
abbrev pub value_of_bound : Bound → Value
value_of_bound b = value_with b.num (nat_abs b.div)

-- the second bound where it is greater than the first
abbrev pub greater_of : Bound → Bound → Bound
greater_of old next = if is_less (value_of_bound old) (value_of_bound next) then next else old

-- the second bound where it is less than the first
abbrev pub lesser_of : Bound → Bound → Bound
lesser_of old next = if is_less (value_of_bound next) (value_of_bound old) then next else old

abbrev pub lower_of : Sort → ℕ → Bound → Move
lower_of s x b = lower_bound s x b.lit.now

abbrev pub upper_of : ℕ → Bound → Move
upper_of x b = upper_bound x b.lit.now

-- a lower literal, with its bound's value
abbrev pub IsLowerBound : Sort → ℕ → Point → Option Bound → Type 0
IsLowerBound s x p None = ⊤
IsLowerBound s x p (Some b) = (is_lower x b.lit.now ≡ true) × IsScaled s (lower_of s x b) p b.num b.div

abbrev pub IsUpperBound : Sort → ℕ → Point → Option Bound → Type 0
IsUpperBound s x p None = ⊤
IsUpperBound s x p (Some b) = (is_upper x b.lit.now ≡ true) × IsScaled s (upper_of x b) p b.num b.div

-- the first of those with the greatest value, of what was found before and the list
abbrev pub greatest_from : Sort → Point → Option Move → List Move → Option Move
greatest_from s p None ms = greatest s p ms
greatest_from s p (Some m) ms = Some (greatest_with s p m ms)

abbrev pub least_from : Sort → Point → Option Move → List Move → Option Move
least_from s p None ms = least s p ms
least_from s p (Some m) ms = Some (least_with s p m ms)

-- (k - l)/a and z more, where the literal is a*x + l
abbrev pub shifted_lower : ℕ → Lit → ℕ → ℤ → Move
shifted_lower x l k z = moved (record { numer = above_bound x l k; div = size_at x l }) z

-- u/b and z more, where the literal is -b*x + u
abbrev pub shifted_upper : ℕ → Lit → ℤ → Move
shifted_upper x l z = moved (upper_bound x l) z
