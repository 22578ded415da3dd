-- The limits of the numbers of a line, as a file writes them.
use Rattle.std.specs.Prelude.{ℕ, ◌^◌, ◌<◌, ◌≤◌, ℤ, nat_abs, Bool, true, ◌&&◌, nat_le, is_none, length}
use Rattle.std.specs.List.{AllByRecursion, list_all}
use Rattle.lin_term.specs.declared.Lit.{Lit}
use Rattle.lin_term.specs.declared.Lit.TheVariants.{AtLeast, Above, Divides, NotDivides}
use Rattle.lin_term.specs.Form.{cap, IsRow}
use Rattle.lin_term.specs.Literal.{form_of}
use Rattle.lin_term.specs.Wide.{fits, first_past, lit_numbers}
use Rattle.cube_rules.specs.declared.step.Step.{Step}
use Rattle.cube_rules.specs.declared.step.Step.TheVariants.{Path, Def, Part, Cases, Sum, Split, Cube, Least, Learn, False}

-- the number of a path, a node or a fact, or the place of a part: 32 bits
abbrev pub IsIndex : ℕ → Type 0
IsIndex n = n < 2 ^ 32

-- a count or a modulus, from low to the cap
abbrev pub IsCount : ℕ → ℕ → Type 0
IsCount low n = (low ≤ n) × (n ≤ cap)

-- a multiplier of a sum
abbrev pub IsMultiplier : ℤ → Type 0
IsMultiplier z = nat_abs z ≤ cap

-- the greatest size of the divisor of a sum
abbrev pub divisor_cap : ℕ
divisor_cap = 2 ^ 105

abbrev pub IsDivisor : ℤ → Type 0
IsDivisor z = nat_abs z ≤ divisor_cap

-- its numbers within the cap, a modulus 1 or more, its variables ascending and below 2^20, none with the coefficient 0
abbrev pub IsLiteral : Lit → Type 0
IsLiteral (AtLeast r) = IsRow r
IsLiteral (Above r) = IsRow r
IsLiteral (Divides d r) = IsCount 1 d × IsRow r
IsLiteral (NotDivides d r) = IsCount 1 d × IsRow r

-- each number of the line is within its limit, a `cube` names a fact, and a `learn` has a literal
abbrev pub IsStep : Step → Type 0
IsStep (Path k) = IsIndex k
IsStep (Def v i) = IsIndex v × IsIndex i
IsStep (Part f i) = IsIndex f × IsIndex i
IsStep (Cases f n) = IsIndex f × IsCount 0 n
IsStep (Sum p f q h g) = IsMultiplier p × IsIndex f × IsMultiplier q × IsIndex h × IsDivisor g
IsStep (Split l) = IsLiteral l
IsStep (Cube fs) = (1 ≤ length fs) × AllByRecursion IsIndex fs
IsStep (Least v n) = IsIndex v × IsCount 0 n
IsStep (Learn ls) = (1 ≤ length ls) × AllByRecursion IsLiteral ls
IsStep (False f) = IsIndex f

-- ---- the tests of these limits, but for those that the types of a line keep

abbrev pub has_modulus : Lit → Bool
has_modulus (AtLeast f) = true
has_modulus (Above f) = true
has_modulus (Divides d f) = nat_le 1 d
has_modulus (NotDivides d f) = nat_le 1 d

abbrev pub is_literal_within : Lit → Bool
is_literal_within l = is_none (first_past (lit_numbers l)) && has_modulus l

abbrev pub is_within : Step → Bool
is_within (Path k) = true
is_within (Def v i) = true
is_within (Part f i) = true
is_within (Cases f n) = nat_le n cap
is_within (Sum p f q h g) = fits p && fits q && nat_le (nat_abs g) divisor_cap
is_within (Split l) = is_literal_within l
is_within (Cube fs) = nat_le 1 (length fs)
is_within (Least v n) = nat_le n cap
is_within (Learn ls) = nat_le 1 (length ls) && list_all is_literal_within ls
is_within (False f) = true

-- ---- what the types of a line keep

abbrev pub IsTyped : Step → Type 0
IsTyped (Path k) = IsIndex k
IsTyped (Def v i) = IsIndex v × IsIndex i
IsTyped (Part f i) = IsIndex f × IsIndex i
IsTyped (Cases f n) = IsIndex f
IsTyped (Sum p f q h g) = IsIndex f × IsIndex h
IsTyped (Split l) = IsRow (form_of l)
IsTyped (Cube fs) = AllByRecursion IsIndex fs
IsTyped (Least v n) = IsIndex v
IsTyped (Learn ls) = AllByRecursion (λ l. IsRow (form_of l)) ls
IsTyped (False f) = IsIndex f
