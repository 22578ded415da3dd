-- Small eliminations, worked by an independent reading.
use Rattle.std.specs.Prelude.{ℕ, ◌≡◌, ℤ, pos, negsuc, List, [], ◌∷◌}
use Rattle.std.proofs.Common.{refl}
use Rattle.lin_term.specs.declared.Sort.TheVariants.{Rat, Int}
use Rattle.lin_term.specs.declared.Lit.TheVariants.{AtLeast, Above, Divides, NotDivides}
use Rattle.lin_term.specs.Form.{Form}
use Rattle.lin_term.specs.Literal.{gcd}
use Rattle.dom_core.specs.Elimination.{eliminated, elimination_numbers}

abbrev f : List (ℕ × ℤ) → ℤ → Form
f ts c = record { terms = ts; constant = c }

period_two : eliminated Int (Divides 2 (f ((0, pos 1) ∷ []) (pos 0)) ∷ Divides 2 (f ((0, pos 1) ∷ []) (pos 1)) ∷ []) 0 ≡ (Divides 1 (f ([]) (pos 0)) ∷ Divides 2 (f ([]) (pos 1)) ∷ []) ∷ (Divides 2 (f ([]) (pos 1)) ∷ Divides 1 (f ([]) (pos 0)) ∷ []) ∷ []
unfolding gcd
period_two = refl

row_all : eliminated Int (AtLeast (f ((0, negsuc 0) ∷ (1, pos 2) ∷ []) (pos 0)) ∷ NotDivides 4 (f ((1, pos 1) ∷ []) (pos 0)) ∷ AtLeast (f ((0, pos 3) ∷ (1, negsuc 0) ∷ []) (pos 0)) ∷ []) 1 ≡ (Divides 2 (f ((0, pos 1) ∷ []) (pos 0)) ∷ NotDivides 8 (f ((0, pos 1) ∷ []) (pos 0)) ∷ AtLeast (f ((0, pos 1) ∷ []) (pos 0)) ∷ []) ∷ (Divides 2 (f ((0, pos 1) ∷ []) (pos 1)) ∷ NotDivides 8 (f ((0, pos 1) ∷ []) (pos 1)) ∷ AtLeast (f ((0, pos 1) ∷ []) (negsuc 0)) ∷ []) ∷ (Divides 2 (f ((0, pos 1) ∷ []) (pos 0)) ∷ NotDivides 8 (f ((0, pos 1) ∷ []) (pos 2)) ∷ AtLeast (f ((0, pos 1) ∷ []) (negsuc 0)) ∷ []) ∷ (Divides 2 (f ((0, pos 1) ∷ []) (pos 1)) ∷ NotDivides 8 (f ((0, pos 1) ∷ []) (pos 3)) ∷ AtLeast (f ((0, pos 1) ∷ []) (negsuc 0)) ∷ []) ∷ (Divides 2 (f ((0, pos 1) ∷ []) (pos 0)) ∷ NotDivides 8 (f ((0, pos 1) ∷ []) (pos 4)) ∷ AtLeast (f ((0, pos 1) ∷ []) (negsuc 0)) ∷ []) ∷ (Divides 2 (f ((0, pos 1) ∷ []) (pos 1)) ∷ NotDivides 8 (f ((0, pos 1) ∷ []) (pos 5)) ∷ AtLeast (f ((0, pos 1) ∷ []) (negsuc 0)) ∷ []) ∷ (Divides 2 (f ((0, pos 1) ∷ []) (pos 0)) ∷ NotDivides 8 (f ((0, pos 1) ∷ []) (pos 6)) ∷ AtLeast (f ((0, pos 1) ∷ []) (negsuc 1)) ∷ []) ∷ (Divides 2 (f ((0, pos 1) ∷ []) (pos 1)) ∷ NotDivides 8 (f ((0, pos 1) ∷ []) (pos 7)) ∷ AtLeast (f ((0, pos 1) ∷ []) (negsuc 1)) ∷ []) ∷ []
unfolding gcd
row_all = refl

two_lowers : eliminated Int (AtLeast (f ((0, pos 1) ∷ (1, negsuc 0) ∷ []) (pos 3)) ∷ AtLeast (f ((0, pos 2) ∷ (1, pos 1) ∷ []) (negsuc 0)) ∷ AtLeast (f ((1, pos 1) ∷ []) (negsuc 4)) ∷ AtLeast (f ((0, negsuc 2) ∷ (1, pos 2) ∷ []) (pos 7)) ∷ []) 0 ≡ (Divides 1 (f ([]) (pos 0)) ∷ AtLeast (f ((1, pos 1) ∷ []) (negsuc 2)) ∷ AtLeast (f ((1, pos 1) ∷ []) (negsuc 4)) ∷ AtLeast (f ((1, negsuc 0) ∷ []) (pos 16)) ∷ []) ∷ (AtLeast (f ((1, negsuc 0) ∷ []) (pos 2)) ∷ Divides 2 (f ((1, pos 1) ∷ []) (pos 1)) ∷ AtLeast (f ((1, pos 1) ∷ []) (negsuc 4)) ∷ AtLeast (f ((1, pos 1) ∷ []) (pos 1)) ∷ []) ∷ (AtLeast (f ((1, negsuc 0) ∷ []) (pos 2)) ∷ Divides 2 (f ((1, pos 1) ∷ []) (pos 0)) ∷ AtLeast (f ((1, pos 1) ∷ []) (negsuc 4)) ∷ AtLeast (f ((1, pos 1) ∷ []) (pos 1)) ∷ []) ∷ []
unfolding gcd
two_lowers = refl

two_lowers_numbers : elimination_numbers Int (AtLeast (f ((0, pos 1) ∷ (1, negsuc 0) ∷ []) (pos 3)) ∷ AtLeast (f ((0, pos 2) ∷ (1, pos 1) ∷ []) (negsuc 0)) ∷ AtLeast (f ((1, pos 1) ∷ []) (negsuc 4)) ∷ AtLeast (f ((0, negsuc 2) ∷ (1, pos 2) ∷ []) (pos 7)) ∷ []) 0 ≡ pos 1 ∷ pos 3 ∷ pos 1 ∷ pos 0 ∷ pos 1 ∷ negsuc 2 ∷ pos 1 ∷ negsuc 4 ∷ negsuc 0 ∷ pos 16 ∷ negsuc 0 ∷ pos 2 ∷ pos 2 ∷ pos 1 ∷ pos 1 ∷ pos 1 ∷ negsuc 4 ∷ pos 1 ∷ pos 1 ∷ negsuc 0 ∷ pos 2 ∷ pos 2 ∷ pos 1 ∷ pos 0 ∷ pos 1 ∷ negsuc 4 ∷ pos 1 ∷ pos 1 ∷ []
unfolding gcd
two_lowers_numbers = refl

no_lower : eliminated Int (AtLeast (f ((0, pos 1) ∷ (1, negsuc 1) ∷ []) (pos 7)) ∷ Divides 6 (f ((0, pos 1) ∷ (1, pos 4) ∷ []) (pos 1)) ∷ Divides 3 (f ((0, pos 1) ∷ (1, pos 1) ∷ []) (pos 0)) ∷ []) 1 ≡ (Divides 6 (f ((0, pos 1) ∷ []) (pos 1)) ∷ Divides 3 (f ((0, pos 1) ∷ []) (pos 0)) ∷ []) ∷ (Divides 6 (f ((0, pos 1) ∷ []) (pos 5)) ∷ Divides 3 (f ((0, pos 1) ∷ []) (pos 1)) ∷ []) ∷ (Divides 6 (f ((0, pos 1) ∷ []) (pos 3)) ∷ Divides 3 (f ((0, pos 1) ∷ []) (pos 2)) ∷ []) ∷ []
unfolding gcd
no_lower = refl

no_lower_numbers : elimination_numbers Int (AtLeast (f ((0, pos 1) ∷ (1, negsuc 1) ∷ []) (pos 7)) ∷ Divides 6 (f ((0, pos 1) ∷ (1, pos 4) ∷ []) (pos 1)) ∷ Divides 3 (f ((0, pos 1) ∷ (1, pos 1) ∷ []) (pos 0)) ∷ []) 1 ≡ pos 3 ∷ pos 3 ∷ pos 6 ∷ pos 1 ∷ pos 1 ∷ pos 3 ∷ pos 1 ∷ pos 0 ∷ pos 6 ∷ pos 1 ∷ pos 5 ∷ pos 3 ∷ pos 1 ∷ pos 1 ∷ pos 6 ∷ pos 1 ∷ pos 3 ∷ pos 3 ∷ pos 1 ∷ pos 2 ∷ []
unfolding gcd
no_lower_numbers = refl

nothing : eliminated Int (AtLeast (f ((0, pos 1) ∷ []) (negsuc 1)) ∷ Divides 5 (f ((0, pos 1) ∷ []) (pos 4)) ∷ []) 3 ≡ (AtLeast (f ((0, pos 1) ∷ []) (negsuc 1)) ∷ Divides 5 (f ((0, pos 1) ∷ []) (pos 4)) ∷ []) ∷ []
unfolding gcd
nothing = refl

negated_only : eliminated Int (NotDivides 3 (f ((0, pos 1) ∷ []) (pos 2)) ∷ AtLeast (f ((0, negsuc 0) ∷ []) (pos 9)) ∷ []) 0 ≡ (NotDivides 3 (f ([]) (pos 2)) ∷ []) ∷ (NotDivides 1 (f ([]) (pos 0)) ∷ []) ∷ (NotDivides 3 (f ([]) (pos 1)) ∷ []) ∷ []
unfolding gcd
negated_only = refl

sums : eliminated Rat (AtLeast (f ((0, negsuc 2) ∷ (1, pos 3) ∷ []) (pos 1)) ∷ Above (f ((0, pos 1) ∷ (1, pos 4) ∷ []) (negsuc 0)) ∷ AtLeast (f ((0, pos 5) ∷ (1, negsuc 0) ∷ []) (pos 4)) ∷ AtLeast (f ((0, pos 5) ∷ []) (pos 4)) ∷ Above (f ((1, negsuc 2) ∷ []) (pos 2)) ∷ []) 1 ≡ (AtLeast (f ((0, pos 5) ∷ []) (pos 4)) ∷ AtLeast (f ((0, pos 12) ∷ []) (pos 13)) ∷ Above (f ((0, negsuc 0) ∷ []) (pos 1)) ∷ Above (f ((0, pos 7) ∷ []) (pos 5)) ∷ Above (f ((0, pos 3) ∷ []) (pos 5)) ∷ []) ∷ []
unfolding gcd
sums = refl

sums_numbers : elimination_numbers Rat (AtLeast (f ((0, negsuc 2) ∷ (1, pos 3) ∷ []) (pos 1)) ∷ Above (f ((0, pos 1) ∷ (1, pos 4) ∷ []) (negsuc 0)) ∷ AtLeast (f ((0, pos 5) ∷ (1, negsuc 0) ∷ []) (pos 4)) ∷ AtLeast (f ((0, pos 5) ∷ []) (pos 4)) ∷ Above (f ((1, negsuc 2) ∷ []) (pos 2)) ∷ []) 1 ≡ pos 5 ∷ pos 4 ∷ pos 12 ∷ pos 13 ∷ negsuc 0 ∷ pos 1 ∷ pos 7 ∷ pos 5 ∷ pos 3 ∷ pos 5 ∷ []
unfolding gcd
sums_numbers = refl

strict_both : eliminated Rat (Above (f ((0, pos 2) ∷ []) (negsuc 0)) ∷ Above (f ((0, negsuc 2) ∷ []) (pos 2)) ∷ []) 0 ≡ (Above (f ([]) (pos 1)) ∷ []) ∷ []
unfolding gcd
strict_both = refl

only_upper : eliminated Rat (AtLeast (f ((0, negsuc 0) ∷ (2, pos 1) ∷ []) (pos 0)) ∷ Above (f ((2, pos 1) ∷ []) (pos 0)) ∷ []) 0 ≡ (Above (f ((2, pos 1) ∷ []) (pos 0)) ∷ []) ∷ []
unfolding gcd
only_upper = refl

table_1 : eliminated Rat (AtLeast (f ((0, negsuc 0) ∷ (1, pos 2) ∷ (2, pos 3) ∷ []) (pos 2)) ∷ AtLeast (f ((0, pos 4) ∷ (1, pos 2) ∷ (2, negsuc 2) ∷ []) (negsuc 4)) ∷ Above (f ((0, negsuc 0) ∷ (1, pos 1) ∷ (2, negsuc 1) ∷ []) (negsuc 5)) ∷ []) 0 ≡ (AtLeast (f ((1, pos 10) ∷ (2, pos 9) ∷ []) (pos 3)) ∷ Above (f ((1, pos 6) ∷ (2, negsuc 10) ∷ []) (negsuc 28)) ∷ []) ∷ []
unfolding gcd
table_1 = refl

table_2 : eliminated Int (Divides 5 (f ((0, pos 4) ∷ (1, pos 4) ∷ []) (pos 1)) ∷ AtLeast (f ((0, negsuc 2) ∷ (2, negsuc 0) ∷ []) (pos 4)) ∷ AtLeast (f ([]) (negsuc 0)) ∷ AtLeast (f ((1, pos 1) ∷ (2, pos 3) ∷ []) (pos 5)) ∷ []) 2 ≡ (Divides 5 (f ((0, pos 4) ∷ (1, pos 4) ∷ []) (pos 1)) ∷ AtLeast (f ((0, negsuc 8) ∷ (1, pos 1) ∷ []) (pos 17)) ∷ AtLeast (f ([]) (negsuc 0)) ∷ Divides 3 (f ((1, pos 2) ∷ []) (pos 1)) ∷ []) ∷ (Divides 5 (f ((0, pos 4) ∷ (1, pos 4) ∷ []) (pos 1)) ∷ AtLeast (f ((0, negsuc 8) ∷ (1, pos 1) ∷ []) (pos 16)) ∷ AtLeast (f ([]) (negsuc 0)) ∷ Divides 3 (f ((1, pos 2) ∷ []) (pos 2)) ∷ []) ∷ (Divides 5 (f ((0, pos 4) ∷ (1, pos 4) ∷ []) (pos 1)) ∷ AtLeast (f ((0, negsuc 8) ∷ (1, pos 1) ∷ []) (pos 15)) ∷ AtLeast (f ([]) (negsuc 0)) ∷ Divides 3 (f ((1, pos 2) ∷ []) (pos 0)) ∷ []) ∷ []
unfolding gcd
table_2 = refl

table_3 : eliminated Int (AtLeast (f ((0, pos 3) ∷ (1, negsuc 0) ∷ (2, pos 2) ∷ []) (negsuc 2)) ∷ NotDivides 1 (f ([]) (pos 0)) ∷ Divides 6 (f ((0, pos 3) ∷ (1, pos 2) ∷ (2, pos 3) ∷ []) (pos 0)) ∷ []) 1 ≡ (NotDivides 1 (f ([]) (pos 0)) ∷ Divides 2 (f ((0, pos 1) ∷ (2, pos 1) ∷ []) (pos 0)) ∷ []) ∷ (NotDivides 1 (f ([]) (pos 0)) ∷ Divides 6 (f ((0, pos 3) ∷ (2, pos 3) ∷ []) (pos 2)) ∷ []) ∷ (NotDivides 1 (f ([]) (pos 0)) ∷ Divides 6 (f ((0, pos 3) ∷ (2, pos 3) ∷ []) (pos 4)) ∷ []) ∷ []
unfolding gcd
table_3 = refl

table_4 : eliminated Rat (Above (f ((2, negsuc 0) ∷ []) (pos 1)) ∷ Above (f ((1, pos 1) ∷ (2, pos 3) ∷ []) (pos 5)) ∷ Above (f ((0, pos 3) ∷ (2, pos 3) ∷ []) (pos 5)) ∷ AtLeast (f ((0, pos 2) ∷ (1, negsuc 1) ∷ []) (negsuc 6)) ∷ []) 2 ≡ (AtLeast (f ((0, pos 2) ∷ (1, negsuc 1) ∷ []) (negsuc 6)) ∷ Above (f ((1, pos 1) ∷ []) (pos 8)) ∷ Above (f ((0, pos 3) ∷ []) (pos 8)) ∷ []) ∷ []
unfolding gcd
table_4 = refl

table_5 : eliminated Int (AtLeast (f ((0, pos 1) ∷ (1, negsuc 0) ∷ (2, negsuc 1) ∷ []) (negsuc 1)) ∷ AtLeast (f ((0, negsuc 2) ∷ (1, pos 3) ∷ (2, negsuc 0) ∷ []) (negsuc 0)) ∷ Divides 2 (f ((1, pos 1) ∷ (2, pos 1) ∷ []) (pos 1)) ∷ AtLeast (f ((0, pos 2) ∷ (1, negsuc 0) ∷ (2, negsuc 1) ∷ []) (pos 3)) ∷ []) 0 ≡ (Divides 1 (f ([]) (pos 0)) ∷ AtLeast (f ((2, negsuc 0) ∷ []) (negsuc 0)) ∷ Divides 2 (f ((1, pos 1) ∷ (2, pos 1) ∷ []) (pos 1)) ∷ AtLeast (f ((1, pos 1) ∷ (2, pos 2) ∷ []) (pos 7)) ∷ []) ∷ (AtLeast (f ((1, negsuc 0) ∷ (2, negsuc 1) ∷ []) (negsuc 6)) ∷ AtLeast (f ((1, pos 3) ∷ (2, negsuc 7) ∷ []) (pos 7)) ∷ Divides 2 (f ((1, pos 1) ∷ (2, pos 1) ∷ []) (pos 1)) ∷ Divides 2 (f ((1, pos 1) ∷ []) (pos 1)) ∷ []) ∷ (AtLeast (f ((1, negsuc 0) ∷ (2, negsuc 1) ∷ []) (negsuc 5)) ∷ AtLeast (f ((1, pos 3) ∷ (2, negsuc 7) ∷ []) (pos 4)) ∷ Divides 2 (f ((1, pos 1) ∷ (2, pos 1) ∷ []) (pos 1)) ∷ Divides 2 (f ((1, pos 1) ∷ []) (pos 0)) ∷ []) ∷ []
unfolding gcd
table_5 = refl

table_6 : eliminated Int (AtLeast (f ((0, pos 2) ∷ (1, negsuc 2) ∷ []) (pos 0)) ∷ AtLeast (f ((0, pos 2) ∷ (1, pos 1) ∷ (2, pos 2) ∷ []) (pos 2)) ∷ AtLeast (f ((0, pos 4) ∷ (1, pos 3) ∷ (2, negsuc 2) ∷ []) (pos 5)) ∷ []) 2 ≡ (AtLeast (f ((0, pos 2) ∷ (1, negsuc 2) ∷ []) (pos 0)) ∷ Divides 2 (f ((1, pos 1) ∷ []) (pos 0)) ∷ AtLeast (f ((0, pos 14) ∷ (1, pos 9) ∷ []) (pos 16)) ∷ []) ∷ (AtLeast (f ((0, pos 2) ∷ (1, negsuc 2) ∷ []) (pos 0)) ∷ Divides 2 (f ((1, pos 1) ∷ []) (pos 1)) ∷ AtLeast (f ((0, pos 14) ∷ (1, pos 9) ∷ []) (pos 13)) ∷ []) ∷ []
unfolding gcd
table_6 = refl

table_7 : eliminated Rat (AtLeast (f ((0, pos 1) ∷ (1, pos 3) ∷ (2, pos 3) ∷ []) (pos 2)) ∷ Above (f ((0, pos 2) ∷ (1, negsuc 2) ∷ (2, negsuc 2) ∷ []) (pos 3)) ∷ AtLeast (f ((0, pos 3) ∷ (1, negsuc 1) ∷ []) (negsuc 1)) ∷ []) 1 ≡ (Above (f ((0, pos 3) ∷ []) (pos 5)) ∷ AtLeast (f ((0, pos 11) ∷ (2, pos 6) ∷ []) (negsuc 1)) ∷ []) ∷ []
unfolding gcd
table_7 = refl

table_8 : eliminated Int (AtLeast (f ((0, negsuc 0) ∷ (1, pos 1) ∷ []) (pos 3)) ∷ Divides 5 (f ((0, pos 1) ∷ (1, pos 4) ∷ (2, pos 3) ∷ []) (pos 2)) ∷ AtLeast (f ((0, pos 4) ∷ (1, negsuc 2) ∷ (2, negsuc 1) ∷ []) (pos 3)) ∷ AtLeast (f ((0, negsuc 0) ∷ (1, negsuc 2) ∷ (2, negsuc 2) ∷ []) (pos 4)) ∷ []) 1 ≡ (Divides 1 (f ([]) (pos 0)) ∷ Divides 5 (f ((2, pos 3) ∷ []) (pos 0)) ∷ AtLeast (f ((0, pos 1) ∷ (2, negsuc 1) ∷ []) (pos 12)) ∷ AtLeast (f ((0, negsuc 3) ∷ (2, negsuc 2) ∷ []) (pos 13)) ∷ []) ∷ (Divides 1 (f ([]) (pos 0)) ∷ Divides 5 (f ((2, pos 3) ∷ []) (pos 4)) ∷ AtLeast (f ((0, pos 1) ∷ (2, negsuc 1) ∷ []) (pos 9)) ∷ AtLeast (f ((0, negsuc 3) ∷ (2, negsuc 2) ∷ []) (pos 10)) ∷ []) ∷ (Divides 1 (f ([]) (pos 0)) ∷ Divides 5 (f ((2, pos 3) ∷ []) (pos 3)) ∷ AtLeast (f ((0, pos 1) ∷ (2, negsuc 1) ∷ []) (pos 6)) ∷ AtLeast (f ((0, negsuc 3) ∷ (2, negsuc 2) ∷ []) (pos 7)) ∷ []) ∷ (Divides 1 (f ([]) (pos 0)) ∷ Divides 5 (f ((2, pos 3) ∷ []) (pos 2)) ∷ AtLeast (f ((0, pos 1) ∷ (2, negsuc 1) ∷ []) (pos 3)) ∷ AtLeast (f ((0, negsuc 3) ∷ (2, negsuc 2) ∷ []) (pos 4)) ∷ []) ∷ (Divides 1 (f ([]) (pos 0)) ∷ Divides 5 (f ((2, pos 3) ∷ []) (pos 1)) ∷ AtLeast (f ((0, pos 1) ∷ (2, negsuc 1) ∷ []) (pos 0)) ∷ AtLeast (f ((0, negsuc 3) ∷ (2, negsuc 2) ∷ []) (pos 1)) ∷ []) ∷ []
unfolding gcd
table_8 = refl

table_9 : eliminated Int (AtLeast (f ((1, pos 1) ∷ (2, negsuc 2) ∷ []) (negsuc 3)) ∷ AtLeast (f ((0, negsuc 0) ∷ (1, negsuc 0) ∷ (2, negsuc 0) ∷ []) (pos 2)) ∷ AtLeast (f ((1, negsuc 0) ∷ []) (negsuc 0)) ∷ NotDivides 2 (f ((0, pos 1) ∷ (1, pos 1) ∷ []) (pos 0)) ∷ []) 0 ≡ (AtLeast (f ((1, pos 1) ∷ (2, negsuc 2) ∷ []) (negsuc 3)) ∷ AtLeast (f ((1, negsuc 0) ∷ []) (negsuc 0)) ∷ NotDivides 2 (f ((1, pos 1) ∷ []) (pos 0)) ∷ []) ∷ (AtLeast (f ((1, pos 1) ∷ (2, negsuc 2) ∷ []) (negsuc 3)) ∷ AtLeast (f ((1, negsuc 0) ∷ []) (negsuc 0)) ∷ NotDivides 2 (f ((1, pos 1) ∷ []) (pos 1)) ∷ []) ∷ []
unfolding gcd
table_9 = refl

table_10 : eliminated Rat (AtLeast (f ((0, pos 3) ∷ (2, negsuc 2) ∷ []) (negsuc 4)) ∷ AtLeast (f ((0, pos 1) ∷ (1, pos 1) ∷ (2, pos 2) ∷ []) (pos 0)) ∷ []) 2 ≡ (AtLeast (f ((0, pos 9) ∷ (1, pos 3) ∷ []) (negsuc 9)) ∷ []) ∷ []
unfolding gcd
table_10 = refl

table_11 : eliminated Int (NotDivides 5 (f ((1, pos 3) ∷ (2, pos 3) ∷ []) (pos 2)) ∷ AtLeast (f ((0, negsuc 0) ∷ (2, negsuc 2) ∷ []) (negsuc 0)) ∷ []) 1 ≡ (NotDivides 5 (f ((2, pos 3) ∷ []) (pos 2)) ∷ AtLeast (f ((0, negsuc 0) ∷ (2, negsuc 2) ∷ []) (negsuc 0)) ∷ []) ∷ (NotDivides 5 (f ((2, pos 3) ∷ []) (pos 0)) ∷ AtLeast (f ((0, negsuc 0) ∷ (2, negsuc 2) ∷ []) (negsuc 0)) ∷ []) ∷ (NotDivides 5 (f ((2, pos 3) ∷ []) (pos 3)) ∷ AtLeast (f ((0, negsuc 0) ∷ (2, negsuc 2) ∷ []) (negsuc 0)) ∷ []) ∷ (NotDivides 5 (f ((2, pos 3) ∷ []) (pos 1)) ∷ AtLeast (f ((0, negsuc 0) ∷ (2, negsuc 2) ∷ []) (negsuc 0)) ∷ []) ∷ (NotDivides 5 (f ((2, pos 3) ∷ []) (pos 4)) ∷ AtLeast (f ((0, negsuc 0) ∷ (2, negsuc 2) ∷ []) (negsuc 0)) ∷ []) ∷ []
unfolding gcd
table_11 = refl

table_12 : eliminated Int (Divides 3 (f ((0, pos 2) ∷ []) (pos 0)) ∷ Divides 3 (f ((1, pos 2) ∷ (2, pos 2) ∷ []) (pos 1)) ∷ AtLeast (f ((1, negsuc 0) ∷ (2, pos 1) ∷ []) (pos 1)) ∷ NotDivides 2 (f ((0, pos 1) ∷ []) (pos 0)) ∷ []) 0 ≡ (Divides 1 (f ([]) (pos 0)) ∷ Divides 3 (f ((1, pos 2) ∷ (2, pos 2) ∷ []) (pos 1)) ∷ AtLeast (f ((1, negsuc 0) ∷ (2, pos 1) ∷ []) (pos 1)) ∷ NotDivides 1 (f ([]) (pos 0)) ∷ []) ∷ (Divides 3 (f ([]) (pos 2)) ∷ Divides 3 (f ((1, pos 2) ∷ (2, pos 2) ∷ []) (pos 1)) ∷ AtLeast (f ((1, negsuc 0) ∷ (2, pos 1) ∷ []) (pos 1)) ∷ NotDivides 2 (f ([]) (pos 1)) ∷ []) ∷ (Divides 3 (f ([]) (pos 1)) ∷ Divides 3 (f ((1, pos 2) ∷ (2, pos 2) ∷ []) (pos 1)) ∷ AtLeast (f ((1, negsuc 0) ∷ (2, pos 1) ∷ []) (pos 1)) ∷ NotDivides 1 (f ([]) (pos 0)) ∷ []) ∷ (Divides 1 (f ([]) (pos 0)) ∷ Divides 3 (f ((1, pos 2) ∷ (2, pos 2) ∷ []) (pos 1)) ∷ AtLeast (f ((1, negsuc 0) ∷ (2, pos 1) ∷ []) (pos 1)) ∷ NotDivides 2 (f ([]) (pos 1)) ∷ []) ∷ (Divides 3 (f ([]) (pos 2)) ∷ Divides 3 (f ((1, pos 2) ∷ (2, pos 2) ∷ []) (pos 1)) ∷ AtLeast (f ((1, negsuc 0) ∷ (2, pos 1) ∷ []) (pos 1)) ∷ NotDivides 1 (f ([]) (pos 0)) ∷ []) ∷ (Divides 3 (f ([]) (pos 1)) ∷ Divides 3 (f ((1, pos 2) ∷ (2, pos 2) ∷ []) (pos 1)) ∷ AtLeast (f ((1, negsuc 0) ∷ (2, pos 1) ∷ []) (pos 1)) ∷ NotDivides 2 (f ([]) (pos 1)) ∷ []) ∷ []
unfolding gcd
table_12 = refl

table_13 : eliminated Rat (AtLeast (f ((0, pos 2) ∷ (1, negsuc 2) ∷ (2, pos 1) ∷ []) (negsuc 1)) ∷ Above (f ((0, negsuc 1) ∷ (2, pos 3) ∷ []) (negsuc 4)) ∷ AtLeast (f ((0, pos 1) ∷ (1, negsuc 3) ∷ (2, negsuc 2) ∷ []) (pos 2)) ∷ []) 2 ≡ (AtLeast (f ((0, pos 7) ∷ (1, negsuc 12) ∷ []) (negsuc 3)) ∷ Above (f ((0, negsuc 0) ∷ (1, negsuc 3) ∷ []) (negsuc 2)) ∷ []) ∷ []
unfolding gcd
table_13 = refl

table_14 : eliminated Int (AtLeast (f ((2, negsuc 0) ∷ []) (negsuc 1)) ∷ AtLeast (f ((0, pos 3) ∷ (1, negsuc 3) ∷ (2, pos 1) ∷ []) (negsuc 5)) ∷ AtLeast (f ((1, pos 2) ∷ (2, negsuc 2) ∷ []) (negsuc 1)) ∷ []) 1 ≡ (AtLeast (f ((2, negsuc 0) ∷ []) (negsuc 1)) ∷ AtLeast (f ((0, pos 3) ∷ (2, negsuc 4) ∷ []) (negsuc 9)) ∷ Divides 2 (f ((2, pos 1) ∷ []) (pos 0)) ∷ []) ∷ (AtLeast (f ((2, negsuc 0) ∷ []) (negsuc 1)) ∷ AtLeast (f ((0, pos 3) ∷ (2, negsuc 4) ∷ []) (negsuc 11)) ∷ Divides 2 (f ((2, pos 1) ∷ []) (pos 1)) ∷ []) ∷ []
unfolding gcd
table_14 = refl

table_15 : eliminated Int (AtLeast (f ((0, negsuc 2) ∷ (1, pos 1) ∷ (2, pos 2) ∷ []) (negsuc 5)) ∷ AtLeast (f ((0, negsuc 0) ∷ (2, negsuc 0) ∷ []) (negsuc 1)) ∷ AtLeast (f ((0, pos 2) ∷ (1, pos 3) ∷ (2, negsuc 1) ∷ []) (negsuc 5)) ∷ AtLeast (f ((0, negsuc 3) ∷ (1, pos 1) ∷ (2, pos 1) ∷ []) (pos 1)) ∷ []) 1 ≡ (Divides 1 (f ([]) (pos 0)) ∷ AtLeast (f ((0, negsuc 0) ∷ (2, negsuc 0) ∷ []) (negsuc 1)) ∷ AtLeast (f ((0, pos 11) ∷ (2, negsuc 7) ∷ []) (pos 12)) ∷ AtLeast (f ((0, negsuc 0) ∷ (2, negsuc 0) ∷ []) (pos 7)) ∷ []) ∷ (AtLeast (f ((0, negsuc 10) ∷ (2, pos 8) ∷ []) (negsuc 11)) ∷ AtLeast (f ((0, negsuc 0) ∷ (2, negsuc 0) ∷ []) (negsuc 1)) ∷ Divides 3 (f ((0, pos 1) ∷ (2, pos 2) ∷ []) (pos 0)) ∷ AtLeast (f ((0, negsuc 13) ∷ (2, pos 5) ∷ []) (pos 9)) ∷ []) ∷ (AtLeast (f ((0, negsuc 10) ∷ (2, pos 8) ∷ []) (negsuc 10)) ∷ AtLeast (f ((0, negsuc 0) ∷ (2, negsuc 0) ∷ []) (negsuc 1)) ∷ Divides 3 (f ((0, pos 1) ∷ (2, pos 2) ∷ []) (pos 1)) ∷ AtLeast (f ((0, negsuc 13) ∷ (2, pos 5) ∷ []) (pos 10)) ∷ []) ∷ (AtLeast (f ((0, negsuc 10) ∷ (2, pos 8) ∷ []) (negsuc 9)) ∷ AtLeast (f ((0, negsuc 0) ∷ (2, negsuc 0) ∷ []) (negsuc 1)) ∷ Divides 3 (f ((0, pos 1) ∷ (2, pos 2) ∷ []) (pos 2)) ∷ AtLeast (f ((0, negsuc 13) ∷ (2, pos 5) ∷ []) (pos 11)) ∷ []) ∷ (AtLeast (f ((0, pos 1) ∷ (2, pos 1) ∷ []) (negsuc 6)) ∷ AtLeast (f ((0, negsuc 0) ∷ (2, negsuc 0) ∷ []) (negsuc 1)) ∷ AtLeast (f ((0, pos 14) ∷ (2, negsuc 4) ∷ []) (negsuc 8)) ∷ Divides 1 (f ([]) (pos 0)) ∷ []) ∷ []
unfolding gcd
table_15 = refl

table_16 : eliminated Rat (Above (f ((0, pos 1) ∷ (1, negsuc 0) ∷ (2, negsuc 1) ∷ []) (pos 7)) ∷ Above (f ((0, pos 3) ∷ (1, pos 3) ∷ (2, negsuc 1) ∷ []) (negsuc 4)) ∷ AtLeast (f ((0, negsuc 0) ∷ (1, negsuc 1) ∷ (2, negsuc 0) ∷ []) (pos 5)) ∷ Above (f ((0, negsuc 1) ∷ []) (negsuc 6)) ∷ []) 0 ≡ (Above (f ((1, negsuc 0) ∷ (2, negsuc 0) ∷ []) (pos 4)) ∷ Above (f ((1, negsuc 1) ∷ (2, negsuc 3) ∷ []) (pos 7)) ∷ Above (f ((1, negsuc 2) ∷ (2, negsuc 4) ∷ []) (pos 10)) ∷ Above (f ((1, pos 6) ∷ (2, negsuc 3) ∷ []) (negsuc 30)) ∷ []) ∷ []
unfolding gcd
table_16 = refl

table_17 : eliminated Int (NotDivides 1 (f ([]) (pos 0)) ∷ AtLeast (f ((1, negsuc 2) ∷ (2, pos 1) ∷ []) (pos 3)) ∷ AtLeast (f ((0, pos 1) ∷ (2, negsuc 0) ∷ []) (negsuc 1)) ∷ NotDivides 4 (f ((0, pos 1) ∷ (1, pos 1) ∷ (2, pos 2) ∷ []) (pos 3)) ∷ []) 2 ≡ (NotDivides 1 (f ([]) (pos 0)) ∷ Divides 1 (f ([]) (pos 0)) ∷ AtLeast (f ((0, pos 1) ∷ (1, negsuc 2) ∷ []) (pos 1)) ∷ NotDivides 4 (f ((0, pos 1) ∷ (1, pos 3) ∷ []) (pos 1)) ∷ []) ∷ (NotDivides 1 (f ([]) (pos 0)) ∷ Divides 1 (f ([]) (pos 0)) ∷ AtLeast (f ((0, pos 1) ∷ (1, negsuc 2) ∷ []) (pos 0)) ∷ NotDivides 4 (f ((0, pos 1) ∷ (1, pos 3) ∷ []) (pos 3)) ∷ []) ∷ []
unfolding gcd
table_17 = refl

table_18 : eliminated Int (AtLeast (f ((0, negsuc 2) ∷ (1, pos 4) ∷ (2, pos 1) ∷ []) (negsuc 0)) ∷ AtLeast (f ((0, pos 1) ∷ (1, negsuc 1) ∷ (2, pos 2) ∷ []) (pos 7)) ∷ AtLeast (f ((0, pos 3) ∷ (2, pos 2) ∷ []) (pos 1)) ∷ []) 1 ≡ (Divides 4 (f ((0, pos 3) ∷ (2, pos 3) ∷ []) (pos 1)) ∷ AtLeast (f ((0, negsuc 0) ∷ (2, pos 5) ∷ []) (pos 13)) ∷ AtLeast (f ((0, pos 3) ∷ (2, pos 2) ∷ []) (pos 1)) ∷ []) ∷ (Divides 4 (f ((0, pos 3) ∷ (2, pos 3) ∷ []) (pos 2)) ∷ AtLeast (f ((0, negsuc 0) ∷ (2, pos 5) ∷ []) (pos 12)) ∷ AtLeast (f ((0, pos 3) ∷ (2, pos 2) ∷ []) (pos 1)) ∷ []) ∷ (Divides 4 (f ((0, pos 3) ∷ (2, pos 3) ∷ []) (pos 3)) ∷ AtLeast (f ((0, negsuc 0) ∷ (2, pos 5) ∷ []) (pos 11)) ∷ AtLeast (f ((0, pos 3) ∷ (2, pos 2) ∷ []) (pos 1)) ∷ []) ∷ (Divides 4 (f ((0, pos 3) ∷ (2, pos 3) ∷ []) (pos 0)) ∷ AtLeast (f ((0, negsuc 0) ∷ (2, pos 5) ∷ []) (pos 10)) ∷ AtLeast (f ((0, pos 3) ∷ (2, pos 2) ∷ []) (pos 1)) ∷ []) ∷ []
unfolding gcd
table_18 = refl

table_19 : eliminated Rat (AtLeast (f ((1, pos 3) ∷ []) (pos 5)) ∷ Above (f ((1, pos 1) ∷ (2, pos 2) ∷ []) (pos 0)) ∷ AtLeast (f ((0, pos 2) ∷ (1, pos 3) ∷ (2, pos 1) ∷ []) (pos 3)) ∷ Above (f ((0, negsuc 1) ∷ (1, negsuc 1) ∷ (2, pos 3) ∷ []) (pos 1)) ∷ []) 0 ≡ (AtLeast (f ((1, pos 3) ∷ []) (pos 5)) ∷ Above (f ((1, pos 1) ∷ (2, pos 2) ∷ []) (pos 0)) ∷ Above (f ((1, pos 1) ∷ (2, pos 4) ∷ []) (pos 4)) ∷ []) ∷ []
unfolding gcd
table_19 = refl

table_20 : eliminated Int (NotDivides 3 (f ((2, pos 2) ∷ []) (pos 1)) ∷ AtLeast (f ([]) (pos 0)) ∷ AtLeast (f ((0, negsuc 0) ∷ (1, negsuc 3) ∷ (2, negsuc 0) ∷ []) (negsuc 6)) ∷ NotDivides 6 (f ((0, pos 3) ∷ (1, pos 4) ∷ (2, pos 3) ∷ []) (pos 0)) ∷ []) 1 ≡ (NotDivides 3 (f ((2, pos 2) ∷ []) (pos 1)) ∷ AtLeast (f ([]) (pos 0)) ∷ NotDivides 2 (f ((0, pos 1) ∷ (2, pos 1) ∷ []) (pos 0)) ∷ []) ∷ (NotDivides 3 (f ((2, pos 2) ∷ []) (pos 1)) ∷ AtLeast (f ([]) (pos 0)) ∷ NotDivides 6 (f ((0, pos 3) ∷ (2, pos 3) ∷ []) (pos 4)) ∷ []) ∷ (NotDivides 3 (f ((2, pos 2) ∷ []) (pos 1)) ∷ AtLeast (f ([]) (pos 0)) ∷ NotDivides 6 (f ((0, pos 3) ∷ (2, pos 3) ∷ []) (pos 2)) ∷ []) ∷ []
unfolding gcd
table_20 = refl

table_21 : eliminated Int (AtLeast (f ((0, negsuc 0) ∷ (1, pos 1) ∷ (2, pos 1) ∷ []) (negsuc 1)) ∷ Divides 2 (f ((0, pos 1) ∷ (2, pos 1) ∷ []) (pos 0)) ∷ []) 2 ≡ (Divides 1 (f ([]) (pos 0)) ∷ Divides 2 (f ((1, pos 1) ∷ []) (pos 0)) ∷ []) ∷ (Divides 1 (f ([]) (pos 0)) ∷ Divides 2 (f ((1, pos 1) ∷ []) (pos 1)) ∷ []) ∷ []
unfolding gcd
table_21 = refl

table_22 : eliminated Rat (Above (f ((0, negsuc 0) ∷ (1, negsuc 0) ∷ (2, negsuc 0) ∷ []) (pos 1)) ∷ AtLeast (f ((1, pos 1) ∷ (2, negsuc 0) ∷ []) (negsuc 3)) ∷ Above (f ((0, pos 1) ∷ (2, negsuc 1) ∷ []) (pos 6)) ∷ []) 1 ≡ (Above (f ((0, pos 1) ∷ (2, negsuc 1) ∷ []) (pos 6)) ∷ Above (f ((0, negsuc 0) ∷ (2, negsuc 1) ∷ []) (negsuc 2)) ∷ []) ∷ []
unfolding gcd
table_22 = refl

table_23 : eliminated Int (Divides 6 (f ((0, pos 2) ∷ (2, pos 3) ∷ []) (pos 1)) ∷ NotDivides 3 (f ((0, pos 1) ∷ (1, pos 2) ∷ []) (pos 2)) ∷ Divides 1 (f ([]) (pos 0)) ∷ Divides 2 (f ((0, pos 1) ∷ (1, pos 1) ∷ (2, pos 1) ∷ []) (pos 1)) ∷ []) 0 ≡ (Divides 6 (f ((2, pos 3) ∷ []) (pos 1)) ∷ NotDivides 3 (f ((1, pos 2) ∷ []) (pos 2)) ∷ Divides 1 (f ([]) (pos 0)) ∷ Divides 2 (f ((1, pos 1) ∷ (2, pos 1) ∷ []) (pos 1)) ∷ []) ∷ (Divides 2 (f ((2, pos 1) ∷ []) (pos 1)) ∷ NotDivides 3 (f ((1, pos 2) ∷ []) (pos 0)) ∷ Divides 1 (f ([]) (pos 0)) ∷ Divides 2 (f ((1, pos 1) ∷ (2, pos 1) ∷ []) (pos 0)) ∷ []) ∷ (Divides 6 (f ((2, pos 3) ∷ []) (pos 5)) ∷ NotDivides 3 (f ((1, pos 2) ∷ []) (pos 1)) ∷ Divides 1 (f ([]) (pos 0)) ∷ Divides 2 (f ((1, pos 1) ∷ (2, pos 1) ∷ []) (pos 1)) ∷ []) ∷ (Divides 6 (f ((2, pos 3) ∷ []) (pos 1)) ∷ NotDivides 3 (f ((1, pos 2) ∷ []) (pos 2)) ∷ Divides 1 (f ([]) (pos 0)) ∷ Divides 2 (f ((1, pos 1) ∷ (2, pos 1) ∷ []) (pos 0)) ∷ []) ∷ (Divides 2 (f ((2, pos 1) ∷ []) (pos 1)) ∷ NotDivides 3 (f ((1, pos 2) ∷ []) (pos 0)) ∷ Divides 1 (f ([]) (pos 0)) ∷ Divides 2 (f ((1, pos 1) ∷ (2, pos 1) ∷ []) (pos 1)) ∷ []) ∷ (Divides 6 (f ((2, pos 3) ∷ []) (pos 5)) ∷ NotDivides 3 (f ((1, pos 2) ∷ []) (pos 1)) ∷ Divides 1 (f ([]) (pos 0)) ∷ Divides 2 (f ((1, pos 1) ∷ (2, pos 1) ∷ []) (pos 0)) ∷ []) ∷ []
unfolding gcd
table_23 = refl

table_24 : eliminated Int (AtLeast (f ((0, pos 1) ∷ (1, negsuc 0) ∷ []) (negsuc 1)) ∷ NotDivides 2 (f ((2, pos 1) ∷ []) (pos 0)) ∷ []) 2 ≡ (AtLeast (f ((0, pos 1) ∷ (1, negsuc 0) ∷ []) (negsuc 1)) ∷ NotDivides 1 (f ([]) (pos 0)) ∷ []) ∷ (AtLeast (f ((0, pos 1) ∷ (1, negsuc 0) ∷ []) (negsuc 1)) ∷ NotDivides 2 (f ([]) (pos 1)) ∷ []) ∷ []
unfolding gcd
table_24 = refl
