-- Literals, their truth at a point, and negation.
use Rattle.std.specs.Prelude.{ℕ, zero, suc, ◌*◌, ◌/◌, ◌%◌, ◌≤◌, ◌≡◌, ℤ, pos, negsuc, ◌-ℤ◌, ◌*ℤ◌, nat_abs, ◌≤ℤ◌, ◌<ℤ◌, List, [], ◌∷◌, ⊤}
use Rattle.lin_term.specs.Linear.{Sort, Rat, Int, Form, Point, dot, plus, times, constant_form, put_front, rename, floor_div}
pub use Rattle.lin_term.specs.declared.lit.Lit.{Lit}
pub use Rattle.lin_term.specs.declared.lit.Lit.TheVariants.{AtLeast, Above, Divides, NotDivides}

abbrev pub Holds : Lit → Point → Type 0
Holds (AtLeast f) p = pos 0 ≤ℤ dot f p
Holds (Above f) p = pos 0 <ℤ dot f p
Holds (Divides d f) p = nat_abs (dot f p) % (d * p.den) ≡ 0
Holds (NotDivides d f) p = ¬ (nat_abs (dot f p) % (d * p.den) ≡ 0)

abbrev pub form_of : Lit → Form
form_of (AtLeast f) = f
form_of (Above f) = f
form_of (Divides d f) = f
form_of (NotDivides d f) = f

abbrev pub rename_lit : List ℕ → Lit → Lit
rename_lit names (AtLeast f) = AtLeast (rename names f)
rename_lit names (Above f) = Above (rename names f)
rename_lit names (Divides d f) = Divides d (rename names f)
rename_lit names (NotDivides d f) = NotDivides d (rename names f)

abbrev pub IsOf : Sort → Lit → Type 0
IsOf Rat (AtLeast f) = ⊤
IsOf Rat (Above f) = ⊤
IsOf Rat (Divides d f) = ⊥
IsOf Rat (NotDivides d f) = ⊥
IsOf Int (AtLeast f) = ⊤
IsOf Int (Above f) = ⊥
IsOf Int (Divides d f) = 1 ≤ d
IsOf Int (NotDivides d f) = 1 ≤ d

-- the greatest common divisor, by Euclid; the first number bounds the steps
abbrev pub gcd_within : ℕ → ℕ → ℕ → ℕ
gcd_within zero a b = a
gcd_within (suc n) a zero = a
gcd_within (suc n) a (suc b) = gcd_within n (suc b) (a % suc b)

unfoldable pub gcd : ℕ → ℕ → ℕ
gcd a b = gcd_within (suc b) a b

abbrev pub gcd_terms : List (ℕ × ℤ) → ℕ
gcd_terms [] = 0
gcd_terms (t ∷ ts) = gcd (nat_abs t.1) (gcd_terms ts)

-- 1 in place of 0
abbrev pub or_one : ℕ → ℕ
or_one zero = 1
or_one (suc n) = suc n

abbrev pub divisor : Sort → Form → ℕ
divisor Rat f = or_one (gcd (nat_abs f.constant) (gcd_terms f.terms))
divisor Int f = or_one (gcd_terms f.terms)

abbrev pub quotient_terms : List (ℕ × ℤ) → ℕ → List (ℕ × ℤ)
quotient_terms [] g = []
quotient_terms (t ∷ ts) g = (t.0, floor_div t.1 g) ∷ quotient_terms ts g

-- all numbers divided, the constant rounded down
abbrev pub quotient : Form → ℕ → Form
quotient f g = record { terms = quotient_terms f.terms g; constant = floor_div f.constant g }

abbrev pub minus_one : Form → Form
minus_one f = plus f (constant_form (negsuc 0))

-- the negation, before it is brought to primitive form
abbrev pub opposite : Sort → Lit → Lit
opposite Rat (AtLeast f) = Above (times (negsuc 0) f)
opposite Int (AtLeast f) = AtLeast (minus_one (times (negsuc 0) f))
opposite s (Above f) = AtLeast (times (negsuc 0) f)
opposite s (Divides d f) = NotDivides d f
opposite s (NotDivides d f) = Divides d f

-- -1 where the constant is negative, else 0
abbrev pub sign_of : ℤ → ℤ
sign_of (pos n) = pos 0
sign_of (negsuc n) = negsuc 0

abbrev pub whole_by : List (ℕ × ℤ) → Form → Form
whole_by [] f = constant_form (sign_of f.constant)
whole_by (t ∷ ts) f = quotient f (divisor Int f)

abbrev pub whole_form : Form → Form
whole_form f = whole_by f.terms f

-- from 0 to d - 1
abbrev pub residue : ℤ → ℕ → ℕ
residue z d = nat_abs (z -ℤ pos d *ℤ floor_div z d)

-- coefficients and constant from 0 to d - 1; a coefficient that becomes 0 is left out
abbrev pub reduce_terms : ℕ → List (ℕ × ℤ) → List (ℕ × ℤ)
reduce_terms d [] = []
reduce_terms d (t ∷ ts) = put_front t.0 (pos (residue t.1 d)) (reduce_terms d ts)

abbrev pub reduce : ℕ → Form → Form
reduce d f = record { terms = reduce_terms d f.terms; constant = pos (residue f.constant d) }

abbrev pub common_divisor : ℕ → Form → ℕ
common_divisor d f = gcd d (gcd (nat_abs f.constant) (gcd_terms f.terms))

-- then all are divided by their greatest common divisor with d; a modulus of 0 is none
abbrev pub modulus_of : ℕ → Form → ℕ
modulus_of zero f = 0
modulus_of (suc n) f = suc n / common_divisor (suc n) (reduce (suc n) f)

abbrev pub residue_form : ℕ → Form → Form
residue_form zero f = f
residue_form (suc n) f = quotient (reduce (suc n) f) (common_divisor (suc n) (reduce (suc n) f))

-- the primitive form of a literal; in Rat a divisibility has none
abbrev pub prim : Sort → Lit → Lit
prim Rat (AtLeast f) = AtLeast (quotient f (divisor Rat f))
prim Rat (Above f) = Above (quotient f (divisor Rat f))
prim Int (AtLeast f) = AtLeast (whole_form f)
prim Int (Above f) = AtLeast (whole_form (minus_one f))
prim Rat (Divides d f) = Divides d f
prim Int (Divides d f) = Divides (modulus_of d f) (residue_form d f)
prim Rat (NotDivides d f) = NotDivides d f
prim Int (NotDivides d f) = NotDivides (modulus_of d f) (residue_form d f)

-- the negation in primitive form
abbrev pub neg : Sort → Lit → Lit
neg s l = prim s (opposite s l)

-- of its sort, and its own primitive form
abbrev pub IsPrimitive : Sort → Lit → Type 0
IsPrimitive s l = IsOf s l × (prim s l ≡ l)
