-- Linear forms, and their values at points.
use Rattle.std.specs.Prelude.{ℕ, zero, suc, ◌*◌, ◌/◌, ◌<◌, ◌≤◌, ◌≡◌, ℤ, pos, negsuc, ◌+ℤ◌, ◌*ℤ◌, List, [], ◌∷◌, ◌++◌, get_or, if◌then◌else◌, nat_lt, ⊤}
pub use Rattle.lin_term.specs.Form.{Form}
pub use Rattle.lin_term.specs.declared.row.Sort.{Sort}
pub use Rattle.lin_term.specs.declared.row.Sort.TheVariants.{Rat, Int}

-- the values nums / den, one denominator for all
pub record Point : Type 0 where
  pub den : ℕ
  pub nums : List ℤ

abbrev pub at : List ℤ → ℕ → ℤ
at nums i = get_or nums i (pos 0)

abbrev pub dot_terms : List (ℕ × ℤ) → List ℤ → ℤ
dot_terms [] nums = pos 0
dot_terms (t ∷ ts) nums = t.1 *ℤ at nums t.0 +ℤ dot_terms ts nums

-- the form's value at the point, times the point's denominator
abbrev pub dot : Form → Point → ℤ
dot f p = dot_terms f.terms p.nums +ℤ f.constant *ℤ pos p.den

-- one more term in front, unless its coefficient is 0
abbrev pub put_front : ℕ → ℤ → List (ℕ × ℤ) → List (ℕ × ℤ)
put_front i (pos zero) ts = ts
put_front i (pos (suc n)) ts = (i, pos (suc n)) ∷ ts
put_front i (negsuc n) ts = (i, negsuc n) ∷ ts

-- adds a to the coefficient of variable i
abbrev pub put : ℕ → ℤ → List (ℕ × ℤ) → List (ℕ × ℤ)
put i a [] = put_front i a []
put i a (t ∷ ts) =
    if nat_lt i t.0 then put_front i a (t ∷ ts) else if nat_lt t.0 i then t ∷ put i a ts else put_front i (a +ℤ t.1) ts

abbrev pub plus_terms : List (ℕ × ℤ) → List (ℕ × ℤ) → List (ℕ × ℤ)
plus_terms [] ts = ts
plus_terms (s ∷ ss) ts = put s.0 s.1 (plus_terms ss ts)

abbrev pub plus : Form → Form → Form
plus f g = record { terms = plus_terms f.terms g.terms; constant = f.constant +ℤ g.constant }

abbrev pub times_terms : ℤ → List (ℕ × ℤ) → List (ℕ × ℤ)
times_terms k [] = []
times_terms k (t ∷ ts) = put_front t.0 (k *ℤ t.1) (times_terms k ts)

abbrev pub times : ℤ → Form → Form
times k f = record { terms = times_terms k f.terms; constant = k *ℤ f.constant }

abbrev pub constant_form : ℤ → Form
constant_form c = record { terms = []; constant = c }

-- k times one variable
abbrev pub variable_form : ℤ → ℕ → Form
variable_form k i = record { terms = put_front i k []; constant = pos 0 }

abbrev pub BelowTerms : ℕ → List (ℕ × ℤ) → Type 0
BelowTerms n [] = ⊤
BelowTerms n (t ∷ ts) = (t.0 < n) × BelowTerms n ts

-- its variables are below n
abbrev pub Below : ℕ → Form → Type 0
Below n f = BelowTerms n f.terms

abbrev pub rename_terms : List ℕ → List (ℕ × ℤ) → List (ℕ × ℤ)
rename_terms names [] = []
rename_terms names (t ∷ ts) = (get_or names t.0 0, t.1) ∷ rename_terms names ts

-- names at the places of the variables
abbrev pub rename : List ℕ → Form → Form
rename names f = record { terms = rename_terms names f.terms; constant = f.constant }

-- a value num / den
pub record Value : Type 0 where
  pub num : ℤ
  pub den : ℕ

abbrev pub IsValue : Sort → Value → Type 0
IsValue Rat v = 1 ≤ v.den
IsValue Int v = v.den ≡ 1

abbrev pub IsPoint : Sort → Point → Type 0
IsPoint Rat p = 1 ≤ p.den
IsPoint Int p = p.den ≡ 1

abbrev pub scale_all : ℤ → List ℤ → List ℤ
scale_all k [] = []
scale_all k (x ∷ xs) = (x *ℤ k) ∷ scale_all k xs

-- one more value at the end
abbrev pub extend : Point → Value → Point
extend p v = record { den = p.den * v.den; nums = scale_all (pos v.den) p.nums ++ ((v.num *ℤ pos p.den) ∷ []) }

abbrev pub origin : Point
origin = record { den = 1; nums = [] }

-- rounded down; the divisor is 1 or more
abbrev pub floor_div : ℤ → ℕ → ℤ
floor_div (pos a) d = pos (a / d)
floor_div (negsuc a) d = negsuc (a / d)
