-- Points over the integers, and one more value.
use Rattle.std.specs.Prelude.{ℕ, zero, suc, ◌+◌, if◌then◌else◌, ◌≡◌, ℤ, pos, List, [], ◌∷◌, ◌++◌, length}
use Rattle.lin_term.specs.declared.Lit.{Lit}
use Rattle.lin_term.specs.Linear.{Point}
use Rattle.dom_core.specs.Elimination.{is_lower, size_at}

-- one more number at the end
abbrev pub added : Point → ℤ → Point
added p z = record { den = 1; nums = p.nums ++ z ∷ [] }

-- t is p with the number 0 for the variable x
pub record IsTrial (x : ℕ) (p t : Point) : Type 0 where
  pub whole : p.den ≡ 1
  pub count : length p.nums ≡ x
  pub trial : t ≡ added p (pos 0)

-- where there is no case
abbrev pub no_value : Point → ℤ
no_value p = pos 0

abbrev pub zeros : ℕ → List ℤ
zeros zero = []
zeros (suc k) = pos 0 ∷ zeros k

-- 0 for k more variables
abbrev pub with_zeros : Point → ℕ → Point
with_zeros p k = record { den = p.den; nums = p.nums ++ zeros k }

-- the coefficient of a lower literal, 0 of another
abbrev pub lower_size : ℕ → Lit → ℕ
lower_size x l = if is_lower x l then size_at x l else 0

-- the sum of the coefficients of the lower literals
abbrev pub sizes : ℕ → List Lit → ℕ
sizes x [] = 0
sizes x (l ∷ ls) = lower_size x l + sizes x ls
