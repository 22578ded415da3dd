-- The sum of multiples of two rows' terms.
use Rattle.std.specs.Prelude.{ℕ, zero, suc, ◌<◌, ◌≡◌, ℤ, pos, ◌+ℤ◌, if◌then◌else◌, nat_eq, List}
use Rattle.lin_term.specs.Linear.{times_terms, plus_terms}
use Rattle.lin_term.specs.Literal.{reduce_terms, residue}
use Rattle.lin_term.specs.PutIn.{without}

-- modulo d; 0 leaves the terms as they are
abbrev pub reduce_by : ℕ → List (ℕ × ℤ) → List (ℕ × ℤ)
reduce_by zero ts = ts
reduce_by (suc n) ts = reduce_terms (suc n) ts

-- p times the left terms and q times the right ones without x
abbrev pub sum_terms : ℤ → List (ℕ × ℤ) → ℤ → List (ℕ × ℤ) → ℕ → List (ℕ × ℤ)
sum_terms p ls q rs x = plus_terms (times_terms p ls) (times_terms q (without rs x))

-- 0 at x
abbrev pub unless : ℕ → ℕ × ℤ → ℤ
unless x t = if nat_eq t.0 x then pos 0 else t.1

-- the first term of a sum, and how many terms of each side it takes
pub record IsHead (x y : ℕ × ℤ) (var : ℕ) (coef : ℤ) (left right : ℕ) : Type 0 where
  pub less : x.0 < y.0 → (var ≡ x.0) × (coef ≡ x.1) × (left ≡ 1) × (right ≡ 0)
  pub more : y.0 < x.0 → (var ≡ y.0) × (coef ≡ y.1) × (left ≡ 0) × (right ≡ 1)
  pub same : x.0 ≡ y.0 → (var ≡ x.0) × (coef ≡ x.1 +ℤ y.1) × (left ≡ 1) × (right ≡ 1)

-- modulo d; 0 leaves the number as it is
abbrev pub residue_by : ℕ → ℤ → ℤ
residue_by zero z = z
residue_by (suc n) z = pos (residue z (suc n))
