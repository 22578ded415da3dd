-- Linear forms.
use Rattle.std.specs.Prelude.{ℕ, ◌<◌, ◌≤◌, ◌≢◌, ◌^◌, ◌+◌, ℤ, pos, nat_abs, List, [], ◌∷◌, ⊤}

-- a constant and the coefficients by variable number
pub record Form : Type 0 where
  pub terms : List (ℕ × ℤ)
  pub constant : ℤ

abbrev pub cap : ℕ
cap = 2 ^ 52

-- ascending from variable n on, none 0, all within the cap
abbrev pub AreTerms : ℕ → List (ℕ × ℤ) → Type 0
AreTerms n [] = ⊤
AreTerms n (t ∷ ts) = (n ≤ t.0) × (t.0 < 2 ^ 20) × (t.1 ≢ pos 0) × (nat_abs t.1 ≤ cap) × AreTerms (t.0 + 1) ts

abbrev pub IsRow : Form → Type 0
IsRow f = AreTerms 0 f.terms × (nat_abs f.constant ≤ cap)
