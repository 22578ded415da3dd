-- What a list has, and how often.
use Rattle.std.specs.Prelude.{ℕ, ◌+◌, ◌≤◌, ◌≡◌, ◌⊎◌, if◌then◌else◌, List, [], ◌∷◌}
use Rattle.lin_term.specs.declared.Lit.{Lit}
use Rattle.lin_term.specs.Same.{same_literal}

-- x is one of the elements
abbrev pub IsAmong : {A : Type 0} → A → List A → Type 0
IsAmong {A} x [] = ⊥
IsAmong {A} x (y ∷ ys) = (x ≡ y) ⊎ IsAmong x ys

-- how often a literal is there
abbrev pub times_among : Lit → List Lit → ℕ
times_among l [] = 0
times_among l (k ∷ ks) = (if same_literal l k then 1 else 0) + times_among l ks

-- each literal is there at most as often as in the list
abbrev pub IsTakenFrom : List Lit → List Lit → Type 0
IsTakenFrom cube literals = (l : Lit) → times_among l cube ≤ times_among l literals
