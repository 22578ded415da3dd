-- The names that are handed down ascend, so a renamed row stays a row.
use Rattle.std.specs.Prelude.{ℕ, zero, suc, ◌+◌, ◌<◌, ◌≤◌, ◌^◌, ℤ, List, [], ◌∷◌, ◌++◌, length, get_or, ⊤}
use Rattle.std.proofs.Common.{arith}
use Rattle.lin_term.specs.Form.{Form, AreTerms, IsRow}
use Rattle.lin_term.specs.Linear.{BelowTerms, Below, rename, rename_terms}
use Rattle.lin_term.specs.Rising.{IsRising}

-- each is at least n, and more than the one before it
abbrev pub Ascends : ℕ → List ℕ → Type 0
Ascends n [] = ⊤
Ascends n (i ∷ is) = (n ≤ i) × Ascends (i + 1) is

abbrev pub AllBelow : ℕ → List ℕ → Type 0
AllBelow n [] = ⊤
AllBelow n (i ∷ is) = (i < n) × AllBelow n is

ascends_less : (n m : ℕ) (is : List ℕ) → m ≤ n → Ascends n is → Ascends m is
ascends_less n m [] h a = tt
ascends_less n m (i ∷ is) h a = (omega arith, a.1)

-- the i-th is at least n + i
pub ascends_get : (n : ℕ) (is : List ℕ) (i : ℕ) → Ascends n is → i < length is → n ≤ get_or is i 0
ascends_get n [] i a h = absurd (omega arith)
ascends_get n (j ∷ is) zero a h = a.0
ascends_get n (j ∷ is) (suc i) a h = let l = ascends_get (j + 1) is i a.1 (omega arith) in omega arith

pub ascends_two : (n : ℕ) (is : List ℕ) (i j : ℕ) → Ascends n is → i < j → j < length is → get_or is i 0 < get_or is j 0
ascends_two n [] i j a h l = absurd (omega arith)
ascends_two n (k ∷ is) zero zero a h l = absurd (omega arith)
ascends_two n (k ∷ is) zero (suc j) a h l = let g = ascends_get (k + 1) is j a.1 (omega arith) in omega arith
ascends_two n (k ∷ is) (suc i) zero a h l = absurd (omega arith)
ascends_two n (k ∷ is) (suc i) (suc j) a h l = ascends_two (k + 1) is i j a.1 (omega arith) (omega arith)

pub push_ascends : (n : ℕ) (is : List ℕ) (k : ℕ) → Ascends n is → AllBelow k is → n ≤ k → Ascends n (is ++ k ∷ [])
push_ascends n [] k a b h = (h, tt)
push_ascends n (i ∷ is) k a b h = (a.0, push_ascends (i + 1) is k a.1 b.1 (let l = b.0 in omega arith))

pub below_push : (n : ℕ) (is : List ℕ) (k : ℕ) → AllBelow n is → k < n → AllBelow n (is ++ k ∷ [])
below_push n [] k b h = (h, tt)
below_push n (i ∷ is) k b h = (b.0, below_push n is k b.1 h)

pub below_suc : (n : ℕ) (is : List ℕ) → AllBelow n is → AllBelow (suc n) is
below_suc n [] b = tt
below_suc n (i ∷ is) b = ((let l = b.0 in omega arith), below_suc n is b.1)

-- ---- rows

below_get : (n : ℕ) (is : List ℕ) (i : ℕ) → AllBelow n is → i < length is → get_or is i 0 < n
below_get n [] i b h = absurd (omega arith)
below_get n (j ∷ is) zero b h = b.0
below_get n (j ∷ is) (suc i) b h = below_get n is i b.1 (omega arith)

pub rising : (names : List ℕ) (n : ℕ) → Ascends 0 names → AllBelow n names → IsRising names n
rising names n a b = record {
  ascend = λ i j h l. ascends_two 0 names i j a h l;
  below = λ i l. below_get n names i b l;
}

rows_from : (names : List ℕ) (ts : List (ℕ × ℤ)) (n lo : ℕ) → Ascends 0 names → AllBelow (2 ^ 20) names → BelowTerms (length names) ts → AreTerms n ts → ((i : ℕ) → n ≤ i → i < length names → lo ≤ get_or names i 0) → AreTerms lo (rename_terms names ts)
rows_from names [] n lo a c b h f = tt
rows_from names (t ∷ ts) n lo a c b h f =
    (f t.0 h.0 b.0, below_get (2 ^ 20) names t.0 c b.0, h.2, h.3, rows_from names ts (t.0 + 1) (get_or names t.0 0 + 1) a c b.1 h.4 (λ j k l. let g = ascends_two 0 names t.0 j a (omega arith) l in omega arith))

pub renamed_row : (names : List ℕ) (f : Form) → Ascends 0 names → AllBelow (2 ^ 20) names → Below (length names) f → IsRow f → IsRow (rename names f)
renamed_row names f a c b h = (rows_from names f.terms 0 0 a c b h.0 (λ i k l. omega arith), h.1)
