-- One more at a place of a list.
use Rattle.std.specs.Prelude.{ℕ, zero, suc, ◌+◌, ◌≡◌, ◌≤◌, ◌<◌, List, [], ◌∷◌, ◌++◌, length, get_or}
use Rattle.std.proofs.Common.{arith, ap, refl, set}
use Rattle.prenex_form.specs.Pass.{bump}

-- a zero behind the end says nothing
pub bump_zero : (xs : List ℕ) (i : ℕ) → length xs ≤ i → bump (xs ++ 0 ∷ []) i ≡ bump xs i
bump_zero [] zero h = refl
bump_zero [] (suc i) h = refl
bump_zero (x ∷ xs) zero h = absurd (omega arith)
bump_zero (x ∷ xs) (suc i) h = ap (λ (ys : List ℕ). x ∷ ys) (bump_zero xs i (omega arith))

pub get_zero : (xs : List ℕ) (i : ℕ) → get_or (xs ++ 0 ∷ []) i 0 ≡ get_or xs i 0
get_zero [] zero = refl
get_zero [] (suc i) = refl
get_zero (x ∷ xs) zero = refl
get_zero (x ∷ xs) (suc i) = get_zero xs i

pub bump_set : (xs : List ℕ) (i y : ℕ) → i < length xs → y ≡ get_or xs i 0 + 1 → set xs i y ≡ bump xs i
bump_set [] i y h e = absurd (omega arith)
bump_set (x ∷ xs) zero y h e = let f : y ≡ suc x = omega arith in ap (λ (z : ℕ). z ∷ xs) f
bump_set (x ∷ xs) (suc i) y h e = ap (λ (ys : List ℕ). x ∷ ys) (bump_set xs i y (omega arith) e)
