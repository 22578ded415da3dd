-- The first number past the cap, of lists one after the other.
use Rattle.std.specs.Prelude.{ℕ, ◌≡◌, ℤ, Bool, true, false, if◌then◌else◌, Option, Some, None, List, [], ◌∷◌, ◌++◌}
use Rattle.std.proofs.Common.{ap, refl}
use Rattle.lin_term.specs.Wide.{fits, first_past}
use Rattle.term_select.specs.Guided.{at_position, first_wide}

pub wide_later : (xs ys : List (ℕ × ℤ)) → first_wide xs ≡ None → first_wide (xs ++ ys) ≡ first_wide ys
wide_later [] ys e = refl
wide_later (x ∷ xs) ys e = by (fits x.1) e (wide_later xs ys)
  where
    by : (b : Bool) → (if b then first_wide xs else Some x) ≡ None → (first_wide xs ≡ None → first_wide (xs ++ ys) ≡ first_wide ys) → (if b then first_wide (xs ++ ys) else Some x) ≡ first_wide ys
    by true q k = k q
    by false q k = absurd (cc)

pub wide_first : (xs ys : List (ℕ × ℤ)) (n : ℕ × ℤ) → first_wide xs ≡ Some n → first_wide (xs ++ ys) ≡ Some n
wide_first [] ys n e = absurd (cc)
wide_first (x ∷ xs) ys n e = by (fits x.1) e (wide_first xs ys n)
  where
    by : (b : Bool) → (if b then first_wide xs else Some x) ≡ Some n → (first_wide xs ≡ Some n → first_wide (xs ++ ys) ≡ Some n) → (if b then first_wide (xs ++ ys) else Some x) ≡ Some n
    by true q k = k q
    by false q k = q

pub placed_none : (x : ℕ) (zs : List ℤ) → first_past zs ≡ None → first_wide (at_position x zs) ≡ None
placed_none x [] e = refl
placed_none x (z ∷ zs) e = by (fits z) e (placed_none x zs)
  where
    by : (b : Bool) → (if b then first_past zs else Some z) ≡ None → (first_past zs ≡ None → first_wide (at_position x zs) ≡ None) → (if b then first_wide (at_position x zs) else Some (x, z)) ≡ None
    by true q k = k q
    by false q k = absurd (cc)

abbrev pub found_at : ℕ → ℤ → Option (ℕ × ℤ)
found_at x z = Some (x, z)

the_number : (y z : ℤ) → Some y ≡ Some z → y ≡ z
the_number y z e = cc

same_number : (x : ℕ) (y z : ℤ) → Some y ≡ Some z → found_at x y ≡ found_at x z
same_number x y z e = ap (λ (n : ℤ). found_at x n) (the_number y z e)

pub placed_some : (x : ℕ) (zs : List ℤ) (z : ℤ) → first_past zs ≡ Some z → first_wide (at_position x zs) ≡ Some (x, z)
placed_some x [] z e = absurd (cc)
placed_some x (y ∷ zs) z e = by (fits y) e (placed_some x zs z)
  where
    by : (b : Bool) → (if b then first_past zs else Some y) ≡ Some z → (first_past zs ≡ Some z → first_wide (at_position x zs) ≡ Some (x, z)) → (if b then first_wide (at_position x zs) else Some (x, y)) ≡ Some (x, z)
    by true q k = k q
    by false q k = same_number x y z q
