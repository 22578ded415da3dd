-- Tests of two whole numbers.
use Rattle.std.specs.Prelude.{◌≡◌, ℤ, pos, ◌+ℤ◌, ◌≤ℤ◌, ◌<ℤ◌, int_le, int_lt, Bool, true, false}
use Rattle.std.proofs.Common.{arith}
use Rattle.std.proofs.lemmas.Int.{ints, by_lt_z}

pub true_le : (a b : ℤ) → int_le a b ≡ true → a ≤ℤ b
true_le a b e = omega (arith, ints)

pub false_le : (a b : ℤ) → int_le a b ≡ false → (b +ℤ pos 1) ≤ℤ a
false_le a b e = by_lt_z b a (λ h. omega (arith, ints)) (λ h. absurd (let u = le_true a b h in cc))
  where
    le_true : (a b : ℤ) → a ≤ℤ b → int_le a b ≡ true
    le_true a b h = grind (arith, ints)

pub le_true : (a b : ℤ) → a ≤ℤ b → int_le a b ≡ true
le_true a b h = grind (arith, ints)

pub lt_true : (a b : ℤ) → a <ℤ b → int_lt a b ≡ true
lt_true a b h = grind (arith, ints)

pub true_lt : (a b : ℤ) → int_lt a b ≡ true → a <ℤ b
true_lt a b e = omega (arith, ints)

pub le_false : (a b : ℤ) → (b +ℤ pos 1) ≤ℤ a → int_le a b ≡ false
le_false a b h = grind (arith, ints)
