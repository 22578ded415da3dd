-- A coefficient as its size with a sign.
use Rattle.std.specs.Prelude.{ℕ, ◌≡◌, ℤ, pos, negsuc, ◌+ℤ◌, ◌*ℤ◌, neg_ℤ}
use Rattle.std.proofs.Common.{arith}
use Rattle.std.proofs.lemmas.Int.{ints}

pub once_more : (n : ℕ) → pos n ≡ pos 0 +ℤ pos n *ℤ pos 1
once_more n = omega (arith, ints)

pub once_less : (z : ℤ) (n : ℕ) → neg_ℤ z ≡ pos n → z ≡ pos n *ℤ negsuc 0
once_less z n e = omega (arith, ints)

pub turned_back : (z : ℤ) (n : ℕ) → neg_ℤ z ≡ pos n → z ≡ neg_ℤ (pos n)
turned_back z n e = omega (arith, ints)
