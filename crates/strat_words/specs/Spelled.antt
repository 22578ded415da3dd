-- Numbers as they are written: each behind a space.
use Rattle.std.specs.Prelude.{ℕ, List, ◌∷◌, decimal, ℤ}
use Rattle.std.specs.Fmt.{signed_decimal}

abbrev pub natural : ℕ → List ℕ
natural n = 32 ∷ decimal n

abbrev pub signed : ℤ → List ℕ
signed z = 32 ∷ signed_decimal z
