-- Terms that ascend, one after the other.
use Rattle.std.specs.Prelude.{ℕ, zero, suc, ◌+◌, ◌<◌, ◌≤◌, ◌≢◌, ◌^◌, ◌≡◌, ℤ, pos, nat_abs, true, List, [], ◌∷◌, ◌++◌}
use Rattle.std.proofs.Common.{arith}
use Rattle.std.proofs.lemmas.Bool.{leb-true}
use Rattle.lin_term.specs.Form.{AreTerms, cap}
use Rattle.lin_term.specs.Linear.{BelowTerms}
use Rattle.lin_term.specs.Wide.{fits}
use Rattle.lin_term.proofs.Defining.{are_last}

pub kept_size : (z : ℤ) → fits z ≡ true → nat_abs z ≤ cap
kept_size z e = leb-true (nat_abs z) cap e

pub are_more : (v : ℕ) (d : ℤ) (ts : List (ℕ × ℤ)) → v < 2 ^ 20 → d ≢ pos 0 → nat_abs d ≤ cap → AreTerms 0 ts → BelowTerms v ts → AreTerms 0 (ts ++ (v, d) ∷ [])
are_more v d ts k e l a b = are_last 0 v d ts (omega arith) k e l a b

pub below_more : (n v : ℕ) (ts : List (ℕ × ℤ)) → n ≤ v → BelowTerms n ts → BelowTerms v ts
below_more n v [] h b = tt
below_more n v (t ∷ ts) h b = (omega (arith, b.0), below_more n v ts h b.1)

pub below_last : (v : ℕ) (d : ℤ) (ts : List (ℕ × ℤ)) → BelowTerms v ts → BelowTerms (v + 1) (ts ++ (v, d) ∷ [])
below_last v d [] b = (omega arith, tt)
below_last v d (t ∷ ts) b = (omega (arith, b.0), below_last v d ts b.1)
