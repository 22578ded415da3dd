-- Laws of the greatest common divisor.
use Prim.Native.Nat.{◌∣◌}
use Rattle.std.specs.Prelude.{ℕ, ◌+◌, ◌≡◌, ◌%◌, ◌<◌, ℤ, nat_abs, List, drop, get_or, length}
use Rattle.std.specs.Int.{IsGcd}
use Rattle.std.proofs.Common.{◌∙◌, subst, refl}
use Rattle.std.proofs.lemmas.Nat.Gcd.{IsGcd-from_mod, IsGcd-from_zero, same_from_IsGcd, dvd_trans, dvd_refl, IsGcd-swap}
use Rattle.std.proofs.lemmas.List.{at_drop_more}
use Rattle.std.proofs.Math.Nat.{one-dvd}
use Rattle.lin_term.specs.Literal.{gcd, gcd_terms}
use Rattle.lin_term.proofs.PrimitiveLemmas.{gcd_is}

-- one step of Euclid's algorithm
pub gcd_step : (a b : ℕ) → gcd b (a % b) ≡ gcd a b
gcd_step a b =
    same_from_IsGcd a b (gcd b (a % b)) (gcd a b) (IsGcd-from_mod a b (gcd b (a % b)) (gcd_is b (a % b))) (gcd_is a b)

pub gcd_zero : (a b : ℕ) → b ≡ 0 → gcd a b ≡ a
gcd_zero a b e = same_from_IsGcd a b (gcd a b) a (gcd_is a b) (IsGcd-from_zero a b e)

-- what divides both divides the divisor, and the divisor is the one that all such numbers divide
gcd_of_three : (a b c : ℕ) → IsGcd a (gcd b c) (gcd (gcd a b) c)
gcd_of_three a b c =
    let g = gcd_is (gcd a b) c in
    let h = gcd_is a b in
    let k = gcd_is b c in (
      dvd_trans (gcd (gcd a b) c) g.0 h.0,
      k.2 (gcd (gcd a b) c) (dvd_trans (gcd (gcd a b) c) g.0 h.1) g.1,
      λ d p q. g.2 d (h.2 d p (dvd_trans d q k.0)) (dvd_trans d q k.1),
    )

pub gcd_assoc : (a b c : ℕ) → gcd (gcd a b) c ≡ gcd a (gcd b c)
gcd_assoc a b c = same_from_IsGcd a (gcd b c) (gcd (gcd a b) c) (gcd a (gcd b c)) (gcd_of_three a b c) (gcd_is a (gcd b c))

pub gcd_one : (a b : ℕ) → a ≡ 1 → gcd a b ≡ 1
gcd_one a b e =
    same_from_IsGcd a b (gcd a b) 1 (gcd_is a b) (subst (λ (n : ℕ). n ∣ a) e (dvd_refl a), one-dvd b, λ d p q. subst (λ (n : ℕ). d ∣ n) e p)

pub gcd_comm : (a b : ℕ) → gcd a b ≡ gcd b a
gcd_comm a b = same_from_IsGcd b a (gcd a b) (gcd b a) (IsGcd-swap a b (gcd a b) (gcd_is a b)) (gcd_is b a)

pub gcd_zero_left : (b : ℕ) → gcd 0 b ≡ b
gcd_zero_left b = gcd_comm 0 b ∙ gcd_zero b 0 refl

-- one more coefficient is taken in
pub gcd_more : (common start all next rest : ℕ) → gcd common (gcd next rest) ≡ gcd start all → gcd (gcd common next) rest ≡ gcd start all
gcd_more common start all next rest e = gcd_assoc common next rest ∙ e

pub gcd_terms_drop : (ts : List (ℕ × ℤ)) (i : ℕ) (d : ℕ × ℤ) → i < length ts → gcd_terms (drop i ts) ≡ gcd (nat_abs (get_or ts i d).1) (gcd_terms (drop (i + 1) ts))
gcd_terms_drop ts i d h = at_drop_more gcd_terms ts i d h
