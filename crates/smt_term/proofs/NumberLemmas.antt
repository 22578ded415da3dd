-- Numbers of digits.
use Rattle.std.proofs.Common.{◌≡◌, ℕ, ◌+◌, ◌-◌, ◌*◌, ◌%◌, ◌^◌, ◌<◌, ◌≤◌, true, false, cond, List, [], ◌∷◌, length, drop, get_or, Option, Some, None, sym, ap, subst, ◌∙◌, arith, drop-cons, add-one}
use Rattle.std.proofs.Math.ListN.{drop_of_length-le}
use Rattle.std.specs.Prelude.{nat_le}
use Rattle.lin_term.specs.Form.{cap}
use Rattle.std.proofs.Math.Nat.{mul-le-mul_left, mul-le-mul_right, pow-le-pow_right, pow-succ'}
use Rattle.std.proofs.lemmas.Nat.{pow-add}
use Rattle.smt_term.specs.Numeral.{number_behind, number_of}

-- a number only grows
pub number-grows : (n : ℕ) (ds : List ℕ) → n ≤ number_behind n ds
number-grows n [] = omega arith
number-grows n (d ∷ ds) = omega (arith, number-grows (n * 10 + (d - 48) % 10) ds)

pub number-step : (n i : ℕ) (ds : List ℕ) → i < length ds → number_behind n (drop i ds) ≡ number_behind (n * 10 + (get_or ds i 0 - 48) % 10) (drop (i + 1) ds)
number-step n i ds lt = rw add-one (ap (number_behind n) (drop-cons ds i 0 lt))

abbrev pub kept_number : ℕ → Option ℕ
kept_number n = cond (nat_le n cap) (Some n) None

le_false : (a b : ℕ) → b < a → nat_le a b ≡ false
le_false a b lt = grind arith

le_true : (a b : ℕ) → a ≤ b → nat_le a b ≡ true
le_true a b le = grind arith

-- past the cap on the way, past it at the end
pub number-past : (n : ℕ) (rest ds : List ℕ) → number_behind n rest ≡ number_of ds → cap < n → None ≡ kept_number (number_of ds)
number-past n rest ds is past =
    let wide : cap < number_of ds = omega (arith, number-grows n rest, is) in
    sym (ap (λ b. cond b (Some (number_of ds)) None) (le_false (number_of ds) cap wide))

pub number-within : (n i : ℕ) (ds : List ℕ) → number_behind n (drop i ds) ≡ number_of ds → length ds ≤ i → n ≤ cap → Some n ≡ kept_number (number_of ds)
number-within n i ds is over le =
    let same : n ≡ number_of ds = sym (ap (number_behind n) (drop_of_length-le ds over)) ∙ is in
    let low : number_of ds ≤ cap = omega (arith, same) in
    ap (λ k. Some k) same ∙ sym (ap (λ b. cond b (Some (number_of ds)) None) (le_true (number_of ds) cap low))

-- ---- the bound of a number of digits

-- it falls with each digit
pub small-step : (n d k : ℕ) (most : ℕ) → d < 10 → (n + 1) * 10 ^ (k + 1) ≤ most → (n * 10 + d + 1) * 10 ^ k ≤ most
small-step n d k most lt le =
    let power : 10 ^ (k + 1) ≡ 10 * 10 ^ k = rw add-one (pow-succ' 10 k) in
    let more : (n * 10 + d + 1) * 10 ^ k ≤ (n * 10 + 10) * 10 ^ k = mul-le-mul_right (10 ^ k) (omega arith) in
    let whole : (n + 1) * (10 * 10 ^ k) ≤ most = subst (λ p. (n + 1) * p ≤ most) power le in
    omega (arith, more, whole)

-- there is room for one digit more
pub room : (n k most : ℕ) → 1 ≤ k → (n + 1) * 10 ^ k ≤ most → (n + 1) * 10 ≤ most
room n k most some le =
    let low : 10 ^ 1 ≤ 10 ^ k = pow-le-pow_right {n = 10} (omega arith) some in
    omega (arith, mul-le-mul_left (n + 1) low, le)

pub power-room : (i : ℕ) → i < 38 → 10 ^ i * 10 ≤ 10 ^ 38
power-room i lt =
    let power : 10 ^ (i + 1) ≡ 10 * 10 ^ i = rw add-one (pow-succ' 10 i) in
    let up : i + 1 ≤ 38 = omega arith in
    let low : 10 ^ (i + 1) ≤ 10 ^ 38 = pow-le-pow_right {n = 10} (omega arith) up in
    omega (arith, power, low)

pub one-run : (w : ℕ) → w ≤ 38 → 1 * 10 ^ w ≤ 10 ^ 38
one-run w le =
    let low : 10 ^ w ≤ 10 ^ 38 = pow-le-pow_right {n = 10} (omega arith) le in
    omega (arith, low)

pub two-runs : (n w f : ℕ) → n + 1 ≤ 1 * 10 ^ w → w + f ≤ 38 → (n + 1) * 10 ^ f ≤ 10 ^ 38
two-runs n w f small le =
    let low : 10 ^ (w + f) ≤ 10 ^ 38 = pow-le-pow_right {n = 10} (omega arith) le in
    let first : n + 1 ≤ 10 ^ w = omega (arith, small) in
    omega (arith, mul-le-mul_right (10 ^ f) first, pow-add 10 w f, low)

-- a power of ten with at most 38 zeros
pub power-small : (n : ℕ) → n ≤ 38 → 10 ^ n ≤ 10 ^ 38
power-small n le = pow-le-pow_right {n = 10} (omega arith) le

pub power-some : (n : ℕ) → 1 ≤ 10 ^ n
power-some n = let least : 0 ≤ n = omega arith in let low : 10 ^ 0 ≤ 10 ^ n = pow-le-pow_right {n = 10} (omega arith) least in omega (arith, low)
