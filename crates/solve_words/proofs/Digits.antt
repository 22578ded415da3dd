-- The number of a word of at most four digits.
use Rattle.std.proofs.Common.{◌≡◌, ℕ, ◌+◌, ◌*◌, ◌-◌, ◌^◌, ◌<◌, ◌≤◌, Bool, true, false, not, ◌&&◌, ◌||◌, List, [], ◌∷◌, take, length, get_or, Some, None, refl, ap, arith}
use Rattle.std.proofs.lemmas.Bool.{le-leb, ne_eqb}
use Rattle.std.proofs.lemmas.List.{length-take-le}
use Rattle.std.specs.Prelude.{◌==◌, nat_le, nat_lt, option_and_then, if◌then◌else◌}
use Rattle.std.specs.Int.{IsInRange}
use Rattle.std.specs.Char.{is_ascii_digit, digit_value}
use Rattle.std.specs.List.{list_all}
use Rattle.std.specs.Str.Parse.{digits_value, digits_value_after}
use Rattle.std.proofs.lemmas.Str.{digit_value_digit}
use Rattle.std.proofs.lemmas.Str.Parse.{digits_value_short, digit_at}
use Rattle.strat_words.specs.Number.{is_plain, natural_of, within}
use Rattle.strat_words.proofs.Numbers.{Valued, own}

one_digit : (c : ℕ) → is_ascii_digit c ≡ true → (48 ≤ c) × (c < 58) × (digit_value c + 48 ≡ c)
one_digit c h =
    let r : IsInRange 48 57 c = digit_at (c ∷ []) 0 (own.to (c ∷ []) (ap (λ (b : Bool). b && true) h)) (omega arith) in
    (omega (arith, r), omega (arith, r), digit_value_digit c r)

-- four digits stay below 10,000
pub four_digits : (ds : List ℕ) (i n c : ℕ) → length ds < 5 → i < length ds → Valued ds i n → c ≡ get_or ds i 0 → is_ascii_digit c ≡ true
    → (n * 10 < 2 ^ 32) × (48 ≤ c) × (n * 10 + (c - 48) < 2 ^ 32)
four_digits ds i n c short lt v e h =
    let d = one_digit c h in
    let b = digits_value_short own (take i ds) 4 v.digits (let l = length-take-le i ds (omega arith) in omega arith) in
    (omega (arith, v.value, b), d.0, omega (arith, d.1, v.value, b))

le_value_after : (n : ℕ) (ds : List ℕ) → n ≤ digits_value_after 10 n ds
le_value_after n [] = omega arith
le_value_after n (c ∷ cs) = omega (arith, le_value_after (n * 10 + digit_value c) cs)

-- and five digits, the first of which is no 0, do not
five_digits : (a b c d e : ℕ) (ds : List ℕ) → is_ascii_digit a ≡ true → not (a == 48) ≡ true → 10000 ≤ digits_value 10 (a ∷ b ∷ c ∷ d ∷ e ∷ ds)
five_digits a b c d e ds h z =
    let k = one_digit a h in
    let m = 0 * 10 + digit_value a in
    let n = (((m * 10 + digit_value b) * 10 + digit_value c) * 10 + digit_value d) * 10 + digit_value e in
    let some : 1 ≤ digit_value a = grind (arith, k, z) in
    omega (arith, le_value_after n ds, some)

both : (a b : Bool) → (a && b) ≡ true → (a ≡ true) × (b ≡ true)
both true b e = (refl, e)
both false b e = absurd cc

past_limit : (n low limit : ℕ) → nat_le limit n ≡ true → within low limit n ≡ None
past_limit n low limit h = rw h (go (nat_lt n low))
  where
    go : (b : Bool) → (if b || true then None else Some n) ≡ None
    go true = refl
    go false = refl

-- a word of more than four bytes is no number up to 4,096
pub long_is_none : (w : List ℕ) (low limit : ℕ) → 4 < length w → limit ≤ 4097 → natural_of low limit w ≡ None
long_is_none (a ∷ b ∷ c ∷ d ∷ e ∷ ds) low limit long small = go (is_plain (a ∷ b ∷ c ∷ d ∷ e ∷ ds)) refl
  where
    go : (p : Bool) → is_plain (a ∷ b ∷ c ∷ d ∷ e ∷ ds) ≡ p → option_and_then (within low limit) (if p then Some (digits_value 10 (a ∷ b ∷ c ∷ d ∷ e ∷ ds)) else None) ≡ None
    go false f = refl
    go true f =
        let outer = both (list_all is_ascii_digit (a ∷ b ∷ c ∷ d ∷ e ∷ ds) && not (length (a ∷ b ∷ c ∷ d ∷ e ∷ ds) == 0)
        && (length (a ∷ b ∷ c ∷ d ∷ e ∷ ds) == 1 || not (a == 48))) (nat_lt (length (a ∷ b ∷ c ∷ d ∷ e ∷ ds)) 33) f in
        let zero = both (list_all is_ascii_digit (a ∷ b ∷ c ∷ d ∷ e ∷ ds) && not (length (a ∷ b ∷ c ∷ d ∷ e ∷ ds) == 0))
        (length (a ∷ b ∷ c ∷ d ∷ e ∷ ds) == 1 || not (a == 48)) outer.0 in
        let digits = both (list_all is_ascii_digit (a ∷ b ∷ c ∷ d ∷ e ∷ ds)) (not (length (a ∷ b ∷ c ∷ d ∷ e ∷ ds) == 0)) zero.0 in
        let first = both (is_ascii_digit a) (list_all is_ascii_digit (b ∷ c ∷ d ∷ e ∷ ds)) digits.0 in
        let more : (length (a ∷ b ∷ c ∷ d ∷ e ∷ ds) == 1) ≡ false = ne_eqb _ _ (λ h. omega (arith, h)) in
        let leads : not (a == 48) ≡ true = rw more at zero.1 in
        let big = five_digits a b c d e ds first.0 leads in
        past_limit _ low limit (le-leb limit _ (omega (arith, big)))
long_is_none [] low limit long small = absurd (omega arith)
long_is_none (a ∷ []) low limit long small = absurd (omega arith)
long_is_none (a ∷ b ∷ []) low limit long small = absurd (omega arith)
long_is_none (a ∷ b ∷ c ∷ []) low limit long small = absurd (omega arith)
long_is_none (a ∷ b ∷ c ∷ d ∷ []) low limit long small = absurd (omega arith)
