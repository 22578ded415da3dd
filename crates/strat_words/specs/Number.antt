-- Words that are numbers.
use Rattle.std.specs.Prelude.{ℕ, Bool, not, ◌&&◌, ◌||◌, ◌==◌, nat_lt, nat_le, ◌+◌, zero, suc, if◌then◌else◌, List, length, drop, Option, Some, None, slice_index, ℤ, pos, negsuc, neg_ℤ}
use Rattle.lin_term.specs.Form.{cap}
use Rattle.std.specs.Char.{is_ascii_digit}
use Rattle.std.specs.List.{list_all}
use Rattle.std.specs.Option.{option_and_then, option_map}
use Rattle.std.specs.Str.Parse.{digits_value, starts_with_minus}

-- one more than the greatest u32
abbrev pub U32 : ℕ
U32 = 4294967296

-- `0`, or digits without a leading zero. With more than 32 of them the number is past each limit.
abbrev pub is_plain : List ℕ → Bool
is_plain ds = list_all is_ascii_digit ds && not (length ds == 0) && (length ds == 1 || not (slice_index ds 0 == 48)) && nat_lt (length ds) 33

-- the value of digits, with or without zeros in front
abbrev pub value_of_digits : List ℕ → Option ℕ
value_of_digits ds = if list_all is_ascii_digit ds then Some (digits_value 10 ds) else None

abbrev pub magnitude_of : List ℕ → Option ℕ
magnitude_of ds = if is_plain ds then Some (digits_value 10 ds) else None

-- from low to below the limit
abbrev pub within : ℕ → ℕ → ℕ → Option ℕ
within low limit n = if nat_lt n low || nat_le limit n then None else Some n

-- a number without a sign
abbrev pub natural_of : ℕ → ℕ → List ℕ → Option ℕ
natural_of low limit word = option_and_then (within low limit) (magnitude_of word)

-- a number with or without a sign, whose size is below the limit
abbrev pub signed_of : ℕ → List ℕ → Option ℤ
signed_of limit word =
    if starts_with_minus word
    then option_map (λ n. neg_ℤ (pos n)) (natural_of 1 limit (drop 1 word))
    else option_map pos (natural_of 0 limit word)

abbrev pub not_zero : ℤ → Option ℤ
not_zero (pos zero) = None
not_zero (pos (suc n)) = Some (pos (suc n))
not_zero (negsuc n) = Some (negsuc n)

-- a number other than 0
abbrev pub coef_of : List ℕ → Option ℤ
coef_of word = option_and_then not_zero (signed_of (cap + 1) word)
