-- Numerals and decimals as numbers.
use Rattle.std.specs.Prelude.{ℕ, ◌+◌, ◌-◌, ◌*◌, ◌%◌, ◌^◌, ◌==◌, nat_le, if◌then◌else◌, List, [], ◌∷◌, length, take, drop, Option, Some, None, Ok, pos}
use Rattle.std.specs.Char.{is_ascii_digit}
use Rattle.std.specs.List.{prefix_len}
use Rattle.ss_names.specs.declared.FaultKind.TheVariants as kind
use Rattle.lin_term.specs.Form.{cap}
use Rattle.lin_term.specs.Linear.{Value}
use Rattle.smt_lex.specs.Lexeme.{Lexeme}
use Rattle.smt_lex.specs.Place.{Place}
use Rattle.smt_term.specs.Reading.{Read, refuse, unless, place_of}
use Rattle.lin_truth.specs.Worked.{kept}

-- the number of these decimal digits, behind those that make n; a digit's value is its code less 48
abbrev pub number_behind : ℕ → List ℕ → ℕ
number_behind n [] = n
number_behind n (d ∷ ds) = number_behind (n * 10 + (d - 48) % 10) ds

abbrev pub number_of : List ℕ → ℕ
number_of = number_behind 0

abbrev pub numeral : Lexeme → Read ℕ
numeral t = unless (nat_le (number_of t.text) cap) kind.Number (place_of t) (Ok (number_of t.text))

-- the digits before the point of a decimal
abbrev pub whole_digits : List ℕ → List ℕ
whole_digits run = take (prefix_len is_ascii_digit run) run

-- how many digits there are up to the last that is not 0, behind i digits of which so many count
abbrev pub significant : ℕ → ℕ → List ℕ → ℕ
significant i kept [] = kept
significant i kept (d ∷ ds) = significant (i + 1) (if d == 48 then kept else i + 1) ds

-- without the zeros at the end
abbrev pub trimmed : List ℕ → List ℕ
trimmed ds = take (significant 0 0 ds) ds

-- the digits behind the point that count
abbrev pub fraction_digits : List ℕ → List ℕ
fraction_digits run = trimmed (drop (prefix_len is_ascii_digit run + 1) run)

abbrev pub most_digits : ℕ
most_digits = 38

-- the value of a decimal, not in lowest terms
abbrev pub decimal_value : List ℕ → Value
decimal_value run =
    record { num = pos (number_behind (number_of (whole_digits run)) (fraction_digits run)); den = 10 ^ length (fraction_digits run) }

abbrev pub kept_or_fault : Place → Option Value → Read Value
kept_or_fault p None = refuse kind.Number p
kept_or_fault p (Some v) = Ok v

-- a decimal in lowest terms: at most 38 digits, and within the cap
abbrev pub decimal : Lexeme → Read Value
decimal t =
    unless (nat_le (length (whole_digits t.text) + length (fraction_digits t.text)) most_digits) kind.Number (place_of t)
    (kept_or_fault (place_of t) (kept (decimal_value t.text)))
