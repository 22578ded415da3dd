-- A run of bytes, and the kind of token that it is.
use Rattle.std.specs.Prelude.{ℕ, ◌+◌, Bool, false, not, ◌&&◌, ◌||◌, ◌==◌, if◌then◌else◌, List, [], ◌∷◌, take, drop, length, Option, Some, None, slice_index, codes}
use Rattle.std.specs.Char.{is_ascii_digit, is_ascii_hexdigit, is_ascii_alphanumeric}
use Rattle.std.specs.Str.{bytes_eq}
use Rattle.std.specs.List.{list_all, list_any, prefix_len}
use Rattle.smt_lex.specs.declared.token.TokenKind.{TokenKind}
use Rattle.smt_lex.specs.declared.token.TokenKind.TheVariants.{Numeral, Decimal, Hexadecimal, Binary, Keyword, Symbol}

-- space, tab, line feed, carriage return
abbrev pub is_blank : ℕ → Bool
is_blank b = b == 32 || b == 9 || b == 10 || b == 13

-- what a run may hold: no white space, parenthesis, `;`, `"` or `|`
abbrev pub is_of_run : ℕ → Bool
is_of_run b = not (is_blank b || b == 40 || b == 41 || b == 59 || b == 34 || b == 124)

-- letters, digits and ~ ! @ $ % ^ & * _ - + = < > . ? /
unfoldable pub is_symbol_byte : ℕ → Bool
is_symbol_byte b = is_ascii_alphanumeric b || list_any (λ c. b == c) (codes "~!@$%^&*_-+=<>.?/")

-- one or more bytes that pass the test
abbrev pub are_all : (ℕ → Bool) → List ℕ → Bool
are_all test [] = false
are_all test (b ∷ run) = list_all test (b ∷ run)

-- `0`, or digits without a leading zero
abbrev pub is_numeral : List ℕ → Bool
is_numeral run = are_all is_ascii_digit run && (length run == 1 || not (slice_index run 0 == 48))

-- a numeral, `.`, one or more digits
abbrev pub is_decimal : List ℕ → Bool
is_decimal run =
    let whole = prefix_len is_ascii_digit run in
    is_numeral (take whole run) && slice_index run whole == 46 && are_all is_ascii_digit (drop (whole + 1) run)

-- a mark of two bytes, and one or more that pass the test
abbrev pub is_marked : List ℕ → (ℕ → Bool) → List ℕ → Bool
is_marked mark test run = bytes_eq (take (length mark) run) mark && are_all test (drop (length mark) run)

-- one or more symbol bytes, of which the first is no digit
abbrev pub is_simple : List ℕ → Bool
is_simple run = not (is_ascii_digit (slice_index run 0)) && are_all is_symbol_byte run

-- the kind of a run, if it is a token
unfoldable pub kind_of : List ℕ → Option TokenKind
kind_of run =
    if is_numeral run then Some Numeral
    else (if is_decimal run then Some Decimal
    else (if is_marked (codes "#x") is_ascii_hexdigit run then Some Hexadecimal
    else (if is_marked (codes "#b") (λ b. b == 48 || b == 49) run then Some Binary
    else (if is_marked (codes ":") is_symbol_byte run then Some Keyword
    else (if is_simple run then Some Symbol
    else None)))))
