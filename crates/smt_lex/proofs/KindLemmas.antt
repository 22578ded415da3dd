-- The first byte of a run says which kinds it can have.
use Rattle.std.proofs.Common.{◌≡◌, ℕ, ◌<◌, Bool, true, false, cond, ◌==◌, ◌||◌, List, [], ◌∷◌, length, slice_index, Option, Some, None, arith, refl, sym, ap, ◌∙◌, codes}
use Rattle.std.proofs.lemmas.Bool.{true≢false, eqb-true, false_from_ne_true}
use Rattle.std.specs.Char.{is_ascii_digit, is_ascii_hexdigit}
use Rattle.std.specs.List.{list_all}
use Rattle.smt_lex.specs.declared.token.TokenKind.{TokenKind}
use Rattle.smt_lex.specs.declared.token.TokenKind.TheVariants.{Numeral, Decimal, Hexadecimal, Binary, Keyword, Symbol}
use Rattle.smt_lex.specs.Run.{is_symbol_byte, is_numeral, is_decimal, is_marked, kind_of}

digit_differs : (b c : ℕ) → is_ascii_digit b ≡ true → is_ascii_digit c ≡ false → (b == c) ≡ false
digit_differs b c digit other = false_from_ne_true (b == c) (λ is. true≢false (sym digit ∙ ap is_ascii_digit (eqb-true b c is) ∙ other))

abbrev pub if_kind : Bool → TokenKind → Option TokenKind → Option TokenKind
if_kind b k more = cond b (Some k) more

pub kind_of_number : (run : List ℕ) → 0 < length run → is_ascii_digit (slice_index run 0) ≡ true
    → kind_of run ≡ if_kind (is_numeral run) Numeral (if_kind (is_decimal run) Decimal None)
unfolding kind_of
kind_of_number [] some digit = absurd (omega arith)
kind_of_number (b ∷ z) some digit = rw (digit, digit_differs b 35 digit refl, digit_differs b 58 digit refl) refl

pub kind_of_marked : (run : List ℕ) → 0 < length run → slice_index run 0 ≡ 35
    → kind_of run ≡ if_kind (is_marked (codes "#x") is_ascii_hexdigit run) Hexadecimal (if_kind (is_marked (codes "#b") (λ b. b == 48 || b == 49) run) Binary None)
unfolding kind_of is_symbol_byte
kind_of_marked [] some hash = absurd (omega arith)
kind_of_marked (b ∷ z) some hash = rw hash refl

pub kind_of_keyword : (run : List ℕ) → 0 < length run → slice_index run 0 ≡ 58
    → kind_of run ≡ if_kind (is_marked (codes ":") is_symbol_byte run) Keyword None
unfolding kind_of is_symbol_byte
kind_of_keyword [] some colon = absurd (omega arith)
kind_of_keyword (b ∷ z) some colon = rw colon refl

pub kind_of_simple : (run : List ℕ) → 0 < length run → is_ascii_digit (slice_index run 0) ≡ false
    → (slice_index run 0 == 35) ≡ false → (slice_index run 0 == 58) ≡ false
    → kind_of run ≡ if_kind (list_all is_symbol_byte run) Symbol None
unfolding kind_of
kind_of_simple [] some digit no_hash no_colon = absurd (omega arith)
kind_of_simple (b ∷ z) some digit no_hash no_colon = rw (digit, no_hash, no_colon) refl
