-- Symbols, reserved words and sorts.
use Rattle.std.specs.Prelude.{ℕ, Bool, true, false, not, ◌&&◌, if◌then◌else◌, List, is_some, position, Ok, codes}
use Rattle.std.specs.Str.{bytes_eq}
use Rattle.ss_names.specs.declared.FaultKind.TheVariants as kind
use Rattle.ss_names.specs.Vocabulary.{reserved_words}
use Rattle.smt_lex.specs.declared.TokenKind.{TokenKind}
use Rattle.smt_lex.specs.declared.TokenKind.TheVariants as lex
use Rattle.smt_lex.specs.Lexeme.{Lexeme}
use Rattle.lin_term.specs.declared.Sort.{Sort}
use Rattle.lin_term.specs.declared.Sort.TheVariants.{Rat, Int}
use Rattle.lin_truth.specs.declared.VarSort.{VarSort}
use Rattle.lin_truth.specs.declared.VarSort.TheVariants as sort
use Rattle.smt_term.specs.Reading.{Read, ◌>>=◌, refuse, unless, place_of, Part, token, group}
use Rattle.smt_term.specs.Scope.{has_name}
use Rattle.smt_term.specs.Operator.{operator_named}

abbrev pub is_kind_symbol : TokenKind → Bool
is_kind_symbol lex.Symbol = true
is_kind_symbol lex.Quoted = true
is_kind_symbol _ = false

-- a symbol, quoted or not: both spell the same name
abbrev pub is_symbol : Lexeme → Bool
is_symbol t = is_kind_symbol t.kind

abbrev pub is_simple_kind : TokenKind → Bool
is_simple_kind lex.Symbol = true
is_simple_kind _ = false

-- the word itself, unquoted
abbrev pub is_word : List ℕ → Lexeme → Bool
is_word word t = is_simple_kind t.kind && bytes_eq t.text word

abbrev pub is_reserved_word : List ℕ → Bool
is_reserved_word text = is_some (position (λ known. bytes_eq known text) reserved_words)

-- a reserved word; a quoted one is an ordinary symbol
abbrev pub is_reserved : Lexeme → Bool
is_reserved t = is_simple_kind t.kind && is_reserved_word t.text

abbrev pub is_operator : Sort → List ℕ → Bool
is_operator logic name = is_some (operator_named logic name)

-- a symbol that may be declared or bound, where no name is taken
abbrev pub is_free : Sort → Lexeme → Bool
is_free logic t = not (is_reserved t) && not (is_operator logic t.text)

abbrev pub symbol_of : Part → Read Lexeme
symbol_of (group p inner) = refuse kind.Sort p
symbol_of (token t) = unless (is_symbol t) kind.Sort (place_of t) (Ok t)

-- the name that an expression declares or binds, where these names are taken
abbrev pub new_name : {A : Type 0} → Sort → List (List ℕ × A) → Part → Read (List ℕ)
new_name logic taken x =
    symbol_of x >>= λ t. unless (is_free logic t && not (has_name taken t.text)) kind.Symbol (place_of t) (Ok t.text)

abbrev pub number_sort : Sort → List ℕ
number_sort Rat = codes "Real"
number_sort Int = codes "Int"

abbrev pub sort_spelled : Sort → Lexeme → Read VarSort
sort_spelled logic t =
    if bytes_eq t.text (codes "Bool") then Ok sort.Bool
    else (if bytes_eq t.text (number_sort logic) then Ok sort.Number
    else refuse kind.Sort (place_of t))

-- Bool, or the sort of the logic's numbers
abbrev pub sort_of : Sort → Part → Read VarSort
sort_of logic (group p inner) = refuse kind.Sort p
sort_of logic (token t) = unless (is_symbol t && not (is_reserved t)) kind.Sort (place_of t) (sort_spelled logic t)
