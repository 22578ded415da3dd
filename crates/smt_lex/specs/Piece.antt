-- What stands at the front of a text: white space or a comment, a token, or nothing of these.
use Rattle.std.specs.Prelude.{◌≡◌, ℕ, ◌+◌, ◌<◌, ◌≤◌, Bool, true, false, not, ◌||◌, ◌==◌, if◌then◌else◌, List, [], ◌∷◌, take, drop, length, Option, Some, None, slice_index}
use Rattle.std.specs.List.{prefix_len, list_all}
use Rattle.smt_lex.specs.declared.token.TokenKind.{TokenKind}
use Rattle.smt_lex.specs.declared.token.TokenKind.TheVariants.{Left, Right, Text, Quoted}
use Rattle.smt_lex.specs.declared.piece.Piece.{Piece}
use Rattle.smt_lex.specs.declared.piece.Piece.TheVariants.{Blank, Comment, Word, Enclosed, Bad}
use Rattle.smt_lex.specs.Run.{is_blank, is_of_run, kind_of}

-- The length of a string of which `len` bytes were read, up to and with the quote that closes it. Behind a quote inside the
-- string a second one goes on with it.
abbrev pub closing : ℕ → Bool → List ℕ → Option ℕ
closing len true [] = Some len
closing len false [] = None
closing len true (b ∷ z) = if b == 34 then closing (len + 1) false z else Some len
closing len false (b ∷ z) = closing (len + 1) (b == 34) z

abbrev pub text_word : Option ℕ → Piece
text_word None = Bad
text_word (Some len) = Enclosed Text len

abbrev pub string_at : List ℕ → Piece
string_at z = text_word (closing 1 false (drop 1 z))

-- the bytes behind the opening bar, up to the one that closes the symbol; a `\` is none of it
abbrev pub quoted_at : List ℕ → Piece
quoted_at z =
    let inside = prefix_len (λ b. not (b == 124 || b == 92)) (drop 1 z) in
    if slice_index z (inside + 1) == 124 then Enclosed Quoted (inside + 2) else Bad

abbrev pub kind_word : Option TokenKind → ℕ → Piece
kind_word None len = Bad
kind_word (Some kind) len = Word kind len

-- the longest run
abbrev pub run_at : List ℕ → Piece
run_at z = let len = prefix_len is_of_run z in kind_word (kind_of (take len z)) len

unfoldable pub piece_at : List ℕ → Piece
piece_at z =
    let b = slice_index z 0 in
    if is_blank b then Blank
    else (if b == 40 then Word Left 1
    else (if b == 41 then Word Right 1
    else (if b == 59 then Comment (prefix_len (λ c. not (c == 10)) z)
    else (if b == 34 then string_at z
    else (if b == 124 then quoted_at z
    else run_at z)))))

-- no line feed is among the bytes
abbrev pub is_on_line : List ℕ → Bool
is_on_line z = list_all (λ b. not (b == 10)) z

-- it takes at least one byte, and no more than there are
abbrev pub IsWithin : Piece → List ℕ → Type 0
IsWithin Blank z = 0 < length z
IsWithin (Comment len) z = (0 < len) × (len ≤ length z) × (is_on_line (take len z) ≡ true)
IsWithin (Word kind len) z = (0 < len) × (len ≤ length z) × (is_on_line (take len z) ≡ true)
IsWithin (Enclosed kind len) z = (1 < len) × (len ≤ length z)
IsWithin Bad z = Unit {0}
