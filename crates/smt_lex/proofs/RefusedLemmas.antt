-- Where the bytes at the front of a text are refused, no token can be spelled there.
use Rattle.std.proofs.Common.{◌≡◌, ℕ, zero, suc, ◌+◌, Bool, true, false, not, cond, ◌==◌, ◌||◌, ◌&&◌, List, [], ◌∷◌, ◌++◌, length, take, drop, get_or, slice_index, Option, Some, None, refl, sym, ap, subst, ◌∙◌, arith, codes, append_assoc, inl, inr, ◌⊎◌}
use Rattle.std.specs.Char.{is_ascii_digit, is_ascii_hexdigit}
use Rattle.std.specs.Str.{bytes_eq}
use Rattle.std.specs.List.{prefix_len, list_all}
use Rattle.std.proofs.lemmas.Bool.{and_parts, eqb-true, true≢false, false_from_ne_true}
use Rattle.std.proofs.lemmas.Slice.Eq.{bytes_eq-Decides}
use Rattle.smt_lex.specs.declared.token.TokenKind.{TokenKind}
use Rattle.smt_lex.specs.declared.token.TokenKind.TheVariants.{Left, Right, Text, Quoted, Numeral, Decimal, Hexadecimal, Binary, Keyword, Symbol}
use Rattle.smt_lex.specs.declared.piece.Piece.{Piece}
use Rattle.smt_lex.specs.declared.piece.Piece.TheVariants.{Blank, Comment, Word, Enclosed, Bad}
use Rattle.smt_lex.specs.Run.{is_blank, is_of_run, is_symbol_byte, are_all, is_numeral, is_decimal, is_marked, is_simple, kind_of}
use Rattle.smt_lex.specs.Piece.{piece_at, closing, text_word, string_at, quoted_at, kind_word, run_at}
use Rattle.smt_lex.specs.Spelling.{blanks, spelled, are_doubled, IsToken, IsOver, IsNoToken}
use Rattle.smt_lex.proofs.FactLemmas.{take_text, no_bar}

-- ---- a gap

bad_false : (t : Bool) (x y : Piece) → (x ≡ Bad → ⊥) → cond t x y ≡ Bad → (t ≡ false) × (y ≡ Bad)
bad_false true x y other bad = absurd (other bad)
bad_false false x y other bad = (refl, bad)

-- no gap goes on where the bytes are refused
pub no_gap : (b : ℕ) (z : List ℕ) → piece_at (b ∷ z) ≡ Bad → blanks false (take 1 (b ∷ z)) ≡ None
unfolding piece_at
no_gap b z bad =
    let blank = bad_false (is_blank b) Blank _ (λ e. cc) bad in
    let left = bad_false (b == 40) (Word Left 1) _ (λ e. cc) blank.1 in
    let right = bad_false (b == 41) (Word Right 1) _ (λ e. cc) left.1 in
    let comment = bad_false (b == 59) (Comment (prefix_len (λ c. not (c == 10)) (b ∷ z))) _ (λ e. cc) right.1 in
    rw (blank.0, comment.0) refl

-- ---- strings and quoted symbols

-- a string whose quotes are doubled is closed by the quote behind it
closed : (len : ℕ) (outside : Bool) (text rest : List ℕ) → are_doubled outside text ≡ true → (slice_index rest 0 == 34) ≡ false → closing len outside (text ++ 34 ∷ rest) ≡ None → ⊥
closed len true [] rest doubled over none = cc
closed len false [] [] doubled over none = cc
closed len false [] (c ∷ rest) doubled over none = first (c == 34) over none
  where
    first : (t : Bool) → t ≡ false → cond t (closing (len + 1 + 1) false rest) (Some (len + 1)) ≡ None → ⊥
    first true over none = cc
    first false over none = cc
closed len true (b ∷ text) rest doubled over none =
    let both = and_parts (b == 34) (are_doubled false text) doubled in
    closed (len + 1) false text rest both.1 over (quote (b == 34) both.0 none)
  where
    quote : (t : Bool) → t ≡ true → cond t (closing (len + 1) false (text ++ 34 ∷ rest)) (Some len) ≡ None → closing (len + 1) false (text ++ 34 ∷ rest) ≡ None
    quote true is none = none
    quote false is none = cc
closed len false (b ∷ text) rest doubled over none = closed (len + 1) (b == 34) text rest doubled over none

word_none : (o : Option ℕ) → text_word o ≡ Bad → o ≡ None
word_none None bad = refl
word_none (Some len) bad = cc

text_stands : (text rest : List ℕ) → are_doubled false text ≡ true → (slice_index rest 0 == 34) ≡ false → piece_at (34 ∷ (text ++ 34 ∷ []) ++ rest) ≡ Bad → ⊥
unfolding piece_at
text_stands text rest doubled over bad =
    let none : closing 1 false ((text ++ 34 ∷ []) ++ rest) ≡ None = word_none _ bad in
    closed 1 false text rest doubled over (ap (closing 1 false) (sym (append_assoc text (34 ∷ []) rest)) ∙ none)

-- the bar behind bytes without one is the first
bar_at : (text rest : List ℕ) → list_all no_bar text ≡ true → get_or (text ++ 124 ∷ rest) (prefix_len no_bar (text ++ 124 ∷ rest)) 0 ≡ 124
bar_at [] rest passes = refl
bar_at (b ∷ text) rest passes =
    let both = and_parts (no_bar b) (list_all no_bar text) passes in
    let e : 1 + prefix_len no_bar (text ++ 124 ∷ rest) ≡ suc (prefix_len no_bar (text ++ 124 ∷ rest)) = omega arith in
    rw both.0 (rw e (bar_at text rest both.1))

quoted_stands : (text rest : List ℕ) → list_all no_bar text ≡ true → piece_at (124 ∷ (text ++ 124 ∷ []) ++ rest) ≡ Bad → ⊥
unfolding piece_at
quoted_stands text rest passes bad =
    let y = (text ++ 124 ∷ []) ++ rest in
    let n = prefix_len no_bar y in
    let at : get_or y n 0 ≡ 124 = subst (λ (z : List ℕ). get_or z (prefix_len no_bar z) 0 ≡ 124) (sym (append_assoc text (124 ∷ []) rest)) (bar_at text rest passes) in
    let e : n + 1 ≡ suc n = omega arith in
    let found : slice_index (124 ∷ y) (n + 1) ≡ 124 = rw e at in
    let no = bad_false (slice_index (124 ∷ y) (n + 1) == 124) (Enclosed Quoted (n + 2)) Bad (λ e. cc) bad in
    true≢false (sym (ap (λ (d : ℕ). d == 124) found) ∙ no.0)

-- ---- runs

-- a byte that passes a test which the marks and white space fail can stand in a run
run_byte : (test : ℕ → Bool) → test 32 ≡ false → test 9 ≡ false → test 10 ≡ false → test 13 ≡ false → test 40 ≡ false → test 41 ≡ false → test 59 ≡ false → test 34 ≡ false → test 124 ≡ false
    → (b : ℕ) → test b ≡ true → is_of_run b ≡ true
run_byte test t32 t9 t10 t13 t40 t41 t59 t34 t124 b passes =
    rw (differs 32 t32, differs 9 t9, differs 10 t10, differs 13 t13, differs 40 t40, differs 41 t41, differs 59 t59, differs 34 t34, differs 124 t124) refl
  where
    differs : (c : ℕ) → test c ≡ false → (b == c) ≡ false
    differs c fails = false_from_ne_true (b == c) (λ is. true≢false (sym passes ∙ ap test (eqb-true b c is) ∙ fails))

digit_runs : (b : ℕ) → is_ascii_digit b ≡ true → is_of_run b ≡ true
digit_runs = run_byte is_ascii_digit refl refl refl refl refl refl refl refl refl

hex_runs : (b : ℕ) → is_ascii_hexdigit b ≡ true → is_of_run b ≡ true
hex_runs = run_byte is_ascii_hexdigit refl refl refl refl refl refl refl refl refl

bit_runs : (b : ℕ) → (b == 48 || b == 49) ≡ true → is_of_run b ≡ true
bit_runs = run_byte (λ b. b == 48 || b == 49) refl refl refl refl refl refl refl refl refl

symbol_runs : (b : ℕ) → is_symbol_byte b ≡ true → is_of_run b ≡ true
unfolding is_symbol_byte
symbol_runs = run_byte is_symbol_byte refl refl refl refl refl refl refl refl refl

both_true : (a b : Bool) → a ≡ true → b ≡ true → (a && b) ≡ true
both_true a b p q = rw (p, q) refl

all_run : (test : ℕ → Bool) → ((b : ℕ) → test b ≡ true → is_of_run b ≡ true) → (run : List ℕ) → list_all test run ≡ true → list_all is_of_run run ≡ true
all_run test runs [] all = refl
all_run test runs (b ∷ run) all =
    let both = and_parts (test b) (list_all test run) all in
    both_true (is_of_run b) (list_all is_of_run run) (runs b both.0) (all_run test runs run both.1)

are_run : (test : ℕ → Bool) → ((b : ℕ) → test b ≡ true → is_of_run b ≡ true) → (run : List ℕ) → are_all test run ≡ true → list_all is_of_run run ≡ true
are_run test runs [] all = refl
are_run test runs (b ∷ run) all = all_run test runs (b ∷ run) all

-- a test of two parts is one of the whole
both_parts : (p : ℕ → Bool) (n : ℕ) (run : List ℕ) → list_all p (take n run) ≡ true → list_all p (drop n run) ≡ true → list_all p run ≡ true
both_parts p n [] front back = refl
both_parts p zero (b ∷ run) front back = back
both_parts p (suc n) (b ∷ run) front back =
    let both = and_parts (p b) (list_all p (take n run)) front in
    both_true (p b) (list_all p run) both.0 (both_parts p n run both.1 back)

-- the same with a byte between the parts
around : (p : ℕ → Bool) (n : ℕ) (run : List ℕ) → list_all p (take n run) ≡ true → p (get_or run n 0) ≡ true → list_all p (drop (suc n) run) ≡ true → list_all p run ≡ true
around p n [] front at back = refl
around p zero (b ∷ run) front at back = both_true (p b) (list_all p run) at back
around p (suc n) (b ∷ run) front at back =
    let both = and_parts (p b) (list_all p (take n run)) front in
    both_true (p b) (list_all p run) both.0 (around p n run both.1 at back)

numeral_runs : (run : List ℕ) → is_numeral run ≡ true → list_all is_of_run run ≡ true
numeral_runs run is = are_run is_ascii_digit digit_runs run (and_parts (are_all is_ascii_digit run) _ is).0

decimal_runs : (run : List ℕ) → is_decimal run ≡ true → list_all is_of_run run ≡ true
decimal_runs run is =
    let whole = prefix_len is_ascii_digit run in
    let parts = and_parts (is_numeral (take whole run) && slice_index run whole == 46) (are_all is_ascii_digit (drop (whole + 1) run)) is in
    let front = and_parts (is_numeral (take whole run)) (slice_index run whole == 46) parts.0 in
    let e : whole + 1 ≡ suc whole = omega arith in
    around is_of_run whole run (numeral_runs (take whole run) front.0)
    (ap is_of_run (eqb-true (slice_index run whole) 46 front.1))
    (subst (λ n. list_all is_of_run (drop n run) ≡ true) e (are_run is_ascii_digit digit_runs (drop (whole + 1) run) parts.1))

marked_runs : (mark : List ℕ) (test : ℕ → Bool) → list_all is_of_run mark ≡ true → ((b : ℕ) → test b ≡ true → is_of_run b ≡ true) → (run : List ℕ) → is_marked mark test run ≡ true → list_all is_of_run run ≡ true
marked_runs mark test is_run runs run is =
    let both = and_parts (bytes_eq (take (length mark) run) mark) (are_all test (drop (length mark) run)) is in
    both_parts is_of_run (length mark) run
    (ap (list_all is_of_run) ((bytes_eq-Decides (take (length mark) run) mark).0 both.0) ∙ is_run)
    (are_run test runs (drop (length mark) run) both.1)

simple_runs : (run : List ℕ) → is_simple run ≡ true → list_all is_of_run run ≡ true
simple_runs run is = are_run is_symbol_byte symbol_runs run (and_parts (not (is_ascii_digit (slice_index run 0))) (are_all is_symbol_byte run) is).1

one_kind : (P : Type 0) (t : Bool) (k kind : TokenKind) (more : Option TokenKind) → (t ≡ true → P) → (more ≡ Some kind → P) → cond t (Some k) more ≡ Some kind → P
one_kind P true k kind more here later is = here refl
one_kind P false k kind more here later is = later is

-- a run that has a kind has no mark and no white space
kind_runs : (run : List ℕ) (kind : TokenKind) → kind_of run ≡ Some kind → list_all is_of_run run ≡ true
unfolding kind_of
kind_runs run kind is =
    let P = list_all is_of_run run ≡ true in
    one_kind P (is_numeral run) Numeral kind _ (numeral_runs run)
    (one_kind P (is_decimal run) Decimal kind _ (decimal_runs run)
    (one_kind P (is_marked (codes "#x") is_ascii_hexdigit run) Hexadecimal kind _ (marked_runs (codes "#x") is_ascii_hexdigit refl hex_runs run)
    (one_kind P (is_marked (codes "#b") (λ b. b == 48 || b == 49) run) Binary kind _ (marked_runs (codes "#b") (λ b. b == 48 || b == 49) refl bit_runs run)
    (one_kind P (is_marked (codes ":") is_symbol_byte run) Keyword kind _ (marked_runs (codes ":") is_symbol_byte refl symbol_runs run)
    (one_kind P (is_simple run) Symbol kind _ (simple_runs run) (λ e. cc)))))) is

-- the longest front that passes, where no more than these bytes do
prefix_all : (p : ℕ → Bool) (text rest : List ℕ) → list_all p text ≡ true → prefix_len p rest ≡ 0 → prefix_len p (text ++ rest) ≡ length text
prefix_all p [] rest all over = over
prefix_all p (b ∷ text) rest all over =
    let both = and_parts (p b) (list_all p text) all in
    let more = prefix_all p text rest both.1 over in
    rw both.0 (omega (arith, more))

or_false : (a b : Bool) → not (a || b) ≡ true → (a ≡ false) × (not b ≡ true)
or_false true b is = cc
or_false false b is = (refl, is)

word_some : (o : Option TokenKind) (len : ℕ) → kind_word o len ≡ Bad → o ≡ None
word_some None len bad = refl
word_some (Some k) len bad = cc

at_run : (b : ℕ) (z : List ℕ) → is_of_run b ≡ true → piece_at (b ∷ z) ≡ run_at (b ∷ z)
unfolding piece_at
at_run b z is = by (is_blank b) (b == 40) (b == 41) (b == 59) (b == 34) (b == 124) is
  where
    by : (t u v w x y : Bool) → not (t || u || v || w || x || y) ≡ true
        → cond t Blank (cond u (Word Left 1) (cond v (Word Right 1) (cond w (Comment (prefix_len (λ c. not (c == 10)) (b ∷ z))) (cond x (string_at (b ∷ z)) (cond y (quoted_at (b ∷ z)) (run_at (b ∷ z))))))) ≡ run_at (b ∷ z)
    by false false false false false false is = refl
    by true u v w x y is = cc
    by false true v w x y is = cc
    by false false true w x y is = cc
    by false false false true x y is = cc
    by false false false false true y is = cc
    by false false false false false true is = cc

run_stands : (kind : TokenKind) (text rest : List ℕ) → kind_of text ≡ Some kind → prefix_len is_of_run rest ≡ 0 → piece_at (text ++ rest) ≡ Bad → ⊥
unfolding kind_of
run_stands kind [] rest is over bad = cc
run_stands kind (b ∷ text) rest is over bad =
    let all = kind_runs (b ∷ text) kind is in
    let len = prefix_all is_of_run (b ∷ text) rest all over in
    let none = word_some _ _ (sym (at_run b (text ++ rest) (and_parts (is_of_run b) (list_all is_of_run text) all).0) ∙ bad) in
    let front : kind_of (take (prefix_len is_of_run (b ∷ text ++ rest)) (b ∷ text ++ rest)) ≡ kind_of (b ∷ text) =
    ap (λ n. kind_of (take n (b ∷ text ++ rest))) len ∙ ap kind_of (take_text (b ∷ text) rest) in
    let never : Some kind ≡ None = sym is ∙ sym front ∙ none in
    cc

mark_stands : (b : ℕ) (z : List ℕ) → b ≡ 40 ⊎ b ≡ 41 → piece_at (b ∷ z) ≡ Bad → ⊥
unfolding piece_at
mark_stands b z (inl left) bad = let e : piece_at (40 ∷ z) ≡ Bad = subst (λ (c : ℕ). piece_at (c ∷ z) ≡ Bad) left bad in cc
mark_stands b z (inr right) bad = let e : piece_at (41 ∷ z) ≡ Bad = subst (λ (c : ℕ). piece_at (c ∷ z) ≡ Bad) right bad in cc

stands : (k : TokenKind) (text rest : List ℕ) → IsToken k text → IsOver k rest → piece_at (spelled k text ++ rest) ≡ Bad → ⊥
stands Left text rest token over bad = mark_stands 40 rest (inl refl) (subst (λ (t : List ℕ). piece_at (t ++ rest) ≡ Bad) token bad)
stands Right text rest token over bad = mark_stands 41 rest (inr refl) (subst (λ (t : List ℕ). piece_at (t ++ rest) ≡ Bad) token bad)
stands Text text rest token over bad = text_stands text rest token over bad
stands Quoted text rest token over bad = quoted_stands text rest token bad
stands Numeral text rest token over bad = run_stands Numeral text rest token over bad
stands Decimal text rest token over bad = run_stands Decimal text rest token over bad
stands Hexadecimal text rest token over bad = run_stands Hexadecimal text rest token over bad
stands Binary text rest token over bad = run_stands Binary text rest token over bad
stands Keyword text rest token over bad = run_stands Keyword text rest token over bad
stands Symbol text rest token over bad = run_stands Symbol text rest token over bad

-- no token can be spelled where the bytes are refused
pub no_token : (b : ℕ) (z : List ℕ) → piece_at (b ∷ z) ≡ Bad → IsNoToken (b ∷ z)
no_token b z bad k text rest bytes token over = stands k text rest token over (subst (λ (y : List ℕ). piece_at y ≡ Bad) bytes bad)
