-- What stands at the front of a text is spelled as its kind says.
use Rattle.std.proofs.Common.{◌≡◌, ℕ, zero, suc, ◌+◌, ◌-◌, ◌<◌, Bool, true, false, not, cond, ◌==◌, ◌||◌, List, [], ◌∷◌, ◌++◌, length, take, drop, get_or, slice_index, Option, Some, None, refl, sym, ap, subst, ◌∙◌, arith, codes}
use Rattle.std.specs.Char.{is_ascii_hexdigit}
use Rattle.std.specs.List.{prefix_len, list_all}
use Rattle.std.proofs.lemmas.Bool.{eqb-true}
use Rattle.std.proofs.lemmas.Option.{none-some, same_Some}
use Rattle.smt_lex.specs.declared.token.TokenKind.{TokenKind}
use Rattle.smt_lex.specs.declared.token.TokenKind.TheVariants.{Left, Right, Text, Quoted, Numeral, Decimal, Hexadecimal, Binary, Keyword, Symbol}
use Rattle.smt_lex.specs.declared.piece.Piece.{Piece}
use Rattle.smt_lex.specs.declared.piece.Piece.TheVariants.{Blank, Comment, Word, Enclosed, Bad}
use Rattle.smt_lex.specs.Run.{is_blank, is_of_run, is_symbol_byte, is_numeral, is_decimal, is_marked, is_simple, kind_of}
use Rattle.smt_lex.specs.Piece.{piece_at, closing, text_word, string_at, quoted_at, kind_word, run_at}
use Rattle.smt_lex.specs.Spelling.{spelled, are_doubled, IsToken, IsOver}
use Rattle.smt_lex.proofs.PrefixLemmas.{prefix_len_moves, all_passed_more, all_passed_end}
use Rattle.smt_lex.proofs.GapLemmas.{not_end}

-- what a piece at the front of a text says of it
abbrev pub Facts : Piece → List ℕ → Type 0
Facts Blank z = is_blank (slice_index z 0) ≡ true
Facts (Comment len) z = (slice_index z 0 ≡ 59) × (len ≡ prefix_len not_end z)
Facts (Word k len) z = (0 < len) × IsToken k (take len z) × IsOver k (drop len z) × (spelled k (take len z) ≡ take len z)
Facts (Enclosed k len) z = (1 < len) × IsToken k (take (len - 2) (drop 1 z)) × IsOver k (drop len z) × (spelled k (take (len - 2) (drop 1 z)) ≡ take len z)
Facts Bad z = Unit {0}

pick : (z : List ℕ) (t : Bool) (x y : Piece) → (t ≡ true → Facts x z) → (t ≡ false → Facts y z) → Facts (cond t x y) z
pick z true x y h k = h refl
pick z false x y h k = k refl

-- ---- runs

-- the kinds that a run can have
IsRunKind : TokenKind → Type 0
IsRunKind Left = ⊥
IsRunKind Right = ⊥
IsRunKind Text = ⊥
IsRunKind Quoted = ⊥
IsRunKind _ = Unit {0}

HasRunKind : Option TokenKind → Type 0
HasRunKind None = Unit {0}
HasRunKind (Some k) = IsRunKind k

first_kind : (a b c d e f : Bool) → HasRunKind (cond a (Some Numeral) (cond b (Some Decimal) (cond c (Some Hexadecimal) (cond d (Some Binary) (cond e (Some Keyword) (cond f (Some Symbol) None))))))
unfolding HasRunKind IsRunKind
first_kind true b c d e f = tt
first_kind false true c d e f = tt
first_kind false false true d e f = tt
first_kind false false false true e f = tt
first_kind false false false false true f = tt
first_kind false false false false false true = tt
first_kind false false false false false false = tt

kind_of_run : (run : List ℕ) → HasRunKind (kind_of run)
unfolding kind_of
kind_of_run run = first_kind (is_numeral run) (is_decimal run) (is_marked (codes "#x") is_ascii_hexdigit run) (is_marked (codes "#b") (λ b. b == 48 || b == 49) run) (is_marked (codes ":") is_symbol_byte run) (is_simple run)

over_by : (p : ℕ → Bool) (b : ℕ) (z : List ℕ) (t : Bool) → p b ≡ t → prefix_len p (drop (prefix_len p z) z) ≡ 0 → prefix_len p (drop (prefix_len p (b ∷ z)) (b ∷ z)) ≡ 0
over_by p b z true is h = let e : 1 + prefix_len p z ≡ suc (prefix_len p z) = omega arith in rw is (rw e h)
over_by p b z false is h = rw is (rw is refl)

run_over : (p : ℕ → Bool) (z : List ℕ) → prefix_len p (drop (prefix_len p z) z) ≡ 0
run_over p [] = refl
run_over p (b ∷ z) = over_by p b z (p b) refl (run_over p z)

word_fact : (k : TokenKind) (len : ℕ) (z : List ℕ) → IsRunKind k → 0 < len → kind_of (take len z) ≡ Some k → prefix_len is_of_run (drop len z) ≡ 0 → Facts (Word k len) z
unfolding IsRunKind
word_fact Left len z run some is over = absurd run
word_fact Right len z run some is over = absurd run
word_fact Text len z run some is over = absurd run
word_fact Quoted len z run some is over = absurd run
word_fact _ len z run some is over = (some, is, over, refl)

run_kind : (o : Option TokenKind) (len : ℕ) (z : List ℕ) → 0 < len → kind_of (take len z) ≡ o → prefix_len is_of_run (drop len z) ≡ 0 → Facts (kind_word o len) z
unfolding HasRunKind
run_kind None len z some is over = tt
run_kind (Some k) len z some is over = word_fact k len z (subst HasRunKind is (kind_of_run (take len z))) some is over

run_fact : (z : List ℕ) → 0 < length z → is_of_run (slice_index z 0) ≡ true → Facts (run_at z) z
run_fact z some begins =
    run_kind (kind_of (take (prefix_len is_of_run z) z)) (prefix_len is_of_run z) z (prefix_len_moves is_of_run z some begins) refl (run_over is_of_run z)

-- ---- tokens between two marks

pub take_text : (text y : List ℕ) → take (length text) (text ++ y) ≡ text
take_text [] y = refl
take_text (b ∷ text) y = ap (λ (r : List ℕ). b ∷ r) (take_text text y)

take_marked : (q : ℕ) (text rest : List ℕ) → take (suc (length text)) (text ++ q ∷ rest) ≡ text ++ q ∷ []
take_marked q [] rest = refl
take_marked q (b ∷ text) rest = ap (λ (r : List ℕ). b ∷ r) (take_marked q text rest)

drop_marked : (q : ℕ) (text rest : List ℕ) → drop (suc (length text)) (text ++ q ∷ rest) ≡ rest
drop_marked q [] rest = refl
drop_marked q (b ∷ text) rest = drop_marked q text rest

-- the text between two marks, and what follows it
record IsBetween (q : ℕ) (z text rest : List ℕ) (len : ℕ) : Type 0 where
  pub bytes : z ≡ text ++ q ∷ rest
  pub len_is : len ≡ suc (suc (length text))

text_between : (q : ℕ) (z text rest : List ℕ) (len : ℕ) → IsBetween q z text rest len → take (len - 2) z ≡ text
text_between q z text rest len h =
    let e : suc (suc (length text)) - 2 ≡ length text = omega arith in
    rw (h.bytes, h.len_is, e) (take_text text (q ∷ rest))

rest_between : (q : ℕ) (z text rest : List ℕ) (len : ℕ) → IsBetween q z text rest len → drop len (q ∷ z) ≡ rest
rest_between q z text rest len h = rw (h.bytes, h.len_is) (drop_marked q text rest)

spelled_between : (q : ℕ) (z text rest : List ℕ) (len : ℕ) → IsBetween q z text rest len → take len (q ∷ z) ≡ q ∷ text ++ q ∷ []
spelled_between q z text rest len h = rw (h.bytes, h.len_is) (ap (λ (r : List ℕ). q ∷ r) (take_marked q text rest))

abbrev Closes : Bool → ℕ → List ℕ → ℕ → Type 0
Closes false len z m = (text : List ℕ) × (rest : List ℕ) × (z ≡ text ++ 34 ∷ rest) × (m ≡ len + suc (length text)) × (are_doubled false text ≡ true) × ((slice_index rest 0 == 34) ≡ false)
Closes true len z m = (text : List ℕ) × (rest : List ℕ) × (34 ∷ z ≡ text ++ 34 ∷ rest) × (m ≡ len + length text) × (are_doubled false text ≡ true) × ((slice_index rest 0 == 34) ≡ false)

-- a byte behind a quote that may close the string
behind_quote : (b len : ℕ) (z : List ℕ) (m : ℕ) (t : Bool) → (b == 34) ≡ t → (closing (len + 1) false z ≡ Some m → Closes false (len + 1) z m)
    → cond t (closing (len + 1) false z) (Some len) ≡ Some m → Closes true len (b ∷ z) m
behind_quote b len z m true e h is =
    let c = h is in
    (34 ∷ 34 ∷ c.0, c.1, ap (λ (d : ℕ). 34 ∷ d ∷ z) (eqb-true b 34 e) ∙ ap (λ (r : List ℕ). 34 ∷ 34 ∷ r) c.2, c.3 ∙ omega arith, c.4, c.5)
behind_quote b len z m false e h is = ([], b ∷ z, refl, sym (same_Some len m is) ∙ omega arith, refl, e)

-- a byte of a string
in_string : (b len : ℕ) (z : List ℕ) (m : ℕ) (t : Bool) → (b == 34) ≡ t → Closes t (len + 1) z m → Closes false len (b ∷ z) m
in_string b len z m true e c = (c.0, c.1, ap (λ (d : ℕ). d ∷ z) (eqb-true b 34 e) ∙ c.2, c.3 ∙ omega arith, c.4, c.5)
in_string b len z m false e c = (b ∷ c.0, c.1, ap (λ (r : List ℕ). b ∷ r) c.2, c.3 ∙ omega arith, rw e c.4, c.5)

closes : (outside : Bool) (len : ℕ) (z : List ℕ) (m : ℕ) → closing len outside z ≡ Some m → Closes outside len z m
closes true len [] m is = ([], [], refl, sym (same_Some len m is) ∙ omega arith, refl, refl)
closes false len [] m is = absurd (none-some m is)
closes true len (b ∷ z) m is = behind_quote b len z m (b == 34) refl (λ h. closes false (len + 1) z m h) is
closes false len (b ∷ z) m is = in_string b len z m (b == 34) refl (closes (b == 34) (len + 1) z m is)

text_fact : (o : Option ℕ) (z : List ℕ) → closing 1 false z ≡ o → Facts (text_word o) (34 ∷ z)
text_fact None z is = tt
text_fact (Some m) z is =
    let c = closes false 1 z m is in
    let between : IsBetween 34 z c.0 c.1 m = record { bytes = c.2; len_is = c.3 ∙ omega arith } in (
      omega (arith, c.3),
      rw (text_between 34 z c.0 c.1 m between) c.4,
      rw (rest_between 34 z c.0 c.1 m between) c.5,
      ap (λ (text : List ℕ). 34 ∷ text ++ 34 ∷ []) (text_between 34 z c.0 c.1 m between) ∙ sym (spelled_between 34 z c.0 c.1 m between),
    )

one_passes : (p : ℕ → Bool) (b : ℕ) (z : List ℕ) (t : Bool) → p b ≡ t → list_all p (take (prefix_len p z) z) ≡ true → list_all p (take (prefix_len p (b ∷ z)) (b ∷ z)) ≡ true
one_passes p b z true is h = all_passed_more p p b z is ∙ rw is h
one_passes p b z false is h = all_passed_end p p b z is

all_pass : (p : ℕ → Bool) (z : List ℕ) → list_all p (take (prefix_len p z) z) ≡ true
all_pass p [] = refl
all_pass p (b ∷ z) = one_passes p b z (p b) refl (all_pass p z)

-- a mark among the bytes parts them
marked_at : (q n : ℕ) (z : List ℕ) → 0 < q → get_or z n 0 ≡ q → IsBetween q z (take n z) (drop (suc n) z) (suc (suc n))
marked_at q zero [] some is = absurd (omega (arith, is))
marked_at q (suc n) [] some is = absurd (omega (arith, is))
marked_at q zero (b ∷ z) some is = record { bytes = ap (λ (c : ℕ). c ∷ z) is; len_is = refl }
marked_at q (suc n) (b ∷ z) some is =
    let h = marked_at q n z some is in
    record { bytes = ap (λ (r : List ℕ). b ∷ r) h.bytes; len_is = ap suc h.len_is }

abbrev pub no_bar : ℕ → Bool
no_bar b = not (b == 124 || b == 92)

quoted_fact : (z : List ℕ) → Facts (quoted_at (124 ∷ z)) (124 ∷ z)
quoted_fact z =
    let n = prefix_len no_bar z in
    pick (124 ∷ z) (slice_index (124 ∷ z) (n + 1) == 124) (Enclosed Quoted (n + 2)) Bad
    (λ is.
    let e : n + 1 ≡ suc n = omega arith in
    let e2 : n + 2 ≡ suc (suc n) = omega arith in
    let at : get_or z n 0 ≡ 124 = rw e at (eqb-true (slice_index (124 ∷ z) (n + 1)) 124 is) in
    let between = marked_at 124 n z (omega arith) at in
    let text = text_between 124 z (take n z) (drop (suc n) z) (suc (suc n)) between in
    rw e2 (omega arith, rw text (all_pass no_bar z), tt, ap (λ (t : List ℕ). 124 ∷ t ++ 124 ∷ []) text ∙ sym (spelled_between 124 z (take n z) (drop (suc n) z) (suc (suc n)) between)))
    (λ _. tt)

-- what stands at the front of a text, in the words of its grammar
pub facts : (b : ℕ) (z : List ℕ) → Facts (piece_at (b ∷ z)) (b ∷ z)
unfolding piece_at
facts b z =
    pick (b ∷ z) (is_blank b) _ _ (λ is. is) (λ no_blank.
    pick (b ∷ z) (b == 40) _ _ (λ is. (omega arith, ap (λ (c : ℕ). c ∷ []) (eqb-true b 40 is), tt, refl)) (λ no_left.
    pick (b ∷ z) (b == 41) _ _ (λ is. (omega arith, ap (λ (c : ℕ). c ∷ []) (eqb-true b 41 is), tt, refl)) (λ no_right.
    pick (b ∷ z) (b == 59) _ _ (λ is. (eqb-true b 59 is, refl)) (λ no_comment.
    pick (b ∷ z) (b == 34) _ _ (λ is. subst (λ (c : ℕ). Facts (string_at (c ∷ z)) (c ∷ z)) (sym (eqb-true b 34 is)) (text_fact (closing 1 false z) z refl)) (λ no_quote.
    pick (b ∷ z) (b == 124) _ _ (λ is. subst (λ (c : ℕ). Facts (quoted_at (c ∷ z)) (c ∷ z)) (sym (eqb-true b 124 is)) (quoted_fact z)) (λ no_mark.
    run_fact (b ∷ z) (omega arith) (rw (no_blank, no_left, no_right, no_comment, no_quote, no_mark) refl)))))))
