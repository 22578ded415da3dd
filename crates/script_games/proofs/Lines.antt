-- The lines of a text that is made of lines, and of the beginning of a text.
use Rattle.std.proofs.Common.{◌≡◌, ℕ, zero, suc, ◌+◌, ◌/◌, ◌%◌, ◌&&◌, not, Bool, true, false, cond, eqb, ltb, List, [], ◌∷◌, ◌++◌, take, drop, Some, refl, ap, sym, ◌∙◌, subst, arith, append_assoc, codes}
use Rattle.std.specs.Prelude.{slice_get}
use Rattle.std.specs.Option.{option_map}
use Rattle.std.specs.Fmt.{digit_glyph, digits_onto, digits, decimal}
use Rattle.std.proofs.lemmas.Bool.{ne_eqb}
use Rattle.std.proofs.lemmas.List.{take-append-drop}
use Rattle.ss_names.specs.Kind.{kind_number, kind_name}
use Rattle.ss_names.specs.declared.FaultKind.{FaultKind}
use Rattle.ss_names.specs.declared.FaultKind.TheVariants as kinds
use Rattle.ss_names.specs.declared.ScriptFault.{ScriptFault}
use Rattle.ss_names.specs.declared.ScriptFault.TheVariants.{Bad, Memory}
use Rattle.script_games.specs.Refusal.{refusal_text}
use Rattle.script_games.specs.Headline.{begun, text_lines, line_at}

-- ---- texts without a line feed

abbrev pub is_plain : List ℕ → Bool
is_plain [] = true
is_plain (b ∷ text) = not (eqb b 10) && is_plain text

and_both : (a b : Bool) → (a && b) ≡ true → (a ≡ true) × (b ≡ true)
and_both true b e = (refl, e)
and_both false b e = absurd (cc)

not_false : (a : Bool) → not a ≡ true → a ≡ false
not_false true e = absurd (cc)
not_false false e = refl

plain_more : (b : ℕ) (text : List ℕ) → not (eqb b 10) ≡ true → is_plain text ≡ true → is_plain (b ∷ text) ≡ true
plain_more b text e h = ap (λ (t : Bool). t && is_plain text) e ∙ h

pub plain_append : (a b : List ℕ) → is_plain a ≡ true → is_plain b ≡ true → is_plain (a ++ b) ≡ true
plain_append [] b p q = q
plain_append (c ∷ a) b p q = let h = and_both (not (eqb c 10)) (is_plain a) p in plain_more c (a ++ b) h.0 (plain_append a b h.1 q)

plain_glyph_by : (t : Bool) (d : ℕ) → not (eqb (cond t (48 + d) (87 + d)) 10) ≡ true
plain_glyph_by true d = ap not (ne_eqb (48 + d) 10 (λ e. omega (arith, e)))
plain_glyph_by false d = ap not (ne_eqb (87 + d) 10 (λ e. omega (arith, e)))

plain_either : (t : Bool) (x y : List ℕ) → is_plain x ≡ true → is_plain y ≡ true → is_plain (cond t x y) ≡ true
plain_either true x y p q = p
plain_either false x y p q = q

plain_digits : (k n : ℕ) (text : List ℕ) → is_plain text ≡ true → is_plain (digits_onto k 10 false n text) ≡ true
plain_digits zero n text h = h
plain_digits (suc k) n text h =
    let more = digit_glyph false (n % 10) ∷ text in
    let m = plain_more (digit_glyph false (n % 10)) text (plain_glyph_by (ltb (n % 10) 10) (n % 10)) h in
    plain_either (eqb (n / 10) 0) more (digits_onto k 10 false (n / 10) more) m (plain_digits k (n / 10) more m)

pub plain_decimal : (n : ℕ) → is_plain (decimal n) ≡ true
unfolding digits
plain_decimal n = plain_digits 64 n [] refl

plain_kind : (k : FaultKind) → is_plain (kind_name k) ≡ true
plain_kind kinds.Token = refl
plain_kind kinds.Unclosed = refl
plain_kind kinds.Command = refl
plain_kind kinds.Logic = refl
plain_kind kinds.Symbol = refl
plain_kind kinds.Sort = refl
plain_kind kinds.Arity = refl
plain_kind kinds.Linear = refl
plain_kind kinds.Divisor = refl
plain_kind kinds.Number = refl
plain_kind kinds.Size = refl
plain_kind kinds.Variables = refl
plain_kind kinds.Order = refl
plain_kind kinds.Setting = refl
plain_kind kinds.Depth = refl

-- ---- lines

-- a line, and what stands behind it
pub line_then : (line rest : List ℕ) → is_plain line ≡ true → text_lines (line ++ (10 ∷ rest)) ≡ line ∷ text_lines rest
line_then [] rest h = refl
line_then (b ∷ line) rest h =
    let p = and_both (not (eqb b 10)) (is_plain line) h in
    let more = text_lines (line ++ (10 ∷ rest)) in
    ap (λ (t : Bool). cond t ([] ∷ more) (begun b more)) (not_false (eqb b 10) p.0) ∙ ap (begun b) (line_then line rest p.1)

-- a text of one line alone
pub only_line : (line : List ℕ) (k : ℕ) (l : List ℕ) → is_plain line ≡ true → line_at (line ++ (10 ∷ [])) k ≡ Some l → l ≡ line
only_line line k l h e = one k (sym (ap (λ (ls : List (List ℕ)). slice_get ls k) (line_then line [] h)) ∙ e)
  where
    one : (j : ℕ) → slice_get (line ∷ []) j ≡ Some l → l ≡ line
    one zero q = cc
    one (suc j) q = absurd (cc)

-- ---- the beginning of a text

grown : (c : ℕ) (m n l : List ℕ) → Some n ≡ Some m → Some (c ∷ m) ≡ Some l → Some (c ∷ n) ≡ Some l
grown c m n l h e = ap (option_map (λ (x : List ℕ). c ∷ x)) h ∙ e

more_lines : (t : Bool) (c : ℕ) (old new : List (List ℕ)) → ((k : ℕ) (l : List ℕ) → slice_get old k ≡ Some l → slice_get new k ≡ Some l) →
    (k : ℕ) (l : List ℕ) → slice_get (cond t ([] ∷ old) (begun c old)) k ≡ Some l → slice_get (cond t ([] ∷ new) (begun c new)) k ≡ Some l
more_lines true c old new h zero l e = e
more_lines true c old new h (suc k) l e = h k l e
more_lines false c [] new h k l e = absurd (cc)
more_lines false c (m ∷ ms) [] h k l e = let x = h 0 m refl in absurd (cc)
more_lines false c (m ∷ ms) (n ∷ ns) h zero l e = grown c m n l (h 0 m refl) e
more_lines false c (m ∷ ms) (n ∷ ns) h (suc k) l e = h (suc k) l e

line_of_longer : (a b : List ℕ) (k : ℕ) (l : List ℕ) → line_at a k ≡ Some l → line_at (a ++ b) k ≡ Some l
line_of_longer [] b k l e = absurd (cc)
line_of_longer (c ∷ a) b k l e = more_lines (eqb c 10) c (text_lines a) (text_lines (a ++ b)) (λ j m h. line_of_longer a b j m h) k l e

-- a line of the beginning is one of the whole
pub line_of_whole : (n : ℕ) (text : List ℕ) (k : ℕ) (l : List ℕ) → line_at (take n text) k ≡ Some l → line_at text k ≡ Some l
line_of_whole n text k l e = subst (λ (whole : List ℕ). line_at whole k ≡ Some l) (take-append-drop n text) (line_of_longer (take n text) (drop n text) k l e)

-- ---- the line of a fault

-- the same without its line feed
abbrev pub refusal_words : FaultKind → ℕ → ℕ → List ℕ
refusal_words kind line column =
    codes "refused " ++ (decimal (kind_number kind) ++ (codes " " ++ (kind_name kind ++ (codes " " ++ (decimal line ++ (codes " " ++ decimal column))))))

plain_refusal : (k : FaultKind) (l c : ℕ) → is_plain (refusal_words k l c) ≡ true
plain_refusal k l c =
    let place = decimal l ++ (codes " " ++ decimal c) in
    let named = kind_name k ++ (codes " " ++ place) in
    let numbered = decimal (kind_number k) ++ (codes " " ++ named) in
    let p = plain_append (decimal l) (codes " " ++ decimal c) (plain_decimal l) (plain_append (codes " ") (decimal c) refl (plain_decimal c)) in
    let n = plain_append (kind_name k) (codes " " ++ place) (plain_kind k) (plain_append (codes " ") place refl p) in
    plain_append (codes "refused ") numbered refl (plain_append (decimal (kind_number k)) (codes " " ++ named) (plain_decimal (kind_number k)) (plain_append (codes " ") named refl n))

-- one piece before what is already seen as a line
pub before_line : (piece text line : List ℕ) → text ≡ line ++ (10 ∷ []) → piece ++ text ≡ (piece ++ line) ++ (10 ∷ [])
before_line piece text line e = ap (λ (t : List ℕ). piece ++ t) e ∙ sym (append_assoc piece line (10 ∷ []))

refusal_line_is : (k : FaultKind) (l c : ℕ) → refusal_text (Bad k l c) ≡ refusal_words k l c ++ (10 ∷ [])
refusal_line_is k l c =
    before_line (codes "refused ") _ _ (before_line (decimal (kind_number k)) _ _ (before_line (codes " ") _ _ (before_line (kind_name k) _ _ (before_line (codes " ") _ _
    (before_line (decimal l) _ _ (before_line (codes " ") (decimal c ++ (10 ∷ [])) (decimal c) refl))))))

-- no line of a refusal begins otherwise
pub refused_line : (f : ScriptFault) (k : ℕ) (l : List ℕ) → line_at (refusal_text f) k ≡ Some l → (rest : List ℕ) × (l ≡ codes "refused " ++ rest)
refused_line (Bad kind line column) k l e = (
  decimal (kind_number kind) ++ (codes " " ++ (kind_name kind ++ (codes " " ++ (decimal line ++ (codes " " ++ decimal column))))),
  only_line (refusal_words kind line column) k l (plain_refusal kind line column) (sym (ap (λ (t : List ℕ). line_at t k) (refusal_line_is kind line column)) ∙ e),
)
refused_line Memory k l e = absurd (cc)
