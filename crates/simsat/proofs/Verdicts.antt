-- The verdicts among the lines of a text.
use Rattle.std.proofs.Common.{◌≡◌, ℕ, zero, suc, Bool, true, false, cond, eqb, List, [], ◌∷◌, ◌++◌, take, Option, Some, None, refl, ap, sym, ◌∙◌, subst, append_assoc, codes, ℤ, pos, negsuc}
use Rattle.std.specs.Prelude.{slice_get}
use Rattle.std.specs.Fmt.{decimal, signed_decimal}
use Rattle.ss_names.specs.declared.ScriptFault.{ScriptFault}
use Rattle.strat_words.specs.Spelled.{natural, signed}
use Rattle.script_games.specs.Headline.{text_lines}
use Rattle.script_games.specs.Refusal.{refusal_text}
use Rattle.script_games.proofs.Lines.{is_plain, plain_append, plain_decimal, line_then, line_of_whole, refused_line}
use Rattle.simsat.specs.Headline.{verdict_of_line, verdicts_among, verdict_at}

-- ---- no line feed in numbers

pub plain_natural : (n : ℕ) → is_plain (natural n) ≡ true
plain_natural n = plain_append (32 ∷ []) (decimal n) refl (plain_decimal n)

plain_signed_decimal : (z : ℤ) → is_plain (signed_decimal z) ≡ true
plain_signed_decimal (pos n) = plain_decimal n
plain_signed_decimal (negsuc n) = plain_append (45 ∷ []) (decimal (suc n)) refl (plain_decimal (suc n))

pub plain_signed : (z : ℤ) → is_plain (signed z) ≡ true
plain_signed z = plain_append (32 ∷ []) (signed_decimal z) refl (plain_signed_decimal z)

-- ---- the verdicts of whole texts

-- a line in front
first_line : (line rest : List ℕ) → is_plain line ≡ true → text_lines ((line ++ 10 ∷ []) ++ rest) ≡ line ∷ text_lines rest
first_line line rest h = ap text_lines (append_assoc line (10 ∷ []) rest) ∙ line_then line rest h

pub after_verdict : (line rest : List ℕ) → is_plain line ≡ true → verdicts_among (text_lines ((line ++ 10 ∷ []) ++ rest)) ≡ verdict_of_line line ++ verdicts_among (text_lines rest)
after_verdict line rest h = ap verdicts_among (first_line line rest h)

-- an unknown and its cause
pub after_unknown : (line cause rest : List ℕ) → is_plain line ≡ true → is_plain (59 ∷ cause) ≡ true →
    verdicts_among (text_lines (((line ++ 10 ∷ []) ++ ((59 ∷ cause) ++ 10 ∷ [])) ++ rest)) ≡ verdict_of_line line ++ verdicts_among (text_lines rest)
after_unknown line cause rest h k =
    ap (λ (t : List ℕ). verdicts_among (text_lines t)) (append_assoc (line ++ 10 ∷ []) ((59 ∷ cause) ++ 10 ∷ []) rest) ∙ after_verdict line (((59 ∷ cause) ++ 10 ∷ []) ++ rest) h
    ∙ ap (λ (vs : List (List ℕ)). verdict_of_line line ++ vs) (after_verdict (59 ∷ cause) rest k)

-- ---- a verdict is a line

seen_further : (vs old new : List (List ℕ)) → ((k : ℕ) (l : List ℕ) → slice_get old k ≡ Some l → slice_get new k ≡ Some l) → (k : ℕ) (l : List ℕ) → slice_get (vs ++ old) k ≡ Some l → slice_get (vs ++ new) k ≡ Some l
seen_further [] old new h k l e = h k l e
seen_further (v ∷ vs) old new h zero l e = e
seen_further (v ∷ vs) old new h (suc k) l e = seen_further vs old new h k l e

abbrev of_some : List ℕ → Option (List ℕ) → List ℕ
of_some d None = d
of_some d (Some x) = x

verdicts_further : (old new : List (List ℕ)) → ((k : ℕ) (l : List ℕ) → slice_get old k ≡ Some l → slice_get new k ≡ Some l) → (k : ℕ) (l : List ℕ) → slice_get (verdicts_among old) k ≡ Some l → slice_get (verdicts_among new) k ≡ Some l
verdicts_further [] new h k l e = absurd (cc)
verdicts_further (m ∷ old) [] h k l e = let x = h 0 m refl in absurd (cc)
verdicts_further (m ∷ old) (n ∷ new) h k l e =
    let same : n ≡ m = ap (of_some []) (h 0 m refl) in
    let more = seen_further (verdict_of_line m) (verdicts_among old) (verdicts_among new) (verdicts_further old new (λ j x y. h (suc j) x y)) k l e in
    subst (λ (x : List ℕ). slice_get (verdict_of_line x ++ verdicts_among new) k ≡ Some l) (sym same) more

-- a verdict of the beginning is one of the whole
pub verdict_of_whole : (n : ℕ) (text : List ℕ) (k : ℕ) (l : List ℕ) → verdict_at (take n text) k ≡ Some l → verdict_at text k ≡ Some l
verdict_of_whole n text k l e = verdicts_further (text_lines (take n text)) (text_lines text) (λ j x y. line_of_whole n text j x y) k l e

-- where it stands among the lines
among : (line : List ℕ) (more : List (List ℕ)) (k : ℕ) (l : List ℕ) → slice_get (verdict_of_line line ++ verdicts_among more) k ≡ Some l → ((j : ℕ) → slice_get (verdicts_among more) j ≡ Some l → (i : ℕ) × (slice_get more i ≡ Some l)) →
    (i : ℕ) × (slice_get (line ∷ more) i ≡ Some l)
among [] more zero l e h = (0, e)
among [] more (suc k) l e h = let r = h k e in (suc r.0, r.1)
among (b ∷ line) more k l e h = by (eqb b 59) k e
  where
    by : (t : Bool) (j : ℕ) → slice_get (cond t [] ((b ∷ line) ∷ []) ++ verdicts_among more) j ≡ Some l → (i : ℕ) × (slice_get ((b ∷ line) ∷ more) i ≡ Some l)
    by true j q = let r = h j q in (suc r.0, r.1)
    by false zero q = (0, q)
    by false (suc j) q = let r = h j q in (suc r.0, r.1)

is_line : (lines : List (List ℕ)) (k : ℕ) (l : List ℕ) → slice_get (verdicts_among lines) k ≡ Some l → (i : ℕ) × (slice_get lines i ≡ Some l)
is_line [] k l e = absurd (cc)
is_line (line ∷ more) k l e = among line more k l e (λ j q. is_line more j l q)

-- no verdict of a refusal is one of these words
pub refused_verdict : (f : ScriptFault) (k : ℕ) (l : List ℕ) → verdict_at (refusal_text f) k ≡ Some l → (rest : List ℕ) × (l ≡ codes "refused " ++ rest)
refused_verdict f k l e = let r = is_line (text_lines (refusal_text f)) k l e in refused_line f r.0 l r.1

pub not_sat : (l rest : List ℕ) → l ≡ codes "refused " ++ rest → l ≡ codes "sat" → ⊥
not_sat l rest e h = let q : codes "refused " ++ rest ≡ codes "sat" = sym e ∙ h in cc

pub not_unsat : (l rest : List ℕ) → l ≡ codes "refused " ++ rest → l ≡ codes "unsat" → ⊥
not_unsat l rest e h = let q : codes "refused " ++ rest ≡ codes "unsat" = sym e ∙ h in cc
