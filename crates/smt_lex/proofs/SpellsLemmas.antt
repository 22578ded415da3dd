-- The tokens of a text spell it.
use Rattle.std.proofs.Common.{◌≡◌, ℕ, zero, suc, ◌+◌, ◌-◌, ◌<◌, Bool, List, [], ◌∷◌, ◌++◌, take, drop, Option, is_some, Ok, refl, sym, ap, subst, ◌∙◌, arith, inl, inr}
use Rattle.std.specs.List.{prefix_len}
use Rattle.std.proofs.lemmas.List.{take-append-drop}
use Rattle.smt_lex.specs.declared.token.TokenKind.{TokenKind}
use Rattle.smt_lex.specs.declared.piece.Piece.{Piece}
use Rattle.smt_lex.specs.declared.piece.Piece.TheVariants.{Blank, Comment, Word, Enclosed, Bad}
use Rattle.smt_lex.specs.Piece.{piece_at}
use Rattle.smt_lex.specs.Place.{Place, behind, past, start}
use Rattle.smt_lex.specs.Lexeme.{Found}
use Rattle.smt_lex.specs.Tokens.{joined, tokens_from, tokens_at, tokens}
use Rattle.smt_lex.specs.Spelling.{spelled, IsToken, IsOver, Reads, AreTokensOf}
use Rattle.smt_lex.proofs.GapLemmas.{more_gap, not_end, Ends, comment_ends, tokens_from_drop, tokens_from_line}
use Rattle.smt_lex.proofs.FactLemmas.{Facts, facts}
use Rattle.smt_lex.proofs.RefusedLemmas.{no_gap, no_token}

-- the law behind any number of bytes of a text
abbrev ReadsOn : List ℕ → Type 0
ReadsOn z = (n : ℕ) (q : Place) → Reads (past q (take n z)) (drop n z) (tokens_from n q z)

-- behind a piece of this length
passed : (len : ℕ) (p : Place) (b : ℕ) (z : List ℕ) → 0 < len → ReadsOn z → Reads (past p (take len (b ∷ z))) (drop len (b ∷ z)) (tokens_from (len - 1) (behind p b) z)
passed zero p b z some h = absurd (omega arith)
passed (suc m) p b z some h =
    let e : suc m - 1 ≡ m = omega arith in
    subst (λ (n : ℕ). Reads (past (behind p b) (take m z)) (drop m z) (tokens_from n (behind p b) z)) (sym e) (h m (behind p b))

token_next : (k : TokenKind) (len : ℕ) (text : List ℕ) (p : Place) (b : ℕ) (z : List ℕ) → 0 < len
    → IsToken k text → IsOver k (drop len (b ∷ z)) → spelled k text ≡ take len (b ∷ z) → ReadsOn z
    → Reads p (b ∷ z) (Ok (record { kind = k; line = p.line; column = p.column; text = text }) ∷ tokens_from (len - 1) (behind p b) z)
token_next k len text p b z some token over spells h = (
  [],
  drop len (b ∷ z),
  record {
    bytes = sym (take-append-drop len (b ∷ z)) ∙ ap (λ (s : List ℕ). s ++ drop len (b ∷ z)) (sym spells);
    blank = refl;
    at = refl;
    token = token;
    over = over;
  },
  subst (λ (s : List ℕ). Reads (past p s) (drop len (b ∷ z)) (tokens_from (len - 1) (behind p b) z)) (sym spells) (passed len p b z some h),
)

-- a comment, and the line feed behind it
comment_next : (p : Place) (z : List ℕ) → Ends z (prefix_len not_end z) → ReadsOn z → Reads p (59 ∷ z) (tokens_from (prefix_len not_end z) (behind p 59) z)
comment_next p z (inl last) h =
    let none : tokens_from (prefix_len not_end z) (behind p 59) z ≡ [] = tokens_from_drop (prefix_len not_end z) (behind p 59) z ∙ rw last.0 refl in
    rw none (ap (λ (o : Option Bool). is_some o) last.1)
comment_next p z (inr line) h =
    let k = prefix_len not_end z in
    let more : Reads p ((59 ∷ take (suc k) z) ++ drop (suc k) z) (tokens_from (suc k) (behind p 59) z) = more_gap (59 ∷ take (suc k) z) p (drop (suc k) z) (tokens_from (suc k) (behind p 59) z) line.2 (h (suc k) (behind p 59)) in
    subst (λ (ts : List Found). Reads p (59 ∷ z) ts) (tokens_from_line k (behind p 59) z line.0 line.1)
    (subst (λ (y : List ℕ). Reads p (59 ∷ y) (tokens_from (suc k) (behind p 59) z)) (take-append-drop (suc k) z) more)

at_front : (p : Place) (b : ℕ) (z : List ℕ) (x : Piece) → piece_at (b ∷ z) ≡ x → Facts x (b ∷ z) → ReadsOn z
    → Reads p (b ∷ z) (joined x p (b ∷ z) (λ len. tokens_from (len - 1) (behind p b) z))
at_front p b z Blank is f h = more_gap (b ∷ []) p z (tokens_from 0 (behind p b) z) (rw f refl) (h 0 (behind p b))
at_front p b z (Comment len) is f h =
    let long : len - 1 ≡ prefix_len not_end z = let e : 1 + prefix_len not_end z - 1 ≡ prefix_len not_end z = omega arith in rw (f.1, f.0) e in
    rw (long, f.0) (comment_next p z (comment_ends z) h)
at_front p b z (Word k len) is f h = token_next k len (take len (b ∷ z)) p b z f.0 f.1 f.2 f.3 h
at_front p b z (Enclosed k len) is f h = token_next k len (take (len - 2) z) p b z (omega (arith, f.0)) f.1 f.2 f.3 h
at_front p b z Bad is f h = ([], b ∷ z, record { bytes = refl; blank = refl; some = omega arith; ends = no_gap b z is; none = no_token b z is; fault = refl }, refl)

all : (z : List ℕ) → ReadsOn z
all [] zero q = refl
all [] (suc n) q = refl
all (b ∷ z) (suc n) q = all z n (behind q b)
all (b ∷ z) zero q = at_front q b z (piece_at (b ∷ z)) refl (facts b z) (all z)

pub spelled_by_tokens : (z : List ℕ) → AreTokensOf z (tokens z)
unfolding tokens_at
spelled_by_tokens z = all z 0 start
