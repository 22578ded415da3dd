-- What the piece at the front of a text says of its tokens.
use Rattle.std.proofs.Common.{◌≡◌, ℕ, zero, suc, ◌+◌, ◌-◌, ◌<◌, ◌≤◌, List, [], ◌∷◌, length, take, drop, true, not, ◌==◌, Ok, Err, refl, ap, ◌∙◌, arith}
use Rattle.ss_names.specs.declared.fault.FaultKind.TheVariants as kind
use Rattle.ss_names.specs.declared.fault.ScriptFault.TheVariants.{Bad}
use Rattle.smt_lex.specs.declared.token.TokenKind.{TokenKind}
use Rattle.smt_lex.specs.declared.piece.Piece.TheVariants as piece
use Rattle.std.proofs.lemmas.Bool.{and_parts, not-true}
use Rattle.smt_lex.specs.Piece.{piece_at, is_on_line}
use Rattle.smt_lex.specs.Place.{Place, place, behind}
use Rattle.smt_lex.specs.Tokens.{tokens_from, tokens_at}

-- the first of the bytes that are left to pass
passes : (len : ℕ) (p : Place) (b : ℕ) (z : List ℕ) → 0 < len → tokens_from (len - 1) (behind p b) z ≡ tokens_from len p (b ∷ z)
passes zero p b z some = absurd (omega arith)
passes (suc n) p b z some = let e : suc n - 1 ≡ n = omega arith in ap (λ k. tokens_from k (behind p b) z) e

pub at_blank : (p : Place) (z : List ℕ) → piece.Blank ≡ piece_at z → tokens_at p z ≡ tokens_from 1 p z
unfolding tokens_at
at_blank p [] is = refl
at_blank p (b ∷ z) is = rw (← is) (passes 1 p b z (omega arith))

pub at_comment : (p : Place) (z : List ℕ) (len : ℕ) → 0 < len → piece.Comment len ≡ piece_at z → tokens_at p z ≡ tokens_from len p z
unfolding tokens_at
at_comment p [] len some is = refl
at_comment p (b ∷ z) len some is = rw (← is) (passes len p b z some)

pub at_word : (p : Place) (z : List ℕ) (k : TokenKind) (len : ℕ) → 0 < len → len ≤ length z → piece.Word k len ≡ piece_at z
    → tokens_at p z ≡ Ok (record { kind = k; line = p.line; column = p.column; text = take len z }) ∷ tokens_from len p z
unfolding tokens_at
at_word p [] k len some within is = absurd (omega arith)
at_word p (b ∷ z) k len some within is = rw (← is, passes len p b z some) refl

pub at_enclosed : (p : Place) (z : List ℕ) (k : TokenKind) (len : ℕ) → 1 < len → len ≤ length z → piece.Enclosed k len ≡ piece_at z
    → tokens_at p z ≡ Ok (record { kind = k; line = p.line; column = p.column; text = take (len - 2) (drop 1 z) }) ∷ tokens_from len p z
unfolding tokens_at
at_enclosed p [] k len some within is = absurd (omega arith)
at_enclosed p (b ∷ z) k len some within is = rw (← is, passes len p b z (omega arith)) refl

pub at_bad : (p : Place) (z : List ℕ) → 0 < length z → piece.Bad ≡ piece_at z → tokens_at p z ≡ Err (Bad kind.Token p.line p.column) ∷ []
unfolding tokens_at
at_bad p [] some is = absurd (omega arith)
at_bad p (b ∷ z) some is = rw (← is) refl

pub at_end : (p : Place) → tokens_at p [] ≡ []
unfolding tokens_at
at_end p = refl

-- bytes among which no line ends move the column alone
pub along_line : (len : ℕ) (p : Place) (z : List ℕ) → len ≤ length z → is_on_line (take len z) ≡ true
    → tokens_at (place p.line (p.column + len)) (drop len z) ≡ tokens_from len p z
unfolding tokens_at
along_line zero p z within on_line = let e : p.column + 0 ≡ p.column = omega arith in ap (λ c. tokens_from 0 (place p.line c) z) e
along_line (suc len) p [] within on_line = absurd (omega arith)
along_line (suc len) p (b ∷ z) within on_line =
    let parts = and_parts (not (b == 10)) (is_on_line (take len z)) on_line in
    let e : p.column + suc len ≡ p.column + 1 + len = omega arith in
    ap (λ c. tokens_from 0 (place p.line c) (drop len z)) e
    ∙ along_line len (place p.line (p.column + 1)) z (omega arith) parts.1
    ∙ rw (not-true (b == 10) parts.0) refl
