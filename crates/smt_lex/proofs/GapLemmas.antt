-- White space and comments in front of tokens.
use Rattle.std.proofs.Common.{◌≡◌, ℕ, zero, suc, ◌+◌, Bool, true, false, not, cond, ◌==◌, List, [], ◌∷◌, ◌++◌, take, drop, Option, Some, None, IsSome, Ok, Err, refl, sym, ap, subst, ◌∙◌, arith, inl, inr, ◌⊎◌, append_assoc}
use Rattle.std.specs.List.{prefix_len}
use Rattle.std.proofs.lemmas.Bool.{eqb-true}
use Rattle.std.proofs.lemmas.Option.{none-some, same_Some}
use Rattle.ss_names.specs.declared.fault.FaultKind.TheVariants as kind
use Rattle.ss_names.specs.declared.fault.ScriptFault.TheVariants as fault
use Rattle.smt_lex.specs.Run.{is_blank}
use Rattle.smt_lex.specs.Piece.{piece_at}
use Rattle.smt_lex.specs.Place.{Place, behind, past}
use Rattle.smt_lex.specs.Lexeme.{Found}
use Rattle.smt_lex.specs.Tokens.{tokens_from}
use Rattle.smt_lex.specs.Spelling.{blanks, spelled, Reads}

pub past-append : (p : Place) (x y : List ℕ) → past p (x ++ y) ≡ past (past p x) y
past-append p [] y = refl
past-append p (b ∷ x) y = past-append (behind p b) x y

chosen : (u v : Bool) (t : Bool) (x y x' y' r : Option Bool) → (x ≡ Some t → x' ≡ r) → (y ≡ Some t → y' ≡ r) → cond u x (cond v y None) ≡ Some t → cond u x' (cond v y' None) ≡ r
chosen true v t x y x' y' r f g h = f h
chosen false true t x y x' y' r f g h = g h
chosen false false t x y x' y' r f g h = absurd (none-some t h)

pub blanks-append : (s : Bool) (x y : List ℕ) (t : Bool) → blanks s x ≡ Some t → blanks s (x ++ y) ≡ blanks t y
blanks-append s [] y t h = ap (λ (u : Bool). blanks u y) (same_Some s t h)
blanks-append true (b ∷ x) y t h = blanks-append (not (b == 10)) x y t h
blanks-append false (b ∷ x) y t h = chosen (is_blank b) (b == 59) t (blanks false x) (blanks true x) (blanks false (x ++ y)) (blanks true (x ++ y)) (blanks t y) (blanks-append false x y t) (blanks-append true x y t) h

-- a gap in front of a text
pub more_gap : (g : List ℕ) (p : Place) (z : List ℕ) (ts : List Found) → blanks false g ≡ Some false → Reads (past p g) z ts → Reads p (g ++ z) ts
more_gap g p z [] blank h = subst IsSome (sym (blanks-append false g z false blank)) h
more_gap g p z (Ok t ∷ ts) blank (gap, rest, next, more) = (
  g ++ gap,
  rest,
  record {
    bytes = ap (λ (r : List ℕ). g ++ r) next.bytes ∙ sym (append_assoc g gap (spelled t.kind t.text ++ rest));
    blank = blanks-append false g gap false blank ∙ next.blank;
    at = next.at ∙ sym (past-append p g gap);
    token = next.token;
    over = next.over;
  },
  subst (λ (q : Place). Reads (past q (spelled t.kind t.text)) rest ts) (sym (past-append p g gap)) more,
)
more_gap g p z (Err f ∷ ts) blank (gap, rest, refused, none) = (
  g ++ gap,
  rest,
  record {
    bytes = ap (λ (r : List ℕ). g ++ r) refused.bytes ∙ sym (append_assoc g gap rest);
    blank = blanks-append false g gap false blank ∙ refused.blank;
    some = refused.some;
    ends = refused.ends;
    none = refused.none;
    fault = subst (λ (q : Place). f ≡ fault.Bad kind.Token q.line q.column) (sym (past-append p g gap)) refused.fault;
  },
  none,
)

-- the bytes that a comment is made of
abbrev pub not_end : ℕ → Bool
not_end b = not (b == 10)

-- a comment ends with the text or before a line feed
abbrev pub Ends : List ℕ → ℕ → Type 0
Ends z k =
    ((drop k z ≡ []) × (blanks true z ≡ Some true))
    ⊎ ((y : List ℕ) × (drop k z ≡ 10 ∷ y) × (blanks true (take (suc k) z) ≡ Some false))

in_comment : (b : ℕ) (z : List ℕ) (r : Option Bool) → (b == 10) ≡ false → blanks true z ≡ r → blanks true (b ∷ z) ≡ r
in_comment b z r is h = ap (λ (t : Bool). blanks (not t) z) is ∙ h

one_byte : (b : ℕ) (z : List ℕ) (t : Bool) → (b == 10) ≡ t → Ends z (prefix_len not_end z) → Ends (b ∷ z) (prefix_len not_end (b ∷ z))
one_byte b z true is h =
    let none : prefix_len not_end (b ∷ z) ≡ 0 = ap (λ (t : Bool). cond (not t) (1 + prefix_len not_end z) 0) is in
    subst (λ (k : ℕ). Ends (b ∷ z) k) (sym none) (inr (z, ap (λ (c : ℕ). c ∷ z) (eqb-true b 10 is), ap (λ (t : Bool). blanks (not t) []) is))
one_byte b z false is h =
    let e : 1 + prefix_len not_end z ≡ suc (prefix_len not_end z) = omega arith in
    let more : prefix_len not_end (b ∷ z) ≡ suc (prefix_len not_end z) = ap (λ (t : Bool). cond (not t) (1 + prefix_len not_end z) 0) is ∙ e in
    subst (λ (k : ℕ). Ends (b ∷ z) k) (sym more)
    (elim h [
      | inl last ↦ inl (last.0, in_comment b z (Some true) is last.1)
      | inr line ↦ inr (line.0, line.1, in_comment b (take (suc (prefix_len not_end z)) z) (Some false) is line.2)
    ])

pub comment_ends : (z : List ℕ) → Ends z (prefix_len not_end z)
comment_ends [] = inl (refl, refl)
comment_ends (b ∷ z) = one_byte b z (b == 10) refl (comment_ends z)

-- bytes to pass, and then the rest
pub tokens_from_drop : (n : ℕ) (p : Place) (z : List ℕ) → tokens_from n p z ≡ tokens_from 0 (past p (take n z)) (drop n z)
tokens_from_drop zero p z = refl
tokens_from_drop (suc n) p [] = refl
tokens_from_drop (suc n) p (b ∷ z) = tokens_from_drop n (behind p b) z

-- a line feed is passed with the comment before it
pub tokens_from_line : (k : ℕ) (p : Place) (z y : List ℕ) → drop k z ≡ 10 ∷ y → tokens_from (suc k) p z ≡ tokens_from k p z
unfolding piece_at
tokens_from_line zero p z y is = rw is refl
tokens_from_line (suc k) p [] y is = refl
tokens_from_line (suc k) p (b ∷ z) y is = tokens_from_line k (behind p b) z y is
