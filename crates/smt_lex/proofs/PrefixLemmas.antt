-- A front of bytes that pass a test.
use Rattle.std.proofs.Common.{◌≡◌, ℕ, suc, ◌<◌, ◌+◌, ◌&&◌, Bool, true, false, not, ◌==◌, List, [], ◌∷◌, length, take, get_or, arith, refl, sym, ◌∙◌, ap}
use Rattle.std.specs.List.{prefix_len, list_all}
use Rattle.std.proofs.lemmas.Bool.{true≢false, eqb-true, not_from_false, false_from_ne_true}
use Rattle.smt_lex.specs.Piece.{is_on_line}

pub prefix_len_moves : (p : ℕ → Bool) (z : List ℕ) → 0 < length z → p (get_or z 0 0) ≡ true → 0 < prefix_len p z
prefix_len_moves p [] some passes = some
prefix_len_moves p (b ∷ z) some passes = rw passes (omega arith)

take_front : (n b : ℕ) (z : List ℕ) → take (1 + n) (b ∷ z) ≡ b ∷ take n z
take_front n b z = let e : 1 + n ≡ suc n = omega arith in ap (λ k. take k (b ∷ z)) e

-- a test of all that another test passes, a byte at a time
pub all_passed_more : (p q : ℕ → Bool) (b : ℕ) (z : List ℕ) → p b ≡ true → list_all q (take (prefix_len p (b ∷ z)) (b ∷ z)) ≡ (q b && list_all q (take (prefix_len p z) z))
all_passed_more p q b z passes = rw passes (ap (list_all q) (take_front (prefix_len p z) b z))

pub all_passed_end : (p q : ℕ → Bool) (b : ℕ) (z : List ℕ) → p b ≡ false → list_all q (take (prefix_len p (b ∷ z)) (b ∷ z)) ≡ true
all_passed_end p q b z fails = rw fails refl

differs_from_end : (p : ℕ → Bool) (b : ℕ) → p 10 ≡ false → p b ≡ true → not (b == 10) ≡ true
differs_from_end p b none passes = not_from_false (b == 10) (false_from_ne_true (b == 10) (λ is. true≢false (sym passes ∙ ap p (eqb-true b 10 is) ∙ none)))

one_more : (p : ℕ → Bool) (b : ℕ) (z : List ℕ) (t : Bool) → p 10 ≡ false → p b ≡ t → is_on_line (take (prefix_len p z) z) ≡ true → is_on_line (take (prefix_len p (b ∷ z)) (b ∷ z)) ≡ true
one_more p b z true none passes more = all_passed_more p (λ c. not (c == 10)) b z passes ∙ rw (differs_from_end p b none passes) more
one_more p b z false none fails more = all_passed_end p (λ c. not (c == 10)) b z fails

-- bytes that pass a test which a line feed fails are on one line
pub on_line : (p : ℕ → Bool) (z : List ℕ) → p 10 ≡ false → is_on_line (take (prefix_len p z) z) ≡ true
on_line p [] none = refl
on_line p (b ∷ z) none = one_more p b z (p b) none refl (on_line p z none)
