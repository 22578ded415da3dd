-- Ascending terms within the cap.
use Rattle.std.specs.Prelude.{ℕ, zero, suc, ◌+◌, ◌<◌, ◌≤◌, ◌^◌, ◌≡◌, ℤ, nat_abs, List, [], ◌∷◌, length, get_or, drop}
use Rattle.std.proofs.Common.{arith, subst, w64, SFits, to_z-of_z, to_z, of_z}
use mir.Syntax.{w128}
use lib.Signed.{mag}
use Rattle.std.proofs.lemmas.Int.{ints}
use Rattle.std.proofs.lemmas.List.{drop-drop}
use Rattle.lin_term.specs.Form.{AreTerms, cap}

pub are_weaker : (m n : ℕ) (ts : List (ℕ × ℤ)) → m ≤ n → AreTerms n ts → AreTerms m ts
are_weaker m n [] h a = tt
are_weaker m n (t ∷ ts) h a = (omega (arith, a.0), a.1, a.2, a.3, a.4)

pub are_drop : (n k : ℕ) (ts : List (ℕ × ℤ)) → AreTerms n ts → AreTerms n (drop k ts)
are_drop n zero ts a = a
are_drop n (suc k) [] a = tt
are_drop n (suc k) (t ∷ ts) a = are_drop n k ts (are_weaker n (t.0 + 1) ts (omega (arith, a.0)) a.4)

pub term_kept : (n : ℕ) (ts : List (ℕ × ℤ)) (i : ℕ) (d : ℕ × ℤ) → i < length ts → AreTerms n ts → nat_abs (get_or ts i d).1 ≤ cap
term_kept n [] i d h a = absurd (omega arith)
term_kept n (t ∷ ts) zero d h a = a.3
term_kept n (t ∷ ts) (suc i) d h a = term_kept (t.0 + 1) ts i d (omega arith) a.4

-- a number within the cap is one of a word
pub word_of : (z : ℤ) → nat_abs z ≤ cap → to_z w64 (of_z w64 z) ≡ z
word_of z h = let f : SFits w64 z = omega (arith, ints) in to_z-of_z f

pub term_word : (n : ℕ) (ts : List (ℕ × ℤ)) (i : ℕ) (d : ℕ × ℤ) → i < length ts → AreTerms n ts → to_z w64 (of_z w64 (get_or ts i d).1) ≡ (get_or ts i d).1
term_word n ts i d h a = word_of (get_or ts i d).1 (term_kept n ts i d h a)

-- a number of the size of a sum of products is one of two words
pub wide_of : (z : ℤ) → nat_abs z ≤ 2 ^ 106 → to_z w128 (of_z w128 z) ≡ z
wide_of z h = let f : SFits w128 z = omega (arith, ints) in to_z-of_z f

pub are_more : (i l : ℕ) (ts : List (ℕ × ℤ)) → AreTerms 0 (drop i ts) → AreTerms 0 (drop (i + l) ts)
are_more i l ts a = subst (λ (x : List (ℕ × ℤ)). AreTerms 0 x) (drop-drop l i ts) (are_drop 0 l (drop i ts) a)

pub two_words : (z : ℤ) → mag z < 2 ^ 127 → to_z w128 (of_z w128 z) ≡ z
two_words z h = let f : SFits w128 z = omega (arith, ints, h) in to_z-of_z f

pub word_wide : (z : ℤ) → SFits w64 z → to_z w128 (of_z w128 z) ≡ z
word_wide z h = let f : SFits w128 z = omega (arith, ints, h) in to_z-of_z f
