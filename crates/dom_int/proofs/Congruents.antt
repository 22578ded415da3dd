-- Residues, and the constants of moves that have one.
use Rattle.std.specs.Prelude.{ℕ, zero, suc, ◌+◌, ◌-◌, ◌*◌, ◌/◌, ◌%◌, ◌<◌, ◌≤◌, ◌≡◌, ◌≢◌, ℤ, pos, negsuc, ◌+ℤ◌, ◌-ℤ◌, ◌*ℤ◌, ◌≤ℤ◌, neg_ℤ, nat_abs, List, [], ◌∷◌}
use Rattle.std.specs.Int.{int_rem_euclid}
use Rattle.std.proofs.Common.{arith, ap, ap₂, ◌∙◌, sym, refl}
use Rattle.std.proofs.lemmas.Int.{ints}
use Rattle.lin_term.specs.declared.Lit.{Lit}
use Rattle.lin_term.specs.declared.Lit.TheVariants.{Divides}
use Rattle.lin_term.specs.Form.{Form, AreTerms}
use Rattle.lin_term.specs.Linear.{put_front, put, plus_terms, floor_div}
use Rattle.lin_term.specs.Literal.{residue}
use Rattle.lin_term.specs.Move.{Move}
use Rattle.lin_term.specs.PutIn.{less_residue}
use Rattle.lin_term.proofs.Lowest.{residue_less}
use Rattle.lin_term.proofs.Merging.{put_first, beyond_are}
use Rattle.lin_term.proofs.PrimitiveLemmas.{residue_split}
use Rattle.lin_term.proofs.Ring.{mul_neg_ℤ, neg_mul_ℤ}
use Rattle.dom_int.proofs.Numerators.{formed}

-- ---- residues

same_rest : (n a q r s : ℕ) → a ≡ n * q + s → pos a ≡ pos r +ℤ pos n *ℤ pos q → pos s ≡ pos r
same_rest n a q r s e f = omega (arith, ints)

whole_part : (a n : ℕ) → 1 ≤ n → a ≡ n * (a / n) + a % n
whole_part a n o = omega arith

last_rest : (n a q r s : ℕ) → 1 ≤ n → s < n → a ≡ n * q + s → negsuc a ≡ pos r +ℤ pos n *ℤ negsuc q → pos (n - 1 - s) ≡ pos r
last_rest n a q r s o l e f =
    let p : pos n *ℤ negsuc q ≡ neg_ℤ (pos n *ℤ pos (suc q)) = mul_neg_ℤ (pos n) (pos (suc q)) in
    let m : n * suc q ≡ n * q + n = omega arith in
    omega (arith, ints, o, l, e, f, p, m)

rest_below : (a n : ℕ) → 1 ≤ n → a % n < n
rest_below a n o = omega arith

pub residue_rem : (z : ℤ) (n : ℕ) → 1 ≤ n → int_rem_euclid z (pos n) ≡ pos (residue z n)
residue_rem (pos a) n o = same_rest n a (a / n) (residue (pos a) n) (a % n) (whole_part a n o) (residue_split (pos a) n o)
residue_rem (negsuc a) n o = last_rest n a (a / n) (residue (negsuc a) n) (a % n) o (rest_below a n o) (whole_part a n o) (residue_split (negsuc a) n o)

-- ---- constants

one_less : (n : ℕ) → 1 ≤ n → pos n -ℤ pos 1 ≡ pos (n - 1)
one_less n o = omega (arith, ints)

some_of : (A : ℤ) (n : ℕ) → A ≡ pos n → pos 1 ≤ℤ A → 1 ≤ n
some_of A n a o = omega (arith, ints)

pub raised_is : (A J C : ℤ) (n : ℕ) (z : ℤ) → A ≡ pos n → pos 1 ≤ℤ A → J ≡ z → C ≡ (A -ℤ pos 1) +ℤ A *ℤ J → C ≡ pos (n - 1) +ℤ pos n *ℤ z
raised_is A J C n z a o j e =
    e ∙ ap₂ (λ (x y : ℤ). x +ℤ y) (ap (λ (x : ℤ). x -ℤ pos 1) a ∙ one_less n (some_of A n a o)) (ap₂ (λ (x y : ℤ). x *ℤ y) a j)

pub lowered_is : (K J P : ℤ) (n : ℕ) (z : ℤ) → neg_ℤ K ≡ pos n → J ≡ z → P ≡ K *ℤ J → P ≡ pos n *ℤ neg_ℤ z
lowered_is K J P n z k j e =
    let b : K ≡ neg_ℤ (pos n) = omega (arith, ints) in
    e ∙ ap₂ (λ (x y : ℤ). x *ℤ y) b j ∙ neg_mul_ℤ (pos n) z ∙ sym (mul_neg_ℤ (pos n) z)

-- ---- the numerator less a residue

front_is : (i : ℕ) (z : ℤ) (ts : List (ℕ × ℤ)) → z ≢ pos 0 → put_front i z ts ≡ (i, z) ∷ ts
front_is i (pos zero) ts h = absurd (h refl)
front_is i (pos (suc n)) ts h = refl
front_is i (negsuc n) ts h = refl

plus_none : (n : ℕ) (ts : List (ℕ × ℤ)) → AreTerms n ts → plus_terms ts [] ≡ ts
plus_none n [] a = refl
plus_none n (t ∷ ts) a =
    ap (λ us. put t.0 t.1 us) (plus_none (t.0 + 1) ts a.4) ∙ put_first t.0 t.1 ts (beyond_are t.0 (t.0 + 1) ts (omega arith) a.4) ∙ front_is t.0 t.1 ts a.2

pub less_read : (m : Move) (r d : ℕ) (ts : List (ℕ × ℤ)) (z : ℤ) → d ≡ m.div → ts ≡ m.numer.terms → AreTerms 0 ts → z ≡ m.numer.constant -ℤ pos r → Divides d (formed ts z) ≡ Divides m.div (less_residue m r)
less_read m r d ts z e q a k =
    ap₂ (λ (n : ℕ) (f : Form). Divides n f) e
    (ap₂ formed (sym (plus_none 0 ts a) ∙ ap (λ us. plus_terms us []) q) (k ∙ turned m.numer.constant (pos r)))
  where
    turned : (x y : ℤ) → x -ℤ y ≡ x +ℤ neg_ℤ y
    turned x y = omega (arith, ints)
