-- Terms that ascend, with no 0, of any size.
use Rattle.std.specs.Prelude.{ℕ, zero, suc, ◌+◌, ◌<◌, ◌≤◌, ◌≢◌, ◌^◌, ◌≡◌, ℤ, pos, negsuc, ◌+ℤ◌, ◌*ℤ◌, nat_abs, None, List, [], ◌∷◌, ltb, eqb, cond, ⊤}
use Rattle.std.proofs.Common.{arith, sym, ap, ◌∙◌, ltb-false, ltb-true}
use Rattle.std.proofs.lemmas.Bool.{cond_both}
use Rattle.lin_term.specs.Form.{Form, AreTerms, IsRow}
use Rattle.lin_term.specs.Linear.{put_front, put, plus_terms, times_terms}
use Rattle.lin_term.specs.Literal.{quotient_terms, reduce_terms, residue}
use Rattle.lin_term.specs.PutIn.{without}
use Rattle.lin_term.specs.Wide.{coefficients, first_past, form_numbers}
use Rattle.lin_term.proofs.PrimitiveLemmas.{DividesTerms}
use Rattle.lin_term.proofs.Quotients.{quotient_nonzero}
use Rattle.lin_term.proofs.Capping.{past-head, past-tail, past-append_left, past-append}

abbrev pub Ascend : ℕ → List (ℕ × ℤ) → Type 0
Ascend n [] = ⊤
Ascend n (t ∷ ts) = (n ≤ t.0) × (t.0 < 2 ^ 20) × (t.1 ≢ pos 0) × Ascend (t.0 + 1) ts

pub ascend_from : (n : ℕ) (ts : List (ℕ × ℤ)) → AreTerms n ts → Ascend n ts
ascend_from n [] a = tt
ascend_from n (t ∷ ts) a = (a.0, a.1, a.2, ascend_from (t.0 + 1) ts a.4)

-- within the cap they are a row's
pub are_from : (n : ℕ) (ts : List (ℕ × ℤ)) → Ascend n ts → first_past (coefficients ts) ≡ None → AreTerms n ts
are_from n [] a e = tt
are_from n (t ∷ ts) a e = (a.0, a.1, a.2, past-head t.1 (coefficients ts) e, are_from (t.0 + 1) ts a.3 (past-tail t.1 (coefficients ts) e))

pub ascend_weaker : (m n : ℕ) (ts : List (ℕ × ℤ)) → m ≤ n → Ascend n ts → Ascend m ts
ascend_weaker m n [] h a = tt
ascend_weaker m n (t ∷ ts) h a = (omega (arith, a.0), a.1, a.2, a.3)

pub front_ascend : (n i : ℕ) (c : ℤ) (ts : List (ℕ × ℤ)) → n ≤ i → i < 2 ^ 20 → Ascend (i + 1) ts → Ascend n (put_front i c ts)
front_ascend n i (pos zero) ts h k a = ascend_weaker n (i + 1) ts (omega arith) a
front_ascend n i (pos (suc m)) ts h k a = (h, k, λ e. some e, a)
  where
    some : pos (suc m) ≡ pos 0 → ⊥
    some e = absurd (omega (arith, ap nat_abs e))
front_ascend n i (negsuc m) ts h k a = (h, k, λ e. some e, a)
  where
    some : negsuc m ≡ pos 0 → ⊥
    some e = absurd (cc)

pub times_ascend : (n : ℕ) (k : ℤ) (ts : List (ℕ × ℤ)) → Ascend n ts → Ascend n (times_terms k ts)
times_ascend n k [] a = tt
times_ascend n k (t ∷ ts) a = front_ascend n t.0 (k *ℤ t.1) (times_terms k ts) a.0 a.1 (times_ascend (t.0 + 1) k ts a.3)

pub without_ascend : (n : ℕ) (ts : List (ℕ × ℤ)) (x : ℕ) → Ascend n ts → Ascend n (without ts x)
without_ascend n [] x a = tt
without_ascend n (t ∷ ts) x a =
    cond_both (eqb t.0 x) (without ts x) (t ∷ without ts x) (λ us. Ascend n us)
    (λ e. ascend_weaker n (t.0 + 1) (without ts x) (omega (arith, a.0)) (without_ascend (t.0 + 1) ts x a.3))
    (λ e. (a.0, a.1, a.2, without_ascend (t.0 + 1) ts x a.3))

pub put_ascend : (n i : ℕ) (c : ℤ) (ts : List (ℕ × ℤ)) → n ≤ i → i < 2 ^ 20 → Ascend n ts → Ascend n (put i c ts)
put_ascend n i c [] h k a = front_ascend n i c [] h k tt
put_ascend n i c (t ∷ ts) h k a =
    cond_both (ltb i t.0) (put_front i c (t ∷ ts)) (cond (ltb t.0 i) (t ∷ put i c ts) (put_front i (c +ℤ t.1) ts)) (λ us. Ascend n us)
    (λ e. front_ascend n i c (t ∷ ts) h k (let l = ltb-true i t.0 e in (omega arith, a.1, a.2, a.3)))
    (λ e. cond_both (ltb t.0 i) (t ∷ put i c ts) (put_front i (c +ℤ t.1) ts) (λ us. Ascend n us)
    (λ f. (a.0, a.1, a.2, put_ascend (t.0 + 1) i c ts (let l = ltb-true t.0 i f in omega arith) k a.3))
    (λ f. front_ascend n i (c +ℤ t.1) ts h k (let l = ltb-false i t.0 e in let m = ltb-false t.0 i f in ascend_weaker (i + 1) (t.0 + 1) ts (omega arith) a.3)))

pub plus_ascend : (n : ℕ) (ss ts : List (ℕ × ℤ)) → Ascend n ss → Ascend n ts → Ascend n (plus_terms ss ts)
plus_ascend n [] ts a b = b
plus_ascend n (s ∷ ss) ts a b =
    put_ascend n s.0 s.1 (plus_terms ss ts) a.0 a.1 (plus_ascend n ss ts (ascend_weaker n (s.0 + 1) ss (omega (arith, a.0)) a.3) b)

pub quotient_ascend : (n : ℕ) (ts : List (ℕ × ℤ)) (g : ℕ) → 1 ≤ g → DividesTerms g ts → Ascend n ts → Ascend n (quotient_terms ts g)
quotient_ascend n [] g o d a = tt
quotient_ascend n (t ∷ ts) g o d a = (a.0, a.1, quotient_nonzero t.1 g o d.0 a.2, quotient_ascend (t.0 + 1) ts g o d.1 a.3)

pub reduce_ascend : (n d : ℕ) (ts : List (ℕ × ℤ)) → Ascend n ts → Ascend n (reduce_terms d ts)
reduce_ascend n d [] a = tt
reduce_ascend n d (t ∷ ts) a = front_ascend n t.0 (pos (residue t.1 d)) (reduce_terms d ts) a.0 a.1 (reduce_ascend (t.0 + 1) d ts a.3)

-- an ascending form whose numbers are within the cap is a row
pub row_from : (f : Form) → Ascend 0 f.terms → first_past (form_numbers f) ≡ None → IsRow f
row_from f a e =
    let c = past-append_left (coefficients f.terms) (f.constant ∷ []) e in
    (are_from 0 f.terms a c, past-head f.constant [] (sym (past-append (coefficients f.terms) (f.constant ∷ []) c) ∙ e))
