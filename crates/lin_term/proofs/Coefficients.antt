-- The coefficient of a variable in ascending terms, from some place on.
use Rattle.std.specs.Prelude.{ℕ, ◌+◌, ◌<◌, ◌≡◌, ◌≢◌, ℤ, pos, ◌+ℤ◌, Bool, true, false, cond, eqb, List, [], ◌∷◌, length, get_or, drop}
use Rattle.std.proofs.Common.{arith, ap, ◌∙◌, subst, refl, eqb-true}
use Rattle.std.proofs.lemmas.Int.{ints}
use Rattle.std.proofs.lemmas.Bool.{eqb-false}
use Rattle.std.proofs.lemmas.List.{drop_more}
use Rattle.lin_term.specs.Form.{AreTerms}
use Rattle.lin_term.specs.PutIn.{coef}

coef-head : (t : ℕ × ℤ) (ts : List (ℕ × ℤ)) (x : ℕ) → t.0 ≡ x → coef (t ∷ ts) x ≡ t.1 +ℤ coef ts x
coef-head t ts x e = by (eqb t.0 x) refl
  where
    by : (b : Bool) → eqb t.0 x ≡ b → cond b (t.1 +ℤ coef ts x) (coef ts x) ≡ t.1 +ℤ coef ts x
    by true q = refl
    by false q = absurd (eqb-false t.0 x q e)

coef-tail : (t : ℕ × ℤ) (ts : List (ℕ × ℤ)) (x : ℕ) → t.0 ≢ x → coef (t ∷ ts) x ≡ coef ts x
coef-tail t ts x n = by (eqb t.0 x) refl
  where
    by : (b : Bool) → eqb t.0 x ≡ b → cond b (t.1 +ℤ coef ts x) (coef ts x) ≡ coef ts x
    by true q = absurd (n (eqb-true t.0 x q))
    by false q = refl

-- all variables are past x
pub coef_past : (n : ℕ) (ts : List (ℕ × ℤ)) (x : ℕ) → x < n → AreTerms n ts → coef ts x ≡ pos 0
coef_past n [] x h a = refl
coef_past n (t ∷ ts) x h a =
    let o = a.0 in coef-tail t ts x (λ e. absurd (omega arith)) ∙ coef_past (t.0 + 1) ts x (omega arith) a.4

pub coef_here : (ts : List (ℕ × ℤ)) (i x : ℕ) (d : ℕ × ℤ) → i < length ts → AreTerms 0 (drop i ts) → (get_or ts i d).0 ≡ x → coef (drop i ts) x ≡ (get_or ts i d).1
coef_here ts i x d h a e =
    let k = subst (λ (us : List (ℕ × ℤ)). AreTerms 0 us) (drop_more ts i d h) a in
    let z = coef_past ((get_or ts i d).0 + 1) (drop (i + 1) ts) x (omega arith) k.4 in
    ap (λ (us : List (ℕ × ℤ)). coef us x) (drop_more ts i d h) ∙ coef-head (get_or ts i d) (drop (i + 1) ts) x e ∙ (let u : (get_or ts i d).1 +ℤ coef (drop (i + 1) ts) x ≡ (get_or ts i d).1 = omega (arith, ints) in u)

pub coef_less : (ts : List (ℕ × ℤ)) (i x : ℕ) (d : ℕ × ℤ) → i < length ts → AreTerms 0 (drop i ts) → x < (get_or ts i d).0 → coef (drop i ts) x ≡ pos 0
coef_less ts i x d h a l =
    let k = subst (λ (us : List (ℕ × ℤ)). AreTerms 0 us) (drop_more ts i d h) a in
    ap (λ (us : List (ℕ × ℤ)). coef us x) (drop_more ts i d h) ∙ coef-tail (get_or ts i d) (drop (i + 1) ts) x (λ e. absurd (omega arith)) ∙ coef_past ((get_or ts i d).0 + 1) (drop (i + 1) ts) x (omega arith) k.4

pub coef_next : (ts : List (ℕ × ℤ)) (i x : ℕ) (d : ℕ × ℤ) → i < length ts → (get_or ts i d).0 ≢ x → coef (drop i ts) x ≡ coef (drop (i + 1) ts) x
coef_next ts i x d h n =
    ap (λ (us : List (ℕ × ℤ)). coef us x) (drop_more ts i d h) ∙ coef-tail (get_or ts i d) (drop (i + 1) ts) x n
