-- The terms that are put in for a variable, and cubes with them put in, literal by literal.
use Rattle.std.specs.Prelude.{ℕ, zero, suc, ◌+◌, ◌<◌, ◌≤◌, ◌≡◌, ◌≢◌, ◌^◌, ℤ, pos, negsuc, ◌+ℤ◌, ◌-ℤ◌, ◌*ℤ◌, ◌≤ℤ◌, neg_ℤ, nat_abs, Bool, true, false, not, cond, eqb, Option, Some, None, List, [], ◌∷◌, ◌++◌, length, get_or, drop, filter}
use Rattle.std.proofs.Common.{arith, ap, ◌∙◌, sym, subst, refl, eqb-true, w64, to_z, of_z}
use Rattle.std.proofs.lemmas.Int.{ints}
use Rattle.std.proofs.lemmas.Bool.{eqb-false}
use Rattle.std.proofs.lemmas.List.{drop_more}
use Rattle.lin_term.specs.Form.{Form, AreTerms, cap}
use Rattle.lin_term.specs.declared.Lit.{Lit}
use Rattle.lin_term.specs.declared.Lit.TheVariants.{AtLeast, Above, Divides, NotDivides}
use Rattle.lin_term.specs.Literal.{form_of}
use Rattle.dom_core.specs.Elimination.{size_at, is_positive, is_lower, above_bound}
use Rattle.lin_term.specs.Linear.{times_terms, put_front}
use Rattle.lin_term.specs.PutIn.{coef, without}
use Rattle.lin_term.specs.Wide.{first_past, lit_numbers}
use Rattle.lin_term.proofs.Capping.{past-append, past-append_some}
use Rattle.lin_term.proofs.Terms.{are_weaker, word_of}

abbrev pub formed : List (ℕ × ℤ) → ℤ → Form
formed ts z = record { terms = ts; constant = z }

abbrev pub opposite : List (ℕ × ℤ) → ℕ → List (ℕ × ℤ)
opposite ts x = times_terms (negsuc 0) (without ts x)

front_nonzero : (i : ℕ) (z : ℤ) (ts : List (ℕ × ℤ)) → z ≢ pos 0 → put_front i (negsuc 0 *ℤ z) ts ≡ (i, neg_ℤ z) ∷ ts
front_nonzero i (pos zero) ts n = absurd (n refl)
front_nonzero i (pos (suc k)) ts n = ap (λ (y : ℤ). put_front i y ts) (let e : negsuc 0 *ℤ pos (suc k) ≡ negsuc k = omega (arith, ints) in e) ∙ ap (λ (y : ℤ). (i, y) ∷ ts) (let e : negsuc k ≡ neg_ℤ (pos (suc k)) = omega (arith, ints) in e)
front_nonzero i (negsuc k) ts n = ap (λ (y : ℤ). put_front i y ts) (let e : negsuc 0 *ℤ negsuc k ≡ pos (suc k) = omega (arith, ints) in e) ∙ ap (λ (y : ℤ). (i, y) ∷ ts) (let e : pos (suc k) ≡ neg_ℤ (negsuc k) = omega (arith, ints) in e)

opposite_head : (t : ℕ × ℤ) (ts : List (ℕ × ℤ)) (x : ℕ) → t.0 ≢ x → t.1 ≢ pos 0 → opposite (t ∷ ts) x ≡ (t.0, neg_ℤ t.1) ∷ opposite ts x
opposite_head t ts x n z = by (eqb t.0 x) refl
  where
    by : (b : Bool) → eqb t.0 x ≡ b → times_terms (negsuc 0) (cond b (without ts x) (t ∷ without ts x)) ≡ (t.0, neg_ℤ t.1) ∷ opposite ts x
    by true e = absurd (n (eqb-true t.0 x e))
    by false e = front_nonzero t.0 t.1 (opposite ts x) z

opposite_skip : (t : ℕ × ℤ) (ts : List (ℕ × ℤ)) (x : ℕ) → t.0 ≡ x → opposite (t ∷ ts) x ≡ opposite ts x
opposite_skip t ts x n = by (eqb t.0 x) refl
  where
    by : (b : Bool) → eqb t.0 x ≡ b → times_terms (negsuc 0) (cond b (without ts x) (t ∷ without ts x)) ≡ opposite ts x
    by true e = refl
    by false e = absurd (eqb-false t.0 x e n)

pub opposite_are : (n : ℕ) (ts : List (ℕ × ℤ)) (x : ℕ) → AreTerms n ts → AreTerms n (opposite ts x)
opposite_are n [] x a = tt
opposite_are n (t ∷ ts) x a = by (eqb t.0 x) refl (opposite_are (t.0 + 1) ts x a.4)
  where
    nonzero : (z : ℤ) → z ≢ pos 0 → neg_ℤ z ≢ pos 0
    nonzero z k e = k (let u : z ≡ pos 0 = omega (arith, ints) in u)

    size : (z : ℤ) → nat_abs (neg_ℤ z) ≡ nat_abs z
    size z = omega (arith, ints)

    by : (b : Bool) → eqb t.0 x ≡ b → AreTerms (t.0 + 1) (opposite ts x) → AreTerms n (times_terms (negsuc 0) (cond b (without ts x) (t ∷ without ts x)))
    by true e r = are_weaker n (t.0 + 1) (opposite ts x) (omega (arith, a.0)) r
    by false e r =
        subst (λ (us : List (ℕ × ℤ)). AreTerms n us) (sym (front_nonzero t.0 t.1 (opposite ts x) a.2))
        (a.0, a.1, nonzero t.1 a.2, subst (λ (k : ℕ). k ≤ cap) (sym (size t.1)) a.3, r)

-- from a place on
pub opposite_next : (ts : List (ℕ × ℤ)) (i x : ℕ) (d : ℕ × ℤ) → i < length ts → AreTerms 0 (drop i ts) → (get_or ts i d).0 ≢ x → opposite (drop i ts) x ≡ ((get_or ts i d).0, neg_ℤ (get_or ts i d).1) ∷ opposite (drop (i + 1) ts) x
opposite_next ts i x d h a n =
    let k = subst (λ (us : List (ℕ × ℤ)). AreTerms 0 us) (drop_more ts i d h) a in
    ap (λ (us : List (ℕ × ℤ)). opposite us x) (drop_more ts i d h) ∙ opposite_head (get_or ts i d) (drop (i + 1) ts) x n k.2

pub opposite_same : (ts : List (ℕ × ℤ)) (i x : ℕ) (d : ℕ × ℤ) → i < length ts → (get_or ts i d).0 ≡ x → opposite (drop i ts) x ≡ opposite (drop (i + 1) ts) x
opposite_same ts i x d h n =
    ap (λ (us : List (ℕ × ℤ)). opposite us x) (drop_more ts i d h) ∙ opposite_skip (get_or ts i d) (drop (i + 1) ts) x n

-- the term that is put in is k - l over a
pub bound_is : (x : ℕ) (l : Lit) (k : ℕ) (ts : List (ℕ × ℤ)) (z : ℤ) → ts ≡ opposite (form_of l).terms x → z ≡ pos k -ℤ (form_of l).constant → formed ts z ≡ above_bound x l k
bound_is x l k ts z e f =
    ap (λ (us : List (ℕ × ℤ)). formed us z) e ∙ ap (λ (y : ℤ). formed (opposite (form_of l).terms x) y) (f ∙ (let u : pos k -ℤ (form_of l).constant ≡ pos k +ℤ negsuc 0 *ℤ (form_of l).constant = omega (arith, ints) in u))

positive_size : (z : ℤ) → is_positive z ≡ true → (pos 1 ≤ℤ z) × (nat_abs z ≡ nat_abs z)
positive_size (pos zero) e = absurd (cc)
positive_size (pos (suc k)) e = (omega (arith, ints), refl)
positive_size (negsuc k) e = absurd (cc)

pub lower_least : (x : ℕ) (l : Lit) → is_lower x l ≡ true → pos 1 ≤ℤ coef (form_of l).terms x
lower_least x (AtLeast f) e = (positive_size (coef f.terms x) e).0
lower_least x (Above f) e = (positive_size (coef f.terms x) e).0
lower_least x (Divides d f) e = absurd (cc)
lower_least x (NotDivides d f) e = absurd (cc)

pub lower_size : (x : ℕ) (l : Lit) → is_lower x l ≡ true → 1 ≤ size_at x l
lower_size x l e = let h = lower_least x l e in omega (arith, ints)

-- the other sign of a kept number, in one word
pub word_opposite : (z : ℤ) → nat_abs z ≤ cap → to_z w64 (of_z w64 (pos 0 -ℤ to_z w64 (of_z w64 z))) ≡ neg_ℤ z
word_opposite z h =
    ap (λ (y : ℤ). to_z w64 (of_z w64 (pos 0 -ℤ y))) (word_of z h) ∙ word_of (pos 0 -ℤ z) (omega (arith, ints)) ∙ (let e : pos 0 -ℤ z ≡ neg_ℤ z = omega (arith, ints) in e)
