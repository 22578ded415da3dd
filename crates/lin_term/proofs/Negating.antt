-- Negated coefficients.
use Rattle.std.specs.Prelude.{ℕ, zero, suc, ◌+◌, ◌<◌, ◌≢◌, ◌≡◌, ℤ, pos, negsuc, ◌+ℤ◌, ◌-ℤ◌, ◌*ℤ◌, nat_abs, List, [], ◌∷◌, ◌++◌, length, get_or, drop, take}
use Rattle.std.proofs.Common.{arith, refl, subst, sym, ap, ap₂, ◌∙◌}
use Rattle.std.proofs.lemmas.Int.{ints}
use Rattle.std.proofs.Math.ListN.{set}
use Rattle.lin_term.specs.Form.{AreTerms, IsRow}
use Rattle.lin_term.specs.Linear.{Form, put_front, put, plus_terms, times_terms}
use Rattle.lin_term.specs.Literal.{minus_one}
use Rattle.lin_term.specs.Settle.{sum_form}
use Rattle.lin_term.proofs.Residues.{with_constant}
use Rattle.lin_term.proofs.Merging.{put_first, beyond_are}

-- a coefficient other than 0 stands in front
pub front_stands : (i : ℕ) (z : ℤ) (ts : List (ℕ × ℤ)) → z ≢ pos 0 → put_front i z ts ≡ (i, z) ∷ ts
front_stands i (pos zero) ts h = absurd (h refl)
front_stands i (pos (suc k)) ts h = refl
front_stands i (negsuc k) ts h = refl

minus : (z : ℤ) → negsuc 0 *ℤ z ≡ pos 0 -ℤ z
minus z = omega (arith, ints)

minus_nonzero : (z : ℤ) → z ≢ pos 0 → pos 0 -ℤ z ≢ pos 0
minus_nonzero z h e = h (let s : z ≡ pos 0 = omega (arith, ints) in s)

pub negate-cons : (t : ℕ × ℤ) (ts : List (ℕ × ℤ)) → t.1 ≢ pos 0 → times_terms (negsuc 0) (t ∷ ts) ≡ (t.0, pos 0 -ℤ t.1) ∷ times_terms (negsuc 0) ts
negate-cons t ts h =
    ap (λ (z : ℤ). put_front t.0 z (times_terms (negsuc 0) ts)) (minus t.1)
    ∙ front_stands t.0 (pos 0 -ℤ t.1) (times_terms (negsuc 0) ts) (minus_nonzero t.1 h)

get_cons : (x : ℕ × ℤ) (xs ys : List (ℕ × ℤ)) (i : ℕ) (d y : ℕ × ℤ) → ys ≡ x ∷ xs → get_or xs i d ≡ y → get_or ys (suc i) d ≡ y
get_cons x xs ys i d y e h = ap (λ (zs : List (ℕ × ℤ)). get_or zs (suc i) d) e ∙ h

pub get_negated : (n : ℕ) (ts : List (ℕ × ℤ)) (i : ℕ) (d : ℕ × ℤ) → AreTerms n ts → get_or (times_terms (negsuc 0) (take i ts) ++ drop i ts) i d ≡ get_or ts i d
get_negated n [] zero d a = refl
get_negated n [] (suc i) d a = refl
get_negated n (t ∷ ts) zero d a = refl
get_negated n (t ∷ ts) (suc i) d a =
    get_cons (t.0, pos 0 -ℤ t.1) (times_terms (negsuc 0) (take i ts) ++ drop i ts) (times_terms (negsuc 0) (t ∷ take i ts) ++ drop i ts) i d (get_or ts i d) (ap (λ (zs : List (ℕ × ℤ)). zs ++ drop i ts) (negate-cons t (take i ts) a.2)) (get_negated (t.0 + 1) ts i d a.4)

set_negated : (n : ℕ) (ts : List (ℕ × ℤ)) (i : ℕ) (d : ℕ × ℤ) → i < length ts → AreTerms n ts → set (times_terms (negsuc 0) (take i ts) ++ drop i ts) i ((get_or ts i d).0, pos 0 -ℤ (get_or ts i d).1) ≡ times_terms (negsuc 0) (take (suc i) ts) ++ drop (suc i) ts
set_negated n [] i d h a = absurd (omega arith)
set_negated n (t ∷ ts) zero d h a = sym (ap (λ (zs : List (ℕ × ℤ)). zs ++ ts) (negate-cons t [] a.2))
set_negated n (t ∷ ts) (suc i) d h a =
    ap (λ (zs : List (ℕ × ℤ)). set (zs ++ drop i ts) (suc i) ((get_or ts i d).0, pos 0 -ℤ (get_or ts i d).1)) (negate-cons t (take i ts) a.2)
    ∙ ap (λ (us : List (ℕ × ℤ)). (t.0, pos 0 -ℤ t.1) ∷ us) (set_negated (t.0 + 1) ts i d (omega arith) a.4)
    ∙ sym (ap (λ (zs : List (ℕ × ℤ)). zs ++ drop (suc i) ts) (negate-cons t (take (suc i) ts) a.2))

-- one more coefficient is negated in its place
pub negate_more : (ts us : List (ℕ × ℤ)) (i : ℕ) (d : ℕ × ℤ) (z : ℤ) → i < length ts → AreTerms 0 ts → us ≡ times_terms (negsuc 0) (take i ts) ++ drop i ts → z ≡ pos 0 -ℤ (get_or ts i d).1 → set us i ((get_or us i d).0, z) ≡ times_terms (negsuc 0) (take (i + 1) ts) ++ drop (i + 1) ts
negate_more ts us i d z h a e f =
    let k : get_or us i d ≡ get_or ts i d = ap (λ (xs : List (ℕ × ℤ)). get_or xs i d) e ∙ get_negated 0 ts i d a in
    ap (λ (xs : List (ℕ × ℤ)). set xs i ((get_or us i d).0, z)) e
    ∙ ap (λ (t : ℕ × ℤ). set (times_terms (negsuc 0) (take i ts) ++ drop i ts) i (t.0, z)) k
    ∙ ap (λ (y : ℤ). set (times_terms (negsuc 0) (take i ts) ++ drop i ts) i ((get_or ts i d).0, y)) f
    ∙ set_negated 0 ts i d h a
    ∙ (let s : suc i ≡ i + 1 = omega arith in ap (λ (j : ℕ). times_terms (negsuc 0) (take j ts) ++ drop j ts) s)

pub negate_are : (n : ℕ) (ts : List (ℕ × ℤ)) → AreTerms n ts → AreTerms n (times_terms (negsuc 0) ts)
negate_are n [] a = tt
negate_are n (t ∷ ts) a =
    subst (λ (us : List (ℕ × ℤ)). AreTerms n us) (sym (negate-cons t ts a.2))
    (a.0, a.1, minus_nonzero t.1 a.2, (let s : nat_abs (pos 0 -ℤ t.1) ≡ nat_abs t.1 = omega (arith, ints) in omega (arith, a.3)), negate_are (t.0 + 1) ts a.4)

-- nothing is added to ascending terms
pub plus_none : (n : ℕ) (ts : List (ℕ × ℤ)) → AreTerms n ts → plus_terms ts [] ≡ ts
plus_none n [] a = refl
plus_none n (t ∷ ts) a =
    ap (put t.0 t.1) (plus_none (t.0 + 1) ts a.4)
    ∙ put_first t.0 t.1 ts (beyond_are t.0 (t.0 + 1) ts (omega arith) a.4)
    ∙ front_stands t.0 t.1 ts a.2

pub less_one : (f : Form) (us : List (ℕ × ℤ)) (c : ℤ) → IsRow f → us ≡ f.terms → c ≡ f.constant -ℤ pos 1 → with_constant us c ≡ minus_one f
less_one f us c r e h =
    ap₂ (λ (ts : List (ℕ × ℤ)) (z : ℤ). with_constant ts z) (e ∙ sym (plus_none 0 f.terms r.0)) (h ∙ (let s : f.constant -ℤ pos 1 ≡ f.constant +ℤ negsuc 0 = omega (arith, ints) in s))

pub one_of_row : (f : Form) (us : List (ℕ × ℤ)) (c : ℤ) → AreTerms 0 us → us ≡ f.terms → c ≡ f.constant → sum_form (pos 1) us (pos 0) [] 0 c ≡ f
one_of_row f us c r e h =
    ap (λ (ts : List (ℕ × ℤ)). with_constant ts c) (ap (λ (ts : List (ℕ × ℤ)). plus_terms ts []) (once 0 us r) ∙ plus_none 0 us r)
    ∙ ap₂ (λ (ts : List (ℕ × ℤ)) (z : ℤ). with_constant ts z) e h
  where
    times_one : (z : ℤ) → pos 1 *ℤ z ≡ z
    times_one z = omega (arith, ints)

    once : (n : ℕ) (ts : List (ℕ × ℤ)) → AreTerms n ts → times_terms (pos 1) ts ≡ ts
    once n [] a = refl
    once n (t ∷ ts) a =
        ap₂ (λ (z : ℤ) (us : List (ℕ × ℤ)). put_front t.0 z us) (times_one t.1) (once (t.0 + 1) ts a.4) ∙ front_stands t.0 t.1 ts a.2
