-- Divisors and quotients of a sum, term by term from the front.
use Rattle.std.specs.Prelude.{ℕ, zero, suc, ◌+◌, ◌≡◌, ℤ, pos, negsuc, nat_abs, Some, None, Err, List, [], ◌∷◌, ◌++◌, drop}
use Rattle.std.proofs.Common.{arith, refl, sym, ap, ap₂, ◌∙◌, append_assoc, append-nil}
use Rattle.std.proofs.lemmas.List.{drop-drop}
use Rattle.lin_term.specs.Linear.{put_front}
use Rattle.lin_term.specs.Literal.{gcd, gcd_terms, quotient_terms, reduce_terms}
use Rattle.lin_term.specs.Blend.{reduce_by, residue_by, sum_terms}
use Rattle.smallvec.specs.SmallVec.{SmallVec}
use Rattle.lin_term.specs.declared.fault.Short.{Short}
use Rattle.lin_term.specs.declared.fault.Short.TheVariants as short
use Rattle.lin_term.specs.declared.fault.Wide.{Wide}
use Rattle.lin_term.specs.Items.{CappedTerms, AddsCapped}
use Rattle.lin_term.specs.Wide.{coefficients, first_past}
use Rattle.lin_term.proofs.Divisors.{gcd_zero, gcd_zero_left, gcd_assoc}
use Rattle.lin_term.proofs.Capping.{past-append, past-append_some}
use Rattle.lin_term.proofs.Lowest.{residue_same}

pub reduce_by-front : (d v : ℕ) (c : ℤ) (ts : List (ℕ × ℤ)) → reduce_by d (put_front v c ts) ≡ put_front v (residue_by d c) (reduce_by d ts)
reduce_by-front zero v c ts = refl
reduce_by-front (suc n) v (pos zero) ts =
    sym (ap (λ (r : ℕ). put_front v (pos r) (reduce_terms (suc n) ts)) (residue_same 0 (suc n) (omega arith)))
reduce_by-front (suc n) v (pos (suc k)) ts = refl
reduce_by-front (suc n) v (negsuc k) ts = refl

pub reduce_by-nil : (d : ℕ) → reduce_by d [] ≡ []
reduce_by-nil zero = refl
reduce_by-nil (suc n) = refl

pub gcd_terms-front : (v : ℕ) (c : ℤ) (ts : List (ℕ × ℤ)) → gcd_terms (put_front v c ts) ≡ gcd (nat_abs c) (gcd_terms ts)
gcd_terms-front v (pos zero) ts = sym (gcd_zero_left (gcd_terms ts))
gcd_terms-front v (pos (suc k)) ts = refl
gcd_terms-front v (negsuc k) ts = refl

pub quotient_terms-front : (g v : ℕ) (c : ℤ) (ts : List (ℕ × ℤ)) → quotient_terms (put_front v c ts) g ≡ quotient_terms (put_front v c []) g ++ quotient_terms ts g
quotient_terms-front g v (pos zero) ts = refl
quotient_terms-front g v (pos (suc k)) ts = refl
quotient_terms-front g v (negsuc k) ts = refl

coefficients-append : (xs ys : List (ℕ × ℤ)) → coefficients (xs ++ ys) ≡ coefficients xs ++ coefficients ys
coefficients-append [] ys = refl
coefficients-append (x ∷ xs) ys = ap (λ (zs : List ℤ). x.1 ∷ zs) (coefficients-append xs ys)

-- one more coefficient is taken into the divisor
pub common_more : (common d v all : ℕ) (c : ℤ) (r : ℕ) (rest less : List (ℕ × ℤ)) → rest ≡ put_front v c less → r ≡ nat_abs (residue_by d c) → gcd common (gcd_terms (reduce_by d rest)) ≡ all → gcd (gcd common r) (gcd_terms (reduce_by d less)) ≡ all
common_more common d v all c r rest less e f h =
    gcd_assoc common r (gcd_terms (reduce_by d less))
    ∙ ap (λ (n : ℕ). gcd common (gcd n (gcd_terms (reduce_by d less)))) f
    ∙ sym (ap (gcd common) (ap (λ (ts : List (ℕ × ℤ)). gcd_terms (reduce_by d ts)) e ∙ ap gcd_terms (reduce_by-front d v c less) ∙ gcd_terms-front v (residue_by d c) (reduce_by d less)))
    ∙ h

pub common_end : (common d all : ℕ) (rest : List (ℕ × ℤ)) → rest ≡ [] → gcd common (gcd_terms (reduce_by d rest)) ≡ all → common ≡ all
common_end common d all rest e h =
    sym (gcd_zero common (gcd_terms (reduce_by d rest)) (ap gcd_terms (ap (reduce_by d) e ∙ reduce_by-nil d))) ∙ h

-- the first term of what is left, and the rest of it
quotients_split : (d g v : ℕ) (c : ℤ) (rest less : List (ℕ × ℤ)) → rest ≡ put_front v c less → quotient_terms (reduce_by d rest) g ≡ quotient_terms (put_front v (residue_by d c) []) g ++ quotient_terms (reduce_by d less) g
quotients_split d g v c rest less e =
    ap (λ (ts : List (ℕ × ℤ)). quotient_terms (reduce_by d ts) g) e
    ∙ ap (λ (ts : List (ℕ × ℤ)). quotient_terms ts g) (reduce_by-front d v c less)
    ∙ quotient_terms-front g v (residue_by d c) (reduce_by d less)

pub quotients_more : (out new all : List (ℕ × ℤ)) (d g v : ℕ) (c r : ℤ) (rest less : List (ℕ × ℤ)) → out ++ quotient_terms (reduce_by d rest) g ≡ all → rest ≡ put_front v c less → r ≡ residue_by d c → new ≡ out ++ quotient_terms (put_front v r []) g → new ++ quotient_terms (reduce_by d less) g ≡ all
quotients_more out new all d g v c r rest less s e f p =
    ap (λ (xs : List (ℕ × ℤ)). xs ++ quotient_terms (reduce_by d less) g) (p ∙ ap (λ (z : ℤ). out ++ quotient_terms (put_front v z []) g) f)
    ∙ append_assoc out (quotient_terms (put_front v (residue_by d c) []) g) (quotient_terms (reduce_by d less) g)
    ∙ sym (ap (λ (xs : List (ℕ × ℤ)). out ++ xs) (quotients_split d g v c rest less e))
    ∙ s

pub fits_more : (out new added : List (ℕ × ℤ)) → first_past (coefficients out) ≡ None → first_past (coefficients added) ≡ None → new ≡ out ++ added → first_past (coefficients new) ≡ None
fits_more out new added a b e =
    ap (λ (xs : List (ℕ × ℤ)). first_past (coefficients xs)) e
    ∙ ap first_past (coefficients-append out added)
    ∙ past-append (coefficients out) (coefficients added) a
    ∙ b

-- the first that does not fit is the first of all
pub wide_here : (out all : List (ℕ × ℤ)) (d g v : ℕ) (c r z : ℤ) (rest less : List (ℕ × ℤ)) → out ++ quotient_terms (reduce_by d rest) g ≡ all → first_past (coefficients out) ≡ None → rest ≡ put_front v c less → r ≡ residue_by d c → first_past (coefficients (quotient_terms (put_front v r []) g)) ≡ Some z → first_past (coefficients all) ≡ Some z
wide_here out all d g v c r z rest less s a e f w =
    let first : List (ℕ × ℤ) = quotient_terms (put_front v (residue_by d c) []) g in
    let last : List (ℕ × ℤ) = quotient_terms (reduce_by d less) g in
    ap (λ (xs : List (ℕ × ℤ)). first_past (coefficients xs)) (sym s ∙ ap (λ (xs : List (ℕ × ℤ)). out ++ xs) (quotients_split d g v c rest less e))
    ∙ ap first_past (coefficients-append out (first ++ last))
    ∙ past-append (coefficients out) (coefficients (first ++ last)) a
    ∙ ap first_past (coefficients-append first last)
    ∙ past-append_some (coefficients first) (coefficients last) z (sym (ap (λ (y : ℤ). first_past (coefficients (quotient_terms (put_front v y []) g))) f) ∙ w)

pub quotients_end : (out all : List (ℕ × ℤ)) (d g : ℕ) (rest : List (ℕ × ℤ)) → rest ≡ [] → out ++ quotient_terms (reduce_by d rest) g ≡ all → out ≡ all
quotients_end out all d g rest e s =
    sym (ap (λ (ts : List (ℕ × ℤ)). out ++ quotient_terms ts g) (ap (reduce_by d) e ∙ reduce_by-nil d) ∙ append-nil out) ∙ s

pub nothing_left : (p : ℤ) (ls : List (ℕ × ℤ)) (q : ℤ) (rs : List (ℕ × ℤ)) (x : ℕ) → ls ≡ [] → rs ≡ [] → sum_terms p ls q rs x ≡ []
nothing_left p ls q rs x e f = ap₂ (λ (l r : List (ℕ × ℤ)). sum_terms p l q r x) e f

-- the first term, and what is left behind it
pub terms_more : (p : ℤ) (ls : List (ℕ × ℤ)) (q : ℤ) (rs : List (ℕ × ℤ)) (x i j l r v : ℕ) (c : ℤ) → sum_terms p (drop i ls) q (drop j rs) x ≡ put_front v c (sum_terms p (drop l (drop i ls)) q (drop r (drop j rs)) x) → sum_terms p (drop i ls) q (drop j rs) x ≡ put_front v c (sum_terms p (drop (i + l) ls) q (drop (j + r) rs) x)
terms_more p ls q rs x i j l r v c e =
    e ∙ ap₂ (λ (a b : List (ℕ × ℤ)). put_front v c (sum_terms p a q b x)) (drop-drop l i ls) (drop-drop r j rs)

-- what is named of the added terms is named of all
pub wide_from : (fault : Short Wide) (old new : SmallVec (ℕ × ℤ)) (added all : List (ℕ × ℤ)) → AddsCapped old new added (Err fault) → ((z : ℤ) → first_past (coefficients added) ≡ Some z → first_past (coefficients all) ≡ Some z) → CappedTerms all (Err fault)
wide_from (short.Fault w) old new added all h k = k w.number h
wide_from short.Memory old new added all h k = tt
