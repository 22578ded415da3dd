-- Another coefficient at its place among ascending terms.
use Rattle.std.specs.Prelude.{ℕ, zero, suc, ◌+◌, ◌<◌, ◌≤◌, ◌≢◌, ◌^◌, ◌≡◌, ◌⊎◌, ℤ, pos, negsuc, nat_abs, Bool, true, false, cond, eqb, List, [], ◌∷◌, ◌++◌, take, drop, length, get_or}
use Rattle.std.specs.List.Sorted.{IsNonDecreasingBy}
use Rattle.std.proofs.Common.{arith, ap, ap₂, ◌∙◌, sym, subst, refl, inl, inr, eqb-true}
use Rattle.std.proofs.lemmas.Bool.{cases_order, cond-true, cond-false, ne_eqb, eq-eqb, eqb-false}
use Rattle.lin_term.specs.Form.{Form, AreTerms, cap}
use Rattle.lin_term.specs.Linear.{put_front, put}
use Rattle.lin_term.specs.PutIn.{without}
use Rattle.lin_term.specs.Replaced.{past}
use Rattle.lin_term.proofs.Terms.{are_weaker}
use Rattle.lin_term.proofs.Merging.{put_first, put_past, beyond_are}

lower : (n : ℕ) (ts : List (ℕ × ℤ)) (j : ℕ) (d : ℕ × ℤ) → AreTerms n ts → j < length ts → n ≤ (get_or ts j d).0
lower n [] j d a h = absurd (omega arith)
lower n (t ∷ ts) zero d a h = a.0
lower n (t ∷ ts) (suc j) d a h = let l = lower (t.0 + 1) ts j d a.4 (omega arith) in omega (arith, a.0)

rise : (n : ℕ) (ts : List (ℕ × ℤ)) (i j : ℕ) (d : ℕ × ℤ) → AreTerms n ts → i ≤ j → j < length ts → (get_or ts i d).0 ≤ (get_or ts j d).0
rise n [] i j d a h l = absurd (omega arith)
rise n (t ∷ ts) zero zero d a h l = omega arith
rise n (t ∷ ts) zero (suc j) d a h l = let k = lower (t.0 + 1) ts j d a.4 (omega arith) in omega arith
rise n (t ∷ ts) (suc i) zero d a h l = absurd (omega arith)
rise n (t ∷ ts) (suc i) (suc j) d a h l = rise (t.0 + 1) ts i j d a.4 (omega arith) (omega arith)

pub terms_rise : (n : ℕ) (ts : List (ℕ × ℤ)) → AreTerms n ts → IsNonDecreasingBy (λ (t : ℕ × ℤ). t.0) ts
terms_rise n ts a = λ i j d h l. rise n ts i j d a h l

-- terms from above x have no x
without_past : (n : ℕ) (ts : List (ℕ × ℤ)) (x : ℕ) → x < n → AreTerms n ts → without ts x ≡ ts
without_past n [] x h a = refl
without_past n (t ∷ ts) x h a =
    cond-false (eqb t.0 x) (without ts x) (t ∷ without ts x) (ne_eqb t.0 x (λ e. absurd (omega (arith, a.0, e))))
    ∙ ap (λ (us : List (ℕ × ℤ)). t ∷ us) (without_past (t.0 + 1) ts x (omega (arith, a.0)) a.4)

-- the terms before the place stay, and what is there is replaced
pub replaced_place : (n : ℕ) (ts : List (ℕ × ℤ)) (x i : ℕ) (k : ℤ) → AreTerms n ts → i ≤ length ts → ((j : ℕ) (d : ℕ × ℤ) → j < i → (get_or ts j d).0 < x) → ((j : ℕ) (d : ℕ × ℤ) → i ≤ j → j < length ts → x ≤ (get_or ts j d).0) → put x k (without ts x) ≡ take i ts ++ put_front x k (past x (drop i ts))
replaced_place n [] x zero k a h b f = refl
replaced_place n [] x (suc i) k a h b f = absurd (omega arith)
replaced_place n (t ∷ ts) x zero k a h b f = by (eqb t.0 x) refl
  where
    by : (c : Bool) → eqb t.0 x ≡ c → put x k (cond c (without ts x) (t ∷ without ts x)) ≡ put_front x k (cond c ts (t ∷ ts))
    by true e =
        let s = eqb-true t.0 x e in
        ap (put x k) (without_past (t.0 + 1) ts x (omega arith) a.4) ∙ put_first x k ts (beyond_are x (t.0 + 1) ts (omega arith) a.4)
    by false e =
        let s = eqb-false t.0 x e in
        let l = f 0 t (omega arith) (omega arith) in
        let m : x < t.0 = omega arith in
        ap (λ (us : List (ℕ × ℤ)). put x k (t ∷ us)) (without_past (t.0 + 1) ts x (omega arith) a.4) ∙ put_first x k (t ∷ ts) (m, beyond_are x (t.0 + 1) ts (omega arith) a.4)
replaced_place n (t ∷ ts) x (suc i) k a h b f =
    let l : t.0 < x = b 0 t (omega arith) in
    ap (put x k) (cond-false (eqb t.0 x) (without ts x) (t ∷ without ts x) (ne_eqb t.0 x (λ e. absurd (omega (arith, e)))))
    ∙ put_past t.0 x k t.1 (without ts x) l
    ∙ ap (λ (us : List (ℕ × ℤ)). t ∷ us) (replaced_place (t.0 + 1) ts x i k a.4 (omega arith) (λ j d g. b (suc j) d (omega arith)) (λ j d g m. f (suc j) d (omega arith) (omega arith)))

front_are : (n i : ℕ) (k : ℤ) (ts : List (ℕ × ℤ)) → n ≤ i → i < 2 ^ 20 → nat_abs k ≤ cap → AreTerms (i + 1) ts → AreTerms n (put_front i k ts)
front_are n i (pos zero) ts h l c a = are_weaker n (i + 1) ts (omega arith) a
front_are n i (pos (suc m)) ts h l c a = (h, l, λ e. absurd (omega (arith, ap nat_abs e)), c, a)
front_are n i (negsuc m) ts h l c a = (h, l, λ e. absurd (cc), c, a)

pub replaced_are : (n : ℕ) (ts : List (ℕ × ℤ)) (x : ℕ) (k : ℤ) → n ≤ x → x < 2 ^ 20 → nat_abs k ≤ cap → AreTerms n ts → AreTerms n (put x k (without ts x))
replaced_are n [] x k h l c a = front_are n x k [] h l c tt
replaced_are n (t ∷ ts) x k h l c a = by (cases_order t.0 x) (λ g. replaced_are (t.0 + 1) ts x k g l c a.4)
  where
    apart : t.0 ≢ x → without (t ∷ ts) x ≡ t ∷ without ts x
    apart e = cond-false (eqb t.0 x) (without ts x) (t ∷ without ts x) (ne_eqb t.0 x e)

    by : (t.0 ≡ x) ⊎ ((t.0 < x) ⊎ (x < t.0)) → (t.0 + 1 ≤ x → AreTerms (t.0 + 1) (put x k (without ts x))) → AreTerms n (put x k (without (t ∷ ts) x))
    by (inl e) r =
        let w = cond-true (eqb t.0 x) (without ts x) (t ∷ without ts x) (eq-eqb t.0 x e) in
        subst (λ (us : List (ℕ × ℤ)). AreTerms n us)
        (sym (ap (put x k) (w ∙ without_past (t.0 + 1) ts x (omega arith) a.4) ∙ put_first x k ts (beyond_are x (t.0 + 1) ts (omega arith) a.4)))
        (front_are n x k ts h l c (are_weaker (x + 1) (t.0 + 1) ts (omega arith) a.4))
    by (inr (inl s)) r =
        subst (λ (us : List (ℕ × ℤ)). AreTerms n us) (sym (ap (put x k) (apart (λ e. absurd (omega (arith, e)))) ∙ put_past t.0 x k t.1 (without ts x) s))
        (a.0, a.1, a.2, a.3, r (omega arith))
    by (inr (inr s)) r =
        subst (λ (us : List (ℕ × ℤ)). AreTerms n us)
        (sym (ap (put x k) (apart (λ e. absurd (omega (arith, e))) ∙ ap (λ (us : List (ℕ × ℤ)). t ∷ us) (without_past (t.0 + 1) ts x (omega arith) a.4)) ∙ put_first x k (t ∷ ts) (s, beyond_are x (t.0 + 1) ts (omega arith) a.4)))
        (front_are n x k (t ∷ ts) h l c ((let q : x + 1 ≤ t.0 = omega arith in q), a.1, a.2, a.3, a.4))

-- what is put at the place of what was taken out
take_front : (i : ℕ) (ts us : List (ℕ × ℤ)) → i ≤ length ts → take i (take i ts ++ us) ≡ take i ts
take_front zero ts us h = refl
take_front (suc i) [] us h = absurd (omega arith)
take_front (suc i) (t ∷ ts) us h = ap (λ (vs : List (ℕ × ℤ)). t ∷ vs) (take_front i ts us (omega arith))

drop_front : (i : ℕ) (ts us : List (ℕ × ℤ)) → i ≤ length ts → drop i (take i ts ++ us) ≡ us
drop_front zero ts us h = refl
drop_front (suc i) [] us h = absurd (omega arith)
drop_front (suc i) (t ∷ ts) us h = drop_front i ts us (omega arith)

pub length_front : (i : ℕ) (ts us vs : List (ℕ × ℤ)) → i ≤ length ts → vs ≡ take i ts ++ us → i ≤ length vs
length_front i ts us vs h e = subst (λ (xs : List (ℕ × ℤ)). i ≤ length xs) (sym e) (from i ts h)
  where
    from : (i : ℕ) (ts : List (ℕ × ℤ)) → i ≤ length ts → i ≤ length (take i ts ++ us)
    from zero ts h = omega arith
    from (suc i) [] h = absurd (omega arith)
    from (suc i) (t ∷ ts) h = let l = from i ts (omega arith) in omega arith

pub put_there : (f : Form) (ts vs ws : List (ℕ × ℤ)) (x i : ℕ) (k : ℤ) → AreTerms 0 ts → i ≤ length ts → ((j : ℕ) (d : ℕ × ℤ) → j < i → (get_or ts j d).0 < x) → ((j : ℕ) (d : ℕ × ℤ) → i ≤ j → j < length ts → x ≤ (get_or ts j d).0) → ts ≡ f.terms → vs ≡ take i ts ++ past x (drop i ts) → ws ≡ take i vs ++ put_front x k (drop i vs) → ws ≡ put x k (without f.terms x)
put_there f ts vs ws x i k a h b g e v w =
    let u = past x (drop i ts) in
    w
    ∙ ap (λ (us : List (ℕ × ℤ)). take i us ++ put_front x k (drop i us)) v
    ∙ ap₂ (λ (us ys : List (ℕ × ℤ)). us ++ put_front x k ys) (take_front i ts u h) (drop_front i ts u h)
    ∙ sym (replaced_place 0 ts x i k a h b g)
    ∙ ap (λ (us : List (ℕ × ℤ)). put x k (without us x)) e
