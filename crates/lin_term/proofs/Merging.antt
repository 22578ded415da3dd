-- The sum of two ascending lists of terms, from the front.
use Rattle.std.specs.Prelude.{ℕ, zero, suc, ◌+◌, ◌<◌, ◌≤◌, ◌≡◌, ℤ, pos, negsuc, ◌+ℤ◌, ◌*ℤ◌, List, [], ◌∷◌, ◌++◌, ltb, eqb, cond, drop, length, get_or, ⊤}
use Rattle.std.proofs.Common.{arith, ap, ◌∙◌, sym, subst, refl, ap₂, inl, inr, lt-ltb, le-ltb}
use Rattle.std.proofs.lemmas.Int.{ints}
use Rattle.std.proofs.lemmas.Bool.{cases_order, cases_Bool, cond_both, cond-true, cond-false}
use lib.IntN.{+ℤ_idl, +ℤ_idr}
use Rattle.lin_term.specs.Blend.{sum_terms, unless, IsHead}
use Rattle.lin_term.specs.PutIn.{without}
use Rattle.lin_term.specs.Form.{AreTerms}
use Rattle.lin_term.specs.Linear.{put_front, put, plus_terms, times_terms}

-- each variable is above i
abbrev pub Beyond : ℕ → List (ℕ × ℤ) → Type 0
Beyond i [] = ⊤
Beyond i (t ∷ ts) = (i < t.0) × Beyond i ts

front_beyond : (i j : ℕ) (c : ℤ) (ts : List (ℕ × ℤ)) → i < j → Beyond i ts → Beyond i (put_front j c ts)
front_beyond i j (pos zero) ts h a = a
front_beyond i j (pos (suc n)) ts h a = (h, a)
front_beyond i j (negsuc n) ts h a = (h, a)

put_beyond : (i j : ℕ) (c : ℤ) (ts : List (ℕ × ℤ)) → i < j → Beyond i ts → Beyond i (put j c ts)
put_beyond i j c [] h a = front_beyond i j c [] h a
put_beyond i j c (t ∷ ts) h a =
    let P : List (ℕ × ℤ) → Type 0 = λ us. Beyond i us in
    cond_both (ltb j t.0) (put_front j c (t ∷ ts)) (cond (ltb t.0 j) (t ∷ put j c ts) (put_front j (c +ℤ t.1) ts)) P
    (λ e. front_beyond i j c (t ∷ ts) h a)
    (λ e. cond_both (ltb t.0 j) (t ∷ put j c ts) (put_front j (c +ℤ t.1) ts) P (λ f. (a.0, put_beyond i j c ts h a.1)) (λ f. front_beyond i j (c +ℤ t.1) ts h a.1))

plus_beyond : (i : ℕ) (ss ts : List (ℕ × ℤ)) → Beyond i ss → Beyond i ts → Beyond i (plus_terms ss ts)
plus_beyond i [] ts a b = b
plus_beyond i (s ∷ ss) ts a b = put_beyond i s.0 s.1 (plus_terms ss ts) a.0 (plus_beyond i ss ts a.1 b)

pub put_first : (i : ℕ) (c : ℤ) (ts : List (ℕ × ℤ)) → Beyond i ts → put i c ts ≡ put_front i c ts
put_first i c [] a = refl
put_first i c (t ∷ ts) a =
    cond-true (ltb i t.0) (put_front i c (t ∷ ts)) (cond (ltb t.0 i) (t ∷ put i c ts) (put_front i (c +ℤ t.1) ts)) (lt-ltb i t.0 a.0)

pub put_past : (i j : ℕ) (b c : ℤ) (ts : List (ℕ × ℤ)) → i < j → put j b ((i, c) ∷ ts) ≡ (i, c) ∷ put j b ts
put_past i j b c ts h =
    cond-false (ltb j i) (put_front j b ((i, c) ∷ ts)) (cond (ltb i j) ((i, c) ∷ put j b ts) (put_front j (b +ℤ c) ts)) (le-ltb j i (omega arith)) ∙ cond-true (ltb i j) ((i, c) ∷ put j b ts) (put_front j (b +ℤ c) ts) (lt-ltb i j h)

pub put_same : (i : ℕ) (b c : ℤ) (ts : List (ℕ × ℤ)) → put i b ((i, c) ∷ ts) ≡ put_front i (b +ℤ c) ts
put_same i b c ts =
    cond-false (ltb i i) (put_front i b ((i, c) ∷ ts)) (cond (ltb i i) ((i, c) ∷ put i b ts) (put_front i (b +ℤ c) ts)) (le-ltb i i (omega arith)) ∙ cond-false (ltb i i) ((i, c) ∷ put i b ts) (put_front i (b +ℤ c) ts) (le-ltb i i (omega arith))

put_past_front : (i j : ℕ) (b c : ℤ) (ts : List (ℕ × ℤ)) → i < j → put j b (put_front i c ts) ≡ put_front i c (put j b ts)
put_past_front i j b (pos zero) ts h = refl
put_past_front i j b (pos (suc n)) ts h = put_past i j b (pos (suc n)) ts h
put_past_front i j b (negsuc n) ts h = put_past i j b (negsuc n) ts h

pub plus_left : (i : ℕ) (c : ℤ) (ts us : List (ℕ × ℤ)) → Beyond i ts → Beyond i us → plus_terms (put_front i c ts) us ≡ put_front i c (plus_terms ts us)
plus_left i (pos zero) ts us a b = refl
plus_left i (pos (suc n)) ts us a b = put_first i (pos (suc n)) (plus_terms ts us) (plus_beyond i ts us a b)
plus_left i (negsuc n) ts us a b = put_first i (negsuc n) (plus_terms ts us) (plus_beyond i ts us a b)

pub plus_right : (i : ℕ) (c : ℤ) (ts us : List (ℕ × ℤ)) → Beyond i ts → plus_terms ts (put_front i c us) ≡ put_front i c (plus_terms ts us)
plus_right i c [] us a = refl
plus_right i c (t ∷ ts) us a =
    ap (put t.0 t.1) (plus_right i c ts us a.1) ∙ put_past_front i t.0 t.1 c (plus_terms ts us) a.0

put_both : (i : ℕ) (b c : ℤ) (ts : List (ℕ × ℤ)) → Beyond i ts → put i b (put_front i c ts) ≡ put_front i (b +ℤ c) ts
put_both i b (pos zero) ts a = put_first i b ts a ∙ ap (λ (x : ℤ). put_front i x ts) (sym (+ℤ_idr b))
put_both i b (pos (suc n)) ts a = put_same i b (pos (suc n)) ts
put_both i b (negsuc n) ts a = put_same i b (negsuc n) ts

pub plus_both : (i : ℕ) (b c : ℤ) (ts us : List (ℕ × ℤ)) → Beyond i ts → Beyond i us → plus_terms (put_front i b ts) (put_front i c us) ≡ put_front i (b +ℤ c) (plus_terms ts us)
plus_both i (pos zero) c ts us a u =
    plus_right i c ts us a ∙ ap (λ (x : ℤ). put_front i x (plus_terms ts us)) (sym (+ℤ_idl c))
plus_both i (pos (suc n)) c ts us a u =
    ap (put i (pos (suc n))) (plus_right i c ts us a) ∙ put_both i (pos (suc n)) c (plus_terms ts us) (plus_beyond i ts us a u)
plus_both i (negsuc n) c ts us a u =
    ap (put i (negsuc n)) (plus_right i c ts us a) ∙ put_both i (negsuc n) c (plus_terms ts us) (plus_beyond i ts us a u)

pub front_appends : (i : ℕ) (c : ℤ) (ts : List (ℕ × ℤ)) → put_front i c ts ≡ put_front i c [] ++ ts
front_appends i (pos zero) ts = refl
front_appends i (pos (suc n)) ts = refl
front_appends i (negsuc n) ts = refl

pub beyond_are : (i n : ℕ) (ts : List (ℕ × ℤ)) → i < n → AreTerms n ts → Beyond i ts
beyond_are i n [] h a = tt
beyond_are i n (t ∷ ts) h a = (omega (arith, a.0), beyond_are i (t.0 + 1) ts (omega (arith, a.0)) a.4)

pub beyond_times : (i : ℕ) (k : ℤ) (ts : List (ℕ × ℤ)) → Beyond i ts → Beyond i (times_terms k ts)
beyond_times i k [] a = tt
beyond_times i k (t ∷ ts) a = front_beyond i t.0 (k *ℤ t.1) (times_terms k ts) a.0 (beyond_times i k ts a.1)

pub beyond_without : (i : ℕ) (ts : List (ℕ × ℤ)) (x : ℕ) → Beyond i ts → Beyond i (without ts x)
beyond_without i [] x a = tt
beyond_without i (t ∷ ts) x a =
    cond_both (eqb t.0 x) (without ts x) (t ∷ without ts x) (λ us. Beyond i us) (λ e. beyond_without i ts x a.1) (λ e. (a.0, beyond_without i ts x a.1))

-- ---- the first term of a sum of multiples

times_zero : (q : ℤ) → q *ℤ pos 0 ≡ pos 0
times_zero q = omega (arith, ints)

-- a term that is left out has the coefficient 0
pub without_front : (q : ℤ) (y : ℕ × ℤ) (ys : List (ℕ × ℤ)) (x : ℕ) → times_terms q (without (y ∷ ys) x) ≡ put_front y.0 (q *ℤ unless x y) (times_terms q (without ys x))
without_front q y ys x =
    elim (cases_Bool (eqb y.0 x)) [
      | inl e ↦
          ap (times_terms q) (cond-true (eqb y.0 x) (without ys x) (y ∷ without ys x) e)
          ∙ sym (ap (λ (z : ℤ). put_front y.0 z (times_terms q (without ys x))) (ap (λ (z : ℤ). q *ℤ z) (cond-true (eqb y.0 x) (pos 0) y.1 e) ∙ times_zero q))
      | inr e ↦
          ap (times_terms q) (cond-false (eqb y.0 x) (without ys x) (y ∷ without ys x) e)
          ∙ sym (ap (λ (z : ℤ). put_front y.0 (q *ℤ z) (times_terms q (without ys x))) (cond-false (eqb y.0 x) (pos 0) y.1 e))
    ]

sum_less : (p : ℤ) (x : ℕ × ℤ) (xs : List (ℕ × ℤ)) (q : ℤ) (ys : List (ℕ × ℤ)) (s : ℕ) → AreTerms 0 (x ∷ xs) → Beyond x.0 ys → sum_terms p (x ∷ xs) q ys s ≡ put_front x.0 (p *ℤ x.1) (sum_terms p xs q ys s)
sum_less p x xs q ys s a b =
    plus_left x.0 (p *ℤ x.1) (times_terms p xs) (times_terms q (without ys s)) (beyond_times x.0 p xs (beyond_are x.0 (x.0 + 1) xs (omega arith) a.4)) (beyond_times x.0 q (without ys s) (beyond_without x.0 ys s b))

sum_more : (p : ℤ) (xs : List (ℕ × ℤ)) (q : ℤ) (y : ℕ × ℤ) (ys : List (ℕ × ℤ)) (s : ℕ) → Beyond y.0 xs → sum_terms p xs q (y ∷ ys) s ≡ put_front y.0 (q *ℤ unless s y) (sum_terms p xs q ys s)
sum_more p xs q y ys s a =
    ap (plus_terms (times_terms p xs)) (without_front q y ys s)
    ∙ plus_right y.0 (q *ℤ unless s y) (times_terms p xs) (times_terms q (without ys s)) (beyond_times y.0 p xs a)

sum_same : (p : ℤ) (x : ℕ × ℤ) (xs : List (ℕ × ℤ)) (q : ℤ) (y : ℕ × ℤ) (ys : List (ℕ × ℤ)) (s : ℕ) → x.0 ≡ y.0 → AreTerms 0 (x ∷ xs) → AreTerms 0 (y ∷ ys) → sum_terms p (x ∷ xs) q (y ∷ ys) s ≡ put_front x.0 (p *ℤ x.1 +ℤ q *ℤ unless s y) (sum_terms p xs q ys s)
sum_same p x xs q y ys s e a b =
    ap (plus_terms (times_terms p (x ∷ xs))) (without_front q y ys s)
    ∙ ap (λ (i : ℕ). plus_terms (times_terms p (x ∷ xs)) (put_front i (q *ℤ unless s y) (times_terms q (without ys s)))) (sym e)
    ∙ plus_both x.0 (p *ℤ x.1) (q *ℤ unless s y) (times_terms p xs) (times_terms q (without ys s))
    (beyond_times x.0 p xs (beyond_are x.0 (x.0 + 1) xs (omega arith) a.4))
    (beyond_times x.0 q (without ys s) (beyond_without x.0 ys s (beyond_are x.0 (y.0 + 1) ys (omega arith) b.4)))

heads : (p : ℤ) (t : ℕ × ℤ) (ts : List (ℕ × ℤ)) (q : ℤ) (u : ℕ × ℤ) (us : List (ℕ × ℤ)) (s v : ℕ) (c : ℤ) (l r : ℕ) → AreTerms 0 (t ∷ ts) → AreTerms 0 (u ∷ us) → IsHead (t.0, p *ℤ t.1) (u.0, q *ℤ unless s u) v c l r → sum_terms p (t ∷ ts) q (u ∷ us) s ≡ put_front v c (sum_terms p (drop l (t ∷ ts)) q (drop r (u ∷ us)) s)
heads p t ts q u us s v c l r a b h =
    elim (cases_order t.0 u.0) [
      | inl same ↦ sum_same p t ts q u us s same a b ∙ at v c l r t.0 (p *ℤ t.1 +ℤ q *ℤ unless s u) 1 1 (h.same same)
      | inr (inl less) ↦
          sum_less p t ts q (u ∷ us) s a (less, beyond_are t.0 (u.0 + 1) us (omega arith) b.4) ∙ at v c l r t.0 (p *ℤ t.1) 1 0 (h.less less)
      | inr (inr more) ↦
          sum_more p (t ∷ ts) q u us s (more, beyond_are u.0 (t.0 + 1) ts (omega arith) a.4) ∙ at v c l r u.0 (q *ℤ unless s u) 0 1 (h.more more)
    ]
  where
    at : (v : ℕ) (c : ℤ) (l r : ℕ) (v' : ℕ) (c' : ℤ) (l' r' : ℕ) → (v ≡ v') × (c ≡ c') × (l ≡ l') × (r ≡ r') → put_front v' c' (sum_terms p (drop l' (t ∷ ts)) q (drop r' (u ∷ us)) s) ≡ put_front v c (sum_terms p (drop l (t ∷ ts)) q (drop r (u ∷ us)) s)
    at v c l r v' c' l' r' k =
        sym (ap₂ (λ (x : ℕ) (y : ℤ). put_front x y (sum_terms p (drop l (t ∷ ts)) q (drop r (u ∷ us)) s)) k.0 k.1
        ∙ ap₂ (λ (x y : ℕ). put_front v' c' (sum_terms p (drop x (t ∷ ts)) q (drop y (u ∷ us)) s)) k.2 k.3)

none_left : (us : List (ℕ × ℤ)) → length us ≡ 0 → us ≡ []
none_left [] e = refl
none_left (u ∷ us) e = absurd (omega arith)

pub left_only : (p : ℤ) (ts : List (ℕ × ℤ)) (q : ℤ) (us : List (ℕ × ℤ)) (s : ℕ) (d : ℕ × ℤ) → length us ≡ 0 → 1 ≤ length ts → AreTerms 0 ts → sum_terms p ts q us s ≡ put_front (get_or ts 0 d).0 (p *ℤ (get_or ts 0 d).1) (sum_terms p (drop 1 ts) q us s)
left_only p [] q us s d e h a = absurd (omega arith)
left_only p (t ∷ ts) q us s d e h a =
    subst (λ (xs : List (ℕ × ℤ)). sum_terms p (t ∷ ts) q xs s ≡ put_front t.0 (p *ℤ t.1) (sum_terms p ts q xs s)) (sym (none_left us e)) (sum_less p t ts q [] s a tt)

pub right_only : (p : ℤ) (ts : List (ℕ × ℤ)) (q : ℤ) (us : List (ℕ × ℤ)) (s : ℕ) (d : ℕ × ℤ) → length ts ≡ 0 → 1 ≤ length us → sum_terms p ts q us s ≡ put_front (get_or us 0 d).0 (q *ℤ unless s (get_or us 0 d)) (sum_terms p ts q (drop 1 us) s)
right_only p ts q [] s d e h = absurd (omega arith)
right_only p ts q (u ∷ us) s d e h =
    subst (λ (xs : List (ℕ × ℤ)). sum_terms p xs q (u ∷ us) s ≡ put_front u.0 (q *ℤ unless s u) (sum_terms p xs q us s)) (sym (none_left ts e)) (sum_more p [] q u us s tt)

pub both_sides : (p : ℤ) (ts : List (ℕ × ℤ)) (q : ℤ) (us : List (ℕ × ℤ)) (s : ℕ) (d : ℕ × ℤ) (v : ℕ) (c : ℤ) (l r : ℕ) → 1 ≤ length ts → 1 ≤ length us → AreTerms 0 ts → AreTerms 0 us → IsHead ((get_or ts 0 d).0, p *ℤ (get_or ts 0 d).1) ((get_or us 0 d).0, q *ℤ unless s (get_or us 0 d)) v c l r → sum_terms p ts q us s ≡ put_front v c (sum_terms p (drop l ts) q (drop r us) s)
both_sides p [] q us s d v c l r h k a b i = absurd (omega arith)
both_sides p (t ∷ ts) q [] s d v c l r h k a b i = absurd (omega arith)
both_sides p (t ∷ ts) q (u ∷ us) s d v c l r h k a b i = heads p t ts q u us s v c l r a b i

pub head_at : (x y v : ℕ) (c : ℤ) (l r : ℕ) (a a' b b' : ℤ) → a ≡ a' → b ≡ b' → IsHead (x, a) (y, b) v c l r → IsHead (x, a') (y, b') v c l r
head_at x y v c l r a a' b b' e f h =
    subst (λ (z : ℤ). IsHead (x, a') (y, z) v c l r) f (subst (λ (z : ℤ). IsHead (x, z) (y, b) v c l r) e h)

-- one term of a side at most, and one of the two at least
pub head_within : (x y : ℕ × ℤ) (v : ℕ) (c : ℤ) (l r : ℕ) → IsHead x y v c l r → (l ≤ 1) × (r ≤ 1) × (1 ≤ l + r)
head_within x y v c l r h =
    elim (cases_order x.0 y.0) [
      | inl same ↦ let k = h.same same in (omega arith, omega arith, omega arith)
      | inr (inl less) ↦ let k = h.less less in (omega arith, omega arith, omega arith)
      | inr (inr more) ↦ let k = h.more more in (omega arith, omega arith, omega arith)
    ]
