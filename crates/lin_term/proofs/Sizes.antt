-- The sizes of the numbers of a sum, and of their divisor.
use Rattle.std.specs.Prelude.{ℕ, zero, suc, ◌+◌, ◌<◌, ◌≤◌, ◌^◌, ℤ, pos, negsuc, ◌+ℤ◌, ◌*ℤ◌, nat_abs, List, [], ◌∷◌, ltb, cond, eqb, ⊤}
use Rattle.std.proofs.Common.{arith, ltb-false, mul-le-mul}
use Rattle.std.proofs.lemmas.Int.{ints}
use Rattle.std.proofs.lemmas.Bool.{cond_both}
use Rattle.lin_term.specs.Form.{AreTerms, cap}
use Rattle.lin_term.specs.Linear.{Sort, Rat, Int, put_front, put, plus_terms, times_terms}
use Rattle.lin_term.specs.Literal.{gcd, gcd_terms, or_one, divisor}
use Rattle.lin_term.specs.PutIn.{without}
use Rattle.lin_term.specs.Settle.{sum_form}
use Rattle.lin_term.proofs.Ascending.{Ascend, ascend_from, times_ascend}
use Rattle.lin_term.proofs.Dividing.{abs_product}
use Rattle.lin_term.proofs.Quotients.{gcd_bound}

-- below n within a, else within b
abbrev Sized : ℕ → ℕ → ℕ → List (ℕ × ℤ) → Type 0
Sized n a b [] = ⊤
Sized n a b (t ∷ ts) = (t.0 < n → nat_abs t.1 ≤ a) × (nat_abs t.1 ≤ b) × Sized n a b ts

sized_less : (m n a b : ℕ) (ts : List (ℕ × ℤ)) → m ≤ n → Sized n a b ts → Sized m a b ts
sized_less m n a b [] h s = tt
sized_less m n a b (t ∷ ts) h s = (λ l. s.0 (omega arith), s.1, sized_less m n a b ts h s.2)

front_sized : (n a b i : ℕ) (z : ℤ) (ts : List (ℕ × ℤ)) → n ≤ i → nat_abs z ≤ b → Sized n a b ts → Sized n a b (put_front i z ts)
front_sized n a b i (pos zero) ts h k s = s
front_sized n a b i (pos (suc m)) ts h k s = (λ l. absurd (omega arith), k, s)
front_sized n a b i (negsuc m) ts h k s = (λ l. absurd (omega arith), k, s)

abs_sum : (x y : ℤ) → nat_abs (x +ℤ y) ≤ nat_abs x + nat_abs y
abs_sum x y = omega (arith, ints)

put_sized : (n a b c i : ℕ) (z : ℤ) (ts : List (ℕ × ℤ)) → i < n → nat_abs z ≤ c → a + c ≤ b → Sized n a b ts → Sized i a b (put i z ts)
put_sized n a b c i z [] h k o s = front_sized i a b i z [] (omega arith) (omega arith) tt
put_sized n a b c i z (t ∷ ts) h k o s =
    let P : List (ℕ × ℤ) → Type 0 = λ us. Sized i a b us in
    cond_both (ltb i t.0) (put_front i z (t ∷ ts)) (cond (ltb t.0 i) (t ∷ put i z ts) (put_front i (z +ℤ t.1) ts)) P
    (λ e. front_sized i a b i z (t ∷ ts) (omega arith) (omega arith) (sized_less i n a b (t ∷ ts) (omega arith) s))
    (λ e. cond_both (ltb t.0 i) (t ∷ put i z ts) (put_front i (z +ℤ t.1) ts) P
    (λ f. (λ l. s.0 (omega arith), s.1, put_sized n a b c i z ts h k o s.2))
    (λ f. let q : t.0 ≤ i = omega (arith, ltb-false t.0 i f, ltb-false i t.0 e) in
    let w = s.0 (omega arith) in
    let u = abs_sum z t.1 in
    front_sized i a b i (z +ℤ t.1) ts (omega arith) (omega arith) (sized_less i n a b ts (omega arith) s.2)))

-- all within m
abbrev Within : ℕ → List (ℕ × ℤ) → Type 0
Within m [] = ⊤
Within m (t ∷ ts) = (nat_abs t.1 ≤ m) × Within m ts

within_sized : (n a b : ℕ) (ts : List (ℕ × ℤ)) → a ≤ b → Within a ts → Sized n a b ts
within_sized n a b [] h s = tt
within_sized n a b (t ∷ ts) h s = (λ l. s.0, omega (arith, s.0), within_sized n a b ts h s.1)

sized_within : (n a b : ℕ) (ts : List (ℕ × ℤ)) → Sized n a b ts → Within b ts
sized_within n a b [] s = tt
sized_within n a b (t ∷ ts) s = (s.1, sized_within n a b ts s.2)

plus_sized : (n a b c : ℕ) (ss ts : List (ℕ × ℤ)) → a + c ≤ b → Ascend n ss → Within c ss → Within a ts → Sized n a b (plus_terms ss ts)
plus_sized n a b c [] ts o s k w = within_sized n a b ts (omega arith) w
plus_sized n a b c (t ∷ ss) ts o s k w =
    sized_less n t.0 a b (put t.0 t.1 (plus_terms ss ts)) s.0
    (put_sized (t.0 + 1) a b c t.0 t.1 (plus_terms ss ts) (omega arith) k.0 o (plus_sized (t.0 + 1) a b c ss ts o s.3 k.1 w))

front_within : (m i : ℕ) (z : ℤ) (ts : List (ℕ × ℤ)) → nat_abs z ≤ m → Within m ts → Within m (put_front i z ts)
front_within m i (pos zero) ts h w = w
front_within m i (pos (suc k)) ts h w = (h, w)
front_within m i (negsuc k) ts h w = (h, w)

product_size : (p z : ℤ) → nat_abs p ≤ 2 ^ 52 → nat_abs z ≤ 2 ^ 52 → nat_abs (p *ℤ z) ≤ 2 ^ 104
product_size (pos p) z h k =
    let e = abs_product p z in let m = mul-le-mul h k in omega arith
product_size (negsuc p) (pos zero) h k = omega (arith, ints)
product_size (negsuc p) (pos (suc z)) h k = let m = mul-le-mul h k in omega (arith, ints)
product_size (negsuc p) (negsuc z) h k = let m = mul-le-mul h k in omega (arith, ints)

times_within : (n : ℕ) (p : ℤ) (ts : List (ℕ × ℤ)) → nat_abs p ≤ cap → AreTerms n ts → Within (2 ^ 104) (times_terms p ts)
times_within n p [] h a = tt
times_within n p (t ∷ ts) h a = front_within (2 ^ 104) t.0 (p *ℤ t.1) (times_terms p ts) (product_size p t.1 h a.3) (times_within (t.0 + 1) p ts h a.4)

without_within : (n : ℕ) (q : ℤ) (ts : List (ℕ × ℤ)) (x : ℕ) → nat_abs q ≤ cap → AreTerms n ts → Within (2 ^ 104) (times_terms q (without ts x))
without_within n q [] x h a = tt
without_within n q (t ∷ ts) x h a =
    cond_both (eqb t.0 x) (without ts x) (t ∷ without ts x) (λ (us : List (ℕ × ℤ)). Within (2 ^ 104) (times_terms q us))
    (λ e. without_within (t.0 + 1) q ts x h a.4)
    (λ e. front_within (2 ^ 104) t.0 (q *ℤ t.1) (times_terms q (without ts x)) (product_size q t.1 h a.3) (without_within (t.0 + 1) q ts x h a.4))

gcd_within_terms : (m : ℕ) (ts : List (ℕ × ℤ)) → Within m ts → gcd_terms ts ≤ m
gcd_within_terms m [] w = omega arith
gcd_within_terms m (t ∷ ts) w = gcd_bound (nat_abs t.1) (gcd_terms ts) m w.0 (gcd_within_terms m ts w.1)

or_one_small : (n m : ℕ) → 1 ≤ m → n ≤ m → or_one n ≤ m
or_one_small zero m o h = o
or_one_small (suc n) m o h = h

-- the divisor of a sum of products of kept numbers
pub divisor_small : (s : Sort) (p : ℤ) (ls : List (ℕ × ℤ)) (q : ℤ) (rs : List (ℕ × ℤ)) (x : ℕ) (c : ℤ) → nat_abs p ≤ cap → nat_abs q ≤ cap → AreTerms 0 ls → AreTerms 0 rs → nat_abs c ≤ 2 ^ 106 → divisor s (sum_form p ls q rs x c) ≤ 2 ^ 106
divisor_small s p ls q rs x c hp hq al ar hc = by s
  where
    terms : gcd_terms (plus_terms (times_terms p ls) (times_terms q (without rs x))) ≤ 2 ^ 106
    terms = gcd_within_terms (2 ^ 106) (plus_terms (times_terms p ls) (times_terms q (without rs x)))
        (sized_within 0 (2 ^ 104) (2 ^ 106) (plus_terms (times_terms p ls) (times_terms q (without rs x))) (plus_sized 0 (2 ^ 104) (2 ^ 106) (2 ^ 104) (times_terms p ls) (times_terms q (without rs x)) (omega arith) (times_ascend 0 p ls (ascend_from 0 ls al)) (times_within 0 p ls hp al) (without_within 0 q rs x hq ar)))

    by : (s : Sort) → divisor s (sum_form p ls q rs x c) ≤ 2 ^ 106
    by Rat = or_one_small (gcd (nat_abs c) (gcd_terms (plus_terms (times_terms p ls) (times_terms q (without rs x))))) (2 ^ 106) (omega arith) (gcd_bound (nat_abs c) (gcd_terms (plus_terms (times_terms p ls) (times_terms q (without rs x)))) (2 ^ 106) hc terms)
    by Int = or_one_small (gcd_terms (plus_terms (times_terms p ls) (times_terms q (without rs x)))) (2 ^ 106) (omega arith) terms
