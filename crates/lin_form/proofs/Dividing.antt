-- Sums of multiples of rows, brought to lowest terms, are rows.
use Prim.Native.Nat.{◌∣◌}
use Rattle.std.specs.Prelude.{ℕ, zero, suc, ◌+◌, ◌/◌, ◌<◌, ◌≤◌, ◌≢◌, ◌^◌, ◌≡◌, ℤ, pos, negsuc, ◌+ℤ◌, ◌*ℤ◌, nat_abs, true, false, ltb, cond, eqb, None, Some, List, [], ◌∷◌, ⊤}
use Rattle.std.proofs.Common.{arith, ap, ap₂, ◌∙◌, sym, subst, refl, inl, inr, ltb-true, ltb-false, lt-ltb}
use Rattle.std.proofs.lemmas.Int.{ints}
use Rattle.std.proofs.lemmas.Nat.Gcd.{dvd_trans, le_of_dvd, mod-eq-zero_of_dvd}
use Rattle.std.proofs.lemmas.Bool.{cond_both, cond-true, cond-false, cases_order, ne_eqb}
use Rattle.lin_term.specs.Form.{AreTerms, cap}
use Rattle.lin_term.specs.Linear.{put_front, put, plus_terms, times_terms, floor_div}
use Rattle.lin_term.specs.Literal.{gcd, gcd_terms, or_one, quotient_terms}
use Rattle.lin_term.specs.PutIn.{without}
use Rattle.lin_term.specs.Blend.{sum_terms}
use Rattle.lin_term.specs.Wide.{coefficients, first_past}
use Rattle.lin_term.proofs.PrimitiveLemmas.{gcd_is, gcd_divides, divides_weaker, DividesTerms, floor_exact}
use Rattle.lin_term.proofs.Divisors.{gcd_assoc}
use Rattle.lin_term.proofs.Capping.{past-head, past-tail}
use Rattle.lin_term.proofs.Quotients.{or_one_same}
use Rattle.lin_term.specs.Literal.{quotient}
use Rattle.lin_term.specs.Wide.{fits}
use Rattle.lin_term.proofs.Capping.{fits_within, fits_past}
use Rattle.lin_form.specs.Lin.{Lin, common, reduced}
use Rattle.lin_form.specs.Kept.{within, lins_numbers}
use Rattle.std.specs.Prelude.{Result}
use Rattle.lin_form.specs.declared.fault.FormFault.{FormFault}
use Rattle.lin_form.specs.Outcome.{Formed}
use Rattle.lin_form.proofs.Keeping.{form_kept, den_past, constant_past, coefficient_past}

-- ---- no variable is left out

pub without_none : (n : ℕ) (ts : List (ℕ × ℤ)) (x : ℕ) → 2 ^ 20 ≤ x → AreTerms n ts → without ts x ≡ ts
without_none n [] x h a = refl
without_none n (t ∷ ts) x h a =
    cond-false (eqb t.0 x) (without ts x) (t ∷ without ts x) (ne_eqb t.0 x (λ e. absurd (omega (arith, a.1, e)))) ∙ ap (λ (us : List (ℕ × ℤ)). t ∷ us) (without_none (t.0 + 1) ts x h a.4)

pub sum_none : (p : ℤ) (ls : List (ℕ × ℤ)) (q : ℤ) (rs : List (ℕ × ℤ)) (x : ℕ) → 2 ^ 20 ≤ x → AreTerms 0 rs → sum_terms p ls q rs x ≡ plus_terms (times_terms p ls) (times_terms q rs)
sum_none p ls q rs x h a = ap (λ (us : List (ℕ × ℤ)). plus_terms (times_terms p ls) (times_terms q us)) (without_none 0 rs x h a)

-- ---- the common divisor

some_divisor : (d x : ℕ) → 1 ≤ d → 1 ≤ gcd d x
some_divisor d x h = from (gcd d x) ((gcd_is d x).0)
  where
    from : (g : ℕ) → g ∣ d → 1 ≤ g
    from zero e = absurd (let m = mod-eq-zero_of_dvd zero e in omega arith)
    from (suc g) e = omega arith

pub common_value : (d c s t r : ℕ) → 1 ≤ d → s ≡ gcd d c → r ≡ gcd s t → r ≡ or_one (gcd d (gcd c t))
common_value d c s t r h e f =
    f ∙ ap (λ (n : ℕ). gcd n t) e ∙ gcd_assoc d c t ∙ sym (or_one_same (gcd d (gcd c t)) (some_divisor d (gcd c t) h))

pub common_least : (d x r : ℕ) → 1 ≤ d → r ≡ or_one (gcd d x) → 1 ≤ r
common_least d x r h e =
    subst (λ (n : ℕ). 1 ≤ n) (sym (e ∙ or_one_same (gcd d x) (some_divisor d x h))) (some_divisor d x h)

pub common_greatest : (d x r : ℕ) → 1 ≤ d → r ≡ or_one (gcd d x) → r ≤ d
common_greatest d x r h e =
    subst (λ (n : ℕ). n ≤ d) (sym (e ∙ or_one_same (gcd d x) (some_divisor d x h))) (le_of_dvd h (gcd_is d x).0)

pub common_divides : (d c r : ℕ) (ts : List (ℕ × ℤ)) → 1 ≤ d → r ≡ or_one (gcd d (gcd c (gcd_terms ts))) → DividesTerms r ts
common_divides d c r ts h e =
    let g = gcd d (gcd c (gcd_terms ts)) in
    subst (λ (n : ℕ). DividesTerms n ts) (sym (e ∙ or_one_same g (some_divisor d (gcd c (gcd_terms ts)) h)))
    (divides_weaker g (gcd_terms ts) ts (dvd_trans g (gcd_is d (gcd c (gcd_terms ts))).1 (gcd_is c (gcd_terms ts)).1) (gcd_divides ts))

-- ---- ascending terms without zeros

abbrev pub Rises : ℕ → List (ℕ × ℤ) → Type 0
Rises n [] = ⊤
Rises n (t ∷ ts) = (n ≤ t.0) × (t.0 < 2 ^ 20) × (t.1 ≢ pos 0) × Rises (t.0 + 1) ts

rises_weaker : (m n : ℕ) (ts : List (ℕ × ℤ)) → m ≤ n → Rises n ts → Rises m ts
rises_weaker m n [] h a = tt
rises_weaker m n (t ∷ ts) h a = (omega (arith, a.0), a.1, a.2, a.3)

pub are_rise : (n : ℕ) (ts : List (ℕ × ℤ)) → AreTerms n ts → Rises n ts
are_rise n [] a = tt
are_rise n (t ∷ ts) a = (a.0, a.1, a.2, are_rise (t.0 + 1) ts a.4)

front_rises : (n i : ℕ) (c : ℤ) (ts : List (ℕ × ℤ)) → n ≤ i → i < 2 ^ 20 → Rises (i + 1) ts → Rises n (put_front i c ts)
front_rises n i (pos zero) ts h l a = rises_weaker n (i + 1) ts (omega arith) a
front_rises n i (pos (suc k)) ts h l a = (h, l, (λ e. absurd (omega (arith, ints, e))), a)
front_rises n i (negsuc k) ts h l a = (h, l, (λ e. absurd (omega (arith, ints, e))), a)

put_rises : (n i : ℕ) (c : ℤ) (ts : List (ℕ × ℤ)) → n ≤ i → i < 2 ^ 20 → Rises n ts → Rises n (put i c ts)
put_rises n i c [] h l a = front_rises n i c [] h l tt
put_rises n i c (t ∷ ts) h l a =
    elim (cases_order i t.0) [
      | inl same ↦
          cond_both (ltb i t.0) (put_front i c (t ∷ ts)) (cond (ltb t.0 i) (t ∷ put i c ts) (put_front i (c +ℤ t.1) ts)) (λ us. Rises n us)
          (λ e. absurd (omega (arith, same, ltb-true i t.0 e)))
          (λ e. cond_both (ltb t.0 i) (t ∷ put i c ts) (put_front i (c +ℤ t.1) ts) (λ us. Rises n us)
          (λ f. absurd (omega (arith, same, ltb-true t.0 i f)))
          (λ f. front_rises n i (c +ℤ t.1) ts h l (rises_weaker (i + 1) (t.0 + 1) ts (omega (arith, same)) a.3)))
      | inr (inl less) ↦
          subst (λ us. Rises n us) (sym (cond-true (ltb i t.0) (put_front i c (t ∷ ts)) (cond (ltb t.0 i) (t ∷ put i c ts) (put_front i (c +ℤ t.1) ts)) (lt-ltb i t.0 less)))
          (front_rises n i c (t ∷ ts) h l (omega (arith, less), a.1, a.2, a.3))
      | inr (inr more) ↦
          cond_both (ltb i t.0) (put_front i c (t ∷ ts)) (cond (ltb t.0 i) (t ∷ put i c ts) (put_front i (c +ℤ t.1) ts)) (λ us. Rises n us)
          (λ e. absurd (omega (arith, more, ltb-true i t.0 e)))
          (λ e. cond_both (ltb t.0 i) (t ∷ put i c ts) (put_front i (c +ℤ t.1) ts) (λ us. Rises n us)
          (λ f. (a.0, a.1, a.2, put_rises (t.0 + 1) i c ts (omega (arith, more)) l a.3))
          (λ f. front_rises n i (c +ℤ t.1) ts h l (absurd (omega (arith, more, ltb-false t.0 i f)))))
    ]

pub plus_rises : (n : ℕ) (ss ts : List (ℕ × ℤ)) → Rises n ss → Rises n ts → Rises n (plus_terms ss ts)
plus_rises n [] ts a b = b
plus_rises n (s ∷ ss) ts a b = put_rises n s.0 s.1 (plus_terms ss ts) a.0 a.1 (plus_rises n ss ts (rises_weaker n (s.0 + 1) ss (omega (arith, a.0)) a.3) b)

pub times_rises : (n : ℕ) (k : ℤ) (ts : List (ℕ × ℤ)) → Rises n ts → Rises n (times_terms k ts)
times_rises n k [] a = tt
times_rises n k (t ∷ ts) a = front_rises n t.0 (k *ℤ t.1) (times_terms k ts) a.0 a.1 (times_rises (t.0 + 1) k ts a.3)

some_quotient : (z : ℤ) (g : ℕ) → 1 ≤ g → g ∣ nat_abs z → z ≢ pos 0 → floor_div z g ≢ pos 0
some_quotient z g h d n e =
    n (sym (floor_exact z g h d) ∙ ap (λ (x : ℤ). pos g *ℤ x) e ∙ (let o : pos g *ℤ pos 0 ≡ pos 0 = omega (arith, ints) in o))

pub quotient_rises : (n : ℕ) (ts : List (ℕ × ℤ)) (g : ℕ) → 1 ≤ g → DividesTerms g ts → Rises n ts → Rises n (quotient_terms ts g)
quotient_rises n [] g h d a = tt
quotient_rises n (t ∷ ts) g h d a = (a.0, a.1, some_quotient t.1 g h d.0 a.2, quotient_rises (t.0 + 1) ts g h d.1 a.3)

pub rises_are : (n : ℕ) (ts : List (ℕ × ℤ)) → Rises n ts → first_past (coefficients ts) ≡ None → AreTerms n ts
rises_are n [] a e = tt
rises_are n (t ∷ ts) a e = (a.0, a.1, a.2, past-head t.1 (coefficients ts) e, rises_are (t.0 + 1) ts a.3 (past-tail t.1 (coefficients ts) e))

-- a sum of multiples of rows, divided by what divides it, is a row where it is within the cap
pub sum_is_row : (p : ℤ) (ls : List (ℕ × ℤ)) (q : ℤ) (rs : List (ℕ × ℤ)) (d c g : ℕ) → 1 ≤ d → AreTerms 0 ls → AreTerms 0 rs → g ≡ or_one (gcd d (gcd c (gcd_terms (plus_terms (times_terms p ls) (times_terms q rs))))) → first_past (coefficients (quotient_terms (plus_terms (times_terms p ls) (times_terms q rs)) g)) ≡ None → AreTerms 0 (quotient_terms (plus_terms (times_terms p ls) (times_terms q rs)) g)
sum_is_row p ls q rs d c g h a b e f =
    let ts : List (ℕ × ℤ) = plus_terms (times_terms p ls) (times_terms q rs) in
    rises_are 0 (quotient_terms ts g)
    (quotient_rises 0 ts g (common_least d (gcd c (gcd_terms ts)) g h e) (common_divides d c g ts h e)
    (plus_rises 0 (times_terms p ls) (times_terms q rs) (times_rises 0 p ls (are_rise 0 ls a)) (times_rises 0 q rs (are_rise 0 rs b)))) f

-- ---- a multiple is a sum with nothing

put_end : (n i : ℕ) (c : ℤ) (ts : List (ℕ × ℤ)) → i < n → Rises n ts → put i c ts ≡ put_front i c ts
put_end n i c [] h a = refl
put_end n i c (t ∷ ts) h a =
    cond-true (ltb i t.0) (put_front i c (t ∷ ts)) (cond (ltb t.0 i) (t ∷ put i c ts) (put_front i (c +ℤ t.1) ts)) (lt-ltb i t.0 (omega (arith, a.0)))

put_front_same : (i : ℕ) (c : ℤ) (ts : List (ℕ × ℤ)) → plus_terms (put_front i c ts) [] ≡ (put i c (plus_terms ts [])) → plus_terms (put_front i c ts) [] ≡ put i c (plus_terms ts [])
put_front_same i c ts e = e

pub plus_nothing : (n : ℕ) (ts : List (ℕ × ℤ)) → Rises n ts → plus_terms ts [] ≡ ts
plus_nothing n [] a = refl
plus_nothing n (t ∷ ts) a =
    ap (put t.0 t.1) (plus_nothing (t.0 + 1) ts a.3) ∙ put_end (t.0 + 1) t.0 t.1 ts (omega arith) a.3 ∙ front t.1 a.2
  where
    front : (c : ℤ) → c ≢ pos 0 → put_front t.0 c ts ≡ (t.0, c) ∷ ts
    front (pos zero) h = absurd (h refl)
    front (pos (suc k)) h = refl
    front (negsuc k) h = refl

-- ---- the outcome of a sum in lowest terms

abbrev lowest_by : Lin → ℕ → Lin
lowest_by z g = record { form = quotient z.form g; den = z.den / g }

pub ok_case : (z : Lin) (g : ℕ) (y : Lin) → g ≡ common z → z.den / g ≤ cap → first_past (coefficients (quotient_terms z.form.terms g)) ≡ None → nat_abs (floor_div z.form.constant g) ≤ cap → y ≡ record { form = record { terms = quotient_terms z.form.terms g; constant = floor_div z.form.constant g }; den = z.den / g } → (within (lins_numbers (reduced z ∷ [])) ≡ true) × (y ≡ reduced z)
ok_case z g y e d f k i =
    subst (λ (n : ℕ). (within (lins_numbers (lowest_by z n ∷ [])) ≡ true) × (y ≡ lowest_by z n)) e
    (form_kept (lowest_by z g) (fits_within (pos (z.den / g)) d) f (fits_within (floor_div z.form.constant g) k), i)

pub den_case : (z : Lin) (g : ℕ) → g ≡ common z → cap < z.den / g → within (lins_numbers (reduced z ∷ [])) ≡ false
den_case z g e d =
    subst (λ (n : ℕ). within (lins_numbers (lowest_by z n ∷ [])) ≡ false) e (den_past (lowest_by z g) (fits_past (pos (z.den / g)) d))

pub constant_case : (z : Lin) (g : ℕ) (k : ℤ) → g ≡ common z → k ≡ floor_div z.form.constant g → fits k ≡ false → within (lins_numbers (reduced z ∷ [])) ≡ false
constant_case z g k e f d =
    subst (λ (n : ℕ). within (lins_numbers (lowest_by z n ∷ [])) ≡ false) e (constant_past (lowest_by z g) (ap fits (sym f) ∙ d))

pub coefficient_case : (z : Lin) (g : ℕ) (y : ℤ) → g ≡ common z → first_past (coefficients (quotient_terms z.form.terms g)) ≡ Some y → within (lins_numbers (reduced z ∷ [])) ≡ false
coefficient_case z g y e d =
    subst (λ (n : ℕ). within (lins_numbers (lowest_by z n ∷ [])) ≡ false) e (coefficient_past (lowest_by z g) y d)

-- ---- the same form, part by part

abbrev parts_lin : List (ℕ × ℤ) → ℤ → ℕ → Lin
parts_lin ts k d = reduced (record { form = record { terms = ts; constant = k }; den = d })

pub formed_same : (r : Result Lin FormFault) (ts us : List (ℕ × ℤ)) (k l : ℤ) (d e : ℕ) → ts ≡ us → k ≡ l → d ≡ e → Formed (parts_lin ts k d ∷ []) (parts_lin ts k d) r → Formed (parts_lin us l e ∷ []) (parts_lin us l e) r
formed_same r ts us k l d e a b c h =
    subst (λ (x : Lin). Formed (x ∷ []) x r) (ap₂ (λ (vs : List (ℕ × ℤ)) (z : ℤ). parts_lin vs z d) a b ∙ ap (λ (n : ℕ). parts_lin us l n) c) h
