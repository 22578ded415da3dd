-- The line that forms a sum over the rationals meets its rule.
use Prim.Native.Nat.{◌∣◌}
use Rattle.std.specs.Prelude.{ℕ, zero, suc, ◌+◌, ◌*◌, ◌/◌, ◌<◌, ◌≤◌, ◌≡◌, ◌≢◌, ◌^◌, ℤ, pos, negsuc, ◌+ℤ◌, ◌*ℤ◌, nat_abs, int_le, nat_le, nat_eq, is_none, Bool, true, false, ◌&&◌, ◌||◌, cond, max, Option, Some, None, option_and_then, slice_get, List, [], ◌∷◌, ◌++◌, map, length, get_or}
use Rattle.std.proofs.Common.{arith, ap, ap₂, ◌∙◌, sym, subst, refl, mul-le-mul}
use Rattle.std.proofs.lemmas.Bool.{le-leb, eq-eqb, eqb-true}
use Rattle.std.proofs.lemmas.Int.{ints}
use Rattle.std.proofs.lemmas.List.{get_or_default}
use Rattle.lin_term.specs.Form.{Form, AreTerms, IsRow, cap}
use Rattle.lin_term.specs.declared.Sort.TheVariants.{Rat}
use Rattle.lin_term.specs.declared.Lit.{Lit}
use Rattle.lin_term.specs.declared.Lit.TheVariants.{AtLeast, Above, Divides, NotDivides}
use Rattle.lin_term.specs.Linear.{plus, times, plus_terms, times_terms}
use Rattle.lin_term.specs.Literal.{form_of, gcd, gcd_terms, or_one, divisor, prim}
use Rattle.lin_term.specs.PutIn.{coef}
use Rattle.lin_term.specs.Sum.{sum_of, inequality_with, is_strict}
use Rattle.lin_term.specs.Wide.{fits, first_past, lit_numbers}
use Rattle.lin_term.proofs.Ascending.{Ascend, ascend_from, times_ascend, plus_ascend}
use Rattle.lin_term.proofs.Capping.{fits_within, row_fits}
use Rattle.lin_term.proofs.Fractions.{divisor_some, divisor_most}
use Rattle.lin_term.proofs.PrimitiveLemmas.{gcd_is, whole_div}
use Rattle.lin_term.proofs.Quotients.{gcd_bound}
use Rattle.lin_term.specs.Blend.{sum_terms}
use Rattle.lin_term.proofs.Settling.{divisor_least, divisor_by}
use Rattle.lin_term.proofs.Summing.{inequality_form, without_none}
use Rattle.dom_core.specs.Elimination.{size_at, is_lower, is_upper, resolvent}
use Rattle.dom_core.specs.Game.{Matrix, lit}
use Rattle.dom_core.proofs.Assigning.{coef-plus, coef-times}
use Rattle.dom_core.proofs.Picking.{lower_size, upper_size}
use Rattle.cube_rules.specs.declared.Step.{Step}
use Rattle.cube_rules.specs.declared.Step.TheVariants.{Sum}
use Rattle.cube_rules.specs.Bare.{bare_rules}
use Rattle.cube_rules.specs.Context.{Context, cube_context, with_fact}
use Rattle.cube_rules.specs.Facts.{guard, is_inequality, literal_of, literal_at}
use Rattle.cube_rules.specs.Limits.{is_within, divisor_cap}
use Rattle.cube_rules.specs.Lines.{cube_step, is_sum, goes_on}
use Rattle.cube_rules.specs.Lines as rule
use Rattle.cube_elim.specs.Stored.{no_literal, lit_of}
use Rattle.cube_elim.specs.Written.{sum_line}
use Rattle.cube_elim.proofs.Orders.{le_true}
use Rattle.cube_elim.proofs.Closings.{guarded, true_and, none_is, lit_there}

-- ---- sizes of coefficients

eqb_no : (a : ℕ) → nat_eq a a ≡ true
eqb_no a = eq-eqb a a refl

coef_before : (n : ℕ) (ts : List (ℕ × ℤ)) (x : ℕ) → x < n → Ascend n ts → coef ts x ≡ pos 0
coef_before n [] x h a = refl
coef_before n (t ∷ ts) x h a = let o = a.0 in by (nat_eq t.0 x) refl (coef_before (t.0 + 1) ts x (omega arith) a.3)
  where
    by : (b : Bool) → nat_eq t.0 x ≡ b → coef ts x ≡ pos 0 → cond b (t.1 +ℤ coef ts x) (coef ts x) ≡ pos 0
    by true e r = let q = eqb-true t.0 x e in let o = a.0 in absurd (omega arith)
    by false e r = r

coef_small : (n : ℕ) (ts : List (ℕ × ℤ)) (x : ℕ) → AreTerms n ts → nat_abs (coef ts x) ≤ cap
coef_small n [] x a = omega arith
coef_small n (t ∷ ts) x a = by (nat_eq t.0 x) refl (coef_small (t.0 + 1) ts x a.4)
  where
    by : (b : Bool) → nat_eq t.0 x ≡ b → nat_abs (coef ts x) ≤ cap → nat_abs (cond b (t.1 +ℤ coef ts x) (coef ts x)) ≤ cap
    by true e h =
        let q = eqb-true t.0 x e in
        let z = coef_before (t.0 + 1) ts x (omega arith) (ascend_from (t.0 + 1) ts a.4) in
        subst (λ (y : ℤ). nat_abs y ≤ cap) (let u : t.1 ≡ t.1 +ℤ coef ts x = omega (arith, ints) in u) a.3
    by false e h = h

-- the first coefficient of a sum is that of its variable
first_coef : (n i : ℕ) (a : ℤ) (ts : List (ℕ × ℤ)) → Ascend n ((i, a) ∷ ts) → coef ((i, a) ∷ ts) i ≡ a
first_coef n i a ts h =
    let z = coef_before (i + 1) ts i (omega arith) h.3 in
    ap (λ (b : Bool). cond b (a +ℤ coef ts i) (coef ts i)) (eqb_no i) ∙ (let u : a +ℤ coef ts i ≡ a = omega (arith, ints) in u)

nonzero_size : (a : ℤ) → a ≢ pos 0 → 1 ≤ nat_abs a
nonzero_size (pos zero) h = absurd (h refl)
nonzero_size (pos (suc n)) h = omega arith
nonzero_size (negsuc n) h = omega arith

-- the divisor of a form divides its first coefficient
gcd_small : (m : ℕ) (ts : List (ℕ × ℤ)) → Ascend 0 ts → ((x : ℕ) → nat_abs (coef ts x) ≤ m) → gcd_terms ts ≤ m
gcd_small m [] a h = omega arith
gcd_small m ((i, z) ∷ ts) a h =
    let e = first_coef 0 i z ts a in
    let k = divisor_most (nat_abs z) (gcd_terms ts) (nonzero_size z a.2) in
    let b = subst (λ (y : ℤ). nat_abs y ≤ m) e (h i) in
    omega arith

or_one_small : (n m : ℕ) → 1 ≤ m → n ≤ m → or_one n ≤ m
or_one_small zero m o h = o
or_one_small (suc n) m o h = h

divisor_within : (m : ℕ) (f : Form) → 1 ≤ m → nat_abs f.constant ≤ m → Ascend 0 f.terms → ((x : ℕ) → nat_abs (coef f.terms x) ≤ m) → divisor Rat f ≤ m
divisor_within m f o c a h =
    or_one_small (gcd (nat_abs f.constant) (gcd_terms f.terms)) m o
    (gcd_bound (nat_abs f.constant) (gcd_terms f.terms) m c (gcd_small m f.terms a h))

abs_mul : (p : ℕ) (z : ℤ) → nat_abs (pos p *ℤ z) ≡ p * nat_abs z
abs_mul p (pos z) = omega (arith, ints)
abs_mul p (negsuc z) = omega (arith, ints)

sum_small : (p q : ℕ) (a b : ℤ) → p ≤ cap → q ≤ cap → nat_abs a ≤ cap → nat_abs b ≤ cap → nat_abs (pos p *ℤ a +ℤ pos q *ℤ b) ≤ divisor_cap
sum_small p q a b hp hq ha hb =
    let e = abs_mul p a in
    let f = abs_mul q b in
    let m = mul-le-mul hp ha in
    let n = mul-le-mul hq hb in
    omega (arith, ints)

sum_divisor : (p q : ℕ) (f g : Form) → p ≤ cap → q ≤ cap → IsRow f → IsRow g → divisor Rat (plus (times (pos p) f) (times (pos q) g)) ≤ divisor_cap
sum_divisor p q f g hp hq rf rg =
    divisor_within divisor_cap (plus (times (pos p) f) (times (pos q) g)) (omega arith) (sum_small p q f.constant g.constant hp hq rf.1 rg.1)
    (plus_ascend 0 (times_terms (pos p) f.terms) (times_terms (pos q) g.terms) (times_ascend 0 (pos p) f.terms (ascend_from 0 f.terms rf.0)) (times_ascend 0 (pos q) g.terms (ascend_from 0 g.terms rg.0)))
    (λ x. subst (λ (z : ℤ). nat_abs z ≤ divisor_cap)
    (sym (coef-plus (times (pos p) f) (times (pos q) g) x ∙ ap₂ (λ (y z : ℤ). y +ℤ z) (coef-times (pos p) f x) (coef-times (pos q) g x)))
    (sum_small p q (coef f.terms x) (coef g.terms x) hp hq (coef_small 0 f.terms x rf.0) (coef_small 0 g.terms x rg.0)))

-- ---- multipliers

quotient_one : (g b : ℕ) → g * (b / g) ≡ b → 1 ≤ b → 1 ≤ b / g
quotient_one g b e o = by (b / g) e
  where
    by : (q : ℕ) → g * q ≡ b → 1 ≤ q
    by zero e = absurd (omega arith)
    by (suc q) e = omega arith

quotient_small : (g b : ℕ) → 1 ≤ g → g * (b / g) ≡ b → b / g ≤ b
quotient_small g b o e = let m = mul-le-mul o (let u : b / g ≤ b / g = omega arith in u) in omega arith

record IsFactor (n : ℕ) : Type 0 where
  least : 1 ≤ n
  kept : n ≤ cap

factors : (a b : ℕ) → 1 ≤ a → 1 ≤ b → a ≤ cap → b ≤ cap → IsFactor (b / gcd a b) × IsFactor (a / gcd a b)
factors a b oa ob ka kb =
    let g : ℕ = gcd a b in
    let og = divisor_some a b oa in
    let i = gcd_is a b in
    let wa = whole_div g a og i.0 in
    let wb = whole_div g b og i.1 in
    let qa = quotient_small g a og wa in
    let qb = quotient_small g b og wb in
    (record { least = quotient_one g b wb ob; kept = omega arith }, record { least = quotient_one g a wa oa; kept = omega arith })

-- ---- the rule

lower_inequality : (x : ℕ) (l : Lit) → is_lower x l ≡ true → is_inequality l ≡ true
lower_inequality x (AtLeast f) e = refl
lower_inequality x (Above f) e = refl
lower_inequality x (Divides d f) e = absurd (cc)
lower_inequality x (NotDivides d f) e = absurd (cc)

upper_inequality : (x : ℕ) (l : Lit) → is_upper x l ≡ true → is_inequality l ≡ true
upper_inequality x (AtLeast f) e = refl
upper_inequality x (Above f) e = refl
upper_inequality x (Divides d f) e = absurd (cc)
upper_inequality x (NotDivides d f) e = absurd (cc)

prim_fits : (b : Bool) (f : Form) → IsRow (form_of (prim Rat (inequality_with b f))) → first_past (lit_numbers (prim Rat (inequality_with b f))) ≡ None
prim_fits true f r = row_fits (form_of (prim Rat (inequality_with true f))) r
prim_fits false f r = row_fits (form_of (prim Rat (inequality_with false f))) r

pos_one : (n : ℕ) → 1 ≤ n → int_le (pos 1) (pos n) ≡ true
pos_one n h = le_true (pos 1) (pos n) (omega (arith, ints))

is_its_sum : (p q : ℕ) (l u : Lit) (x : ℕ) → is_lower x l ≡ true → is_upper x u ≡ true → IsFactor p → IsFactor q → IsRow (form_of (prim Rat (sum_of (pos p) l (pos q) u))) → is_sum Rat (pos p) l (pos q) u (pos (divisor Rat (form_of (sum_of (pos p) l (pos q) u)))) ≡ true
is_its_sum p q l u x el eu fp fq r =
    let s = sum_of (pos p) l (pos q) u in
    let d = divisor Rat (form_of s) in
    let a = is_inequality l in
    let b = is_inequality u in
    let c = int_le (pos 1) (pos p) in
    let e = int_le (pos 1) (pos q) in
    let f = int_le (pos 1) (pos d) in
    let g = nat_eq d d in
    let h = is_none (first_past (lit_numbers (prim Rat s))) in
    let t1 = true_and a b (lower_inequality x l el) (upper_inequality x u eu) in
    let t2 = true_and (a && b) c t1 (pos_one p fp.least) in
    let t3 = true_and (a && b && c) e t2 (pos_one q fq.least) in
    let t4 = true_and (a && b && c && e) f t3 (pos_one d (divisor_least Rat (form_of s))) in
    let t5 = true_and (a && b && c && e && f) g t4 (eqb_no d) in
    true_and (a && b && c && e && f && g) h t5
    (none_is (first_past (lit_numbers (prim Rat s))) (prim_fits (is_strict l || is_strict u) (plus (times (pos p) (form_of l)) (times (pos q) (form_of u))) r))

is_its_within : (p q : ℕ) (l u : Lit) (f h : ℕ) → IsRow (form_of l) → IsRow (form_of u) → IsFactor p → IsFactor q → is_within (Sum (pos p) f (pos q) h (pos (divisor Rat (form_of (sum_of (pos p) l (pos q) u))))) ≡ true
is_its_within p q l u f h rl ru fp fq =
    let b = is_strict l || is_strict u in
    let m = plus (times (pos p) (form_of l)) (times (pos q) (form_of u)) in
    let d = divisor Rat (form_of (sum_of (pos p) l (pos q) u)) in
    let k : d ≤ divisor_cap = subst (λ (g : Form). divisor Rat g ≤ divisor_cap) (sym (inequality_form b m)) (sum_divisor p q (form_of l) (form_of u) fp.kept fq.kept rl ru) in
    true_and (fits (pos p) && fits (pos q)) (nat_le d divisor_cap)
    (true_and (fits (pos p)) (fits (pos q)) (fits_within (pos p) fp.kept) (fits_within (pos q) fq.kept)) (le-leb d divisor_cap k)

fact_is : (W : List Lit) (f : ℕ) (l : Lit) → f < length W → lit_of W f ≡ l → literal_at (cube_context W) f ≡ Some l
fact_is W f l h e = lit_there W f l h (sym e ∙ get_or_default W f no_literal l h)

lits_push : (W : List Lit) (r : Lit) → map lit W ++ lit r ∷ [] ≡ map lit (W ++ r ∷ [])
lits_push [] r = refl
lits_push (w ∷ W) r = ap (λ (ms : List Matrix). lit w ∷ ms) (lits_push W r)

context_with : (W : List Lit) (r : Lit) → with_fact (cube_context W) (lit r) ≡ cube_context (W ++ r ∷ [])
context_with W r = ap (λ (ms : List Matrix). let c : Context = record { bare = true; facts = ms } in c) (lits_push W r)

sum_applies : (n : ℕ) (W : List Lit) (p q : ℕ) (l u : Lit) (x f h : ℕ) → f < length W → lit_of W f ≡ l → h < length W → lit_of W h ≡ u → is_lower x l ≡ true → is_upper x u ≡ true → IsRow (form_of l) → IsRow (form_of u) → IsFactor p → IsFactor q → IsRow (form_of (prim Rat (sum_of (pos p) l (pos q) u))) → bare_rules Rat n (cube_context W) (Sum (pos p) f (pos q) h (pos (divisor Rat (form_of (sum_of (pos p) l (pos q) u))))) ≡ Some (cube_context (W ++ prim Rat (sum_of (pos p) l (pos q) u) ∷ []) ∷ [])
sum_applies n W p q l u x f h hf ef hh eh el eu rl ru fp fq r =
    let c = cube_context W in
    let s = sum_of (pos p) l (pos q) u in
    let d = pos (divisor Rat (form_of s)) in
    guarded (is_within (Sum (pos p) f (pos q) h d)) (cube_step Rat n c (Sum (pos p) f (pos q) h d)) (is_its_within p q l u f h rl ru fp fq)
    ∙ ap (λ (o : Option Lit). option_and_then (λ a. option_and_then (λ b. rule.sum_line Rat c (pos p) a (pos q) b d) (literal_at c h)) o) (fact_is W f l hf ef)
    ∙ ap (λ (o : Option Lit). option_and_then (λ b. rule.sum_line Rat c (pos p) l (pos q) b d) o) (fact_is W h u hh eh)
    ∙ guarded (is_sum Rat (pos p) l (pos q) u d) (Some (goes_on c (lit (prim Rat s)))) (is_its_sum p q l u x el eu fp fq r)
    ∙ ap (λ (k : Context). Some (k ∷ [])) (context_with W (prim Rat s))

size_kept : (x : ℕ) (l : Lit) → IsRow (form_of l) → size_at x l ≤ cap
size_kept x l r = coef_small 0 (form_of l).terms x r.0

pub line_applies : (n : ℕ) (W : List Lit) (l u : Lit) (x f h : ℕ) → f < length W → lit_of W f ≡ l → h < length W → lit_of W h ≡ u → is_lower x l ≡ true → is_upper x u ≡ true → IsRow (form_of l) → IsRow (form_of u) → IsRow (form_of (resolvent x l u)) → bare_rules Rat n (cube_context W) (sum_line x l f u h) ≡ Some (cube_context (W ++ resolvent x l u ∷ []) ∷ [])
line_applies n W l u x f h hf ef hh eh el eu rl ru r =
    let k = factors (size_at x l) (size_at x u) (lower_size x l el) (upper_size x u eu) (size_kept x l rl) (size_kept x u ru) in
    sum_applies n W (size_at x u / gcd (size_at x l) (size_at x u)) (size_at x l / gcd (size_at x l) (size_at x u)) l u x f h hf ef hh eh el eu rl ru k.0 k.1 r

-- ---- the divisor, as it is worked out

pub divisor_is : (l u : Lit) (p q : ℕ) (ls rs : List (ℕ × ℤ)) (start common m x : ℕ) → ls ≡ (form_of l).terms → rs ≡ (form_of u).terms → AreTerms 0 rs → 2 ^ 20 ≤ x → start ≡ nat_abs (pos p *ℤ (form_of l).constant +ℤ pos q *ℤ (form_of u).constant) → common ≡ gcd start (gcd_terms (sum_terms (pos p) ls (pos q) rs x)) → m ≡ max common 1 → m ≡ divisor Rat (form_of (sum_of (pos p) l (pos q) u))
divisor_is l u p q ls rs start common m x el er ar hx es ec em =
    let f = plus (times (pos p) (form_of l)) (times (pos q) (form_of u)) in
    let t : sum_terms (pos p) ls (pos q) rs x ≡ f.terms = ap₂ (λ (vs us : List (ℕ × ℤ)). plus_terms (times_terms (pos p) vs) (times_terms (pos q) us)) el (without_none 0 rs x hx ar ∙ er) in
    divisor_by Rat f common m (ec ∙ ap₂ gcd es (ap gcd_terms t)) em
    ∙ ap (divisor Rat) (sym (inequality_form (is_strict l || is_strict u) f))

pub divisor_fits : (l u : Lit) (p q d : ℕ) → p ≤ cap → q ≤ cap → IsRow (form_of l) × IsRow (form_of u) → d ≡ divisor Rat (form_of (sum_of (pos p) l (pos q) u)) → d ≤ 2 ^ 105
divisor_fits l u p q d hp hq r e =
    let f = plus (times (pos p) (form_of l)) (times (pos q) (form_of u)) in
    subst (λ (n : ℕ). n ≤ divisor_cap) (sym (e ∙ ap (divisor Rat) (inequality_form (is_strict l || is_strict u) f))) (sum_divisor p q (form_of l) (form_of u) hp hq r.0 r.1)
