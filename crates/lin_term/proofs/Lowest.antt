-- The greatest common divisor of multiples, and what is left after dividing by it: primitive forms are their own.
use Prim.Native.Nat.{◌∣◌}
use Rattle.std.specs.Prelude.{ℕ, zero, suc, ◌+◌, ◌*◌, ◌/◌, ◌%◌, ◌<◌, ◌≤◌, ◌≡◌, ◌⊎◌, ◌-ℤ◌, ℤ, pos, negsuc, ◌*ℤ◌, nat_abs, List, [], ◌∷◌, ⊤}
use Rattle.std.specs.Int.{IsGcd}
use Rattle.std.proofs.Common.{arith, ap, ap₂, ◌∙◌, sym, subst, refl, inl, inr, mod-lt, mul-le-mul_left}
use Rattle.std.proofs.lemmas.Int.{ints}
use Rattle.std.proofs.lemmas.Nat.{mod-mul-add, div-mul-add}
use Rattle.std.proofs.lemmas.Bool.{cases_lt}
use Rattle.std.proofs.Math.Nat.{eq-zero_of_zero-dvd}
use Rattle.std.proofs.lemmas.Nat.Gcd.{IsGcd-from_zero, IsGcd-from_mod, same_from_IsGcd, dvd_trans}
use Rattle.lin_term.specs.Linear.{Sort, Rat, Int, Form, floor_div, constant_form, put_front}
use Rattle.lin_term.specs.Literal.{Lit, AtLeast, Above, Divides, NotDivides, IsOf, gcd_within, gcd, gcd_terms, or_one, divisor, quotient_terms, quotient, whole_form, sign_of, prim, minus_one, residue, reduce_terms, reduce, common_divisor, modulus_of, residue_form, IsPrimitive}
use Rattle.lin_term.proofs.Dividing.{abs_product}
use Rattle.lin_term.proofs.PrimitiveLemmas.{gcd_is, DividesTerms, gcd_divides, divides_weaker, or_one_pos, or_one_divides, or_one_terms, floor_exact, floor_bounds, whole_div}

scaled_mod : (k a b : ℕ) → 1 ≤ k → (k * a) % (k * suc b) ≡ k * (a % suc b)
scaled_mod k a b o =
    let l : a % suc b < suc b = mod-lt a {m = suc b} (omega arith) in
    let m = mul-le-mul_left k (let q : a % suc b + 1 ≤ suc b = omega arith in q) in
    ap (λ (x : ℕ). x % (k * suc b)) (let e : k * (suc b * (a / suc b) + a % suc b) ≡ (a / suc b) * (k * suc b) + k * (a % suc b) = omega arith in ap (λ (x : ℕ). k * x) (let s : a ≡ suc b * (a / suc b) + a % suc b = omega arith in s) ∙ e)
    ∙ mod-mul-add (a / suc b) (k * suc b) (k * (a % suc b)) (omega arith)

scaled_is : (n a b k : ℕ) → 1 ≤ k → b < n → IsGcd (k * a) (k * b) (k * gcd_within n a b)
scaled_is zero a b k o h = absurd (omega arith)
scaled_is (suc n) a zero k o h = IsGcd-from_zero (k * a) (k * 0) (omega arith)
scaled_is (suc n) a (suc b) k o h =
    let l : a % suc b < suc b = mod-lt a {m = suc b} (omega arith) in
    IsGcd-from_mod (k * a) (k * suc b) (k * gcd_within n (suc b) (a % suc b))
    (subst (λ (r : ℕ). IsGcd (k * suc b) r (k * gcd_within n (suc b) (a % suc b))) (sym (scaled_mod k a b o)) (scaled_is n (suc b) (a % suc b) k o (omega arith)))

scaled_gcd_is : (k a b : ℕ) → 1 ≤ k → IsGcd (k * a) (k * b) (k * gcd a b)
unfolding gcd
scaled_gcd_is k a b o = scaled_is (suc b) a b k o (omega arith)

-- the divisor of multiples is the multiple of the divisor
pub scaled_gcd : (k a b : ℕ) → 1 ≤ k → gcd (k * a) (k * b) ≡ k * gcd a b
scaled_gcd k a b o = same_from_IsGcd (k * a) (k * b) (gcd (k * a) (k * b)) (k * gcd a b) (gcd_is (k * a) (k * b)) (scaled_gcd_is k a b o)

pub abs_floor : (z : ℤ) (g : ℕ) → 1 ≤ g → g ∣ nat_abs z → g * nat_abs (floor_div z g) ≡ nat_abs z
abs_floor z g o d = sym (abs_product g (floor_div z g)) ∙ ap nat_abs (floor_exact z g o d)

pub scaled_terms : (ts : List (ℕ × ℤ)) (g : ℕ) → 1 ≤ g → DividesTerms g ts → g * gcd_terms (quotient_terms ts g) ≡ gcd_terms ts
scaled_terms [] g o d = omega arith
scaled_terms (t ∷ ts) g o d =
    sym (scaled_gcd g (nat_abs (floor_div t.1 g)) (gcd_terms (quotient_terms ts g)) o)
    ∙ ap₂ (λ (a b : ℕ). gcd a b) (abs_floor t.1 g o d.0) (scaled_terms ts g o d.1)

pub rest_one : (c d : ℕ) → or_one c * d ≡ c → or_one d ≡ 1
rest_one zero zero e = refl
rest_one zero (suc d) e = absurd (omega arith)
rest_one (suc c) zero e = absurd (omega arith)
rest_one (suc c) (suc zero) e = refl
rest_one (suc c) (suc (suc d)) e = let m = mul-le-mul_left (suc c) (let q : 2 ≤ suc (suc d) = omega arith in q) in absurd (omega arith)

-- what is left has the divisor 1
pub whole_one : (ts : List (ℕ × ℤ)) → or_one (gcd_terms (quotient_terms ts (or_one (gcd_terms ts)))) ≡ 1
whole_one ts =
    rest_one (gcd_terms ts) (gcd_terms (quotient_terms ts (or_one (gcd_terms ts))))
    (scaled_terms ts (or_one (gcd_terms ts)) (or_one_pos (gcd_terms ts)) (or_one_terms (gcd_terms ts) ts (gcd_divides ts)))

pub rat_one : (f : Form) → divisor Rat (quotient f (divisor Rat f)) ≡ 1
rat_one f =
    let c : ℕ = gcd (nat_abs f.constant) (gcd_terms f.terms) in
    let h = gcd_is (nat_abs f.constant) (gcd_terms f.terms) in
    let g : ℕ = or_one c in
    let o = or_one_pos c in
    let dc = or_one_divides c (nat_abs f.constant) h.0 in
    let dt = or_one_terms c f.terms (divides_weaker c (gcd_terms f.terms) f.terms h.1 (gcd_divides f.terms)) in
    rest_one c (gcd (nat_abs (floor_div f.constant g)) (gcd_terms (quotient_terms f.terms g)))
    (sym (scaled_gcd g (nat_abs (floor_div f.constant g)) (gcd_terms (quotient_terms f.terms g)) o) ∙ ap₂ (λ (a b : ℕ). gcd a b) (abs_floor f.constant g o dc) (scaled_terms f.terms g o dt))

floor_one : (z : ℤ) → floor_div z 1 ≡ z
floor_one (pos a) = ap pos (omega arith)
floor_one (negsuc a) = ap negsuc (omega arith)

terms_one : (ts : List (ℕ × ℤ)) → quotient_terms ts 1 ≡ ts
terms_one [] = refl
terms_one (t ∷ ts) = ap₂ (λ (z : ℤ) (us : List (ℕ × ℤ)). (t.0, z) ∷ us) (floor_one t.1) (terms_one ts)

abbrev with : ℤ → List (ℕ × ℤ) → Form
with c ts = record { terms = ts; constant = c }

pub quotient_one : (f : Form) → quotient f 1 ≡ f
quotient_one f = ap₂ (λ (c : ℤ) (ts : List (ℕ × ℤ)). with c ts) (floor_one f.constant) (terms_one f.terms)

quotient_by : (f : Form) (g : ℕ) → g ≡ 1 → quotient f g ≡ f
quotient_by f g e = ap (λ (n : ℕ). quotient f n) e ∙ quotient_one f

sign_again : (z : ℤ) → sign_of (sign_of z) ≡ sign_of z
sign_again (pos n) = refl
sign_again (negsuc n) = refl

whole_again : (ts : List (ℕ × ℤ)) (c : ℤ) → whole_form (whole_form (with c ts)) ≡ whole_form (with c ts)
whole_again [] c = ap (λ (z : ℤ). constant_form z) (sign_again c)
whole_again (t ∷ ts) c = quotient_by (quotient (with c (t ∷ ts)) (divisor Int (with c (t ∷ ts)))) _ (whole_one (t ∷ ts))

-- the primitive form of an inequality is primitive
pub prim_at_least : (s : Sort) (f : Form) → prim s (prim s (AtLeast f)) ≡ prim s (AtLeast f)
prim_at_least Rat f = ap (λ (g : Form). AtLeast g) (quotient_by (quotient f (divisor Rat f)) _ (rat_one f))
prim_at_least Int f = ap (λ (g : Form). AtLeast g) (whole_again f.terms f.constant)

pub prim_above : (s : Sort) (f : Form) → prim s (prim s (Above f)) ≡ prim s (Above f)
prim_above Rat f = ap (λ (g : Form). Above g) (quotient_by (quotient f (divisor Rat f)) _ (rat_one f))
prim_above Int f = ap (λ (g : Form). AtLeast g) (whole_again (minus_one f).terms (minus_one f).constant)

-- ---- divisibilities

-- 1 to d - 1
abbrev Small : ℕ → ℤ → Type 0
Small d (pos zero) = ⊥
Small d (pos (suc x)) = suc x < d
Small d (negsuc x) = ⊥

abbrev AllSmall : ℕ → List (ℕ × ℤ) → Type 0
AllSmall d [] = ⊤
AllSmall d (t ∷ ts) = Small d t.1 × AllSmall d ts

pub residue_less : (z : ℤ) (d : ℕ) → 1 ≤ d → residue z d < d
residue_less z d o = let b = floor_bounds z d o in omega (arith, ints)

front_small : (d i r : ℕ) (ts : List (ℕ × ℤ)) → r < d → AllSmall d ts → AllSmall d (put_front i (pos r) ts)
front_small d i zero ts h a = a
front_small d i (suc r) ts h a = (h, a)

reduce_small : (d : ℕ) (ts : List (ℕ × ℤ)) → 1 ≤ d → AllSmall d (reduce_terms d ts)
reduce_small d [] o = tt
reduce_small d (t ∷ ts) o = front_small d t.0 (residue t.1 d) (reduce_terms d ts) (residue_less t.1 d o) (reduce_small d ts o)

less_part : (g d y x : ℕ) → g * y ≡ x → x < g * d → y < d
less_part g d y x e h =
    by_le (cases_lt y d)
  where
    by_le : (y < d) ⊎ (d ≤ y) → y < d
    by_le (inl l) = l
    by_le (inr l) = let m = mul-le-mul_left g l in absurd (omega arith)

small_part : (g d y x : ℕ) → g * y ≡ suc x → suc x < g * d → Small d (pos y)
small_part g d zero x e h = absurd (omega arith)
small_part g d (suc y) x e h = less_part g d (suc y) (suc x) e h

small_quotient : (g d : ℕ) (z : ℤ) → 1 ≤ g → g ∣ nat_abs z → Small (g * d) z → Small d (floor_div z g)
small_quotient g d (pos zero) o v h = absurd h
small_quotient g d (pos (suc x)) o v h = small_part g d (suc x / g) x (whole_div g (suc x) o v) h
small_quotient g d (negsuc x) o v h = absurd h

all_quotient : (g d : ℕ) (ts : List (ℕ × ℤ)) → 1 ≤ g → DividesTerms g ts → AllSmall (g * d) ts → AllSmall d (quotient_terms ts g)
all_quotient g d [] o v h = tt
all_quotient g d (t ∷ ts) o v h = (small_quotient g d t.1 o v.0 h.0, all_quotient g d ts o v.1 h.1)

pub residue_same : (y d : ℕ) → y < d → residue (pos y) d ≡ y
residue_same y d h =
    let e : y / d ≡ 0 = ap (λ (x : ℕ). x / d) (let s : y ≡ 0 * d + y = omega arith in s) ∙ div-mul-add 0 d y h in
    ap (λ (q : ℕ). nat_abs (pos y -ℤ pos d *ℤ pos q)) e ∙ (let m : nat_abs (pos y -ℤ pos d *ℤ pos 0) ≡ y = omega (arith, ints) in m)

front_same : (d i : ℕ) (z : ℤ) (us ts : List (ℕ × ℤ)) → Small d z → us ≡ ts → put_front i (pos (residue z d)) us ≡ (i, z) ∷ ts
front_same d i (pos zero) us ts h e = absurd h
front_same d i (pos (suc x)) us ts h e =
    ap (λ (r : ℕ). put_front i (pos r) us) (residue_same (suc x) d h) ∙ ap (λ (vs : List (ℕ × ℤ)). (i, pos (suc x)) ∷ vs) e
front_same d i (negsuc x) us ts h e = absurd h

reduce_same : (d : ℕ) (ts : List (ℕ × ℤ)) → AllSmall d ts → reduce_terms d ts ≡ ts
reduce_same d [] h = refl
reduce_same d (t ∷ ts) h = front_same d t.0 t.1 (reduce_terms d ts) ts h.0 (reduce_same d ts h.1)

pub times_one : (g x : ℕ) → 1 ≤ g → g * x ≡ g → x ≡ 1
times_one g zero o e = absurd (omega arith)
times_one g (suc zero) o e = refl
times_one g (suc (suc x)) o e = let m = mul-le-mul_left g (let q : 2 ≤ suc (suc x) = omega arith in q) in absurd (omega arith)

-- g is the common divisor of the modulus g * d and of r; what is left is its own primitive form
record Left (d : ℕ) (f : Form) : Type 0 where
  one : 1 ≤ d
  same : reduce d f ≡ f
  alone : common_divisor d f ≡ 1

no_zero : (g d : ℕ) → 1 ≤ g * d → 1 ≤ d
no_zero g zero h = absurd (omega arith)
no_zero g (suc d) h = omega arith

left_of : (D : ℕ) (f : Form) → 1 ≤ D → Left (D / common_divisor D (reduce D f)) (quotient (reduce D f) (common_divisor D (reduce D f)))
left_of D f O =
    let r : Form = reduce D f in
    let g : ℕ = common_divisor D r in
    let d : ℕ = D / g in
    let h = gcd_is D (gcd (nat_abs r.constant) (gcd_terms r.terms)) in
    let k = gcd_is (nat_abs r.constant) (gcd_terms r.terms) in
    let o : 1 ≤ g = some g h.0 in
    let size : g * d ≡ D = whole_div g D o h.0 in
    let dt = divides_weaker g (gcd_terms r.terms) r.terms (dvd_trans g h.1 k.1) (gcd_divides r.terms) in
    let dc : g ∣ nat_abs r.constant = dvd_trans g h.1 k.0 in
    let terms : reduce_terms d (quotient_terms r.terms g) ≡ quotient_terms r.terms g =
    reduce_same d (quotient_terms r.terms g) (all_quotient g d r.terms o dt (subst (λ (n : ℕ). AllSmall n r.terms) (sym size) (reduce_small D f.terms O))) in
    let low = less_part g d (residue f.constant D / g) (residue f.constant D) (whole_div g (residue f.constant D) o dc) (subst (λ (n : ℕ). residue f.constant D < n) (sym size) (residue_less f.constant D O)) in
    record {
      one = no_zero g d (subst (λ (n : ℕ). 1 ≤ n) (sym size) O);
      same = ap₂ (λ (c : ℤ) (ts : List (ℕ × ℤ)). with c ts) (ap pos (residue_same (residue f.constant D / g) d low)) terms;
      alone = times_one g (common_divisor d (quotient r g)) o
          (sym (scaled_gcd g d (gcd (nat_abs (floor_div r.constant g)) (gcd_terms (quotient_terms r.terms g))) o)
          ∙ ap₂ (λ (a b : ℕ). gcd a b) size (sym (scaled_gcd g (nat_abs (floor_div r.constant g)) (gcd_terms (quotient_terms r.terms g)) o) ∙ ap₂ (λ (a b : ℕ). gcd a b) (abs_floor r.constant g o dc) (scaled_terms r.terms g o dt)));
    }
  where
    some : (g : ℕ) → g ∣ D → 1 ≤ g
    some zero h = let e = eq-zero_of_zero-dvd h in absurd (omega arith)
    some (suc g) h = omega arith

left_modulus : (d : ℕ) (f : Form) → Left d f → modulus_of d f ≡ d
left_modulus zero f l = refl
left_modulus (suc m) f l =
    ap (λ (k : ℕ). suc m / k) (ap (λ (g : Form). common_divisor (suc m) g) l.same ∙ l.alone) ∙ (let e : suc m / 1 ≡ suc m = omega arith in e)

left_form : (d : ℕ) (f : Form) → Left d f → residue_form d f ≡ f
left_form zero f l = refl
left_form (suc m) f l =
    ap₂ (λ (g : Form) (k : ℕ). quotient g k) l.same (ap (λ (g : Form). common_divisor (suc m) g) l.same ∙ l.alone) ∙ quotient_one f

modulus_again : (d : ℕ) (f : Form) → modulus_of (modulus_of d f) (residue_form d f) ≡ modulus_of d f
modulus_again zero f = refl
modulus_again (suc n) f = left_modulus (modulus_of (suc n) f) (residue_form (suc n) f) (left_of (suc n) f (omega arith))

residues_again : (d : ℕ) (f : Form) → residue_form (modulus_of d f) (residue_form d f) ≡ residue_form d f
residues_again zero f = refl
residues_again (suc n) f = left_form (modulus_of (suc n) f) (residue_form (suc n) f) (left_of (suc n) f (omega arith))

-- the primitive form is its own primitive form
pub prim_again : (s : Sort) (l : Lit) → prim s (prim s l) ≡ prim s l
prim_again s (AtLeast f) = prim_at_least s f
prim_again s (Above f) = prim_above s f
prim_again Rat (Divides d f) = refl
prim_again Rat (NotDivides d f) = refl
prim_again Int (Divides d f) = ap₂ (λ (n : ℕ) (g : Form). Divides n g) (modulus_again d f) (residues_again d f)
prim_again Int (NotDivides d f) = ap₂ (λ (n : ℕ) (g : Form). NotDivides n g) (modulus_again d f) (residues_again d f)

pub prim_is_primitive : (s : Sort) (l : Lit) → IsOf s (prim s l) → IsPrimitive s (prim s l)
prim_is_primitive s l o = (o, prim_again s l)
