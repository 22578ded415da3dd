-- The primitive form of a literal has its truth.
use Rattle.std.specs.Prelude.{ℕ, zero, suc, ◌+◌, ◌*◌, ◌/◌, ◌%◌, ◌<◌, ◌≤◌, ◌≡◌, ℤ, pos, negsuc, ◌+ℤ◌, ◌-ℤ◌, ◌*ℤ◌, ◌≤ℤ◌, ◌<ℤ◌, neg_ℤ, nat_abs, List, [], ◌∷◌, ⊤}
use Prim.Native.Nat.{◌∣◌}
use Rattle.std.specs.Int.{IsGcd}
use Rattle.std.proofs.Common.{arith, ap, ◌∙◌, sym, subst, refl, inl, inr, mod-lt, mul-le-mul_left}
use Rattle.std.proofs.lemmas.Int.{ints}
use Rattle.std.proofs.lemmas.Nat.Gcd.{IsGcd-from_zero, IsGcd-from_mod, dvd_trans, mod-eq-zero_of_dvd, dvd-zero}
use Rattle.std.proofs.Math.Nat.{eq-zero_of_zero-dvd, dvd_of_mod-eq-zero, dvd-mul_right, dvd_of_mul-dvd-mul_left, mul-dvd-mul_left}
use Rattle.std.proofs.lemmas.Bool.{cases_order}
use lib.IntN.{*ℤ_comm}
use Rattle.lin_term.specs.Linear.{Sort, Rat, Int, Form, Point, IsPoint, at, dot_terms, dot, constant_form, floor_div, origin}
use Rattle.lin_term.specs.Literal.{Lit, AtLeast, Above, Divides, NotDivides, Holds, gcd_within, gcd, gcd_terms, or_one, divisor, quotient_terms, quotient, whole_by, sign_of, prim, IsOf, opposite, neg, minus_one, residue, reduce_terms, reduce, common_divisor, modulus_of}
use Rattle.lin_term.proofs.Holding.{opposite_apart, opposite_from}
use Rattle.lin_term.proofs.Dots.{dot-plus, dot-constant_form, dot-put_front}
use Rattle.lin_term.proofs.Dividing.{abs_product, abs_sub_divides, one_den_mod}
use Rattle.lin_term.proofs.Ring.{ring, distrib_ℤ, distrib_right_ℤ, mul_assoc_ℤ, nonneg_mul, pos_mul, nonneg_from_mul, pos_from_mul}

within_is_gcd : (n a b : ℕ) → b < n → IsGcd a b (gcd_within n a b)
within_is_gcd zero a b h = absurd (omega arith)
within_is_gcd (suc n) a zero h = IsGcd-from_zero a 0 refl
within_is_gcd (suc n) a (suc b) h =
    let l : a % suc b < suc b = mod-lt a {m = suc b} (omega arith) in
    IsGcd-from_mod a (suc b) (gcd_within n (suc b) (a % suc b)) (within_is_gcd n (suc b) (a % suc b) (omega arith))

pub gcd_is : (a b : ℕ) → IsGcd a b (gcd a b)
unfolding gcd
gcd_is a b = within_is_gcd (suc b) a b (omega arith)

abbrev pub DividesTerms : ℕ → List (ℕ × ℤ) → Type 0
DividesTerms g [] = ⊤
DividesTerms g (t ∷ ts) = (g ∣ nat_abs t.1) × DividesTerms g ts

pub divides_weaker : (g h : ℕ) (ts : List (ℕ × ℤ)) → g ∣ h → DividesTerms h ts → DividesTerms g ts
divides_weaker g h [] d e = tt
divides_weaker g h (t ∷ ts) d e = (dvd_trans g d e.0, divides_weaker g h ts d e.1)

pub gcd_divides : (ts : List (ℕ × ℤ)) → DividesTerms (gcd_terms ts) ts
gcd_divides [] = tt
gcd_divides (t ∷ ts) =
    let g = gcd_is (nat_abs t.1) (gcd_terms ts) in
    (g.0, divides_weaker (gcd (nat_abs t.1) (gcd_terms ts)) (gcd_terms ts) ts g.1 (gcd_divides ts))

-- the only multiple of g in a block of g numbers is its end
block_end : (g q r k : ℕ) → r < g → g * k ≡ g * q + r + 1 → g ≡ r + 1
block_end g q r k h e =
    elim (cases_order k (q + 1)) [
      | inl s ↦ let m : g * k ≡ g * (q + 1) = ap (λ (x : ℕ). g * x) s in omega arith
      | inr (inl s) ↦ let m = mul-le-mul_left g (let l : k ≤ q = omega arith in l) in absurd (omega arith)
      | inr (inr s) ↦ let m = mul-le-mul_left g (let l : q + 2 ≤ k = omega arith in l) in absurd (omega arith)
    ]

pub floor_exact : (a : ℤ) (g : ℕ) → 1 ≤ g → g ∣ nat_abs a → pos g *ℤ floor_div a g ≡ a
floor_exact (pos a) g h d = let m : a % g ≡ 0 = mod-eq-zero_of_dvd g d in ap pos (omega arith)
floor_exact (negsuc a) g h d =
    let m : suc a % g ≡ 0 = mod-eq-zero_of_dvd g d in
    let e : g ≡ a % g + 1 = block_end g (a / g) (a % g) (suc a / g) (mod-lt a {m = g} (omega arith)) (omega arith) in
    omega (arith, ints)

pub floor_bounds : (a : ℤ) (g : ℕ) → 1 ≤ g → ((pos g *ℤ floor_div a g) ≤ℤ a) × (a <ℤ (pos g *ℤ floor_div a g +ℤ pos g))
floor_bounds (pos a) g h = let m : a % g < g = mod-lt a {m = g} (omega arith) in omega (arith, ints)
floor_bounds (negsuc a) g h = let m : a % g < g = mod-lt a {m = g} (omega arith) in omega (arith, ints)

pub dot-quotient_terms : (ts : List (ℕ × ℤ)) (g : ℕ) (nums : List ℤ) → 1 ≤ g → DividesTerms g ts → pos g *ℤ dot_terms (quotient_terms ts g) nums ≡ dot_terms ts nums
dot-quotient_terms [] g nums h d = omega (arith, ints)
dot-quotient_terms (t ∷ ts) g nums h d =
    let i = dot-quotient_terms ts g nums h d.1 in
    let e = floor_exact t.1 g h d.0 in
    let m = mul_assoc_ℤ (pos g) (floor_div t.1 g) (at nums t.0) in
    let k = ap (λ (x : ℤ). x *ℤ at nums t.0) e in
    let l = distrib_ℤ (pos g) (floor_div t.1 g *ℤ at nums t.0) (dot_terms (quotient_terms ts g) nums) in
    omega (arith, ints)

pub dot-quotient : (f : Form) (g : ℕ) (p : Point) → 1 ≤ g → DividesTerms g f.terms → g ∣ nat_abs f.constant → pos g *ℤ dot (quotient f g) p ≡ dot f p
dot-quotient f g p h d c =
    let i = dot-quotient_terms f.terms g p.nums h d in
    let e = floor_exact f.constant g h c in
    let m = mul_assoc_ℤ (pos g) (floor_div f.constant g) (pos p.den) in
    let k = ap (λ (x : ℤ). x *ℤ pos p.den) e in
    let l = distrib_ℤ (pos g) (dot_terms (quotient_terms f.terms g) p.nums) (floor_div f.constant g *ℤ pos p.den) in
    omega (arith, ints)

pub or_one_pos : (n : ℕ) → 1 ≤ or_one n
or_one_pos zero = omega arith
or_one_pos (suc n) = omega arith

pub or_one_divides : (n m : ℕ) → n ∣ m → or_one n ∣ m
or_one_divides zero m d = subst (λ (x : ℕ). 1 ∣ x) (sym (eq-zero_of_zero-dvd d)) (dvd-zero 1)
or_one_divides (suc n) m d = d

pub or_one_terms : (n : ℕ) (ts : List (ℕ × ℤ)) → DividesTerms n ts → DividesTerms (or_one n) ts
or_one_terms n [] d = tt
or_one_terms n (t ∷ ts) d = (or_one_divides n (nat_abs t.1) d.0, or_one_terms n ts d.1)

pub dot-prim_rat : (f : Form) (p : Point) → pos (divisor Rat f) *ℤ dot (quotient f (divisor Rat f)) p ≡ dot f p
dot-prim_rat f p =
    let g = gcd_is (nat_abs f.constant) (gcd_terms f.terms) in
    dot-quotient f (divisor Rat f) p (or_one_pos (gcd (nat_abs f.constant) (gcd_terms f.terms)))
    (or_one_terms (gcd (nat_abs f.constant) (gcd_terms f.terms)) f.terms (divides_weaker (gcd (nat_abs f.constant) (gcd_terms f.terms)) (gcd_terms f.terms) f.terms g.1 (gcd_divides f.terms)))
    (or_one_divides (gcd (nat_abs f.constant) (gcd_terms f.terms)) (nat_abs f.constant) g.0)

flip_factor : (g : ℕ) (x y : ℤ) → pos g *ℤ x ≡ y → x *ℤ pos g ≡ y
flip_factor g x y e = *ℤ_comm x (pos g) ∙ e

abbrev pub rat_form : Form → Form
rat_form f = quotient f (divisor Rat f)

divisor_pos : (f : Form) → 1 ≤ divisor Rat f
divisor_pos f = or_one_pos (gcd (nat_abs f.constant) (gcd_terms f.terms))

rat_from : (f : Form) (p : Point) → Holds (AtLeast (rat_form f)) p → Holds (AtLeast f) p
rat_from f p h =
    let one = divisor_pos f in
    subst (λ (x : ℤ). pos 0 ≤ℤ x) (dot-prim_rat f p) (nonneg_mul (pos (divisor Rat f)) (dot (rat_form f) p) (omega (arith, ints)) h)

rat_to : (f : Form) (p : Point) → Holds (AtLeast f) p → Holds (AtLeast (rat_form f)) p
rat_to f p h =
    let one = divisor_pos f in
    nonneg_from_mul (dot (rat_form f) p) (pos (divisor Rat f)) (omega (arith, ints)) (subst (λ (x : ℤ). pos 0 ≤ℤ x) (sym (flip_factor (divisor Rat f) (dot (rat_form f) p) (dot f p) (dot-prim_rat f p))) h)

above_from : (f : Form) (p : Point) → Holds (Above (rat_form f)) p → Holds (Above f) p
above_from f p h =
    let one = divisor_pos f in
    subst (λ (x : ℤ). pos 0 <ℤ x) (dot-prim_rat f p) (pos_mul (pos (divisor Rat f)) (dot (rat_form f) p) (omega (arith, ints)) h)

above_to : (f : Form) (p : Point) → Holds (Above f) p → Holds (Above (rat_form f)) p
above_to f p h =
    let one = divisor_pos f in
    pos_from_mul (dot (rat_form f) p) (pos (divisor Rat f)) (omega (arith, ints)) (subst (λ (x : ℤ). pos 0 <ℤ x) (sym (flip_factor (divisor Rat f) (dot (rat_form f) p) (dot f p) (dot-prim_rat f p))) h)

-- 0 ≤ g*x + c exactly where 0 ≤ x + c/g rounded down
round_from : (g : ℕ) (x c q : ℤ) → 1 ≤ g → (pos g *ℤ q) ≤ℤ c → pos 0 ≤ℤ (x +ℤ q) → pos 0 ≤ℤ (pos g *ℤ x +ℤ c)
round_from g x c q h l n =
    let d = distrib_ℤ (pos g) x q in
    let m = nonneg_mul (pos g) (x +ℤ q) (omega (arith, ints)) n in
    omega (arith, ints)

round_to : (g : ℕ) (x c q : ℤ) → 1 ≤ g → c <ℤ (pos g *ℤ q +ℤ pos g) → pos 0 ≤ℤ (pos g *ℤ x +ℤ c) → pos 0 ≤ℤ (x +ℤ q)
round_to g x c q h l n =
    let d = distrib_ℤ (pos g) (x +ℤ q) (pos 1) in
    let e = distrib_ℤ (pos g) x q in
    let u : pos 0 <ℤ (pos g *ℤ ((x +ℤ q) +ℤ pos 1)) = omega (arith, ints) in
    let v = pos_from_mul ((x +ℤ q) +ℤ pos 1) (pos g) (omega (arith, ints)) (subst (λ (y : ℤ). pos 0 <ℤ y) (*ℤ_comm (pos g) ((x +ℤ q) +ℤ pos 1)) u) in
    omega (arith, ints)

pub one_times : (c : ℤ) (n : ℕ) → n ≡ 1 → c *ℤ pos n ≡ c
one_times c n e = subst (λ (k : ℕ). c *ℤ pos k ≡ c) (sym e) (omega (arith, ints))

sign_from : (c : ℤ) → pos 0 ≤ℤ sign_of c → pos 0 ≤ℤ c
sign_from (pos n) h = omega (arith, ints)
sign_from (negsuc n) h = absurd (omega (arith, ints))

sign_to : (c : ℤ) → pos 0 ≤ℤ c → pos 0 ≤ℤ sign_of c
sign_to (pos n) h = omega (arith, ints)
sign_to (negsuc n) h = absurd (omega (arith, ints))

whole_from : (ts us : List (ℕ × ℤ)) (c : ℤ) (p : Point) → ts ≡ us → p.den ≡ 1 → Holds (AtLeast (whole_by us (record { terms = ts; constant = c }))) p → Holds (AtLeast (record { terms = ts; constant = c })) p
whole_from ts [] c p s e h =
    let o = one_times c p.den e in
    let o' = one_times (sign_of c) p.den e in
    let k = sign_from c (omega (arith, ints)) in
    let z = ap (λ (vs : List (ℕ × ℤ)). dot_terms vs p.nums) s in
    omega (arith, ints)
whole_from ts (u ∷ us) c p s e h =
    let g : ℕ = or_one (gcd_terms ts) in
    let i = dot-quotient_terms ts g p.nums (or_one_pos (gcd_terms ts)) (or_one_terms (gcd_terms ts) ts (gcd_divides ts)) in
    let b = floor_bounds c g (or_one_pos (gcd_terms ts)) in
    let o = one_times c p.den e in
    let o' = one_times (floor_div c g) p.den e in
    let r = round_from g (dot_terms (quotient_terms ts g) p.nums) c (floor_div c g) (or_one_pos (gcd_terms ts)) b.0 (omega (arith, ints)) in
    omega (arith, ints)

whole_to : (ts us : List (ℕ × ℤ)) (c : ℤ) (p : Point) → ts ≡ us → p.den ≡ 1 → Holds (AtLeast (record { terms = ts; constant = c })) p → Holds (AtLeast (whole_by us (record { terms = ts; constant = c }))) p
whole_to ts [] c p s e h =
    let o = one_times c p.den e in
    let o' = one_times (sign_of c) p.den e in
    let z = ap (λ (vs : List (ℕ × ℤ)). dot_terms vs p.nums) s in
    let k = sign_to c (omega (arith, ints)) in
    omega (arith, ints)
whole_to ts (u ∷ us) c p s e h =
    let g : ℕ = or_one (gcd_terms ts) in
    let i = dot-quotient_terms ts g p.nums (or_one_pos (gcd_terms ts)) (or_one_terms (gcd_terms ts) ts (gcd_divides ts)) in
    let b = floor_bounds c g (or_one_pos (gcd_terms ts)) in
    let o = one_times c p.den e in
    let o' = one_times (floor_div c g) p.den e in
    let r = round_to g (dot_terms (quotient_terms ts g) p.nums) c (floor_div c g) (or_one_pos (gcd_terms ts)) b.1 (omega (arith, ints)) in
    omega (arith, ints)

minus_one_from : (f : Form) (p : Point) → p.den ≡ 1 → Holds (AtLeast (minus_one f)) p → Holds (Above f) p
minus_one_from f p e h =
    let d = dot-plus f (constant_form (negsuc 0)) p in let c = dot-constant_form (negsuc 0) p in omega (arith, ints)

minus_one_to : (f : Form) (p : Point) → p.den ≡ 1 → Holds (Above f) p → Holds (AtLeast (minus_one f)) p
minus_one_to f p e h =
    let d = dot-plus f (constant_form (negsuc 0)) p in let c = dot-constant_form (negsuc 0) p in omega (arith, ints)

-- ---- divisibilities

mod_across : (K M n k : ℕ) (u v : ℤ) → 1 ≤ M → K * n ≡ M * k → pos K *ℤ u ≡ pos M *ℤ v → nat_abs u % n ≡ 0 → nat_abs v % k ≡ 0
mod_across K M n k u v m e s h =
    let a = mul-dvd-mul_left n K (dvd_of_mod-eq-zero n h) in
    let b : K * nat_abs u ≡ M * nat_abs v = sym (abs_product K u) ∙ ap nat_abs s ∙ abs_product M v in
    mod-eq-zero_of_dvd k (dvd_of_mul-dvd-mul_left {k = M} k m (subst (λ (j : ℕ). j ∣ (M * nat_abs v)) e (subst (λ (j : ℕ). (K * n) ∣ j) b a)))

pub whole_div : (g d : ℕ) → 1 ≤ g → g ∣ d → g * (d / g) ≡ d
whole_div g d o h = let m : d % g ≡ 0 = mod-eq-zero_of_dvd g h in omega arith

pub residue_split : (z : ℤ) (n : ℕ) → 1 ≤ n → z ≡ pos (residue z n) +ℤ pos n *ℤ floor_div z n
residue_split z n o = let b = floor_bounds z n o in omega (arith, ints)

reduce_dot_terms : (d : ℕ) (ts : List (ℕ × ℤ)) (nums : List ℤ) → 1 ≤ d → (q : ℤ) × (dot_terms ts nums ≡ dot_terms (reduce_terms d ts) nums +ℤ pos d *ℤ q)
reduce_dot_terms d [] nums o = (pos 0, omega (arith, ints))
reduce_dot_terms d (t ∷ ts) nums o =
    let h = reduce_dot_terms d ts nums o in
    let s = residue_split t.1 d o in
    let p = dot-put_front t.0 (pos (residue t.1 d)) (reduce_terms d ts) nums in
    let m = ap (λ (z : ℤ). z *ℤ at nums t.0) s ∙ distrib_right_ℤ (pos (residue t.1 d)) (pos d *ℤ floor_div t.1 d) (at nums t.0) in
    let a = mul_assoc_ℤ (pos d) (floor_div t.1 d) (at nums t.0) in
    let e = distrib_ℤ (pos d) (floor_div t.1 d *ℤ at nums t.0) h.0 in
    (floor_div t.1 d *ℤ at nums t.0 +ℤ h.0, all (t.1 *ℤ at nums t.0) (dot_terms ts nums) (dot_terms (reduce_terms d ts) nums) (pos (residue t.1 d) *ℤ at nums t.0) (pos d *ℤ (floor_div t.1 d *ℤ at nums t.0)) (pos d *ℤ h.0) (dot_terms (reduce_terms d (t ∷ ts)) nums) (pos d *ℤ (floor_div t.1 d *ℤ at nums t.0 +ℤ h.0)) (m ∙ ap (λ (z : ℤ). pos (residue t.1 d) *ℤ at nums t.0 +ℤ z) a) h.1 p e)
  where
    all : (x y y' c u v w z : ℤ) → x ≡ c +ℤ u → y ≡ y' +ℤ v → w ≡ c +ℤ y' → z ≡ u +ℤ v → x +ℤ y ≡ w +ℤ z
    all x y y' c u v w z a b c' d' = omega (arith, ints)

reduce_dot : (d : ℕ) (f : Form) (p : Point) → 1 ≤ d → p.den ≡ 1 → (q : ℤ) × (dot f p ≡ dot (reduce d f) p +ℤ pos d *ℤ q)
reduce_dot d f p o i =
    let h = reduce_dot_terms d f.terms p.nums o in
    let s = residue_split f.constant d o in
    let a = one_times f.constant p.den i in
    let b = one_times (pos (residue f.constant d)) p.den i in
    let e = distrib_ℤ (pos d) h.0 (floor_div f.constant d) in
    (h.0 +ℤ floor_div f.constant d, omega (arith, ints))

shifted : (d : ℕ) (u v q : ℤ) → u ≡ v +ℤ pos d *ℤ q → nat_abs u % d ≡ 0 → nat_abs v % d ≡ 0
shifted d u v q e h =
    let w : d ∣ nat_abs (pos d *ℤ q) = subst (λ (k : ℕ). d ∣ k) (sym (abs_product d q)) (dvd-mul_right d (nat_abs q)) in
    mod-eq-zero_of_dvd d (subst (λ (z : ℤ). d ∣ nat_abs z) (let t : u -ℤ pos d *ℤ q ≡ v = omega (arith, ints) in t) (abs_sub_divides d u (pos d *ℤ q) (dvd_of_mod-eq-zero d h) w))

back : (d : ℕ) (u v q : ℤ) → u ≡ v +ℤ pos d *ℤ q → v ≡ u +ℤ pos d *ℤ neg_ℤ q
back d u v q e = let m : pos d *ℤ neg_ℤ q ≡ neg_ℤ (pos d *ℤ q) = simp ring in omega (arith, ints)

record Common (d : ℕ) (f : Form) (p : Point) : Type 0 where
  one : 1 ≤ common_divisor d f
  size : common_divisor d f * (d / common_divisor d f) ≡ d
  value : pos (common_divisor d f) *ℤ dot (quotient f (common_divisor d f)) p ≡ dot f p

common_is : (d : ℕ) (f : Form) (p : Point) → 1 ≤ d → Common d f p
common_is d f p o =
    let g = gcd_is d (gcd (nat_abs f.constant) (gcd_terms f.terms)) in
    let h = gcd_is (nat_abs f.constant) (gcd_terms f.terms) in
    let og = one (common_divisor d f) g.0 in
    record {
      one = og;
      size = whole_div (common_divisor d f) d og g.0;
      value = dot-quotient f (common_divisor d f) p og (divides_weaker (common_divisor d f) (gcd_terms f.terms) f.terms (dvd_trans (common_divisor d f) g.1 h.1) (gcd_divides f.terms)) (dvd_trans (common_divisor d f) g.1 h.0);
    }
  where
    one : (g : ℕ) → g ∣ d → 1 ≤ g
    one zero h = let e = eq-zero_of_zero-dvd h in absurd (omega arith)
    one (suc g) h = omega arith

pub divides_to : (d : ℕ) (f : Form) (p : Point) → 1 ≤ d → p.den ≡ 1 → Holds (Divides d f) p → Holds (Divides (d / common_divisor d (reduce d f)) (quotient (reduce d f) (common_divisor d (reduce d f)))) p
divides_to d f p o i h =
    let r = reduce_dot d f p o i in
    let c = common_is d (reduce d f) p o in
    let a = shifted d (dot f p) (dot (reduce d f) p) r.0 r.1 (sym (one_den_mod (dot f p) d p.den i) ∙ h) in
    let g : ℕ = common_divisor d (reduce d f) in
    one_den_mod (dot (quotient (reduce d f) g) p) (d / g) p.den i ∙ mod_across 1 g d (d / g) (dot (reduce d f) p) (dot (quotient (reduce d f) g) p) c.one (let z = c.size in omega arith) ((let u : pos 1 *ℤ dot (reduce d f) p ≡ dot (reduce d f) p = omega (arith, ints) in u) ∙ sym c.value) a

pub divides_from : (d : ℕ) (f : Form) (p : Point) → 1 ≤ d → p.den ≡ 1 → Holds (Divides (d / common_divisor d (reduce d f)) (quotient (reduce d f) (common_divisor d (reduce d f)))) p → Holds (Divides d f) p
divides_from d f p o i h =
    let r = reduce_dot d f p o i in
    let c = common_is d (reduce d f) p o in
    let g : ℕ = common_divisor d (reduce d f) in
    let a = mod_across g 1 (d / g) d (dot (quotient (reduce d f) g) p) (dot (reduce d f) p) (omega arith) (let z = c.size in omega arith) (c.value ∙ (let u : dot (reduce d f) p ≡ pos 1 *ℤ dot (reduce d f) p = omega (arith, ints) in u)) (sym (one_den_mod (dot (quotient (reduce d f) g) p) (d / g) p.den i) ∙ h) in
    one_den_mod (dot f p) d p.den i ∙ shifted d (dot (reduce d f) p) (dot f p) (neg_ℤ r.0) (back d (dot f p) (dot (reduce d f) p) r.0 r.1) a

-- the modulus stays 1 or more
pub modulus_one : (d : ℕ) (f : Form) → 1 ≤ d → 1 ≤ modulus_of d f
modulus_one zero f o = absurd (omega arith)
modulus_one (suc n) f o =
    let c = common_is (suc n) (reduce (suc n) f) origin o in
    by (suc n / common_divisor (suc n) (reduce (suc n) f)) (common_divisor (suc n) (reduce (suc n) f)) c.size
  where
    by : (q g : ℕ) → g * q ≡ suc n → 1 ≤ q
    by zero g e = absurd (omega arith)
    by (suc q) g e = omega arith

pub prim_from : (s : Sort) (l : Lit) (p : Point) → IsPoint s p → Holds (prim s l) p → Holds l p
prim_from Rat (AtLeast f) p q h = rat_from f p h
prim_from Rat (Above f) p q h = above_from f p h
prim_from Rat (Divides d f) p q h = h
prim_from Rat (NotDivides d f) p q h = h
prim_from Int (AtLeast f) p q h = whole_from f.terms f.terms f.constant p refl q h
prim_from Int (Above f) p q h =
    minus_one_from f p q (whole_from (minus_one f).terms (minus_one f).terms (minus_one f).constant p refl q h)
prim_from Int (Divides zero f) p q h = h
prim_from Int (Divides (suc n) f) p q h = divides_from (suc n) f p (omega arith) q h
prim_from Int (NotDivides zero f) p q h = h
prim_from Int (NotDivides (suc n) f) p q h = λ z. h (divides_to (suc n) f p (omega arith) q z)

pub prim_to : (s : Sort) (l : Lit) (p : Point) → IsPoint s p → Holds l p → Holds (prim s l) p
prim_to Rat (AtLeast f) p q h = rat_to f p h
prim_to Rat (Above f) p q h = above_to f p h
prim_to Rat (Divides d f) p q h = h
prim_to Rat (NotDivides d f) p q h = h
prim_to Int (AtLeast f) p q h = whole_to f.terms f.terms f.constant p refl q h
prim_to Int (Above f) p q h =
    whole_to (minus_one f).terms (minus_one f).terms (minus_one f).constant p refl q (minus_one_to f p q h)
prim_to Int (Divides zero f) p q h = h
prim_to Int (Divides (suc n) f) p q h = divides_to (suc n) f p (omega arith) q h
prim_to Int (NotDivides zero f) p q h = h
prim_to Int (NotDivides (suc n) f) p q h = λ z. h (divides_from (suc n) f p (omega arith) q z)

pub neg_apart : (s : Sort) (l : Lit) (p : Point) → IsOf s l → IsPoint s p → Holds (neg s l) p → Holds l p → ⊥
neg_apart s l p o q n h = opposite_apart s l p o q (prim_from s (opposite s l) p q n) h

pub neg_from : (s : Sort) (l : Lit) (p : Point) → IsOf s l → IsPoint s p → ¬ Holds l p → Holds (neg s l) p
neg_from s l p o q n = prim_to s (opposite s l) p q (opposite_from s l p o q n)
