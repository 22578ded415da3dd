-- Over the rationals: one more value over the least common denominator makes the same literals true.
use Rattle.std.specs.Prelude.{ℕ, ◌*◌, ◌/◌, ◌≤◌, ◌≡◌, ℤ, pos, ◌*ℤ◌, List, [], ◌∷◌, ◌++◌, map}
use Rattle.std.proofs.Common.{arith, ap, ap₂, ◌∙◌, sym, subst, refl}
use Rattle.std.proofs.Math.Nat.{mul-div_cancel_left}
use Rattle.std.proofs.lemmas.Int.{ints}
use Rattle.lin_term.specs.Form.{Form}
use Rattle.lin_term.specs.declared.Lit.{Lit}
use Rattle.lin_term.specs.Linear.{Point, Value, at, dot, dot_terms, extend, scale_all}
use Rattle.lin_term.specs.Literal.{Holds, form_of, gcd}
use Rattle.lin_term.proofs.Ring.{distrib_right_ℤ, mul_assoc_ℤ}
use Rattle.lin_term.proofs.Dots.{at-scale_all}
use Rattle.lin_term.proofs.Fractions.{divisor_some}
use Rattle.lin_term.proofs.PrimitiveLemmas.{gcd_is, whole_div}
use Rattle.dom_core.specs.Cube.{CubeHolds}
use Rattle.dom_core.proofs.Putting.{alike}
use Rattle.cube_elim.specs.Determined.{with_value}

abbrev point_of : ℕ → List ℤ → Point
point_of d zs = record { den = d; nums = zs }

pos_mul : (a b : ℕ) → pos a *ℤ pos b ≡ pos (a * b)
pos_mul a b = omega (arith, ints)

times_back : (z : ℤ) (a g n : ℕ) → g * a ≡ n → (z *ℤ pos a) *ℤ pos g ≡ z *ℤ pos n
times_back z a g n e = mul_assoc_ℤ z (pos a) (pos g) ∙ ap (λ (y : ℤ). z *ℤ y) (pos_mul a g ∙ ap pos (let u : a * g ≡ n = omega arith in u))

scaled_nums : (zs : List ℤ) (y : ℤ) (b g n : ℕ) → g * b ≡ n → scale_all (pos g) (map (λ z. z *ℤ pos b) zs ++ y ∷ []) ≡ scale_all (pos n) zs ++ (y *ℤ pos g) ∷ []
scaled_nums [] y b g n e = refl
scaled_nums (z ∷ zs) y b g n e = ap₂ (λ (u : ℤ) (us : List ℤ). u ∷ us) (times_back z b g n e) (scaled_nums zs y b g n e)

scaled_terms : (ts : List (ℕ × ℤ)) (nums : List ℤ) (k : ℤ) → dot_terms ts (scale_all k nums) ≡ dot_terms ts nums *ℤ k
scaled_terms [] nums k = omega (arith, ints)
scaled_terms (t ∷ ts) nums k =
    let h = scaled_terms ts nums k in
    let a = ap (λ (z : ℤ). t.1 *ℤ z) (at-scale_all k nums t.0) in
    let m = mul_assoc_ℤ t.1 (at nums t.0) k in
    let d = distrib_right_ℤ (t.1 *ℤ at nums t.0) (dot_terms ts nums) k in
    omega (arith, ints)

-- all numbers and the denominator times g
scaled_dot : (f : Form) (d g : ℕ) (nums : List ℤ) → dot f (point_of (g * d) (scale_all (pos g) nums)) ≡ pos g *ℤ dot f (point_of d nums)
scaled_dot f d g nums =
    let h = scaled_terms f.terms nums (pos g) in
    let m = mul_assoc_ℤ f.constant (pos d) (pos g) in
    let e : f.constant *ℤ (pos d *ℤ pos g) ≡ f.constant *ℤ pos (g * d) = ap (λ (z : ℤ). f.constant *ℤ z) (pos_mul d g ∙ ap pos (let u : d * g ≡ g * d = omega arith in u)) in
    let r = distrib_right_ℤ (dot_terms f.terms nums) (f.constant *ℤ pos d) (pos g) in
    omega (arith, ints)

scaled_lit : (l : Lit) (d g : ℕ) (nums : List ℤ) → 1 ≤ g → Holds l (point_of (g * d) (scale_all (pos g) nums)) → Holds l (point_of d nums)
scaled_lit l d g nums o =
    alike l (point_of d nums) (point_of (g * d) (scale_all (pos g) nums)) 1 g (omega arith) o (let u : 1 * (g * d) ≡ g * d = omega arith in u)
    (let u : pos 1 *ℤ dot (form_of l) (point_of (g * d) (scale_all (pos g) nums)) ≡ dot (form_of l) (point_of (g * d) (scale_all (pos g) nums)) = omega (arith, ints) in u ∙ scaled_dot (form_of l) d g nums)

scaled_cube : (c : List Lit) (d g : ℕ) (nums : List ℤ) → 1 ≤ g → CubeHolds c (point_of (g * d) (scale_all (pos g) nums)) → CubeHolds c (point_of d nums)
scaled_cube [] d g nums o h = tt
scaled_cube (l ∷ c) d g nums o h = (scaled_lit l d g nums o h.0, scaled_cube c d g nums o h.1)

-- the least common denominator, and what each number is multiplied by
abbrev common : Point → Value → ℕ
common e v = e.den * (v.den / gcd e.den v.den)

pub with_value_holds : (c : List Lit) (e : Point) (v : Value) → 1 ≤ e.den → 1 ≤ v.den → CubeHolds c (extend e v) → CubeHolds c (with_value e v)
with_value_holds c e v oe ov h =
    let g : ℕ = gcd e.den v.den in
    let og = divisor_some e.den v.den oe in
    let i = gcd_is e.den v.den in
    let a : ℕ = e.den / g in
    let b : ℕ = v.den / g in
    let wa = whole_div g e.den og i.0 in
    let wb = whole_div g v.den og i.1 in
    let first : common e v / e.den ≡ b = mul-div_cancel_left b {n = e.den} (omega arith) in
    let last : common e v / v.den ≡ a = ap (λ (k : ℕ). k / v.den) (same e.den v.den g a b wa wb) ∙ mul-div_cancel_left a {n = v.den} (omega arith) in
    let made : with_value e v ≡ point_of (e.den * b) (map (λ z. z *ℤ pos b) e.nums ++ (v.num *ℤ pos a) ∷ []) =
    ap₂ (λ (m k : ℕ). point_of (e.den * b) (map (λ z. z *ℤ pos m) e.nums ++ (v.num *ℤ pos k) ∷ [])) first last in
    let was : extend e v ≡ point_of (g * (e.den * b)) (scale_all (pos g) (map (λ z. z *ℤ pos b) e.nums ++ (v.num *ℤ pos a) ∷ [])) =
    ap₂ point_of (dens e.den v.den g b wb) (ap (λ (z : ℤ). scale_all (pos v.den) e.nums ++ z ∷ []) (sym (times_back v.num a g e.den wa)) ∙ sym (scaled_nums e.nums (v.num *ℤ pos a) b g v.den wb)) in
    subst (λ (p : Point). CubeHolds c p) (sym made)
    (scaled_cube c (e.den * b) g (map (λ z. z *ℤ pos b) e.nums ++ (v.num *ℤ pos a) ∷ []) og (subst (λ (p : Point). CubeHolds c p) was h))
  where
    same : (d w g a b : ℕ) → g * a ≡ d → g * b ≡ w → d * b ≡ w * a
    same d w g a b p q = ap (λ (k : ℕ). k * b) (sym p) ∙ (let u : (g * a) * b ≡ (g * b) * a = omega arith in u) ∙ ap (λ (k : ℕ). k * a) q

    dens : (d w g b : ℕ) → g * b ≡ w → d * w ≡ g * (d * b)
    dens d w g b q = ap (λ (k : ℕ). d * k) (sym q) ∙ (let u : d * (g * b) ≡ g * (d * b) = omega arith in u)
