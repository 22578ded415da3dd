-- Over the rationals: equal values make the same literals true, and the nearest whole number makes the cube true.
use Rattle.std.specs.Prelude.{ℕ, ◌*◌, ◌≤◌, ◌≡◌, ℤ, pos, ◌+ℤ◌, ◌*ℤ◌, nat_abs, nat_lt, Bool, true, false, cond, Some, List, [], ◌∷◌, ◌++◌, filter}
use Rattle.std.specs.List.{AllByRecursion, flat_map}
use Rattle.std.proofs.Common.{arith, ap, ◌∙◌, sym, subst, refl}
use Rattle.lin_term.specs.Form.{Form}
use Rattle.lin_term.specs.declared.Sort.TheVariants.{Rat}
use Rattle.lin_term.specs.declared.Lit.{Lit}
use Rattle.lin_term.specs.Linear.{Point, Value, dot, extend}
use Rattle.lin_term.specs.Literal.{Holds, form_of}
use Rattle.lin_term.specs.PutIn.{coef, rest_of}
use Rattle.lin_term.proofs.Ring.{ring}
use Rattle.dom_core.specs.Cube.{assign, CubeHolds}
use Rattle.dom_core.specs.Pick.{lowers, uppers}
use Rattle.dom_core.proofs.Assigning.{dot-assign}
use Rattle.dom_core.proofs.Putting.{alike}
use Rattle.cube_elim.specs.Determined.{all_hold_at, whole, beside, nearest_with, nearest, nearest_whole}
use Rattle.cube_elim.proofs.SoundPoints.{all_hold}

-- ---- equal values

-- by cross product
abbrev pub IsSame : Value → Value → Type 0
IsSame v w = v.num *ℤ pos w.den ≡ w.num *ℤ pos v.den

cross : (c n m R d D E : ℤ) → n *ℤ D ≡ m *ℤ d → D *ℤ (c *ℤ (n *ℤ E) +ℤ R *ℤ d) ≡ d *ℤ (c *ℤ (m *ℤ E) +ℤ R *ℤ D)
cross c n m R d D E e =
    let a : D *ℤ (c *ℤ (n *ℤ E) +ℤ R *ℤ d) ≡ c *ℤ ((n *ℤ D) *ℤ E) +ℤ R *ℤ (d *ℤ D) = simp ring in
    let b : d *ℤ (c *ℤ (m *ℤ E) +ℤ R *ℤ D) ≡ c *ℤ ((m *ℤ d) *ℤ E) +ℤ R *ℤ (d *ℤ D) = simp ring in
    a ∙ ap (λ (z : ℤ). c *ℤ (z *ℤ E) +ℤ R *ℤ (d *ℤ D)) e ∙ sym b

pub value_alike : (l : Lit) (e : Point) (x : ℕ) (v w : Value) → 1 ≤ v.den → 1 ≤ w.den → IsSame v w → Holds l (assign e x v) → Holds l (assign e x w)
value_alike l e x v w ov ow s =
    let f : Form = form_of l in
    alike l (assign e x w) (assign e x v) w.den v.den ow ov (let u : w.den * (e.den * v.den) ≡ v.den * (e.den * w.den) = omega arith in u)
    (ap (λ (z : ℤ). pos w.den *ℤ z) (dot-assign f e v x)
    ∙ cross (coef f.terms x) v.num w.num (dot (rest_of f x) e) (pos v.den) (pos w.den) (pos e.den) s
    ∙ ap (λ (z : ℤ). pos v.den *ℤ z) (sym (dot-assign f e w x)))

pub cube_alike : (c : List Lit) (e : Point) (x : ℕ) (v w : Value) → 1 ≤ v.den → 1 ≤ w.den → IsSame v w → CubeHolds c (assign e x v) → CubeHolds c (assign e x w)
cube_alike [] e x v w ov ow s h = tt
cube_alike (l ∷ c) e x v w ov ow s h = (value_alike l e x v w ov ow s h.0, cube_alike c e x v w ov ow s h.1)

-- ---- the nearest whole number

nearest_has : (P : ℤ → Type 0) (z : ℤ) (zs : List ℤ) → P z → AllByRecursion P zs → P (nearest_with z zs)
nearest_has P z [] h k = h
nearest_has P z (y ∷ ys) h k = nearest_has P (cond (nat_lt (nat_abs y) (nat_abs z)) y z) ys (by (nat_lt (nat_abs y) (nat_abs z))) k.1
  where
    by : (b : Bool) → P (cond b y z)
    by true = k.0
    by false = h

each_passes : (t : ℤ → Bool) (zs : List ℤ) → AllByRecursion (λ z. t z ≡ true) (filter t zs)
each_passes t [] = tt
each_passes t (z ∷ zs) = by (t z) refl (each_passes t zs)
  where
    by : (b : Bool) → t z ≡ b → AllByRecursion (λ y. t y ≡ true) (filter t zs) → AllByRecursion (λ y. t y ≡ true) (cond b (z ∷ filter t zs) (filter t zs))
    by true e h = (e, h)
    by false e h = h

nearest_of : (t : ℤ → Bool) (zs : List ℤ) (z : ℤ) → AllByRecursion (λ y. t y ≡ true) zs → nearest zs ≡ Some z → t z ≡ true
nearest_of t [] z h e = absurd (cc)
nearest_of t (y ∷ ys) z h e = subst (λ (u : ℤ). t u ≡ true) (some_is (nearest_with y ys) z e) (nearest_has (λ u. t u ≡ true) y ys h.0 h.1)
  where
    some_is : (a b : ℤ) → Some a ≡ Some b → a ≡ b
    some_is a b e = cc

pub nearest_holds : (x : ℕ) (c : List Lit) (p : Point) (z : ℤ) → nearest_whole x c p ≡ Some z → CubeHolds c (extend p (whole z))
nearest_holds x c p z e =
    all_hold c (extend p (whole z))
    (nearest_of (λ y. all_hold_at c (extend p (whole y))) (filter (λ y. all_hold_at c (extend p (whole y))) (pos 0 ∷ flat_map (beside p) (lowers Rat x c ++ uppers x c))) z
    (each_passes (λ y. all_hold_at c (extend p (whole y))) (pos 0 ∷ flat_map (beside p) (lowers Rat x c ++ uppers x c))) e)
