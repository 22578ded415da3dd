-- Over the rationals a cube has a solution exactly where its eliminated cube has one.
use Prim.Native.Nat.{◌∣◌}
use Rattle.std.specs.Prelude.{ℕ, zero, suc, ◌*◌, ◌/◌, ◌≤◌, ◌≡◌, ◌⊎◌, ℤ, pos, negsuc, ◌+ℤ◌, ◌-ℤ◌, ◌*ℤ◌, ◌≤ℤ◌, ◌<ℤ◌, neg_ℤ, nat_abs, Bool, true, false, ◌||◌, cond, List, [], ◌∷◌, map, filter}
use Rattle.std.specs.List.{flat_map, list_any, AllByRecursion}
use Rattle.std.proofs.Common.{arith, ap, ap₂, ◌∙◌, sym, subst, refl, inl, inr, mul-le-mul}
use Rattle.std.proofs.lemmas.Int.{ints, by_lt_z}
use Rattle.std.proofs.Math.Nat.{eq-zero_of_zero-dvd}
use lib.IntN.{*ℤ_comm}
use Rattle.lin_term.specs.Form.{Form}
use Rattle.lin_term.specs.declared.Sort.TheVariants.{Rat}
use Rattle.lin_term.specs.declared.Lit.{Lit}
use Rattle.lin_term.specs.declared.Lit.TheVariants.{AtLeast, Above, Divides, NotDivides}
use Rattle.lin_term.specs.Linear.{Point, Value, IsPoint, at, dot, plus, times}
use Rattle.lin_term.specs.Literal.{Holds, IsOf, form_of, gcd}
use Rattle.lin_term.specs.PutIn.{coef, rest_of}
use Rattle.lin_term.specs.Sum.{is_strict, inequality_with, sum_of}
use Rattle.lin_term.proofs.Ring.{ring, nonneg_mul, pos_mul, nonneg_from_mul, pos_from_mul}
use Rattle.lin_term.proofs.Dots.{dot-plus, dot-times}
use Rattle.lin_term.proofs.PrimitiveLemmas.{gcd_is, whole_div, prim_to, prim_from}
use Rattle.dom_core.specs.Cube.{assign, CubeHolds, IsCube, HasSolution}
use Rattle.dom_core.specs.Elimination.{coef_at, size_at, is_positive, is_negative, is_zero, is_lower, is_upper, is_free, resolvent, fourier_motzkin}
use Rattle.dom_core.proofs.Assigning.{split_dot, dot-assign, dot-assign_free}
use Rattle.dom_core.proofs.Cases.{each_map, each_two, each_four, each_filter, of_filter, none_passes, cube_join, cube_split}

-- ---- bounds: a*w + r*d is at least 0, or above 0

abbrev Meets : Bool → ℕ → ℤ → ℤ → ℤ → Type 0
Meets false a r w d = pos 0 ≤ℤ (pos a *ℤ w +ℤ r *ℤ d)
Meets true a r w d = pos 0 <ℤ (pos a *ℤ w +ℤ r *ℤ d)

above_zero : (n : ℕ) → 1 ≤ n → pos 0 <ℤ pos n
above_zero n h = omega (arith, ints)

crossed : (a b r s w d : ℤ) → (b *ℤ w +ℤ s *ℤ d) *ℤ a ≡ b *ℤ (a *ℤ w +ℤ r *ℤ d) +ℤ (s *ℤ a -ℤ r *ℤ b) *ℤ d
crossed a b r s w d = simp ring (omega (arith, ints))

weak_implies : (a b : ℕ) (r s w d : ℤ) → 1 ≤ a → 1 ≤ b → pos 0 <ℤ d → (r *ℤ pos b) ≤ℤ (s *ℤ pos a) → pos 0 ≤ℤ (pos a *ℤ w +ℤ r *ℤ d) → pos 0 ≤ℤ (pos b *ℤ w +ℤ s *ℤ d)
weak_implies a b r s w d oa ob od h k =
    let u = nonneg_mul (pos b) (pos a *ℤ w +ℤ r *ℤ d) (omega (arith, ints)) k in
    let v = nonneg_mul (s *ℤ pos a -ℤ r *ℤ pos b) d (omega (arith, ints)) (omega (arith, ints)) in
    nonneg_from_mul (pos b *ℤ w +ℤ s *ℤ d) (pos a) (above_zero a oa) (subst (λ (z : ℤ). pos 0 ≤ℤ z) (sym (crossed (pos a) (pos b) r s w d)) (omega (arith, ints)))

strict_implies : (a b : ℕ) (r s w d : ℤ) → 1 ≤ a → 1 ≤ b → pos 0 <ℤ d → (r *ℤ pos b) ≤ℤ (s *ℤ pos a) → pos 0 <ℤ (pos a *ℤ w +ℤ r *ℤ d) → pos 0 <ℤ (pos b *ℤ w +ℤ s *ℤ d)
strict_implies a b r s w d oa ob od h k =
    let u = pos_mul (pos b) (pos a *ℤ w +ℤ r *ℤ d) (above_zero b ob) k in
    let v = nonneg_mul (s *ℤ pos a -ℤ r *ℤ pos b) d (omega (arith, ints)) (omega (arith, ints)) in
    pos_from_mul (pos b *ℤ w +ℤ s *ℤ d) (pos a) (above_zero a oa) (subst (λ (z : ℤ). pos 0 <ℤ z) (sym (crossed (pos a) (pos b) r s w d)) (omega (arith, ints)))

less_implies : (a b : ℕ) (r s w d : ℤ) → 1 ≤ a → 1 ≤ b → pos 0 <ℤ d → (r *ℤ pos b) <ℤ (s *ℤ pos a) → pos 0 ≤ℤ (pos a *ℤ w +ℤ r *ℤ d) → pos 0 <ℤ (pos b *ℤ w +ℤ s *ℤ d)
less_implies a b r s w d oa ob od h k =
    let u = nonneg_mul (pos b) (pos a *ℤ w +ℤ r *ℤ d) (omega (arith, ints)) k in
    let v = pos_mul (s *ℤ pos a -ℤ r *ℤ pos b) d (omega (arith, ints)) od in
    pos_from_mul (pos b *ℤ w +ℤ s *ℤ d) (pos a) (above_zero a oa) (subst (λ (z : ℤ). pos 0 <ℤ z) (sym (crossed (pos a) (pos b) r s w d)) (omega (arith, ints)))

weakly : (s : Bool) (a : ℕ) (r w d : ℤ) → Meets s a r w d → pos 0 ≤ℤ (pos a *ℤ w +ℤ r *ℤ d)
weakly false a r w d h = h
weakly true a r w d h = omega (arith, ints)

of_strict : (s : Bool) (a : ℕ) (r w d : ℤ) → pos 0 <ℤ (pos a *ℤ w +ℤ r *ℤ d) → Meets s a r w d
of_strict false a r w d h = omega (arith, ints)
of_strict true a r w d h = h

abbrev Implies : Bool → ℕ → ℤ → Bool → ℕ → ℤ → Type 0
Implies s a r t b q = (w d : ℤ) → pos 0 <ℤ d → Meets s a r w d → Meets t b q w d

-- of two bounds one implies the other
stronger : (s t : Bool) (a b : ℕ) (r q : ℤ) → 1 ≤ a → 1 ≤ b → Implies s a r t b q ⊎ Implies t b q s a r
stronger s t a b r q oa ob =
    by_lt_z (r *ℤ pos b) (q *ℤ pos a)
    (λ h. inl (λ w d o k. of_strict t b q w d (less_implies a b r q w d oa ob o h (weakly s a r w d k))))
    (λ h. by_lt_z (q *ℤ pos a) (r *ℤ pos b)
    (λ g. inr (λ w d o k. of_strict s a r w d (less_implies b a q r w d ob oa o g (weakly t b q w d k))))
    (λ g. by s g h))
  where
    by : (s : Bool) → (r *ℤ pos b) ≤ℤ (q *ℤ pos a) → (q *ℤ pos a) ≤ℤ (r *ℤ pos b) → Implies s a r t b q ⊎ Implies t b q s a r
    by true g h = inl (λ w d o k. of_strict t b q w d (strict_implies a b r q w d oa ob o g k))
    by false g h = inr (λ w d o k. weak_implies b a q r w d ob oa o h (weakly t b q w d k))

-- ---- literals as bounds

abbrev rest_at : ℕ → Point → Lit → ℤ
rest_at x e l = dot (rest_of (form_of l) x) e

abbrev LitMeets : ℕ → Point → ℤ → ℤ → Lit → Type 0
LitMeets x e w d l = Meets (is_strict l) (size_at x l) (rest_at x e l) w d

positive_is : (z : ℤ) → is_positive z ≡ true → (z ≡ pos (nat_abs z)) × (1 ≤ nat_abs z)
positive_is (pos zero) e = absurd (cc)
positive_is (pos (suc k)) e = (refl, omega arith)
positive_is (negsuc k) e = absurd (cc)

negative_is : (z : ℤ) → is_negative z ≡ true → (z ≡ neg_ℤ (pos (nat_abs z))) × (1 ≤ nat_abs z)
negative_is (pos k) e = absurd (cc)
negative_is (negsuc k) e = (refl, omega arith)

pub zero_is : (z : ℤ) → is_zero z ≡ true → z ≡ pos 0
zero_is (pos zero) e = refl
zero_is (pos (suc k)) e = absurd (cc)
zero_is (negsuc k) e = absurd (cc)

pub lower_is : (x : ℕ) (l : Lit) → is_lower x l ≡ true → (coef_at x l ≡ pos (size_at x l)) × (1 ≤ size_at x l)
lower_is x (AtLeast f) e = positive_is (coef f.terms x) e
lower_is x (Above f) e = positive_is (coef f.terms x) e
lower_is x (Divides d f) e = absurd (cc)
lower_is x (NotDivides d f) e = absurd (cc)

pub upper_is : (x : ℕ) (l : Lit) → is_upper x l ≡ true → (coef_at x l ≡ neg_ℤ (pos (size_at x l))) × (1 ≤ size_at x l)
upper_is x (AtLeast f) e = negative_is (coef f.terms x) e
upper_is x (Above f) e = negative_is (coef f.terms x) e
upper_is x (Divides d f) e = absurd (cc)
upper_is x (NotDivides d f) e = absurd (cc)

-- the sign that a literal asks of its value
abbrev Signed : Lit → ℤ → Type 0
Signed (AtLeast f) z = pos 0 ≤ℤ z
Signed (Above f) z = pos 0 <ℤ z
Signed (Divides d f) z = ⊥
Signed (NotDivides d f) z = ⊥

holds_signed : (l : Lit) (p : Point) → IsOf Rat l → Holds l p → Signed l (dot (form_of l) p)
holds_signed (AtLeast f) p o h = h
holds_signed (Above f) p o h = h
holds_signed (Divides d f) p o h = absurd o
holds_signed (NotDivides d f) p o h = absurd o

signed_holds : (l : Lit) (p : Point) → Signed l (dot (form_of l) p) → Holds l p
signed_holds (AtLeast f) p h = h
signed_holds (Above f) p h = h
signed_holds (Divides d f) p h = absurd h
signed_holds (NotDivides d f) p h = absurd h

meets_of : (l : Lit) (a : ℕ) (r w d : ℤ) → Signed l (pos a *ℤ w +ℤ r *ℤ d) → Meets (is_strict l) a r w d
meets_of (AtLeast f) a r w d h = h
meets_of (Above f) a r w d h = h
meets_of (Divides n f) a r w d h = absurd h
meets_of (NotDivides n f) a r w d h = absurd h

of_meets : (l : Lit) (a : ℕ) (r w d : ℤ) → IsOf Rat l → Meets (is_strict l) a r w d → Signed l (pos a *ℤ w +ℤ r *ℤ d)
of_meets (AtLeast f) a r w d o h = h
of_meets (Above f) a r w d o h = h
of_meets (Divides n f) a r w d o h = absurd o
of_meets (NotDivides n f) a r w d o h = absurd o

lower_value : (x : ℕ) (l : Lit) (e : Point) (v : Value) → is_lower x l ≡ true → dot (form_of l) (assign e x v) ≡ pos (size_at x l) *ℤ (v.num *ℤ pos e.den) +ℤ rest_at x e l *ℤ pos v.den
lower_value x l e v t =
    dot-assign (form_of l) e v x ∙ ap (λ (c : ℤ). c *ℤ (v.num *ℤ pos e.den) +ℤ rest_at x e l *ℤ pos v.den) (lower_is x l t).0

turned : (a w : ℤ) → neg_ℤ a *ℤ w ≡ a *ℤ neg_ℤ w
turned a w = simp ring (omega (arith, ints))

upper_value : (x : ℕ) (l : Lit) (e : Point) (v : Value) → is_upper x l ≡ true → dot (form_of l) (assign e x v) ≡ pos (size_at x l) *ℤ neg_ℤ (v.num *ℤ pos e.den) +ℤ rest_at x e l *ℤ pos v.den
upper_value x l e v t =
    dot-assign (form_of l) e v x ∙ ap (λ (c : ℤ). c *ℤ (v.num *ℤ pos e.den) +ℤ rest_at x e l *ℤ pos v.den) (upper_is x l t).0
    ∙ ap (λ (z : ℤ). z +ℤ rest_at x e l *ℤ pos v.den) (turned (pos (size_at x l)) (v.num *ℤ pos e.den))

lower_to : (x : ℕ) (l : Lit) (e : Point) (v : Value) → IsOf Rat l → is_lower x l ≡ true → Holds l (assign e x v) → LitMeets x e (v.num *ℤ pos e.den) (pos v.den) l
lower_to x l e v o t h =
    meets_of l (size_at x l) (rest_at x e l) (v.num *ℤ pos e.den) (pos v.den) (subst (λ (z : ℤ). Signed l z) (lower_value x l e v t) (holds_signed l (assign e x v) o h))

lower_from : (x : ℕ) (l : Lit) (e : Point) (v : Value) → IsOf Rat l → is_lower x l ≡ true → LitMeets x e (v.num *ℤ pos e.den) (pos v.den) l → Holds l (assign e x v)
lower_from x l e v o t h =
    signed_holds l (assign e x v) (subst (λ (z : ℤ). Signed l z) (sym (lower_value x l e v t)) (of_meets l (size_at x l) (rest_at x e l) (v.num *ℤ pos e.den) (pos v.den) o h))

upper_to : (x : ℕ) (l : Lit) (e : Point) (v : Value) → IsOf Rat l → is_upper x l ≡ true → Holds l (assign e x v) → LitMeets x e (neg_ℤ (v.num *ℤ pos e.den)) (pos v.den) l
upper_to x l e v o t h =
    meets_of l (size_at x l) (rest_at x e l) (neg_ℤ (v.num *ℤ pos e.den)) (pos v.den) (subst (λ (z : ℤ). Signed l z) (upper_value x l e v t) (holds_signed l (assign e x v) o h))

upper_from : (x : ℕ) (l : Lit) (e : Point) (v : Value) → IsOf Rat l → is_upper x l ≡ true → LitMeets x e (neg_ℤ (v.num *ℤ pos e.den)) (pos v.den) l → Holds l (assign e x v)
upper_from x l e v o t h =
    signed_holds l (assign e x v) (subst (λ (z : ℤ). Signed l z) (sym (upper_value x l e v t)) (of_meets l (size_at x l) (rest_at x e l) (neg_ℤ (v.num *ℤ pos e.den)) (pos v.den) o h))

free_to : (x : ℕ) (l : Lit) (e : Point) (v : Value) → 1 ≤ v.den → IsOf Rat l → is_free x l ≡ true → Holds l (assign e x v) → Holds l e
free_to x (AtLeast f) e v od o t h =
    nonneg_from_mul (dot f e) (pos v.den) (above_zero v.den od) (subst (λ (z : ℤ). pos 0 ≤ℤ z) (dot-assign_free f e v x (zero_is (coef f.terms x) t)) h)
free_to x (Above f) e v od o t h =
    pos_from_mul (dot f e) (pos v.den) (above_zero v.den od) (subst (λ (z : ℤ). pos 0 <ℤ z) (dot-assign_free f e v x (zero_is (coef f.terms x) t)) h)
free_to x (Divides d f) e v od o t h = absurd o
free_to x (NotDivides d f) e v od o t h = absurd o

free_from : (x : ℕ) (l : Lit) (e : Point) (v : Value) → 1 ≤ v.den → IsOf Rat l → is_free x l ≡ true → Holds l e → Holds l (assign e x v)
free_from x (AtLeast f) e v od o t h =
    subst (λ (z : ℤ). pos 0 ≤ℤ z) (sym (dot-assign_free f e v x (zero_is (coef f.terms x) t))) (nonneg_mul (dot f e) (pos v.den) h (omega (arith, ints)))
free_from x (Above f) e v od o t h =
    subst (λ (z : ℤ). pos 0 <ℤ z) (sym (dot-assign_free f e v x (zero_is (coef f.terms x) t))) (pos_mul (dot f e) (pos v.den) h (above_zero v.den od))
free_from x (Divides d f) e v od o t h = absurd o
free_from x (NotDivides d f) e v od o t h = absurd o

-- ---- the strongest of some bounds

record Strongest (p : Lit → Bool) (x : ℕ) (e : Point) (c : List Lit) : Type 1 where
  lit : Lit
  passes : p lit ≡ true
  among : (F : Lit → Type 0) → AllByRecursion F c → F lit
  implies : (w d : ℤ) → pos 0 <ℤ d → LitMeets x e w d lit → AllByRecursion (λ m. p m ≡ true → LitMeets x e w d m) c

strongest : (p : Lit → Bool) (x : ℕ) (e : Point) (c : List Lit) → ((l : Lit) → p l ≡ true → 1 ≤ size_at x l) → list_any p c ≡ true → Strongest p x e c
strongest p x e [] z t = absurd (cc)
strongest p x e (l ∷ c) z t = by (p l) (list_any p c) refl refl t (λ u. strongest p x e c z u)
  where
    by : (a b : Bool) → p l ≡ a → list_any p c ≡ b → (a || b) ≡ true → (list_any p c ≡ true → Strongest p x e c) → Strongest p x e (l ∷ c)
    by true true q r t k =
        let f = k r in
        elim (stronger (is_strict l) (is_strict f.lit) (size_at x l) (size_at x f.lit) (rest_at x e l) (rest_at x e f.lit) (z l q) (z f.lit f.passes)) [
          | inl i ↦ record { lit = l; passes = q; among = (λ F h. h.0); implies = (λ w d o m. (λ s. m, f.implies w d o (i w d o m))) }
          | inr i ↦ record { lit = f.lit; passes = f.passes; among = (λ F h. f.among F h.1); implies = (λ w d o m. (λ s. i w d o m, f.implies w d o m)) }
        ]
    by true false q r t k =
        record { lit = l; passes = q; among = (λ F h. h.0); implies = (λ w d o m. (λ s. m, each_map (λ u. p u ≡ false) (λ u. p u ≡ true → LitMeets x e w d u) c (λ u j s. absurd (let y : false ≡ true = sym j ∙ s in cc)) (none_passes p c r))) }
    by false true q r t k =
        let f = k r in
        record { lit = f.lit; passes = f.passes; among = (λ F h. f.among F h.1); implies = (λ w d o m. (λ s. absurd (let y : false ≡ true = sym q ∙ s in cc), f.implies w d o m)) }
    by false false q r t k = absurd (cc)

-- ---- the sum of a lower and an upper literal

record Factors (a b : ℕ) : Type 0 where
  left : gcd a b * (a / gcd a b) ≡ a
  right : gcd a b * (b / gcd a b) ≡ b
  one : 1 ≤ gcd a b

factors : (a b : ℕ) → 1 ≤ a → Factors a b
factors a b oa =
    let g = gcd_is a b in
    let og = one (gcd a b) g.0 in
    record { left = whole_div (gcd a b) a og g.0; right = whole_div (gcd a b) b og g.1; one = og }
  where
    one : (g : ℕ) → g ∣ a → 1 ≤ g
    one zero h = let e = eq-zero_of_zero-dvd h in absurd (omega arith)
    one (suc g) h = omega arith

dot-sum : (p q : ℤ) (f g : Form) (e : Point) → dot (plus (times p f) (times q g)) e ≡ p *ℤ dot f e +ℤ q *ℤ dot g e
dot-sum p q f g e = dot-plus (times p f) (times q g) e ∙ ap₂ (λ (y z : ℤ). y +ℤ z) (dot-times p f e) (dot-times q g e)

sum_form : ℕ → Lit → Lit → Form
sum_form x l u =
    plus (times (pos (size_at x u / gcd (size_at x l) (size_at x u))) (form_of l)) (times (pos (size_at x l / gcd (size_at x l) (size_at x u))) (form_of u))

-- b*r + a*s
abbrev cross : ℕ → Point → Lit → Lit → ℤ
cross x e l u = pos (size_at x u) *ℤ rest_at x e l +ℤ pos (size_at x l) *ℤ rest_at x e u

sum_value : (x : ℕ) (e : Point) (l u : Lit) → is_lower x l ≡ true → is_upper x u ≡ true → pos (gcd (size_at x l) (size_at x u)) *ℤ dot (sum_form x l u) e ≡ cross x e l u
unfolding sum_form
sum_value x e l u t v =
    let a : ℕ = size_at x l in
    let b : ℕ = size_at x u in
    let g : ℕ = gcd a b in
    let k = factors a b (lower_is x l t).1 in
    let f = split_dot (form_of l) x e ∙ ap (λ (c : ℤ). c *ℤ at e.nums x +ℤ rest_at x e l) (lower_is x l t).0 in
    let h = split_dot (form_of u) x e ∙ ap (λ (c : ℤ). c *ℤ at e.nums x +ℤ rest_at x e u) (upper_is x u v).0 in
    let p : pos g *ℤ pos (b / g) ≡ pos b = (let y : pos g *ℤ pos (b / g) ≡ pos (g * (b / g)) = omega (arith, ints) in y) ∙ ap pos k.right in
    let q : pos g *ℤ pos (a / g) ≡ pos a = (let y : pos g *ℤ pos (a / g) ≡ pos (g * (a / g)) = omega (arith, ints) in y) ∙ ap pos k.left in
    ap (λ (z : ℤ). pos g *ℤ z) (dot-sum (pos (b / g)) (pos (a / g)) (form_of l) (form_of u) e)
    ∙ split (pos g) (pos (b / g)) (pos (a / g)) (dot (form_of l) e) (dot (form_of u) e)
    ∙ ap₂ (λ (y z : ℤ). y *ℤ dot (form_of l) e +ℤ z *ℤ dot (form_of u) e) p q
    ∙ ap₂ (λ (y z : ℤ). pos b *ℤ y +ℤ pos a *ℤ z) f h
    ∙ cancel (pos a) (pos b) (at e.nums x) (rest_at x e l) (rest_at x e u)
  where
    split : (g p q y z : ℤ) → g *ℤ (p *ℤ y +ℤ q *ℤ z) ≡ (g *ℤ p) *ℤ y +ℤ (g *ℤ q) *ℤ z
    split g p q y z = simp ring

    cancel : (a b w r s : ℤ) → b *ℤ (a *ℤ w +ℤ r) +ℤ a *ℤ (neg_ℤ b *ℤ w +ℤ s) ≡ b *ℤ r +ℤ a *ℤ s
    cancel a b w r s = simp ring (omega (arith, ints))

-- the sign of the sum: strict where one of the two is
abbrev BothSigned : Lit → Lit → ℤ → Type 0
BothSigned l u z = cond (is_strict l || is_strict u) (pos 0 <ℤ z) (pos 0 ≤ℤ z)

sum_holds : (l u : Lit) (h : Form) (e : Point) (g : ℕ) (z : ℤ) → 1 ≤ g → pos g *ℤ dot h e ≡ z → IsOf Rat l → IsOf Rat u → BothSigned l u z → Holds (inequality_with (is_strict l || is_strict u) h) e
sum_holds (AtLeast f) (AtLeast k) h e g z og q ol ou s = nonneg_from_mul (dot h e) (pos g) (above_zero g og) (subst (λ (y : ℤ). pos 0 ≤ℤ y) (sym q ∙ *ℤ_comm (pos g) (dot h e)) s)
sum_holds (AtLeast f) (Above k) h e g z og q ol ou s = pos_from_mul (dot h e) (pos g) (above_zero g og) (subst (λ (y : ℤ). pos 0 <ℤ y) (sym q ∙ *ℤ_comm (pos g) (dot h e)) s)
sum_holds (Above f) (AtLeast k) h e g z og q ol ou s = pos_from_mul (dot h e) (pos g) (above_zero g og) (subst (λ (y : ℤ). pos 0 <ℤ y) (sym q ∙ *ℤ_comm (pos g) (dot h e)) s)
sum_holds (Above f) (Above k) h e g z og q ol ou s = pos_from_mul (dot h e) (pos g) (above_zero g og) (subst (λ (y : ℤ). pos 0 <ℤ y) (sym q ∙ *ℤ_comm (pos g) (dot h e)) s)
sum_holds (AtLeast f) (Divides n k) h e g z og q ol ou s = absurd ou
sum_holds (AtLeast f) (NotDivides n k) h e g z og q ol ou s = absurd ou
sum_holds (Above f) (Divides n k) h e g z og q ol ou s = absurd ou
sum_holds (Above f) (NotDivides n k) h e g z og q ol ou s = absurd ou
sum_holds (Divides n f) u h e g z og q ol ou s = absurd ol
sum_holds (NotDivides n f) u h e g z og q ol ou s = absurd ol

sum_signed : (l u : Lit) (h : Form) (e : Point) (g : ℕ) (z : ℤ) → 1 ≤ g → pos g *ℤ dot h e ≡ z → IsOf Rat l → IsOf Rat u → Holds (inequality_with (is_strict l || is_strict u) h) e → BothSigned l u z
sum_signed (AtLeast f) (AtLeast k) h e g z og q ol ou s = subst (λ (y : ℤ). pos 0 ≤ℤ y) q (nonneg_mul (pos g) (dot h e) (omega (arith, ints)) s)
sum_signed (AtLeast f) (Above k) h e g z og q ol ou s = subst (λ (y : ℤ). pos 0 <ℤ y) q (pos_mul (pos g) (dot h e) (above_zero g og) s)
sum_signed (Above f) (AtLeast k) h e g z og q ol ou s = subst (λ (y : ℤ). pos 0 <ℤ y) q (pos_mul (pos g) (dot h e) (above_zero g og) s)
sum_signed (Above f) (Above k) h e g z og q ol ou s = subst (λ (y : ℤ). pos 0 <ℤ y) q (pos_mul (pos g) (dot h e) (above_zero g og) s)
sum_signed (AtLeast f) (Divides n k) h e g z og q ol ou s = absurd ou
sum_signed (AtLeast f) (NotDivides n k) h e g z og q ol ou s = absurd ou
sum_signed (Above f) (Divides n k) h e g z og q ol ou s = absurd ou
sum_signed (Above f) (NotDivides n k) h e g z og q ol ou s = absurd ou
sum_signed (Divides n f) u h e g z og q ol ou s = absurd ol
sum_signed (NotDivides n f) u h e g z og q ol ou s = absurd ol

-- where both are met, their sum is
summed : (s t : Bool) (a b : ℕ) (r q w d : ℤ) → 1 ≤ a → 1 ≤ b → pos 0 <ℤ d → Meets s a r w d → Meets t b q (neg_ℤ w) d → cond (s || t) (pos 0 <ℤ (pos b *ℤ r +ℤ pos a *ℤ q)) (pos 0 ≤ℤ (pos b *ℤ r +ℤ pos a *ℤ q))
summed s t a b r q w d oa ob od h k = by s t h k
  where
    same : pos b *ℤ (pos a *ℤ w +ℤ r *ℤ d) +ℤ pos a *ℤ (pos b *ℤ neg_ℤ w +ℤ q *ℤ d) ≡ (pos b *ℤ r +ℤ pos a *ℤ q) *ℤ d
    same = all (pos a) (pos b) r q w d
      where
        all : (a b r q w d : ℤ) → b *ℤ (a *ℤ w +ℤ r *ℤ d) +ℤ a *ℤ (b *ℤ neg_ℤ w +ℤ q *ℤ d) ≡ (b *ℤ r +ℤ a *ℤ q) *ℤ d
        all a b r q w d = simp ring (omega (arith, ints))

    strict : pos 0 <ℤ (pos b *ℤ (pos a *ℤ w +ℤ r *ℤ d) +ℤ pos a *ℤ (pos b *ℤ neg_ℤ w +ℤ q *ℤ d)) → pos 0 <ℤ (pos b *ℤ r +ℤ pos a *ℤ q)
    strict z = pos_from_mul (pos b *ℤ r +ℤ pos a *ℤ q) d od (subst (λ (y : ℤ). pos 0 <ℤ y) same z)

    by : (s t : Bool) → Meets s a r w d → Meets t b q (neg_ℤ w) d → cond (s || t) (pos 0 <ℤ (pos b *ℤ r +ℤ pos a *ℤ q)) (pos 0 ≤ℤ (pos b *ℤ r +ℤ pos a *ℤ q))
    by false false h k =
        let u = nonneg_mul (pos b) (pos a *ℤ w +ℤ r *ℤ d) (omega (arith, ints)) h in
        let v = nonneg_mul (pos a) (pos b *ℤ neg_ℤ w +ℤ q *ℤ d) (omega (arith, ints)) k in
        nonneg_from_mul (pos b *ℤ r +ℤ pos a *ℤ q) d od (subst (λ (y : ℤ). pos 0 ≤ℤ y) same (omega (arith, ints)))
    by false true h k =
        let u = nonneg_mul (pos b) (pos a *ℤ w +ℤ r *ℤ d) (omega (arith, ints)) h in
        let v = pos_mul (pos a) (pos b *ℤ neg_ℤ w +ℤ q *ℤ d) (above_zero a oa) k in
        strict (omega (arith, ints))
    by true false h k =
        let u = pos_mul (pos b) (pos a *ℤ w +ℤ r *ℤ d) (above_zero b ob) h in
        let v = nonneg_mul (pos a) (pos b *ℤ neg_ℤ w +ℤ q *ℤ d) (omega (arith, ints)) k in
        strict (omega (arith, ints))
    by true true h k =
        let u = pos_mul (pos b) (pos a *ℤ w +ℤ r *ℤ d) (above_zero b ob) h in
        let v = pos_mul (pos a) (pos b *ℤ neg_ℤ w +ℤ q *ℤ d) (above_zero a oa) k in
        strict (omega (arith, ints))

resolvent_to : (x : ℕ) (e : Point) (l u : Lit) (w d : ℤ) → IsPoint Rat e → IsOf Rat l → IsOf Rat u → is_lower x l ≡ true → is_upper x u ≡ true → pos 0 <ℤ d → LitMeets x e w d l → LitMeets x e (neg_ℤ w) d u → Holds (resolvent x l u) e
unfolding sum_form
resolvent_to x e l u w d i ol ou tl tu od h k =
    prim_to Rat (sum_of (pos (size_at x u / gcd (size_at x l) (size_at x u))) l (pos (size_at x l / gcd (size_at x l) (size_at x u))) u) e i
    (sum_holds l u (sum_form x l u) e (gcd (size_at x l) (size_at x u)) (cross x e l u) (factors (size_at x l) (size_at x u) (lower_is x l tl).1).one (sum_value x e l u tl tu) ol ou
    (summed (is_strict l) (is_strict u) (size_at x l) (size_at x u) (rest_at x e l) (rest_at x e u) w d (lower_is x l tl).1 (upper_is x u tu).1 od h k))

resolvent_from : (x : ℕ) (e : Point) (l u : Lit) → IsPoint Rat e → IsOf Rat l → IsOf Rat u → is_lower x l ≡ true → is_upper x u ≡ true → Holds (resolvent x l u) e → BothSigned l u (cross x e l u)
unfolding sum_form
resolvent_from x e l u i ol ou tl tu h =
    sum_signed l u (sum_form x l u) e (gcd (size_at x l) (size_at x u)) (cross x e l u) (factors (size_at x l) (size_at x u) (lower_is x l tl).1).one (sum_value x e l u tl tu) ol ou
    (prim_from Rat (sum_of (pos (size_at x u / gcd (size_at x l) (size_at x u))) l (pos (size_at x l / gcd (size_at x l) (size_at x u))) u) e i h)

-- ---- the sums of all pairs

pairs_to : (g : Lit → Lit → Lit) (ls us : List Lit) (e : Point) → AllByRecursion (λ l. AllByRecursion (λ u. Holds (g l u) e) us) ls → CubeHolds (flat_map (λ l. map (λ u. g l u) us) ls) e
pairs_to g [] us e h = tt
pairs_to g (l ∷ ls) us e h = cube_join (map (λ u. g l u) us) (flat_map (λ l. map (λ u. g l u) us) ls) e (row us h.0) (pairs_to g ls us e h.1)
  where
    row : (us : List Lit) → AllByRecursion (λ u. Holds (g l u) e) us → CubeHolds (map (λ u. g l u) us) e
    row [] k = tt
    row (u ∷ us) k = (k.0, row us k.1)

pairs_from : (g : Lit → Lit → Lit) (ls us : List Lit) (e : Point) → CubeHolds (flat_map (λ l. map (λ u. g l u) us) ls) e → AllByRecursion (λ l. AllByRecursion (λ u. Holds (g l u) e) us) ls
pairs_from g [] us e h = tt
pairs_from g (l ∷ ls) us e h =
    let k = cube_split (map (λ u. g l u) us) (flat_map (λ l. map (λ u. g l u) us) ls) e h in
    (row us k.0, pairs_from g ls us e k.1)
  where
    row : (us : List Lit) → CubeHolds (map (λ u. g l u) us) e → AllByRecursion (λ u. Holds (g l u) e) us
    row [] k = tt
    row (u ∷ us) k = (k.0, row us k.1)

-- ---- forward

pub fourier_motzkin_to : (c : List Lit) (x : ℕ) (e : Point) (v : Value) → IsPoint Rat e → IsCube Rat c → 1 ≤ v.den → CubeHolds c (assign e x v) → CubeHolds (fourier_motzkin c x) e
fourier_motzkin_to c x e v i o ov h =
    let k = each_two (IsOf Rat) (λ l. Holds l (assign e x v)) (λ l. IsOf Rat l × Holds l (assign e x v)) c (λ l a b. (a, b)) o h in
    let w : ℤ = v.num *ℤ pos e.den in
    let lows = each_filter (λ l. IsOf Rat l × Holds l (assign e x v)) (λ l. (is_lower x l ≡ true) × IsOf Rat l × LitMeets x e w (pos v.den) l) (is_lower x) c (λ l t a. (t, a.0, lower_to x l e v a.0 t a.1)) k in
    let highs = each_filter (λ l. IsOf Rat l × Holds l (assign e x v)) (λ l. (is_upper x l ≡ true) × IsOf Rat l × LitMeets x e (neg_ℤ w) (pos v.den) l) (is_upper x) c (λ l t a. (t, a.0, upper_to x l e v a.0 t a.1)) k in
    cube_join (filter (is_free x) c) (flat_map (λ l. map (λ u. resolvent x l u) (filter (is_upper x) c)) (filter (is_lower x) c)) e
    (each_filter (λ l. IsOf Rat l × Holds l (assign e x v)) (λ l. Holds l e) (is_free x) c (λ l t a. free_to x l e v ov a.0 t a.1) k)
    (pairs_to (resolvent x) (filter (is_lower x) c) (filter (is_upper x) c) e
    (each_map (λ l. (is_lower x l ≡ true) × IsOf Rat l × LitMeets x e w (pos v.den) l) (λ l. AllByRecursion (λ u. Holds (resolvent x l u) e) (filter (is_upper x) c)) (filter (is_lower x) c)
    (λ l a. each_map (λ u. (is_upper x u ≡ true) × IsOf Rat u × LitMeets x e (neg_ℤ w) (pos v.den) u) (λ u. Holds (resolvent x l u) e) (filter (is_upper x) c)
    (λ u b. resolvent_to x e l u w (pos v.den) i a.1 b.1 a.0 b.0 (above_zero v.den ov) a.2 b.2) highs) lows))

-- ---- back: a value between the bounds

one_times_two : (a b n : ℕ) → 1 ≤ a → 1 ≤ b → 1 ≤ n → 1 ≤ 2 * (a * b) * n
one_times_two a b n oa ob on = let p = mul-le-mul (mul-le-mul oa ob) on in omega arith

-- each literal is met by the value
abbrev Met : ℕ → Point → Value → List Lit → Type 0
Met x e v c = AllByRecursion (λ l. is_lower x l ≡ true → LitMeets x e (v.num *ℤ pos e.den) (pos v.den) l) c × AllByRecursion (λ l. is_upper x l ≡ true → LitMeets x e (neg_ℤ (v.num *ℤ pos e.den)) (pos v.den) l) c

record Between (x : ℕ) (e : Point) (c : List Lit) : Type 0 where
  value : Value
  one : 1 ≤ value.den
  met : Met x e value c

no_bound : (p : Lit → Bool) (F : Lit → Type 0) (c : List Lit) → list_any p c ≡ false → AllByRecursion (λ l. p l ≡ true → F l) c
no_bound p F c t = each_map (λ l. p l ≡ false) (λ l. p l ≡ true → F l) c (λ l j s. absurd (let y : false ≡ true = sym j ∙ s in cc)) (none_passes p c t)

abbrev fraction : ℤ → ℕ → Value
fraction n d = record { num = n; den = d }

-- one more than the greatest lower bound
raised : (a n : ℕ) (r : ℤ) → 1 ≤ a → 1 ≤ n → pos 0 <ℤ (pos a *ℤ ((pos a -ℤ r) *ℤ pos n) +ℤ r *ℤ pos (a * n))
raised a n r oa on =
    let p = pos_mul (pos a *ℤ pos a) (pos n) (pos_mul (pos a) (pos a) (above_zero a oa) (above_zero a oa)) (above_zero n on) in
    let q : pos (a * n) ≡ pos a *ℤ pos n = omega (arith, ints) in
    subst (λ (z : ℤ). pos 0 <ℤ z) (sym (ap (λ (z : ℤ). pos a *ℤ ((pos a -ℤ r) *ℤ pos n) +ℤ r *ℤ z) q ∙ all (pos a) (pos n) r)) p
  where
    all : (a n r : ℤ) → a *ℤ ((a -ℤ r) *ℤ n) +ℤ r *ℤ (a *ℤ n) ≡ (a *ℤ a) *ℤ n
    all a n r = simp ring (omega (arith, ints))

-- one less than the least upper bound
lowered : (b n : ℕ) (s : ℤ) → 1 ≤ b → 1 ≤ n → pos 0 <ℤ (pos b *ℤ neg_ℤ ((s -ℤ pos b) *ℤ pos n) +ℤ s *ℤ pos (b * n))
lowered b n s ob on =
    let p = pos_mul (pos b *ℤ pos b) (pos n) (pos_mul (pos b) (pos b) (above_zero b ob) (above_zero b ob)) (above_zero n on) in
    let q : pos (b * n) ≡ pos b *ℤ pos n = omega (arith, ints) in
    subst (λ (z : ℤ). pos 0 <ℤ z) (sym (ap (λ (z : ℤ). pos b *ℤ neg_ℤ ((s -ℤ pos b) *ℤ pos n) +ℤ s *ℤ z) q ∙ all (pos b) (pos n) s)) p
  where
    all : (b n s : ℤ) → b *ℤ neg_ℤ ((s -ℤ b) *ℤ n) +ℤ s *ℤ (b *ℤ n) ≡ (b *ℤ b) *ℤ n
    all b n s = simp ring (omega (arith, ints))

-- in the middle both are met as far as their sum is
middle_low : (a b n : ℕ) (r s : ℤ) → pos a *ℤ ((s *ℤ pos a -ℤ r *ℤ pos b) *ℤ pos n) +ℤ r *ℤ pos (2 * (a * b) * n) ≡ (pos b *ℤ r +ℤ pos a *ℤ s) *ℤ pos (a * n)
middle_low a b n r s =
    let q : pos (2 * (a * b) * n) ≡ (pos a *ℤ pos b) *ℤ pos n +ℤ (pos a *ℤ pos b) *ℤ pos n = omega (arith, ints) in
    let q' : pos (a * n) ≡ pos a *ℤ pos n = omega (arith, ints) in
    ap (λ (z : ℤ). pos a *ℤ ((s *ℤ pos a -ℤ r *ℤ pos b) *ℤ pos n) +ℤ r *ℤ z) q ∙ all (pos a) (pos b) (pos n) r s ∙ ap (λ (z : ℤ). (pos b *ℤ r +ℤ pos a *ℤ s) *ℤ z) (sym q')
  where
    all : (a b n r s : ℤ) → a *ℤ ((s *ℤ a -ℤ r *ℤ b) *ℤ n) +ℤ r *ℤ ((a *ℤ b) *ℤ n +ℤ (a *ℤ b) *ℤ n) ≡ (b *ℤ r +ℤ a *ℤ s) *ℤ (a *ℤ n)
    all a b n r s = simp ring (omega (arith, ints))

middle_high : (a b n : ℕ) (r s : ℤ) → pos b *ℤ neg_ℤ ((s *ℤ pos a -ℤ r *ℤ pos b) *ℤ pos n) +ℤ s *ℤ pos (2 * (a * b) * n) ≡ (pos b *ℤ r +ℤ pos a *ℤ s) *ℤ pos (b * n)
middle_high a b n r s =
    let q : pos (2 * (a * b) * n) ≡ (pos a *ℤ pos b) *ℤ pos n +ℤ (pos a *ℤ pos b) *ℤ pos n = omega (arith, ints) in
    let q' : pos (b * n) ≡ pos b *ℤ pos n = omega (arith, ints) in
    ap (λ (z : ℤ). pos b *ℤ neg_ℤ ((s *ℤ pos a -ℤ r *ℤ pos b) *ℤ pos n) +ℤ s *ℤ z) q ∙ all (pos a) (pos b) (pos n) r s ∙ ap (λ (z : ℤ). (pos b *ℤ r +ℤ pos a *ℤ s) *ℤ z) (sym q')
  where
    all : (a b n r s : ℤ) → b *ℤ neg_ℤ ((s *ℤ a -ℤ r *ℤ b) *ℤ n) +ℤ s *ℤ ((a *ℤ b) *ℤ n +ℤ (a *ℤ b) *ℤ n) ≡ (b *ℤ r +ℤ a *ℤ s) *ℤ (b *ℤ n)
    all a b n r s = simp ring (omega (arith, ints))

-- the sign of the sum gives each bound's own sign
sign_low : (s t : Bool) (a : ℕ) (r w d z : ℤ) (m : ℕ) → 1 ≤ m → pos a *ℤ w +ℤ r *ℤ d ≡ z *ℤ pos m → cond (s || t) (pos 0 <ℤ z) (pos 0 ≤ℤ z) → Meets s a r w d
sign_low false false a r w d z m om q h = subst (λ (y : ℤ). pos 0 ≤ℤ y) (sym q) (nonneg_mul z (pos m) h (omega (arith, ints)))
sign_low false true a r w d z m om q h = subst (λ (y : ℤ). pos 0 ≤ℤ y) (sym q) (nonneg_mul z (pos m) (omega (arith, ints)) (omega (arith, ints)))
sign_low true t a r w d z m om q h = subst (λ (y : ℤ). pos 0 <ℤ y) (sym q) (pos_mul z (pos m) h (above_zero m om))

sign_high : (s t : Bool) (b : ℕ) (r w d z : ℤ) (m : ℕ) → 1 ≤ m → pos b *ℤ w +ℤ r *ℤ d ≡ z *ℤ pos m → cond (s || t) (pos 0 <ℤ z) (pos 0 ≤ℤ z) → Meets t b r w d
sign_high false false b r w d z m om q h = subst (λ (y : ℤ). pos 0 ≤ℤ y) (sym q) (nonneg_mul z (pos m) h (omega (arith, ints)))
sign_high false true b r w d z m om q h = subst (λ (y : ℤ). pos 0 <ℤ y) (sym q) (pos_mul z (pos m) h (above_zero m om))
sign_high true false b r w d z m om q h = subst (λ (y : ℤ). pos 0 ≤ℤ y) (sym q) (nonneg_mul z (pos m) (omega (arith, ints)) (omega (arith, ints)))
sign_high true true b r w d z m om q h = subst (λ (y : ℤ). pos 0 <ℤ y) (sym q) (pos_mul z (pos m) h (above_zero m om))

above_low : (x : ℕ) (e : Point) (c : List Lit) → IsPoint Rat e → list_any (is_lower x) c ≡ true → list_any (is_upper x) c ≡ false → Between x e c
above_low x e c i tl tu =
    let l = strongest (is_lower x) x e c (λ m t. (lower_is x m t).1) tl in
    let a : ℕ = size_at x l.lit in
    let oa = (lower_is x l.lit l.passes).1 in
    let v : Value = fraction (pos a -ℤ rest_at x e l.lit) (a * e.den) in
    record {
      value = v;
      one = mul-le-mul oa i;
      met = (
        l.implies (v.num *ℤ pos e.den) (pos v.den) (above_zero v.den (mul-le-mul oa i)) (of_strict (is_strict l.lit) a (rest_at x e l.lit) (v.num *ℤ pos e.den) (pos v.den) (raised a e.den (rest_at x e l.lit) oa i)),
        no_bound (is_upper x) (λ u. LitMeets x e (neg_ℤ (v.num *ℤ pos e.den)) (pos v.den) u) c tu,
      );
    }

below_high : (x : ℕ) (e : Point) (c : List Lit) → IsPoint Rat e → list_any (is_lower x) c ≡ false → list_any (is_upper x) c ≡ true → Between x e c
below_high x e c i tl tu =
    let u = strongest (is_upper x) x e c (λ m t. (upper_is x m t).1) tu in
    let b : ℕ = size_at x u.lit in
    let ob = (upper_is x u.lit u.passes).1 in
    let v : Value = fraction (rest_at x e u.lit -ℤ pos b) (b * e.den) in
    record {
      value = v;
      one = mul-le-mul ob i;
      met = (
        no_bound (is_lower x) (λ l. LitMeets x e (v.num *ℤ pos e.den) (pos v.den) l) c tl,
        u.implies (neg_ℤ (v.num *ℤ pos e.den)) (pos v.den) (above_zero v.den (mul-le-mul ob i)) (of_strict (is_strict u.lit) b (rest_at x e u.lit) (neg_ℤ (v.num *ℤ pos e.den)) (pos v.den) (lowered b e.den (rest_at x e u.lit) ob i)),
      );
    }

-- what the sums say of each lower and each upper literal
abbrev Crossing : ℕ → Point → List Lit → Type 0
Crossing x e c = AllByRecursion (λ l. IsOf Rat l × (is_lower x l ≡ true → AllByRecursion (λ u. IsOf Rat u × (is_upper x u ≡ true → Holds (resolvent x l u) e)) c)) c

in_middle : (x : ℕ) (e : Point) (c : List Lit) → IsPoint Rat e → Crossing x e c → list_any (is_lower x) c ≡ true → list_any (is_upper x) c ≡ true → Between x e c
in_middle x e c i k tl tu =
    let l = strongest (is_lower x) x e c (λ m t. (lower_is x m t).1) tl in
    let u = strongest (is_upper x) x e c (λ m t. (upper_is x m t).1) tu in
    let a : ℕ = size_at x l.lit in
    let b : ℕ = size_at x u.lit in
    let oa = (lower_is x l.lit l.passes).1 in
    let ob = (upper_is x u.lit u.passes).1 in
    let r : ℤ = rest_at x e l.lit in
    let s : ℤ = rest_at x e u.lit in
    let h = l.among (λ l. IsOf Rat l × (is_lower x l ≡ true → AllByRecursion (λ u. IsOf Rat u × (is_upper x u ≡ true → Holds (resolvent x l u) e)) c)) k in
    let g = u.among (λ u. IsOf Rat u × (is_upper x u ≡ true → Holds (resolvent x l.lit u) e)) (h.1 l.passes) in
    let z = resolvent_from x e l.lit u.lit i h.0 g.0 l.passes u.passes (g.1 u.passes) in
    let v : Value = fraction (s *ℤ pos a -ℤ r *ℤ pos b) (2 * (a * b) * e.den) in
    let ov = one_times_two a b e.den oa ob i in
    record {
      value = v;
      one = ov;
      met = (
        l.implies (v.num *ℤ pos e.den) (pos v.den) (above_zero v.den ov) (sign_low (is_strict l.lit) (is_strict u.lit) a r (v.num *ℤ pos e.den) (pos v.den) (cross x e l.lit u.lit) (a * e.den) (mul-le-mul oa i) (middle_low a b e.den r s) z),
        u.implies (neg_ℤ (v.num *ℤ pos e.den)) (pos v.den) (above_zero v.den ov) (sign_high (is_strict l.lit) (is_strict u.lit) b s (neg_ℤ (v.num *ℤ pos e.den)) (pos v.den) (cross x e l.lit u.lit) (b * e.den) (mul-le-mul ob i) (middle_high a b e.den r s) z),
      );
    }

between : (x : ℕ) (e : Point) (c : List Lit) → IsPoint Rat e → Crossing x e c → Between x e c
between x e c i k = by (list_any (is_lower x) c) (list_any (is_upper x) c) refl refl
  where
    by : (a b : Bool) → list_any (is_lower x) c ≡ a → list_any (is_upper x) c ≡ b → Between x e c
    by true true p q = in_middle x e c i k p q
    by true false p q = above_low x e c i p q
    by false true p q = below_high x e c i p q
    by false false p q =
        record {
          value = fraction (pos 0) 1;
          one = omega arith;
          met = (no_bound (is_lower x) (λ l. LitMeets x e (pos 0 *ℤ pos e.den) (pos 1) l) c p, no_bound (is_upper x) (λ l. LitMeets x e (neg_ℤ (pos 0 *ℤ pos e.den)) (pos 1) l) c q);
        }

-- each literal is without x, or a lower or an upper one
met_holds : (x : ℕ) (l : Lit) (e : Point) (v : Value) → 1 ≤ v.den → IsOf Rat l → (is_free x l ≡ true → Holds l e) → (is_lower x l ≡ true → LitMeets x e (v.num *ℤ pos e.den) (pos v.den) l) → (is_upper x l ≡ true → LitMeets x e (neg_ℤ (v.num *ℤ pos e.den)) (pos v.den) l) → Holds l (assign e x v)
met_holds x l e v ov o f a b = by l o (coef_at x l) refl
  where
    low : (l : Lit) → IsOf Rat l → is_positive (coef_at x l) ≡ true → is_lower x l ≡ true
    low (AtLeast g) o t = t
    low (Above g) o t = t
    low (Divides d g) o t = absurd o
    low (NotDivides d g) o t = absurd o

    high : (l : Lit) → IsOf Rat l → is_negative (coef_at x l) ≡ true → is_upper x l ≡ true
    high (AtLeast g) o t = t
    high (Above g) o t = t
    high (Divides d g) o t = absurd o
    high (NotDivides d g) o t = absurd o

    by : (m : Lit) → IsOf Rat m → (z : ℤ) → coef_at x l ≡ z → Holds l (assign e x v)
    by m u (pos zero) q = free_from x l e v ov o (ap is_zero q) (f (ap is_zero q))
    by m u (pos (suc k)) q = let t = low l o (ap is_positive q) in lower_from x l e v o t (a t)
    by m u (negsuc k) q = let t = high l o (ap is_negative q) in upper_from x l e v o t (b t)

under : (x : ℕ) (l : Lit) (c : List Lit) (e : Point) → IsCube Rat c → AllByRecursion (λ u. Holds (resolvent x l u) e) (filter (is_upper x) c) → AllByRecursion (λ u. IsOf Rat u × (is_upper x u ≡ true → Holds (resolvent x l u) e)) c
under x l c e o h =
    each_two (IsOf Rat) (λ u. is_upper x u ≡ true → Holds (resolvent x l u) e) (λ u. IsOf Rat u × (is_upper x u ≡ true → Holds (resolvent x l u) e)) c (λ u a b. (a, b)) o (of_filter (λ u. Holds (resolvent x l u) e) (is_upper x) c h)

pub fourier_motzkin_from : (c : List Lit) (x : ℕ) (e : Point) → IsPoint Rat e → IsCube Rat c → CubeHolds (fourier_motzkin c x) e → HasSolution Rat c x e
fourier_motzkin_from c x e i o h =
    let k = cube_split (filter (is_free x) c) (flat_map (λ l. map (λ u. resolvent x l u) (filter (is_upper x) c)) (filter (is_lower x) c)) e h in
    let frees = of_filter (λ l. Holds l e) (is_free x) c k.0 in
    let pairs = of_filter (λ l. AllByRecursion (λ u. Holds (resolvent x l u) e) (filter (is_upper x) c)) (is_lower x) c (pairs_from (resolvent x) (filter (is_lower x) c) (filter (is_upper x) c) e k.1) in
    let crossing = each_two (IsOf Rat) (λ l. is_lower x l ≡ true → AllByRecursion (λ u. Holds (resolvent x l u) e) (filter (is_upper x) c)) (λ l. IsOf Rat l × (is_lower x l ≡ true → AllByRecursion (λ u. IsOf Rat u × (is_upper x u ≡ true → Holds (resolvent x l u) e)) c)) c
    (λ l a b. (a, λ t. under x l c e o (b t))) o pairs in
    let v = between x e c i crossing in
    record {
      value = v.value;
      is_value = v.one;
      holds = (each_four (IsOf Rat) (λ l. is_free x l ≡ true → Holds l e) (λ l. is_lower x l ≡ true → LitMeets x e (v.value.num *ℤ pos e.den) (pos v.value.den) l) (λ l. is_upper x l ≡ true → LitMeets x e (neg_ℤ (v.value.num *ℤ pos e.den)) (pos v.value.den) l) (λ l. Holds l (assign e x v.value)) c
          (λ l a f g h. met_holds x l e v.value v.one a f g h) o frees v.met.0 v.met.1);
    }
