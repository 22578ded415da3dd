-- A literal with t/a put in for x holds exactly where the literal holds with the value t/a.
use Prim.Native.Nat.{◌∣◌}
use Rattle.std.specs.Prelude.{ℕ, zero, suc, ◌*◌, ◌%◌, ◌<◌, ◌≤◌, ◌≡◌, ℤ, pos, negsuc, ◌+ℤ◌, ◌-ℤ◌, ◌*ℤ◌, ◌≤ℤ◌, ◌<ℤ◌, neg_ℤ, nat_abs, Bool, true, false, cond, List, [], ◌∷◌}
use Rattle.std.proofs.Common.{arith, ap, ap₂, ◌∙◌, sym, subst, refl}
use Rattle.std.proofs.lemmas.Int.{ints, by_lt_z}
use Rattle.std.proofs.Math.Nat.{mod-eq-zero_of_dvd, dvd_of_mod-eq-zero, dvd_of_mul-dvd-mul_left, mul-dvd-mul_left}
use lib.IntN.{*ℤ_comm}
use Rattle.lin_term.specs.Form.{Form}
use Rattle.lin_term.specs.declared.Sort.{Sort}
use Rattle.lin_term.specs.declared.Sort.TheVariants.{Rat, Int}
use Rattle.lin_term.specs.declared.Lit.{Lit}
use Rattle.lin_term.specs.declared.Lit.TheVariants.{AtLeast, Above, Divides, NotDivides}
use Rattle.lin_term.specs.Linear.{Point, Value, IsPoint, at, dot, times, constant_form, floor_div}
use Rattle.lin_term.specs.Literal.{Holds, form_of, prim, residue}
use Rattle.lin_term.specs.Move.{Move, move_value}
use Rattle.lin_term.specs.PutIn.{coef, rest_of, put_form, put_raw, occurs, put_lit, less_residue}
use Rattle.lin_term.proofs.Ring.{ring, distrib_ℤ, nonneg_across, pos_across}
use Rattle.lin_term.proofs.Dots.{dot-plus, dot-times, dot-constant_form}
use Rattle.lin_term.proofs.Dividing.{abs_product, one_den_mod, multiple}
use Rattle.lin_term.proofs.PrimitiveLemmas.{prim_to, prim_from, floor_bounds, floor_exact, one_times}
use Rattle.dom_core.specs.Cube.{assign, CubeHolds}
use Rattle.dom_core.specs.Elimination.{put_all}
use Rattle.dom_core.proofs.Assigning.{whole, whole_point, dot-assign, dot-assign_free, dot-own, coef-absent}

-- ---- one literal at two points with the same whole value

pub same_holds : (l : Lit) (p q : Point) → IsPoint Int p → IsPoint Int q → dot (form_of l) p ≡ dot (form_of l) q → Holds l p → Holds l q
same_holds (AtLeast f) p q i j e h = subst (λ (z : ℤ). pos 0 ≤ℤ z) e h
same_holds (Above f) p q i j e h = subst (λ (z : ℤ). pos 0 <ℤ z) e h
same_holds (Divides d f) p q i j e h =
    one_den_mod (dot f q) d q.den j ∙ subst (λ (z : ℤ). nat_abs z % d ≡ 0) e (sym (one_den_mod (dot f p) d p.den i) ∙ h)
same_holds (NotDivides d f) p q i j e h =
    λ k. h (one_den_mod (dot f p) d p.den i ∙ subst (λ (z : ℤ). nat_abs z % d ≡ 0) (sym e) (sym (one_den_mod (dot f q) d q.den j) ∙ k))

pub own_holds : (l : Lit) (e : Point) (x : ℕ) → IsPoint Int e → Holds l e → Holds l (assign e x (whole (at e.nums x)))
own_holds l e x i h =
    same_holds l e (assign e x (whole (at e.nums x))) i (whole_point e (at e.nums x) x i) (sym (dot-own (form_of l) e x i)) h

pub own_cube : (c : List Lit) (e : Point) (x : ℕ) → IsPoint Int e → CubeHolds c e → CubeHolds c (assign e x (whole (at e.nums x)))
own_cube [] e x i h = tt
own_cube (l ∷ c) e x i h = (own_holds l e x i h.0, own_cube c e x i h.1)

-- ---- what is put in

pub dot-put_form : (f : Form) (x a : ℕ) (t : Form) (p : Point) → dot (put_form f x a t) p ≡ coef f.terms x *ℤ dot t p +ℤ pos a *ℤ dot (rest_of f x) p
dot-put_form f x a t p =
    let u = dot-plus (times (coef f.terms x) t) (times (pos a) (rest_of f x)) p in
    let v = dot-times (coef f.terms x) t p in
    let w = dot-times (pos a) (rest_of f x) p in
    omega (arith, ints)

-- ---- truth where value and modulus have one factor

one_more : (n : ℕ) → 1 ≤ n → pos 0 <ℤ pos n
one_more n h = omega (arith, ints)

swap_sides : (K M : ℕ) (u v : ℤ) → pos K *ℤ u ≡ pos M *ℤ v → u *ℤ pos K ≡ v *ℤ pos M
swap_sides K M u v e = *ℤ_comm u (pos K) ∙ e ∙ *ℤ_comm (pos M) v

one_left : (z : ℤ) → pos 1 *ℤ z ≡ z
one_left z = omega (arith, ints)

mod_across : (K M n k : ℕ) (u v : ℤ) → 1 ≤ M → K * n ≡ M * k → pos K *ℤ u ≡ pos M *ℤ v → nat_abs u % n ≡ 0 → nat_abs v % k ≡ 0
mod_across K M n k u v m e s h =
    let a = mul-dvd-mul_left n K (dvd_of_mod-eq-zero n h) in
    let b : K * nat_abs u ≡ M * nat_abs v = sym (abs_product K u) ∙ ap nat_abs s ∙ abs_product M v in
    mod-eq-zero_of_dvd k (dvd_of_mul-dvd-mul_left {k = M} k m (subst (λ (j : ℕ). j ∣ (M * nat_abs v)) e (subst (λ (j : ℕ). (K * n) ∣ j) b a)))

modulus_across : (K M d a n k : ℕ) → K * n ≡ M * (a * k) → K * (d * n) ≡ M * ((a * d) * k)
modulus_across K M d a n k e = let f : d * (K * n) ≡ d * (M * (a * k)) = ap (λ (j : ℕ). d * j) e in omega arith

-- the literal at q against the literal with t/a put in at p
across_to : (l : Lit) (x a : ℕ) (t : Form) (p q : Point) (K M : ℕ) → 1 ≤ K → 1 ≤ M → K * q.den ≡ M * (a * p.den) → pos K *ℤ dot (form_of l) q ≡ pos M *ℤ dot (put_form (form_of l) x a t) p → Holds l q → Holds (put_raw x a t l) p
across_to (AtLeast f) x a t p q K M k m d e h =
    nonneg_across (dot f q) (dot (put_form f x a t) p) (pos K) (pos M) (one_more K k) (one_more M m) (swap_sides K M (dot f q) (dot (put_form f x a t) p) e) h
across_to (Above f) x a t p q K M k m d e h =
    pos_across (dot f q) (dot (put_form f x a t) p) (pos K) (pos M) (one_more K k) (one_more M m) (swap_sides K M (dot f q) (dot (put_form f x a t) p) e) h
across_to (Divides n f) x a t p q K M k m d e h =
    mod_across K M (n * q.den) ((a * n) * p.den) (dot f q) (dot (put_form f x a t) p) m (modulus_across K M n a q.den p.den d) e h
across_to (NotDivides n f) x a t p q K M k m d e h =
    λ z. h (mod_across M K ((a * n) * p.den) (n * q.den) (dot (put_form f x a t) p) (dot f q) k (sym (modulus_across K M n a q.den p.den d)) (sym e) z)

across_from : (l : Lit) (x a : ℕ) (t : Form) (p q : Point) (K M : ℕ) → 1 ≤ K → 1 ≤ M → K * q.den ≡ M * (a * p.den) → pos K *ℤ dot (form_of l) q ≡ pos M *ℤ dot (put_form (form_of l) x a t) p → Holds (put_raw x a t l) p → Holds l q
across_from (AtLeast f) x a t p q K M k m d e h =
    nonneg_across (dot (put_form f x a t) p) (dot f q) (pos M) (pos K) (one_more M m) (one_more K k) (sym (swap_sides K M (dot f q) (dot (put_form f x a t) p) e)) h
across_from (Above f) x a t p q K M k m d e h =
    pos_across (dot (put_form f x a t) p) (dot f q) (pos M) (pos K) (one_more M m) (one_more K k) (sym (swap_sides K M (dot f q) (dot (put_form f x a t) p) e)) h
across_from (Divides n f) x a t p q K M k m d e h =
    mod_across M K ((a * n) * p.den) (n * q.den) (dot (put_form f x a t) p) (dot f q) k (sym (modulus_across K M n a q.den p.den d)) (sym e) h
across_from (NotDivides n f) x a t p q K M k m d e h =
    λ z. h (mod_across K M (n * q.den) ((a * n) * p.den) (dot f q) (dot (put_form f x a t) p) m (modulus_across K M n a q.den p.den d) e z)

-- one literal at two points
pub alike : (l : Lit) (p q : Point) (K M : ℕ) → 1 ≤ K → 1 ≤ M → K * q.den ≡ M * p.den → pos K *ℤ dot (form_of l) q ≡ pos M *ℤ dot (form_of l) p → Holds l q → Holds l p
alike (AtLeast f) p q K M k m d e h =
    nonneg_across (dot f q) (dot f p) (pos K) (pos M) (one_more K k) (one_more M m) (swap_sides K M (dot f q) (dot f p) e) h
alike (Above f) p q K M k m d e h =
    pos_across (dot f q) (dot f p) (pos K) (pos M) (one_more K k) (one_more M m) (swap_sides K M (dot f q) (dot f p) e) h
alike (Divides n f) p q K M k m d e h =
    mod_across K M (n * q.den) (n * p.den) (dot f q) (dot f p) m (let g : n * (K * q.den) ≡ n * (M * p.den) = ap (λ (j : ℕ). n * j) d in omega arith) e h
alike (NotDivides n f) p q K M k m d e h =
    λ z. h (mod_across M K (n * p.den) (n * q.den) (dot f p) (dot f q) k (let g : n * (K * q.den) ≡ n * (M * p.den) = ap (λ (j : ℕ). n * j) d in omega arith) (sym e) z)

pub free_to : (l : Lit) (p : Point) (v : Value) (x : ℕ) → 1 ≤ v.den → coef (form_of l).terms x ≡ pos 0 → Holds l (assign p x v) → Holds l p
free_to l p v x o e h =
    alike l p (assign p x v) 1 v.den (omega arith) o (omega arith) (one_left (dot (form_of l) (assign p x v)) ∙ dot-assign_free (form_of l) p v x e ∙ *ℤ_comm (dot (form_of l) p) (pos v.den)) h

pub free_from : (l : Lit) (p : Point) (v : Value) (x : ℕ) → 1 ≤ v.den → coef (form_of l).terms x ≡ pos 0 → Holds l p → Holds l (assign p x v)
free_from l p v x o e h =
    alike l (assign p x v) p v.den 1 o (omega arith) (omega arith) (*ℤ_comm (pos v.den) (dot (form_of l) p) ∙ sym (dot-assign_free (form_of l) p v x e) ∙ sym (one_left (dot (form_of l) (assign p x v)))) h

-- ---- the literal with t/a put in

-- the value v is t/a
pub record IsQuotient (a : ℕ) (t : Form) (p : Point) (v : Value) : Type 0 where
  pub K : ℕ
  pub M : ℕ
  pub one_K : 1 ≤ K
  pub one_M : 1 ≤ M
  pub one_den : 1 ≤ v.den
  pub dens : K * (p.den * v.den) ≡ M * (a * p.den)
  pub values : (c r : ℤ) → pos K *ℤ (c *ℤ (v.num *ℤ pos p.den) +ℤ r *ℤ pos v.den) ≡ pos M *ℤ (c *ℤ dot t p +ℤ pos a *ℤ r)

same_values : (l : Lit) (x a : ℕ) (t : Form) (p : Point) (v : Value) (k : IsQuotient a t p v) → pos k.K *ℤ dot (form_of l) (assign p x v) ≡ pos k.M *ℤ dot (put_form (form_of l) x a t) p
same_values l x a t p v k =
    ap (λ (z : ℤ). pos k.K *ℤ z) (dot-assign (form_of l) p v x) ∙ k.values (coef (form_of l).terms x) (dot (rest_of (form_of l) x) p) ∙ ap (λ (z : ℤ). pos k.M *ℤ z) (sym (dot-put_form (form_of l) x a t p))

pub put_lit_to : (l : Lit) (s : Sort) (x a : ℕ) (t : Form) (p : Point) (v : Value) → IsPoint s p → IsQuotient a t p v → Holds l (assign p x v) → Holds (put_lit s x a t l) p
put_lit_to l s x a t p v i k h = by (occurs (form_of l).terms x) refl
  where
    by : (b : Bool) → occurs (form_of l).terms x ≡ b → Holds (cond b (prim s (put_raw x a t l)) l) p
    by true e = prim_to s (put_raw x a t l) p i (across_to l x a t p (assign p x v) k.K k.M k.one_K k.one_M k.dens (same_values l x a t p v k) h)
    by false e = free_to l p v x k.one_den (coef-absent (form_of l).terms x e) h

pub put_lit_from : (l : Lit) (s : Sort) (x a : ℕ) (t : Form) (p : Point) (v : Value) → IsPoint s p → IsQuotient a t p v → Holds (put_lit s x a t l) p → Holds l (assign p x v)
put_lit_from l s x a t p v i k h = by (occurs (form_of l).terms x) refl h
  where
    by : (b : Bool) → occurs (form_of l).terms x ≡ b → Holds (cond b (prim s (put_raw x a t l)) l) p → Holds l (assign p x v)
    by true e g = across_from l x a t p (assign p x v) k.K k.M k.one_K k.one_M k.dens (same_values l x a t p v k) (prim_from s (put_raw x a t l) p i g)
    by false e g = free_from l p v x k.one_den (coef-absent (form_of l).terms x e) g

pub put_all_to : (ls : List Lit) (s : Sort) (x a : ℕ) (t : Form) (p : Point) (v : Value) → IsPoint s p → IsQuotient a t p v → CubeHolds ls (assign p x v) → CubeHolds (put_all s x a t ls) p
put_all_to [] s x a t p v i k h = tt
put_all_to (l ∷ ls) s x a t p v i k h = (put_lit_to l s x a t p v i k h.0, put_all_to ls s x a t p v i k h.1)

pub put_all_from : (ls : List Lit) (s : Sort) (x a : ℕ) (t : Form) (p : Point) (v : Value) → IsPoint s p → IsQuotient a t p v → CubeHolds (put_all s x a t ls) p → CubeHolds ls (assign p x v)
put_all_from [] s x a t p v i k h = tt
put_all_from (l ∷ ls) s x a t p v i k h = (put_lit_from l s x a t p v i k h.0, put_all_from ls s x a t p v i k h.1)

-- ---- the move's value

pub dot-less : (m : Move) (r : ℕ) (p : Point) → dot (less_residue m r) p ≡ dot m.numer p +ℤ neg_ℤ (pos r) *ℤ pos p.den
dot-less m r p = let a = dot-plus m.numer (constant_form (neg_ℤ (pos r))) p in let b = dot-constant_form (neg_ℤ (pos r)) p in omega (arith, ints)

mul_pos : (a b : ℕ) → 1 ≤ a → 1 ≤ b → 1 ≤ a * b
mul_pos (suc a) (suc b) h k = omega arith
mul_pos zero b h k = absurd (omega arith)
mul_pos (suc a) zero h k = absurd (omega arith)

rat_values : (c r n d a w u : ℤ) → w ≡ a *ℤ d → u ≡ n → pos 1 *ℤ (c *ℤ (n *ℤ d) +ℤ r *ℤ w) ≡ d *ℤ (c *ℤ u +ℤ a *ℤ r)
rat_values c r n d a w u e f =
    one_left (c *ℤ (n *ℤ d) +ℤ r *ℤ w) ∙ ap (λ (z : ℤ). c *ℤ (n *ℤ d) +ℤ r *ℤ z) e ∙ (let g : c *ℤ (n *ℤ d) +ℤ r *ℤ (a *ℤ d) ≡ d *ℤ (c *ℤ n +ℤ a *ℤ r) = simp ring in g)
    ∙ ap (λ (z : ℤ). d *ℤ (c *ℤ z +ℤ a *ℤ r)) (sym f)

pub quotient_rat : (m : Move) (p : Point) → IsPoint Rat p → 1 ≤ m.div → IsQuotient m.div (less_residue m 0) p (move_value Rat m p)
quotient_rat m p i o = record {
  K = 1;
  M = p.den;
  one_K = omega arith;
  one_M = i;
  one_den = mul_pos m.div p.den o i;
  dens = omega arith;
  values = λ c r. rat_values c r (dot m.numer p) (pos p.den) (pos m.div) (pos (m.div * p.den)) (dot (less_residue m 0) p) (let e : pos (m.div * p.den) ≡ pos m.div *ℤ pos p.den = omega (arith, ints) in e) (let d = dot-less m 0 p in omega (arith, ints));
}

-- a*y is t's value
pub quotient_int : (a : ℕ) (t : Form) (p : Point) (y : ℤ) → IsPoint Int p → 1 ≤ a → dot t p ≡ pos a *ℤ y → IsQuotient a t p (record { num = y; den = 1 })
quotient_int a t p y i o e = record {
  K = a;
  M = 1;
  one_K = o;
  one_M = omega arith;
  one_den = omega arith;
  dens = omega arith;
  values = λ c r.
      let d = one_times y p.den i in
      let f = ap (λ (z : ℤ). c *ℤ z) d in
      let g = ap (λ (z : ℤ). c *ℤ z) e in
      let h : pos a *ℤ (c *ℤ y +ℤ r) ≡ c *ℤ (pos a *ℤ y) +ℤ pos a *ℤ r = simp ring in
      let k : r *ℤ pos 1 ≡ r = omega (arith, ints) in
      ap (λ (z : ℤ). pos a *ℤ z) (ap₂ (λ (w z : ℤ). w +ℤ z) f k) ∙ h ∙ ap (λ (z : ℤ). z +ℤ pos a *ℤ r) (sym g) ∙ (let u : c *ℤ dot t p +ℤ pos a *ℤ r ≡ pos 1 *ℤ (c *ℤ dot t p +ℤ pos a *ℤ r) = omega (arith, ints) in u);
}

whole_number : (u : ℤ) → pos 0 ≤ℤ u → u ≡ pos (nat_abs u)
whole_number (pos u) h = refl
whole_number (negsuc u) h = absurd (omega (arith, ints))

pub residue_is : (z : ℤ) (d : ℕ) → 1 ≤ d → (pos (residue z d) ≡ z -ℤ pos d *ℤ floor_div z d) × (residue z d < d)
residue_is z d o =
    let f = floor_bounds z d o in
    let w = whole_number (z -ℤ pos d *ℤ floor_div z d) (omega (arith, ints)) in
    (sym w, omega (arith, ints))

nonneg_product : (a : ℕ) (b : ℤ) → pos 0 ≤ℤ b → pos 0 ≤ℤ (pos a *ℤ b)
nonneg_product a (pos b) k = omega (arith, ints)
nonneg_product a (negsuc b) k = absurd (omega (arith, ints))

times_less : (d : ℕ) (y q : ℤ) → y <ℤ q → (pos d *ℤ y +ℤ pos d) ≤ℤ (pos d *ℤ q)
times_less d y q h =
    let e = distrib_ℤ (pos d) y (pos 1) in
    let f : pos 0 ≤ℤ (pos d *ℤ (q -ℤ (y +ℤ pos 1))) = nonneg_product d (q -ℤ (y +ℤ pos 1)) (omega (arith, ints)) in
    let g : pos d *ℤ (q -ℤ (y +ℤ pos 1)) ≡ pos d *ℤ q -ℤ pos d *ℤ (y +ℤ pos 1) = simp ring in
    omega (arith, ints)

pub floor_unique : (z : ℤ) (d : ℕ) (y : ℤ) → 1 ≤ d → (pos d *ℤ y) ≤ℤ z → z <ℤ (pos d *ℤ y +ℤ pos d) → floor_div z d ≡ y
floor_unique z d y o l h =
    let f = floor_bounds z d o in
    by_lt_z (floor_div z d) y
    (λ a. let t = times_less d (floor_div z d) y a in absurd (omega (arith, ints)))
    (λ a. by_lt_z y (floor_div z d)
    (λ b. let t = times_less d y (floor_div z d) b in absurd (omega (arith, ints)))
    (λ b. omega (arith, ints)))

dot-less_one : (m : Move) (r : ℕ) (p : Point) → IsPoint Int p → dot (less_residue m r) p ≡ dot m.numer p -ℤ pos r
dot-less_one m r p i = let d = dot-less m r p in let c = one_times (neg_ℤ (pos r)) p.den i in omega (arith, ints)

-- where the division comes out even, the move's value is the quotient
pub even_quotient : (m : Move) (r : ℕ) (p : Point) → IsPoint Int p → 1 ≤ m.div → r < m.div → Holds (Divides m.div (less_residue m r)) p → dot (less_residue m r) p ≡ pos m.div *ℤ floor_div (dot m.numer p) m.div
even_quotient m r p i o b h =
    let z : ℤ = dot (less_residue m r) p in
    let x = floor_exact z m.div o (dvd_of_mod-eq-zero m.div (sym (one_den_mod z m.div p.den i) ∙ h)) in
    let d = dot-less_one m r p i in
    let u = floor_unique (dot m.numer p) m.div (floor_div z m.div) o (omega (arith, ints)) (omega (arith, ints)) in
    sym x ∙ ap (λ (y : ℤ). pos m.div *ℤ y) (sym u)

pub own_quotient : (m : Move) (p : Point) → IsPoint Int p → 1 ≤ m.div → dot (less_residue m (residue (dot m.numer p) m.div)) p ≡ pos m.div *ℤ floor_div (dot m.numer p) m.div
own_quotient m p i o =
    let r = residue_is (dot m.numer p) m.div o in
    let d = dot-less_one m (residue (dot m.numer p) m.div) p i in
    omega (arith, ints)

pub own_even : (m : Move) (p : Point) → IsPoint Int p → 1 ≤ m.div → Holds (Divides m.div (less_residue m (residue (dot m.numer p) m.div))) p
own_even m p i o =
    multiple m.div p.den (floor_div (dot m.numer p) m.div) (dot (less_residue m (residue (dot m.numer p) m.div)) p) i (own_quotient m p i o)

-- ---- whole values

pub put_whole_to : (ls : List Lit) (x a : ℕ) (t : Form) (e : Point) (y : ℤ) → IsPoint Int e → 1 ≤ a → dot t e ≡ pos a *ℤ y → CubeHolds ls (assign e x (whole y)) → CubeHolds (put_all Int x a t ls) e
put_whole_to ls x a t e y i o q h = put_all_to ls Int x a t e (whole y) i (quotient_int a t e y i o q) h

pub put_whole_from : (ls : List Lit) (x a : ℕ) (t : Form) (e : Point) (y : ℤ) → IsPoint Int e → 1 ≤ a → dot t e ≡ pos a *ℤ y → CubeHolds (put_all Int x a t ls) e → CubeHolds ls (assign e x (whole y))
put_whole_from ls x a t e y i o q h = put_all_from ls Int x a t e (whole y) i (quotient_int a t e y i o q) h
