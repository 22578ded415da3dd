-- Equal values have one form in lowest terms, so a constant term can be worked out step by step in lowest terms.
use Prim.Native.Nat.{◌∣◌}
use Rattle.std.specs.Prelude.{ℕ, zero, suc, ◌+◌, ◌*◌, ◌/◌, ◌≤◌, ◌≡◌, ℤ, pos, negsuc, ◌+ℤ◌, ◌*ℤ◌, ◌<ℤ◌, nat_abs, []}
use Rattle.std.proofs.Common.{arith, ap, ap₂, ◌∙◌, sym, subst, refl}
use Rattle.std.proofs.lemmas.Int.{ints}
use Rattle.std.proofs.lemmas.Nat.Gcd.{dvd_trans}
use Rattle.std.proofs.Math.Nat.{eq-zero_of_zero-dvd}
use Rattle.lin_term.specs.Linear.{Value, floor_div}
use Rattle.lin_term.specs.Literal.{gcd, or_one}
use Rattle.lin_term.proofs.Ring.{ring, cancel_right_ℤ}
use Rattle.lin_term.proofs.PrimitiveLemmas.{gcd_is, floor_exact, whole_div}
use Rattle.lin_term.proofs.Lowest.{scaled_gcd}
use Rattle.lin_truth.specs.Value.{IsSame, v_plus, v_times}
use Rattle.lin_form.specs.Lin.{Lin, lin_constant}
use Rattle.lin_form.specs.Low.{lowest}

abs_product : (a : ℕ) (z : ℤ) → nat_abs (pos a *ℤ z) ≡ a * nat_abs z
abs_product a (pos z) = omega (arith, ints)
abs_product zero (negsuc z) = omega (arith, ints)
abs_product (suc a) (negsuc z) = omega (arith, ints)

-- num = g * part, den = g * size
pub record Parts_of (v : Value) : Type 0 where
  pub by : ℕ
  pub one : 1 ≤ by
  pub is : gcd v.den (gcd (nat_abs v.num) 0) ≡ by
  pub num : pos by *ℤ floor_div v.num by ≡ v.num
  pub den : by * (v.den / by) ≡ v.den
  pub lin : lin_constant v ≡ record { form = record { terms = []; constant = floor_div v.num by }; den = v.den / by }

some_gcd : (g d : ℕ) → 1 ≤ d → g ∣ d → 1 ≤ g
some_gcd zero d o h = let e = eq-zero_of_zero-dvd h in absurd (omega arith)
some_gcd (suc g) d o h = omega arith

or_one_same : (g : ℕ) → 1 ≤ g → or_one g ≡ g
or_one_same zero o = absurd (omega arith)
or_one_same (suc g) o = refl

abbrev by_lin : Value → ℕ → Lin
by_lin v g = record { form = record { terms = []; constant = floor_div v.num g }; den = v.den / g }

pub parts_of : (v : Value) → 1 ≤ v.den → Parts_of v
parts_of v o =
    let g : ℕ = gcd v.den (gcd (nat_abs v.num) 0) in
    let h = gcd_is v.den (gcd (nat_abs v.num) 0) in
    let k = gcd_is (nat_abs v.num) 0 in
    let one = some_gcd g v.den o h.0 in
    record {
      by = g;
      one = one;
      is = refl;
      num = floor_exact v.num g one (dvd_trans g h.1 k.0);
      den = whole_div g v.den one h.0;
      lin = ap (λ (n : ℕ). by_lin v n) (or_one_same g one);
    }

gcd_alone : (n : ℕ) → gcd n 0 ≡ n
unfolding gcd
gcd_alone n = refl

nat_same : (a b c : ℕ) → 1 ≤ c → a * c ≡ b * c → a ≡ b
nat_same a b c o e = ap nat_abs (cancel_right_ℤ (pos a) (pos b) (pos c) (omega (arith, ints)) (ap pos e))

one_product : (a b : ℕ) → 1 ≤ a → 1 ≤ b → pos 0 <ℤ pos (a * b)
one_product zero b h k = absurd (omega arith)
one_product (suc a) zero h k = absurd (omega arith)
one_product (suc a) (suc b) h k = let e : suc a * suc b ≡ suc (a * b + a + b) = omega arith in subst (λ (n : ℕ). pos 0 <ℤ pos n) (sym e) (omega (arith, ints))

-- the divisors go with the denominators
cross : (a b n m : ℕ) → 1 ≤ a → 1 ≤ b → n * b ≡ m * a → b * gcd a n ≡ a * gcd b m
cross a b n m o p e =
    sym (scaled_gcd b a n p)
    ∙ ap₂ (λ (x y : ℕ). gcd x y) (let q : b * a ≡ a * b = omega arith in q) (let q : b * n ≡ n * b = omega arith in let r : m * a ≡ a * m = omega arith in q ∙ e ∙ r)
    ∙ scaled_gcd a b m o

pub abs_cross : (v w : Value) → IsSame v w → nat_abs v.num * w.den ≡ nat_abs w.num * v.den
abs_cross v w e =
    let p = abs_product w.den v.num in
    let q = abs_product v.den w.num in
    let s : v.num *ℤ pos w.den ≡ pos w.den *ℤ v.num = simp ring in
    let t : w.num *ℤ pos v.den ≡ pos v.den *ℤ w.num = simp ring in
    let u : nat_abs (pos w.den *ℤ v.num) ≡ nat_abs (pos v.den *ℤ w.num) = ap nat_abs (sym s ∙ e ∙ t) in
    let x : nat_abs v.num * w.den ≡ w.den * nat_abs v.num = omega arith in
    let y : nat_abs w.num * v.den ≡ v.den * nat_abs w.num = omega arith in
    x ∙ sym p ∙ u ∙ q ∙ sym y

same_den : (g h p q a b : ℕ) → 1 ≤ g → 1 ≤ h → g * p ≡ a → h * q ≡ b → b * g ≡ a * h → p ≡ q
same_den g h p q a b o k e f c =
    nat_same p q (g * h) (let l = one_product g h o k in omega (arith, ints))
    (let x : p * (g * h) ≡ (g * p) * h = omega arith in let y : q * (g * h) ≡ (h * q) * g = omega arith in x ∙ ap (λ (n : ℕ). n * h) e ∙ sym c ∙ ap (λ (n : ℕ). n * g) (sym f) ∙ sym y)

same_num : (g h q : ℕ) (x y n m : ℤ) (a b : ℕ) → 1 ≤ g → 1 ≤ h → 1 ≤ q → pos g *ℤ x ≡ n → pos h *ℤ y ≡ m → g * q ≡ a → h * q ≡ b → n *ℤ pos b ≡ m *ℤ pos a → x ≡ y
same_num g h q x y n m a b o k l e f c d s =
    let z : (pos g *ℤ x) *ℤ (pos h *ℤ pos q) ≡ (pos h *ℤ y) *ℤ (pos g *ℤ pos q) =
    ap₂ (λ (i : ℤ) (j : ℕ). i *ℤ pos j) e d ∙ s ∙ ap₂ (λ (i : ℤ) (j : ℕ). i *ℤ pos j) (sym f) (sym c) in
    let u : x *ℤ (pos g *ℤ (pos h *ℤ pos q)) ≡ (pos g *ℤ x) *ℤ (pos h *ℤ pos q) = simp ring in
    let w : y *ℤ (pos g *ℤ (pos h *ℤ pos q)) ≡ (pos h *ℤ y) *ℤ (pos g *ℤ pos q) = simp ring in
    cancel_right_ℤ x y (pos g *ℤ (pos h *ℤ pos q)) (one_product g (h * q) o (let r = one_product h q k l in omega (arith, ints))) (u ∙ z ∙ sym w)

some_part : (g q d : ℕ) → 1 ≤ d → g * q ≡ d → 1 ≤ q
some_part g zero d o e = absurd (omega arith)
some_part g (suc q) d o e = omega arith

abbrev made_by : ℤ → ℕ → Lin
made_by z k = record { form = record { terms = []; constant = z }; den = k }

-- equal values have the same form
pub lowest_same : (v w : Value) → 1 ≤ v.den → 1 ≤ w.den → IsSame v w → lin_constant v ≡ lin_constant w
lowest_same v w o p e =
    let a = parts_of v o in
    let b = parts_of w p in
    let c = cross v.den w.den (nat_abs v.num) (nat_abs w.num) o p (abs_cross v w e) in
    let ga : gcd v.den (nat_abs v.num) ≡ a.by = ap (λ (n : ℕ). gcd v.den n) (sym (gcd_alone (nat_abs v.num))) ∙ a.is in
    let gb : gcd w.den (nat_abs w.num) ≡ b.by = ap (λ (n : ℕ). gcd w.den n) (sym (gcd_alone (nat_abs w.num))) ∙ b.is in
    let c' : w.den * a.by ≡ v.den * b.by = ap (λ (n : ℕ). w.den * n) (sym ga) ∙ c ∙ ap (λ (n : ℕ). v.den * n) gb in
    let d : v.den / a.by ≡ w.den / b.by = same_den a.by b.by (v.den / a.by) (w.den / b.by) v.den w.den a.one b.one a.den b.den c' in
    let q = some_part a.by (v.den / a.by) v.den o a.den in
    let n : floor_div v.num a.by ≡ floor_div w.num b.by =
    same_num a.by b.by (v.den / a.by) (floor_div v.num a.by) (floor_div w.num b.by) v.num w.num v.den w.den a.one b.one q a.num b.num a.den (ap (λ (x : ℕ). b.by * x) d ∙ b.den) e in
    a.lin ∙ ap₂ (λ (z : ℤ) (k : ℕ). made_by z k) n d ∙ sym b.lin

pub lowest_is : (v : Value) → 1 ≤ v.den → IsSame (lowest v) v
lowest_is v o =
    let a = parts_of v o in
    let x : floor_div v.num a.by *ℤ pos v.den ≡ v.num *ℤ pos (v.den / a.by) =
    ap₂ (λ (n : ℕ) (z : ℤ). z *ℤ pos n) (sym a.den) refl
    ∙ (let u : floor_div v.num a.by *ℤ (pos a.by *ℤ pos (v.den / a.by)) ≡ (pos a.by *ℤ floor_div v.num a.by) *ℤ pos (v.den / a.by) = simp ring in u)
    ∙ ap (λ (z : ℤ). z *ℤ pos (v.den / a.by)) a.num in
    subst (λ (y : Lin). y.form.constant *ℤ pos v.den ≡ v.num *ℤ pos y.den) (sym a.lin) x

pub lowest_den : (v : Value) → 1 ≤ v.den → 1 ≤ (lowest v).den
lowest_den v o =
    let a = parts_of v o in
    subst (λ (y : Lin). 1 ≤ y.den) (sym a.lin) (some_part a.by (v.den / a.by) v.den o a.den)

-- ---- sums and products of equal values are equal
pub same_plus : (x x' y y' : Value) → IsSame x x' → IsSame y y' → IsSame (v_plus x y) (v_plus x' y')
same_plus x x' y y' e f = by x.num x'.num y.num y'.num (pos x.den) (pos x'.den) (pos y.den) (pos y'.den) e f
  where
    by : (a a' b b' p p' q q' : ℤ) → a *ℤ p' ≡ a' *ℤ p → b *ℤ q' ≡ b' *ℤ q → (a *ℤ q +ℤ b *ℤ p) *ℤ (p' *ℤ q') ≡ (a' *ℤ q' +ℤ b' *ℤ p') *ℤ (p *ℤ q)
    by a a' b b' p p' q q' e f =
        let u : (a *ℤ q +ℤ b *ℤ p) *ℤ (p' *ℤ q') ≡ (a *ℤ p') *ℤ (q *ℤ q') +ℤ (b *ℤ q') *ℤ (p *ℤ p') = simp ring in
        let w : (a' *ℤ q' +ℤ b' *ℤ p') *ℤ (p *ℤ q) ≡ (a' *ℤ p) *ℤ (q *ℤ q') +ℤ (b' *ℤ q) *ℤ (p *ℤ p') = simp ring in
        u ∙ ap₂ (λ (i j : ℤ). i *ℤ (q *ℤ q') +ℤ j *ℤ (p *ℤ p')) e f ∙ sym w

pub same_times : (x x' y y' : Value) → IsSame x x' → IsSame y y' → IsSame (v_times x y) (v_times x' y')
same_times x x' y y' e f = by x.num x'.num y.num y'.num (pos x.den) (pos x'.den) (pos y.den) (pos y'.den) e f
  where
    by : (a a' b b' p p' q q' : ℤ) → a *ℤ p' ≡ a' *ℤ p → b *ℤ q' ≡ b' *ℤ q → (a *ℤ b) *ℤ (p' *ℤ q') ≡ (a' *ℤ b') *ℤ (p *ℤ q)
    by a a' b b' p p' q q' e f =
        let u : (a *ℤ b) *ℤ (p' *ℤ q') ≡ (a *ℤ p') *ℤ (b *ℤ q') = simp ring in
        let w : (a' *ℤ b') *ℤ (p *ℤ q) ≡ (a' *ℤ p) *ℤ (b' *ℤ q) = simp ring in
        u ∙ ap₂ (λ (i j : ℤ). i *ℤ j) e f ∙ sym w

one_times_one : (a b : ℕ) → 1 ≤ a → 1 ≤ b → 1 ≤ a * b
one_times_one a b h k = let l = one_product a b h k in omega (arith, ints)

flip : (x y : Value) → IsSame x y → IsSame y x
flip x y e = sym e

-- a step on values in lowest terms, brought to lowest terms, is the step
pub lowest_plus : (x y : Value) → 1 ≤ x.den → 1 ≤ y.den → lin_constant (v_plus (lowest x) (lowest y)) ≡ lin_constant (v_plus x y)
lowest_plus x y o p =
    lowest_same (v_plus (lowest x) (lowest y)) (v_plus x y) (one_times_one (lowest x).den (lowest y).den (lowest_den x o) (lowest_den y p)) (one_times_one x.den y.den o p)
    (same_plus (lowest x) x (lowest y) y (lowest_is x o) (lowest_is y p))

pub lowest_times : (x y : Value) → 1 ≤ x.den → 1 ≤ y.den → lin_constant (v_times (lowest x) (lowest y)) ≡ lin_constant (v_times x y)
lowest_times x y o p =
    lowest_same (v_times (lowest x) (lowest y)) (v_times x y) (one_times_one (lowest x).den (lowest y).den (lowest_den x o) (lowest_den y p)) (one_times_one x.den y.den o p)
    (same_times (lowest x) x (lowest y) y (lowest_is x o) (lowest_is y p))
