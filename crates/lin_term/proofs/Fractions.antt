-- Lowest terms of fractions, and their order.
use Rattle.std.specs.Prelude.{ℕ, zero, suc, ◌*◌, ◌/◌, ◌≤◌, ◌≡◌, ◌≢◌, ℤ, pos, negsuc, ◌+ℤ◌, ◌-ℤ◌, ◌*ℤ◌, ◌≤ℤ◌, ◌<ℤ◌, neg_ℤ, nat_abs}
use Rattle.std.proofs.Common.{arith, ap, ap₂, ◌∙◌, sym, subst, refl}
use Rattle.std.proofs.lemmas.Int.{ints}
use Rattle.std.proofs.lemmas.Nat.Gcd.{le_of_dvd}
use Rattle.std.specs.declared.cmp.Ordering.{Ordering}
use Rattle.std.specs.declared.cmp.Ordering.TheVariants.{Less, Equal, Greater}
use Rattle.std.specs.Ordering.{MatchOrdering, int_cmp}
use Rattle.std.specs.Cmp.{int_ranks, int_cmp_is}
use Rattle.lin_term.specs.Linear.{Value, floor_div}
use Rattle.lin_term.specs.Literal.{gcd}
use Rattle.lin_term.specs.Fraction.{lowest_value, over_num}
use Rattle.lin_term.specs.Blend.{residue_by}
use Rattle.lin_term.proofs.PrimitiveLemmas.{gcd_is, floor_bounds, whole_div}
use Rattle.lin_term.proofs.Quotients.{or_one_same}
use Rattle.lin_term.proofs.Lowest.{scaled_gcd, abs_floor, times_one}
use Rattle.lin_term.proofs.Lowering.{some_divisor}
use Rattle.lin_term.proofs.Ring.{ring, neg_mul_ℤ, nonneg_mul, pos_mul}

abbrev pub value_with : ℤ → ℕ → Value
value_with n d = record { num = n; den = d }

-- the divisor of a denominator of 1 or more is from 1 to it
pub divisor_some : (d n : ℕ) → 1 ≤ d → 1 ≤ gcd d n
divisor_some d n o = some_divisor d (gcd d n) o (gcd_is d n).0

pub divisor_most : (d n : ℕ) → 1 ≤ d → gcd d n ≤ d
divisor_most d n o = le_of_dvd (omega arith) (gcd_is d n).0

pub lowest_by : (n : ℤ) (d g : ℕ) → 1 ≤ d → g ≡ gcd d (nat_abs n) → value_with (floor_div n g) (d / g) ≡ lowest_value (value_with n d)
lowest_by n d g o e = ap (λ (h : ℕ). value_with (floor_div n h) (d / h)) (e ∙ sym (or_one_same (gcd d (nat_abs n)) (divisor_some d (nat_abs n) o)))

-- what is left has no common divisor, and a denominator of 1 or more
pub lowest_alone : (n : ℤ) (d g : ℕ) → 1 ≤ d → g ≡ gcd d (nat_abs n) → gcd (d / g) (nat_abs (floor_div n g)) ≡ 1
lowest_alone n d g o e =
    let c : ℕ = gcd d (nat_abs n) in
    let h = gcd_is d (nat_abs n) in
    let s = divisor_some d (nat_abs n) o in
    subst (λ (k : ℕ). gcd (d / k) (nat_abs (floor_div n k)) ≡ 1) (sym e)
    (times_one c (gcd (d / c) (nat_abs (floor_div n c))) s
    (sym (scaled_gcd c (d / c) (nat_abs (floor_div n c)) s) ∙ ap₂ (λ (a b : ℕ). gcd a b) (whole_div c d s h.0) (abs_floor n c s h.1)))

pub lowest_some : (n : ℤ) (d g : ℕ) → 1 ≤ d → g ≡ gcd d (nat_abs n) → 1 ≤ d / g
lowest_some n d g o e =
    subst (λ (k : ℕ). 1 ≤ d / k) (sym e)
    (some (gcd d (nat_abs n)) (d / gcd d (nat_abs n)) (whole_div (gcd d (nat_abs n)) d (divisor_some d (nat_abs n) o) (gcd_is d (nat_abs n)).0))
  where
    some : (g q : ℕ) → g * q ≡ d → 1 ≤ q
    some g zero w = absurd (omega arith)
    some g (suc q) w = omega arith

-- a quotient of a denominator, as a whole number
pub floor_whole : (d : ℤ) (g : ℕ) → pos 1 ≤ℤ d → floor_div d g ≡ pos (nat_abs d / g)
floor_whole (pos n) g o = refl
floor_whole (negsuc n) g o = absurd (omega (arith, ints))

-- a product of denominators
pub product_of_dens : (a b : ℤ) → pos 1 ≤ℤ a → pos 1 ≤ℤ b → a *ℤ b ≡ pos (nat_abs a * nat_abs b)
product_of_dens (pos a) (pos b) o p = refl
product_of_dens (pos a) (negsuc b) o p = absurd (omega (arith, ints))
product_of_dens (negsuc a) b o p = absurd (omega (arith, ints))

one_one : (a b : ℕ) → 1 ≤ a → 1 ≤ b → 1 ≤ a * b
one_one zero b p q = absurd (omega arith)
one_one (suc a) zero p q = absurd (omega arith)
one_one (suc a) (suc b) p q = omega arith

pub dens_least : (a b : ℤ) → pos 1 ≤ℤ a → pos 1 ≤ℤ b → pos 1 ≤ℤ (a *ℤ b)
dens_least a b o p =
    subst (λ (z : ℤ). pos 1 ≤ℤ z) (sym (product_of_dens a b o p)) (let h = one_one (nat_abs a) (nat_abs b) (omega (arith, ints)) (omega (arith, ints)) in omega (arith, ints))

-- a quotient of fractions, by the sign of the divisor
pub over_above : (x : Value) (n : ℤ) (e : ℕ) → pos 0 <ℤ n → value_with (x.num *ℤ pos e) (x.den * nat_abs n) ≡ over_num x n e
over_above x (pos zero) e h = absurd (omega (arith, ints))
over_above x (pos (suc n)) e h = refl
over_above x (negsuc n) e h = absurd (omega (arith, ints))

pub over_below : (x : Value) (n : ℤ) (e : ℕ) → n ≢ pos 0 → n ≤ℤ pos 0 → value_with (neg_ℤ x.num *ℤ pos e) (x.den * nat_abs n) ≡ over_num x n e
over_below x (pos zero) e s h = absurd (s refl)
over_below x (pos (suc n)) e s h = absurd (omega (arith, ints))
over_below x (negsuc n) e s h = ap (λ (z : ℤ). value_with z (x.den * suc n)) (neg_mul_ℤ x.num (pos e))

-- the lowest form as it is worked out
whole_below : (num den g below : ℤ) → pos 1 ≤ℤ den → below ≡ floor_div den (nat_abs g) → below ≡ pos (nat_abs den / nat_abs g)
whole_below num den g below o h = h ∙ floor_whole den (nat_abs g) o

some_den : (den : ℤ) → pos 1 ≤ℤ den → 1 ≤ nat_abs den
some_den den o = omega (arith, ints)

pub made_value : (num den g above below : ℤ) → pos 1 ≤ℤ den → g ≡ pos (gcd (nat_abs den) (nat_abs num)) → above ≡ floor_div num (nat_abs g) → below ≡ floor_div den (nat_abs g) → value_with above (nat_abs below) ≡ lowest_value (value_with num (nat_abs den))
made_value num den g above below o e h i =
    ap₂ value_with h (ap nat_abs (whole_below num den g below o i)) ∙ lowest_by num (nat_abs den) (nat_abs g) (some_den den o) (ap nat_abs e)

pub made_alone : (num den g above below : ℤ) → pos 1 ≤ℤ den → g ≡ pos (gcd (nat_abs den) (nat_abs num)) → above ≡ floor_div num (nat_abs g) → below ≡ floor_div den (nat_abs g) → gcd (nat_abs below) (nat_abs above) ≡ 1
made_alone num den g above below o e h i =
    ap₂ (λ (a b : ℕ). gcd a b) (ap nat_abs (whole_below num den g below o i)) (ap nat_abs h) ∙ lowest_alone num (nat_abs den) (nat_abs g) (some_den den o) (ap nat_abs e)

pub made_least : (num den g below : ℤ) → pos 1 ≤ℤ den → g ≡ pos (gcd (nat_abs den) (nat_abs num)) → below ≡ floor_div den (nat_abs g) → pos 1 ≤ℤ below
made_least num den g below o e i =
    subst (λ (z : ℤ). pos 1 ≤ℤ z) (sym (whole_below num den g below o i))
    (let h = lowest_some num (nat_abs den) (nat_abs g) (some_den den o) (ap nat_abs e) in omega (arith, ints))

-- ---- order

-- the quotients decide
pub cross_less : (a b c d q r : ℤ) → pos 1 ≤ℤ b → pos 1 ≤ℤ d → a <ℤ (b *ℤ q +ℤ b) → (d *ℤ r) ≤ℤ c → q <ℤ r → (a *ℤ d) <ℤ (c *ℤ b)
cross_less a b c d q r o p h i l =
    let x = pos_mul d ((b *ℤ q +ℤ b) +ℤ neg_ℤ a) (omega (arith, ints)) (omega (arith, ints)) in
    let y = nonneg_mul b (c +ℤ neg_ℤ (d *ℤ r)) (omega (arith, ints)) (omega (arith, ints)) in
    let z = nonneg_mul (b *ℤ d) ((r +ℤ neg_ℤ q) +ℤ neg_ℤ (pos 1)) (nonneg_mul b d (omega (arith, ints)) (omega (arith, ints))) (omega (arith, ints)) in
    let one : d *ℤ pos 1 ≡ d = omega (arith, ints) in
    let u : b *ℤ (d *ℤ pos 1) ≡ b *ℤ d = ap (λ (x : ℤ). b *ℤ x) one in
    let e : (d *ℤ ((b *ℤ q +ℤ b) +ℤ neg_ℤ a) +ℤ b *ℤ (c +ℤ neg_ℤ (d *ℤ r))) +ℤ (b *ℤ d) *ℤ ((r +ℤ neg_ℤ q) +ℤ neg_ℤ (pos 1)) ≡ c *ℤ b +ℤ neg_ℤ (a *ℤ d) = simp ring (omega (arith, ints, u)) in
    omega (arith, ints)

-- else the rests do
shifted : (k x y : ℤ) (r : Ordering) → MatchOrdering r (x <ℤ y) (x ≡ y) (y <ℤ x) → MatchOrdering r ((k +ℤ x) <ℤ (k +ℤ y)) (k +ℤ x ≡ k +ℤ y) ((k +ℤ y) <ℤ (k +ℤ x))
shifted k x y Less h = omega (arith, ints)
shifted k x y Equal h = ap (λ (z : ℤ). k +ℤ z) h
shifted k x y Greater h = omega (arith, ints)

pub cross_rests : (a b c d q r s : ℤ) → r ≡ a -ℤ b *ℤ q → s ≡ c -ℤ d *ℤ q → int_cmp (r *ℤ d) (s *ℤ b) ≡ int_cmp (a *ℤ d) (c *ℤ b)
cross_rests a b c d q r s e h =
    let k : ℤ = (b *ℤ d) *ℤ q in
    let x : k +ℤ r *ℤ d ≡ a *ℤ d = ap (λ (z : ℤ). (b *ℤ d) *ℤ q +ℤ z *ℤ d) e ∙ (let i : (b *ℤ d) *ℤ q +ℤ (a +ℤ neg_ℤ (b *ℤ q)) *ℤ d ≡ a *ℤ d = simp ring (omega (arith, ints)) in i) in
    let y : k +ℤ s *ℤ b ≡ c *ℤ b = ap (λ (z : ℤ). (b *ℤ d) *ℤ q +ℤ z *ℤ b) h ∙ (let i : (b *ℤ d) *ℤ q +ℤ (c +ℤ neg_ℤ (d *ℤ q)) *ℤ b ≡ c *ℤ b = simp ring (omega (arith, ints)) in i) in
    int_cmp_is (k +ℤ r *ℤ d) (k +ℤ s *ℤ b) (int_cmp (r *ℤ d) (s *ℤ b)) (shifted k (r *ℤ d) (s *ℤ b) (int_cmp (r *ℤ d) (s *ℤ b)) (int_ranks (r *ℤ d) (s *ℤ b)))
    ∙ ap₂ int_cmp x y

-- what is left of a number is from 0 to below the divisor
pub rest_is : (a b : ℤ) → pos 1 ≤ℤ b → residue_by (nat_abs b) a ≡ a -ℤ b *ℤ floor_div a (nat_abs b)
rest_is a (pos zero) o = absurd (omega (arith, ints))
rest_is a (pos (suc n)) o = let h = floor_bounds a (suc n) (omega arith) in omega (arith, ints)
rest_is a (negsuc n) o = absurd (omega (arith, ints))

pub rest_least : (a b : ℤ) → pos 1 ≤ℤ b → pos 0 ≤ℤ (a -ℤ b *ℤ floor_div a (nat_abs b))
rest_least a (pos zero) o = absurd (omega (arith, ints))
rest_least a (pos (suc n)) o = let h = floor_bounds a (suc n) (omega arith) in omega (arith, ints)
rest_least a (negsuc n) o = absurd (omega (arith, ints))

pub rest_less : (a b : ℤ) → pos 1 ≤ℤ b → (a -ℤ b *ℤ floor_div a (nat_abs b)) <ℤ b
rest_less a (pos zero) o = absurd (omega (arith, ints))
rest_less a (pos (suc n)) o = let h = floor_bounds a (suc n) (omega arith) in omega (arith, ints)
rest_less a (negsuc n) o = absurd (omega (arith, ints))

pub bounds_at : (a b : ℤ) → pos 1 ≤ℤ b → ((b *ℤ floor_div a (nat_abs b)) ≤ℤ a) × (a <ℤ (b *ℤ floor_div a (nat_abs b) +ℤ b))
bounds_at a (pos zero) o = absurd (omega (arith, ints))
bounds_at a (pos (suc n)) o = floor_bounds a (suc n) (omega arith)
bounds_at a (negsuc n) o = absurd (omega (arith, ints))

whole : (d : ℤ) → pos 1 ≤ℤ d → d ≡ pos (nat_abs d)
whole (pos n) o = refl
whole (negsuc n) o = absurd (omega (arith, ints))

crossed : (a b c d : ℤ) (r : Ordering) → pos 1 ≤ℤ b → pos 1 ≤ℤ d → r ≡ int_cmp (a *ℤ d) (c *ℤ b) → r ≡ int_cmp (a *ℤ pos (nat_abs d)) (c *ℤ pos (nat_abs b))
crossed a b c d r o p e = e ∙ ap₂ (λ (y z : ℤ). int_cmp (a *ℤ y) (c *ℤ z)) (whole d p) (whole b o)

pub cmp_less : (a b c d q r : ℤ) → pos 1 ≤ℤ b → pos 1 ≤ℤ d → q ≡ floor_div a (nat_abs b) → r ≡ floor_div c (nat_abs d) → q <ℤ r → Less ≡ int_cmp (a *ℤ pos (nat_abs d)) (c *ℤ pos (nat_abs b))
cmp_less a b c d q r o p e h l =
    let x : a <ℤ (b *ℤ q +ℤ b) = subst (λ (z : ℤ). a <ℤ (b *ℤ z +ℤ b)) (sym e) (bounds_at a b o).1 in
    let y : (d *ℤ r) ≤ℤ c = subst (λ (z : ℤ). (d *ℤ z) ≤ℤ c) (sym h) (bounds_at c d p).0 in
    crossed a b c d Less o p (int_cmp_is (a *ℤ d) (c *ℤ b) Less (cross_less a b c d q r o p x y l))

pub cmp_greater : (a b c d q r : ℤ) → pos 1 ≤ℤ b → pos 1 ≤ℤ d → q ≡ floor_div a (nat_abs b) → r ≡ floor_div c (nat_abs d) → r <ℤ q → Greater ≡ int_cmp (a *ℤ pos (nat_abs d)) (c *ℤ pos (nat_abs b))
cmp_greater a b c d q r o p e h l =
    let x : (b *ℤ q) ≤ℤ a = subst (λ (z : ℤ). (b *ℤ z) ≤ℤ a) (sym e) (bounds_at a b o).0 in
    let y : c <ℤ (d *ℤ r +ℤ d) = subst (λ (z : ℤ). c <ℤ (d *ℤ z +ℤ d)) (sym h) (bounds_at c d p).1 in
    crossed a b c d Greater o p (int_cmp_is (a *ℤ d) (c *ℤ b) Greater (cross_less c d a b r q p o y x l))

pub cmp_rests : (a b c d q r x y : ℤ) (o : Ordering) → pos 1 ≤ℤ b → pos 1 ≤ℤ d → q ≡ floor_div a (nat_abs b) → r ≡ floor_div c (nat_abs d) → r ≤ℤ q → q ≤ℤ r → x ≡ a -ℤ b *ℤ floor_div a (nat_abs b) → y ≡ c -ℤ d *ℤ floor_div c (nat_abs d) → o ≡ int_cmp (x *ℤ d) (y *ℤ b) → o ≡ int_cmp (a *ℤ pos (nat_abs d)) (c *ℤ pos (nat_abs b))
cmp_rests a b c d q r x y o l m e h g k i j n =
    let same : q ≡ r = omega (arith, ints) in
    let x' : x ≡ a -ℤ b *ℤ q = i ∙ ap (λ (z : ℤ). a -ℤ b *ℤ z) (sym e) in
    let y' : y ≡ c -ℤ d *ℤ q = j ∙ ap (λ (z : ℤ). c -ℤ d *ℤ z) (sym h ∙ sym same) in
    crossed a b c d o l m (n ∙ cross_rests a b c d q x y x' y')
