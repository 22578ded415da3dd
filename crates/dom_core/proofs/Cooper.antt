-- Over the integers a cube has a solution exactly where one of its cases has one.
use Rattle.std.specs.Prelude.{ℕ, zero, suc, ◌+◌, ◌*◌, ◌/◌, ◌%◌, ◌<◌, ◌≤◌, ◌≡◌, ℤ, pos, negsuc, ◌+ℤ◌, ◌-ℤ◌, ◌*ℤ◌, ◌≤ℤ◌, ◌<ℤ◌, neg_ℤ, nat_abs, Bool, true, false, not, cond, List, [], ◌∷◌, ◌++◌, map, filter}
use Rattle.std.specs.List.{list_any, range_with_len, AllByRecursion}
use Rattle.std.proofs.Common.{arith, ap, ◌∙◌, sym, subst, refl, inl, inr, mod-lt, mul-le-mul, mul-le-mul_left}
use Rattle.std.proofs.lemmas.Int.{ints}
use Rattle.std.proofs.Math.Nat.{dvd_of_mod-eq-zero}
use Rattle.lin_term.specs.Form.{Form}
use Rattle.lin_term.specs.declared.Sort.TheVariants.{Int}
use Rattle.lin_term.specs.declared.Lit.{Lit}
use Rattle.lin_term.specs.declared.Lit.TheVariants.{AtLeast, Above, Divides, NotDivides}
use Rattle.lin_term.specs.Linear.{Point, IsPoint, at, dot, times, constant_form, floor_div}
use Rattle.lin_term.specs.Literal.{Holds, IsOf, form_of, prim, residue}
use Rattle.lin_term.specs.PutIn.{coef, rest_of}
use Rattle.lin_term.proofs.Ring.{distrib_ℤ, mul_neg_ℤ}
use Rattle.lin_term.proofs.Dots.{dot-plus, dot-times, dot-constant_form}
use Rattle.lin_term.proofs.Dividing.{multiple, one_den_mod}
use Rattle.lin_term.proofs.PrimitiveLemmas.{floor_exact, one_times, prim_to, prim_from, residue_split}
use Rattle.lin_term.proofs.Lowest.{residue_less}
use Rattle.dom_core.specs.Cube.{assign, CubeHolds, SomeHolds, IsCube, HasSolution}
use Rattle.dom_core.specs.Elimination.{coef_at, size_at, is_positive, is_negative, is_lower, is_upper, delta, put_all, above_bound, lower_case, lower_cases, free_case, cooper, eliminated}
use Rattle.dom_core.proofs.Assigning.{whole, dot-whole}
use Rattle.dom_core.proofs.Cases.{SomeLit, each_two, each_four, some_two, each_filter, of_filter, none_passes, fewest, cube_join, cube_split, some_left, some_right, some_parts, some_at, some_of}
use Rattle.dom_core.proofs.Putting.{own_cube, put_whole_to, put_whole_from}
use Rattle.dom_core.proofs.Periods.{Period, delta_period, Bounded, lit_moved}

-- the literal's value with y for x
abbrev value_at : ℕ → ℤ → Point → Lit → ℤ
value_at x y e l = coef_at x l *ℤ y +ℤ dot (rest_of (form_of l) x) e

-- ---- one case

size_is : (f : Form) (x : ℕ) → is_positive (coef f.terms x) ≡ true → (coef f.terms x ≡ pos (nat_abs (coef f.terms x))) × (1 ≤ nat_abs (coef f.terms x))
size_is f x e = by (coef f.terms x) e
  where
    by : (z : ℤ) → is_positive z ≡ true → (z ≡ pos (nat_abs z)) × (1 ≤ nat_abs z)
    by (pos zero) u = absurd (cc)
    by (pos (suc k)) u = (refl, omega arith)
    by (negsuc k) u = absurd (cc)

dot-above_bound : (x : ℕ) (l : Lit) (k : ℕ) (e : Point) → IsPoint Int e → dot (above_bound x l k) e ≡ pos k -ℤ dot (rest_of (form_of l) x) e
dot-above_bound x l k e i =
    let a = dot-plus (constant_form (pos k)) (times (negsuc 0) (rest_of (form_of l) x)) e in
    let b = dot-constant_form (pos k) e in
    let c = one_times (pos k) e.den i in
    let d = dot-times (negsuc 0) (rest_of (form_of l) x) e in
    omega (arith, ints)

case_to : (x : ℕ) (before : List Lit) (f : Form) (after : List Lit) (k : ℕ) (e : Point) (y : ℤ) → IsPoint Int e → is_positive (coef f.terms x) ≡ true → CubeHolds before (assign e x (whole y)) → CubeHolds after (assign e x (whole y)) → coef f.terms x *ℤ y +ℤ dot (rest_of f x) e ≡ pos k → CubeHolds (lower_case x before (AtLeast f) after k) e
case_to x before f after k e y i p hb ha q =
    let s = size_is f x p in
    let a : ℕ = nat_abs (coef f.terms x) in
    let t : Form = above_bound x (AtLeast f) k in
    let d = dot-above_bound x (AtLeast f) k e i in
    let m = ap (λ (z : ℤ). z *ℤ y) s.0 in
    let u : dot t e ≡ pos a *ℤ y = omega (arith, ints) in
    cube_join (put_all Int x a t before) (prim Int (Divides a t) ∷ put_all Int x a t after) e
    (put_whole_to before x a t e y i s.1 u hb)
    (prim_to Int (Divides a t) e i (multiple a e.den y (dot t e) i u), put_whole_to after x a t e y i s.1 u ha)

-- the value of x that a case gives
record Solved (x : ℕ) (before after : List Lit) (e : Point) : Type 0 where
  y : ℤ
  left : CubeHolds before (assign e x (whole y))
  right : CubeHolds after (assign e x (whole y))

case_from : (x : ℕ) (before : List Lit) (f : Form) (after : List Lit) (k : ℕ) (e : Point) → IsPoint Int e → is_positive (coef f.terms x) ≡ true → CubeHolds (lower_case x before (AtLeast f) after k) e → Solved x before (AtLeast f ∷ after) e
case_from x before f after k e i p h =
    let s = size_is f x p in
    let a : ℕ = nat_abs (coef f.terms x) in
    let t : Form = above_bound x (AtLeast f) k in
    let r = cube_split (put_all Int x a t before) (prim Int (Divides a t) ∷ put_all Int x a t after) e h in
    let v = prim_from Int (Divides a t) e i r.1.0 in
    let y : ℤ = floor_div (dot t e) a in
    let u : dot t e ≡ pos a *ℤ y = sym (floor_exact (dot t e) a s.1 (dvd_of_mod-eq-zero a (sym (one_den_mod (dot t e) a e.den i) ∙ v))) in
    let d = dot-above_bound x (AtLeast f) k e i in
    let m = ap (λ (z : ℤ). z *ℤ y) s.0 in
    let w = dot-whole f e y x i in
    record {
      y = y;
      left = put_whole_from before x a t e y i s.1 u r.0;
      right = (omega (arith, ints), put_whole_from after x a t e y i s.1 u r.1.1);
    }

-- ---- some lower literal is less than a*n above its bound

abbrev Near : ℕ → ℕ → ℤ → Point → Lit → Type 0
Near x n y e l = (is_lower x l ≡ true) × (value_at x y e l <ℤ pos (size_at x l * n))

whole_of : (z : ℤ) → pos 0 ≤ℤ z → z ≡ pos (nat_abs z)
whole_of (pos z) h = refl
whole_of (negsuc z) h = absurd (omega (arith, ints))

near_to : (x n : ℕ) (before after : List Lit) (e : Point) (y : ℤ) → IsPoint Int e → IsCube Int after → CubeHolds before (assign e x (whole y)) → CubeHolds after (assign e x (whole y)) → SomeLit (Near x n y e) after → SomeHolds (lower_cases x n before after) e
near_to x n before [] e y i o hb ha near = absurd near
near_to x n before (AtLeast f ∷ after) e y i o hb ha (inl near) =
    let h = subst (λ (z : ℤ). pos 0 ≤ℤ z) (dot-whole f e y x i) ha.0 in
    let w = whole_of (coef f.terms x *ℤ y +ℤ dot (rest_of f x) e) h in
    let c = case_to x before f after (nat_abs (coef f.terms x *ℤ y +ℤ dot (rest_of f x) e)) e y i near.0 hb ha.1 w in
    let v = near.1 in
    some_left (cond (is_positive (coef f.terms x)) (map (lower_case x before (AtLeast f) after) (range_with_len 0 (nat_abs (coef f.terms x) * n))) []) (lower_cases x n (before ++ AtLeast f ∷ []) after) e
    (subst (λ (b : Bool). SomeHolds (cond b (map (lower_case x before (AtLeast f) after) (range_with_len 0 (nat_abs (coef f.terms x) * n))) []) e) (sym near.0)
    (some_at (lower_case x before (AtLeast f) after) 0 (nat_abs (coef f.terms x) * n) (nat_abs (coef f.terms x *ℤ y +ℤ dot (rest_of f x) e)) (nat_abs (coef f.terms x *ℤ y +ℤ dot (rest_of f x) e)) e (omega (arith, ints)) (omega arith) c))
near_to x n before (Above f ∷ after) e y i o hb ha (inl near) = absurd o.0
near_to x n before (Divides d f ∷ after) e y i o hb ha (inl near) = absurd (let z = near.0 in cc)
near_to x n before (NotDivides d f ∷ after) e y i o hb ha (inl near) = absurd (let z = near.0 in cc)
near_to x n before (l ∷ after) e y i o hb ha (inr near) =
    some_right (cond (is_lower x l) (map (lower_case x before l after) (range_with_len 0 (size_at x l * n))) []) (lower_cases x n (before ++ l ∷ []) after) e
    (near_to x n (before ++ l ∷ []) after e y i o.1 (cube_join before (l ∷ []) (assign e x (whole y)) hb (ha.0, tt)) ha.1 near)

cases_from : (x n : ℕ) (before after : List Lit) (e : Point) → IsPoint Int e → IsCube Int after → SomeHolds (lower_cases x n before after) e → Solved x before after e
cases_from x n before [] e i o h = absurd h
cases_from x n before (l ∷ after) e i o h =
    elim (some_parts (cond (is_lower x l) (map (lower_case x before l after) (range_with_len 0 (size_at x l * n))) []) (lower_cases x n (before ++ l ∷ []) after) e h) [
      | inl k ↦ here l o.0 k
      | inr k ↦
          let r = cases_from x n (before ++ l ∷ []) after e i o.1 k in
          let s = cube_split before (l ∷ []) (assign e x (whole r.y)) r.left in
          record { y = r.y; left = s.0; right = (s.1.0, r.right) }
    ]
  where
    here : (l : Lit) → IsOf Int l → SomeHolds (cond (is_lower x l) (map (lower_case x before l after) (range_with_len 0 (size_at x l * n))) []) e → Solved x before (l ∷ after) e
    here (AtLeast f) ol k = by (is_positive (coef f.terms x)) refl k
      where
        by : (b : Bool) → is_positive (coef f.terms x) ≡ b → SomeHolds (cond b (map (lower_case x before (AtLeast f) after) (range_with_len 0 (nat_abs (coef f.terms x) * n))) []) e → Solved x before (AtLeast f ∷ after) e
        by true q k = let r = some_of (lower_case x before (AtLeast f) after) 0 (nat_abs (coef f.terms x) * n) e k in case_from x before f after r.0 e i q r.1
        by false q k = absurd k
    here (Above f) ol k = absurd ol
    here (Divides d f) ol k = absurd k
    here (NotDivides d f) ol k = absurd k

-- ---- down by whole periods

value_down : (c y r : ℤ) (k : ℕ) → c *ℤ (y -ℤ pos k) +ℤ r ≡ (c *ℤ y +ℤ r) -ℤ c *ℤ pos k
value_down c y r k =
    let d = distrib_ℤ c y (neg_ℤ (pos k)) in
    let m : c *ℤ neg_ℤ (pos k) ≡ neg_ℤ (c *ℤ pos k) = mul_neg_ℤ c (pos k) in
    omega (arith, ints)

at_most_quotient : (m V D : ℕ) → m ≤ V / D → D * m ≤ V
at_most_quotient m V D h = let k = mul-le-mul_left D h in omega arith

number_down : (c y r : ℤ) (n m : ℕ) → (is_positive c ≡ true → m ≤ nat_abs (c *ℤ y +ℤ r) / (nat_abs c * n)) → pos 0 ≤ℤ (c *ℤ y +ℤ r) → pos 0 ≤ℤ (c *ℤ (y -ℤ pos (n * m)) +ℤ r)
number_down (pos zero) y r n m k h = omega (arith, ints)
number_down (pos (suc a)) y r n m k h =
    let d = value_down (pos (suc a)) y r (n * m) in
    let q = at_most_quotient m (nat_abs (pos (suc a) *ℤ y +ℤ r)) (suc a * n) (k refl) in
    let e : (suc a * n) * m ≡ suc a * (n * m) = omega arith in
    let p : pos (suc a) *ℤ pos (n * m) ≡ pos (suc a * (n * m)) = omega (arith, ints) in
    omega (arith, ints)
number_down (negsuc a) y r n m k h =
    let d = value_down (negsuc a) y r (n * m) in
    let p : negsuc a *ℤ pos (n * m) ≡ neg_ℤ (pos (suc a * (n * m))) = omega (arith, ints) in
    omega (arith, ints)

-- how many times a*n goes into the literal's value
abbrev steps_at : ℕ → ℕ → ℤ → Point → Lit → ℕ
steps_at x n y e l = nat_abs (value_at x y e l) / (size_at x l * n)

bounded_down : (x n m : ℕ) (y : ℤ) (e : Point) (l : Lit) → IsPoint Int e → IsOf Int l → Holds l (assign e x (whole y)) → (is_lower x l ≡ true → m ≤ steps_at x n y e l) → Bounded x (y -ℤ pos (n * m)) e l
bounded_down x n m y e (AtLeast f) i o h k =
    number_down (coef f.terms x) y (dot (rest_of f x) e) n m k (subst (λ (z : ℤ). pos 0 ≤ℤ z) (dot-whole f e y x i) h)
bounded_down x n m y e (Above f) i o h k = absurd o
bounded_down x n m y e (Divides d f) i o h k = tt
bounded_down x n m y e (NotDivides d f) i o h k = tt

rest_small : (V D m : ℕ) → 1 ≤ D → V / D ≡ m → V < D * m + D
rest_small V D m o e =
    let r = mod-lt V {m = D} o in
    let s : V ≡ D * (V / D) + V % D = omega arith in
    let t = ap (λ (k : ℕ). D * k) e in
    omega arith

near_down : (x n m : ℕ) (y : ℤ) (e : Point) (l : Lit) → 1 ≤ n → IsPoint Int e → IsOf Int l → Holds l (assign e x (whole y)) → (is_lower x l ≡ true) × (steps_at x n y e l ≡ m) → Near x n (y -ℤ pos (n * m)) e l
near_down x n m y e (AtLeast f) on i o h k =
    let s = size_is f x k.0 in
    let a : ℕ = nat_abs (coef f.terms x) in
    let v = subst (λ (z : ℤ). pos 0 ≤ℤ z) (dot-whole f e y x i) h in
    let d = value_down (coef f.terms x) y (dot (rest_of f x) e) (n * m) in
    let r = rest_small (nat_abs (value_at x y e (AtLeast f))) (a * n) m (mul-le-mul s.1 on) k.1 in
    let c = ap (λ (z : ℤ). z *ℤ pos (n * m)) s.0 in
    let p : pos a *ℤ pos (n * m) ≡ pos (a * (n * m)) = omega (arith, ints) in
    let q : (a * n) * m ≡ a * (n * m) = omega arith in
    (k.0, omega (arith, ints))
near_down x n m y e (Above f) on i o h k = absurd o
near_down x n m y e (Divides d f) on i o h k = absurd (let z = k.0 in cc)
near_down x n m y e (NotDivides d f) on i o h k = absurd (let z = k.0 in cc)

-- y itself is m periods above the new value
periods_back : (y : ℤ) (n m : ℕ) → y ≡ (y -ℤ pos (n * m)) +ℤ pos n *ℤ pos m
periods_back y n m = let p : pos n *ℤ pos m ≡ pos (n * m) = omega (arith, ints) in omega (arith, ints)

low_to : (x : ℕ) (c : List Lit) (e : Point) (y : ℤ) → IsPoint Int e → IsCube Int c → list_any (is_lower x) c ≡ true → CubeHolds c (assign e x (whole y)) → SomeHolds (lower_cases x (delta c x) [] c) e
low_to x c e y i o t h =
    let d = delta_period c x o in
    let n : ℕ = delta c x in
    let f = fewest (is_lower x) (steps_at x n y e) c t in
    let m : ℕ = f.least in
    let z : ℤ = y -ℤ pos (n * m) in
    let down = each_four (IsOf Int) (Period n x) (λ l. Holds l (assign e x (whole y))) (λ l. is_lower x l ≡ true → m ≤ steps_at x n y e l) (λ l. Holds l (assign e x (whole z))) c
    (λ l a b g k. lit_moved x n y z (pos m) e l i (periods_back y n m) b g (bounded_down x n m y e l i a g k)) o d.1 h f.each in
    let near = some_two (λ l. IsOf Int l × Holds l (assign e x (whole y))) (λ l. (is_lower x l ≡ true) × (steps_at x n y e l ≡ m)) (Near x n z e) c
    (λ l a k. near_down x n m y e l d.0 i a.0 a.1 k) (each_two (IsOf Int) (λ l. Holds l (assign e x (whole y))) (λ l. IsOf Int l × Holds l (assign e x (whole y))) c (λ l a b. (a, b)) o h) f.some in
    near_to x n [] c e z i o tt down near

-- ---- without lower literals

free_fit : (k : ℕ) (e : Point) → IsPoint Int e → dot (constant_form (pos k)) e ≡ pos 1 *ℤ pos k
free_fit k e i = let a = dot-constant_form (pos k) e in let b = one_times (pos k) e.den i in omega (arith, ints)

not_true : (b : Bool) → not b ≡ true → b ≡ false
not_true true e = absurd (cc)
not_true false e = refl

-- a literal that does not bound x
plain_bounded : (x : ℕ) (y z : ℤ) (e : Point) (l : Lit) → IsPoint Int e → IsOf Int l → is_lower x l ≡ false → is_upper x l ≡ false → Holds l (assign e x (whole y)) → Bounded x z e l
plain_bounded x y z e (AtLeast f) i o lo hi h = by (coef f.terms x) lo hi (subst (λ (w : ℤ). pos 0 ≤ℤ w) (dot-whole f e y x i) h)
  where
    by : (c : ℤ) → is_positive c ≡ false → is_negative c ≡ false → pos 0 ≤ℤ (c *ℤ y +ℤ dot (rest_of f x) e) → pos 0 ≤ℤ (c *ℤ z +ℤ dot (rest_of f x) e)
    by (pos zero) a b k = omega (arith, ints)
    by (pos (suc m)) a b k = absurd (cc)
    by (negsuc m) a b k = absurd (cc)
plain_bounded x y z e (Above f) i o lo hi h = absurd o
plain_bounded x y z e (Divides d f) i o lo hi h = tt
plain_bounded x y z e (NotDivides d f) i o lo hi h = tt

free_to : (x : ℕ) (c : List Lit) (e : Point) (y : ℤ) → IsPoint Int e → IsCube Int c → list_any (is_lower x) c ≡ false → CubeHolds c (assign e x (whole y)) → SomeHolds (map (free_case x c) (range_with_len 0 (delta c x))) e
free_to x c e y i o t h =
    let d = delta_period c x o in
    let n : ℕ = delta c x in
    let k : ℕ = residue y n in
    let held = each_four (IsOf Int) (Period n x) (λ l. Holds l (assign e x (whole y))) (λ l. is_lower x l ≡ false) (λ l. is_upper x l ≡ false → Holds l (assign e x (whole (pos k)))) c
    (λ l a b g s u. lit_moved x n y (pos k) (floor_div y n) e l i (residue_split y n d.0) b g (plain_bounded x y (pos k) e l i a s u g)) o d.1 h (none_passes (is_lower x) c t) in
    let kept = each_filter (λ l. is_upper x l ≡ false → Holds l (assign e x (whole (pos k)))) (λ l. Holds l (assign e x (whole (pos k)))) (λ l. not (is_upper x l)) c (λ l q g. g (not_true (is_upper x l) q)) held in
    some_at (free_case x c) 0 n k k e (residue_less y n d.0) (omega arith)
    (put_whole_to (filter (λ l. not (is_upper x l)) c) x 1 (constant_form (pos k)) e (pos k) i (omega arith) (free_fit k e i) kept)

-- so many periods below no upper literal is broken
total_at : ℕ → ℤ → Point → List Lit → ℕ
total_at x y e [] = 0
total_at x y e (l ∷ c) = nat_abs (value_at x y e l) + total_at x y e c

at_most_total : (x : ℕ) (y : ℤ) (e : Point) (c : List Lit) (k : ℕ) → total_at x y e c ≤ k → AllByRecursion (λ l. nat_abs (value_at x y e l) ≤ k) c
unfolding total_at
at_most_total x y e [] k h = tt
at_most_total x y e (l ∷ c) k h = (omega arith, at_most_total x y e c k (omega arith))

high_down : (c y r : ℤ) (n m : ℕ) → 1 ≤ n → is_negative c ≡ true → nat_abs (c *ℤ y +ℤ r) ≤ m → pos 0 ≤ℤ (c *ℤ (y -ℤ pos (n * m)) +ℤ r)
high_down (pos a) y r n m o t h = absurd (cc)
high_down (negsuc a) y r n m o t h =
    let d = value_down (negsuc a) y r (n * m) in
    let p : negsuc a *ℤ pos (n * m) ≡ neg_ℤ (pos (suc a * (n * m))) = omega (arith, ints) in
    let q : 1 * m ≤ n * m = mul-le-mul o (let s : m ≤ m = omega arith in s) in
    let q' : 1 * (n * m) ≤ suc a * (n * m) = mul-le-mul (let s : 1 ≤ suc a = omega arith in s) (let s : n * m ≤ n * m = omega arith in s) in
    omega (arith, ints)

free_bounded : (x n m : ℕ) (y : ℤ) (e : Point) (l : Lit) → 1 ≤ n → IsPoint Int e → IsOf Int l → is_lower x l ≡ false → (not (is_upper x l) ≡ true → Holds l (assign e x (whole y))) → nat_abs (value_at x y e l) ≤ m → Bounded x (y -ℤ pos (n * m)) e l
free_bounded x n m y e (AtLeast f) on i o lo h k = by (is_negative (coef f.terms x)) refl
  where
    by : (b : Bool) → is_negative (coef f.terms x) ≡ b → Bounded x (y -ℤ pos (n * m)) e (AtLeast f)
    by true q = high_down (coef f.terms x) y (dot (rest_of f x) e) n m on q k
    by false q = plain_bounded x y (y -ℤ pos (n * m)) e (AtLeast f) i o lo q (h (ap not q))
free_bounded x n m y e (Above f) on i o lo h k = absurd o
free_bounded x n m y e (Divides d f) on i o lo h k = tt
free_bounded x n m y e (NotDivides d f) on i o lo h k = tt

-- a divisibility or a literal that is kept
free_moved : (x n m : ℕ) (y : ℤ) (e : Point) (l : Lit) → 1 ≤ n → IsPoint Int e → IsOf Int l → Period n x l → is_lower x l ≡ false → (not (is_upper x l) ≡ true → Holds l (assign e x (whole y))) → nat_abs (value_at x y e l) ≤ m → Holds l (assign e x (whole (y -ℤ pos (n * m))))
free_moved x n m y e (AtLeast f) on i o p lo h k =
    subst (λ (w : ℤ). pos 0 ≤ℤ w) (sym (dot-whole f e (y -ℤ pos (n * m)) x i)) (free_bounded x n m y e (AtLeast f) on i o lo h k)
free_moved x n m y e (Above f) on i o p lo h k = absurd o
free_moved x n m y e (Divides d f) on i o p lo h k =
    lit_moved x n y (y -ℤ pos (n * m)) (pos m) e (Divides d f) i (periods_back y n m) p (h refl) tt
free_moved x n m y e (NotDivides d f) on i o p lo h k =
    lit_moved x n y (y -ℤ pos (n * m)) (pos m) e (NotDivides d f) i (periods_back y n m) p (h refl) tt

free_back : (x : ℕ) (c : List Lit) (e : Point) → IsPoint Int e → IsCube Int c → list_any (is_lower x) c ≡ false → SomeHolds (map (free_case x c) (range_with_len 0 (delta c x))) e → HasSolution Int c x e
free_back x c e i o t h =
    let d = delta_period c x o in
    let n : ℕ = delta c x in
    let r = some_of (free_case x c) 0 n e h in
    let k : ℤ = pos r.0 in
    let m : ℕ = total_at x k e c in
    let z : ℤ = k -ℤ pos (n * m) in
    let put = put_whole_from (filter (λ l. not (is_upper x l)) c) x 1 (constant_form k) e k i (omega arith) (free_fit r.0 e i) r.1 in
    let held = of_filter (λ l. Holds l (assign e x (whole k))) (λ l. not (is_upper x l)) c put in
    let pairs = each_two (Period n x) (λ l. is_lower x l ≡ false) (λ l. Period n x l × (is_lower x l ≡ false)) c (λ l a b. (a, b)) d.1 (none_passes (is_lower x) c t) in
    record {
      value = whole z;
      is_value = refl;
      holds = (each_four (IsOf Int) (λ l. Period n x l × (is_lower x l ≡ false)) (λ l. not (is_upper x l) ≡ true → Holds l (assign e x (whole k))) (λ l. nat_abs (value_at x k e l) ≤ m) (λ l. Holds l (assign e x (whole z))) c
          (λ l a b g s. free_moved x n m k e l d.0 i a b.0 b.1 g s) o pairs held (at_most_total x k e c m (omega arith)));
    }

-- ---- both directions

pub cooper_to : (c : List Lit) (x : ℕ) (e : Point) (y : ℤ) → IsPoint Int e → IsCube Int c → CubeHolds c (assign e x (whole y)) → SomeHolds (cooper c x) e
cooper_to c x e y i o h = by (list_any (is_lower x) c) refl
  where
    by : (b : Bool) → list_any (is_lower x) c ≡ b → SomeHolds (cond b (lower_cases x (delta c x) [] c) (map (free_case x c) (range_with_len 0 (delta c x)))) e
    by true q = low_to x c e y i o q h
    by false q = free_to x c e y i o q h

pub cooper_from : (c : List Lit) (x : ℕ) (e : Point) → IsPoint Int e → IsCube Int c → SomeHolds (cooper c x) e → HasSolution Int c x e
cooper_from c x e i o h = by (list_any (is_lower x) c) refl h
  where
    by : (b : Bool) → list_any (is_lower x) c ≡ b → SomeHolds (cond b (lower_cases x (delta c x) [] c) (map (free_case x c) (range_with_len 0 (delta c x)))) e → HasSolution Int c x e
    by true q h = let r = cases_from x (delta c x) [] c e i o h in record { value = whole r.y; is_value = refl; holds = r.right }
    by false q h = free_back x c e i o q h

-- where a cube holds, one of its cases holds at the same point: the cases cover it
pub least_covers : (c : List Lit) (x : ℕ) (p : Point) → IsPoint Int p → IsCube Int c → CubeHolds c p → SomeHolds (eliminated Int c x) p
least_covers c x p i o h = cooper_to c x p (at p.nums x) i o (own_cube c p x i h)
